pub mod Tests
pub mod ByteLaws
pub mod WordLaws
pub mod NumberLaws
pub mod NetworkLaws
pub mod WrittenLaws
pub mod ReadBack
pub mod Walk

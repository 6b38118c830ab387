pub mod PortLaws
pub mod PortsHold
pub mod PartLaws
pub mod RowLaws
pub mod RowsHold

-- What a reader that is handed to a function answers. (Cited by inner functions only.)
use Rattle.std.specs.Prelude.{ℕ, ◌<◌, ◌≡◌, Option}

-- a reader answers what r says, of the byte that closes and the place
pub record Reader (post : ℕ → ℕ → Option (ℕ × ℕ) → Type 0) (r : ℕ → ℕ → Option (ℕ × ℕ)) : Type 0 where
  pub reads : (at close : ℕ) → close < 256 → (x : Option (ℕ × ℕ)) → post at close x → x ≡ r close at

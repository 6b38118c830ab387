-- Bytes of a text as numbers, four or eight at once, the first the lowest. (Cited by inner functions only.)
use Rattle.std.specs.Prelude.{ℕ, ◌+◌, ◌*◌, ◌≤◌, ◌<◌, ◌≡◌, List, get_or}

-- r is the number that four bytes, or eight, make
pub record FourAt (s : List ℕ) (at r : ℕ) : Type 0 where
  pub is : r ≡ get_or s at 0 + get_or s (at + 1) 0 * 256 + get_or s (at + 2) 0 * 65536 + get_or s (at + 3) 0 * 16777216
  pub small : r < 4294967296
  pub bytes : (get_or s at 0 ≤ 255) × (get_or s (at + 1) 0 ≤ 255) × (get_or s (at + 2) 0 ≤ 255) × (get_or s (at + 3) 0 ≤ 255)

pub record EightAt (s : List ℕ) (at r : ℕ) : Type 0 where
  pub low : ℕ
  pub high : ℕ
  pub is : r ≡ low + high * 4294967296
  pub first : FourAt s at low
  pub last : FourAt s (at + 4) high

-- Bytes of a text, one by one.
use Rattle.std.specs.Prelude.{ℕ, List, Bool, ◌&&◌, get_or, length, leb, ltb, eqb}

-- the byte at a place, and 0 past the end
abbrev pub byte_at : List ℕ → ℕ → ℕ
byte_at s at = get_or s at 0

-- b stands at a place, which is never past the end
unfoldable pub is_at : List ℕ → ℕ → ℕ → Bool
is_at s at b = ltb at (length s) && eqb (byte_at s at) b

-- from lo to hi, both ends in it
unfoldable pub between : ℕ → ℕ → ℕ → Bool
between lo hi b = leb lo b && leb b hi

-- 0 to 9
abbrev pub is_digit : ℕ → Bool
is_digit b = between 0x30 0x39 b

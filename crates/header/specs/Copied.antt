-- A string of the file, copied into a small buffer where it fits.
use Rattle.std.specs.Prelude.{ℕ, ◌≡◌, List, true, ◌&&◌, cond, length, take, leb, Option, Some, None}
use Rattle.values.specs.Clean.{all_bytes}

-- how many bytes a string b has, if these are at most `room` and bytes all
unfoldable pub copied_of : ℕ → List ℕ → Option ℕ
copied_of room b = cond (leb (length b) room && all_bytes b) (Some (length b)) None

-- what the buffer holds then
pub record CopiedTo (b before after : List ℕ) (r : Option ℕ) : Type 0 where
  pub answer : r ≡ copied_of (length before) b
  pub room : length after ≡ length before
  pub held : (leb (length b) (length before) && all_bytes b) ≡ true → take (length b) after ≡ b

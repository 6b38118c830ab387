-- Number 6 of document 01: no object has two members of one name, compared after decoding, and no string, name or value, a
-- surrogate escape without its partner.
use Rattle.jsontext.specs.declared.Bad.{Bad}
use Rattle.std.specs.Prelude.{ℕ, List, [], ◌∷◌, Bool, true, not, cond, ◌&&◌, ltb, Result, Ok, Err}
use Rattle.text.specs.Words.{same_bytes}
use Rattle.values.specs.declared.Fault.{Fault}
use Rattle.values.specs.declared.Fault.TheVariants.{Broken, Unclean}
use Rattle.values.specs.Tree.{Json, null, bool, integer, real, string, array, object, Elements, no_more, element, Members, nothing, member}

-- every number is a byte
unfoldable pub all_bytes : List ℕ → Bool
all_bytes [] = true
all_bytes (x ∷ xs) = ltb x 256 && all_bytes xs

-- no member of that name
unfoldable pub absent : List ℕ → Members → Bool
absent name nothing = true
absent name (member n j ms) = not (same_bytes name n) && absent name ms

unfoldable mutual
  pub clean : Json → Bool
  clean null = true
  clean (bool b) = true
  clean (integer n) = true
  clean real = true
  clean (string b) = all_bytes b
  clean (array es) = clean_elements es
  clean (object ms) = clean_members ms

  pub clean_elements : Elements → Bool
  clean_elements no_more = true
  clean_elements (element j es) = clean j && clean_elements es

  pub clean_members : Members → Bool
  clean_members nothing = true
  clean_members (member n j ms) = (all_bytes n && absent n ms) && (clean j && clean_members ms)

-- numbers 5 and 6 of a text: 5 is judged first
abbrev pub verdict_of : Result ℕ Bad → Bool → Result (Unit {0}) Fault
verdict_of (Ok e) c = cond c (Ok tt) (Err Unclean)
verdict_of (Err b) c = Err (Broken b.at)

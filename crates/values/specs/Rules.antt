-- The words that rules over a tree are put together from.
use Rattle.std.specs.Prelude.{ℕ, ◌≡◌, List, [], Bool, true, false, cond, ◌&&◌, leb, Option, None, Some}
use Rattle.values.specs.Decode.{bytes_at}
use Rattle.values.specs.Tree.{Json, null, bool, integer, real, string, array, object, Elements, no_more, element, Members, nothing, member, lookup, tree_at, seen}

-- a member that must be there, and one that may be missing
abbrev pub must : Option Json → (Json → Bool) → Bool
must None f = false
must (Some j) f = f j

abbrev pub may : Option Json → (Json → Bool) → Bool
may None f = true
may (Some j) f = f j

-- what a rule makes of what was found, or else z; the member of that name in it; one thing, or else the other
abbrev pub inside : {A : Type 0} → Option Json → (Json → A) → A → A
inside None f z = z
inside (Some j) f z = f j

abbrev pub under : List ℕ → Option Json → Option Json
under name m = inside m (lookup name) None

abbrev pub or_other : Option Json → Option Json → Option Json
or_other None b = b
or_other (Some j) b = Some j

-- one thing where it is there, another where not
abbrev pub if_there : {A : Type 0} → Option Json → A → A → A
if_there None x y = y
if_there (Some j) x y = x

-- the bytes of a string; nothing else has any
abbrev pub bytes_in : Option Json → List ℕ
bytes_in None = []
bytes_in (Some null) = []
bytes_in (Some (bool b)) = []
bytes_in (Some (integer n)) = []
bytes_in (Some real) = []
bytes_in (Some (string b)) = b
bytes_in (Some (array es)) = []
bytes_in (Some (object ms)) = []

-- r is where the first character stands of the string that was found, whatever the depth
pub record StringAt (s : List ℕ) (found : Option ℕ) (r : ℕ) : Type 0 where
  pub is : (d : ℕ) → bytes_at s r ≡ bytes_in (seen (tree_at d s) found)

-- an integer from low to high
abbrev pub within : ℕ → ℕ → Option ℕ → Bool
within low high (Some n) = leb low n && leb n high
within low high None = false

-- a string whose bytes pass a test
abbrev pub text : (List ℕ → Bool) → Json → Bool
text p null = false
text p (bool b) = false
text p (integer n) = false
text p real = false
text p (string b) = p b
text p (array es) = false
text p (object ms) = false

-- every element passes a test, and the first one that does
unfoldable pub all : (Json → Bool) → Elements → Bool
all p no_more = true
all p (element j es) = p j && all p es

unfoldable pub first_with : (Json → Bool) → Elements → Option Json
first_with p no_more = None
first_with p (element j es) = cond (p j) (Some j) (first_with p es)

-- the name of every member passes a test
unfoldable pub all_names : (List ℕ → Bool) → Members → Bool
all_names p nothing = true
all_names p (member n j ms) = p n && all_names p ms

-- The tree that a text stands for. It is total: what is not JSON has a tree too, of which nothing is said.
use Rattle.jsontext.specs.declared.Bad.{Bad}
use Rattle.std.specs.Prelude.{ℕ, zero, suc, ◌+◌, ◌-◌, ◌*◌, List, [], ◌∷◌, Bool, true, false, cond, length, drop, take, ltb, eqb, Option, Some, None, option_map, Result, Ok, Err}
use Rattle.text.specs.Bytes.{byte_at, is_digit}
use Rattle.text.specs.Words.{same_bytes}
use Rattle.jsontext.specs.declared.Next.{Next}
use Rattle.jsontext.specs.declared.Next.TheVariants.{Done, More}
use Rattle.jsontext.specs.declared.Start.{Start}
use Rattle.jsontext.specs.declared.Start.TheVariants.{Array, Object, Text, True, False, Null, Number, Nothing}
use Rattle.jsontext.specs.Reading.{is_space, span_at, token_at, number_at, key_at, start_of, element_at, member_at, value_at}
use Rattle.values.specs.Decode.{bytes_at}

-- A number is an integer as document 01 says, 0 or digits that do not begin with 0, or some other number.
mutual
  pub data Json : Type 0 where
    null : Json
    bool : Bool → Json
    integer : ℕ → Json
    real : Json
    string : List ℕ → Json
    array : Elements → Json
    object : Members → Json

  pub data Elements : Type 0 where
    no_more : Elements
    element : Json → Elements → Elements

  pub data Members : Type 0 where
    nothing : Members
    member : List ℕ → Json → Members → Members

-- where a reader stopped
abbrev pub end_of : Result ℕ Bad → ℕ
end_of (Ok e) = e
end_of (Err b) = b.at

-- the items of a list that may be empty: the closing bracket, or the rest
abbrev pub unless : {A : Type 0} → Result ℕ Bad → List A → (ℕ → List A) → List A
unless (Ok e) l g = l
unless (Err b) l g = g b.at

-- the places that a walk by steps comes to, at most so many
abbrev pub onward : Result Next Bad → (ℕ → List ℕ) → List ℕ
onward (Ok (More k)) g = g k
onward (Ok (Done k)) g = []
onward (Err b) g = []

unfoldable pub places : (ℕ → Result Next Bad) → ℕ → ℕ → List ℕ
places step zero i = []
places step (suc f) i = i ∷ onward (step i) (λ k. places step f k)

unfoldable pub places_at : (ℕ → Result Next Bad) → List ℕ → ℕ → List ℕ
places_at step s i = places step (suc (length s)) i

-- where the elements of an array, and the members of an object, begin, after the bracket
unfoldable pub elements_at : ℕ → List ℕ → ℕ → List ℕ
elements_at d s at = unless (token_at 0x5D s at) [] (λ p. places_at (element_at (value_at d s) s) s at)

unfoldable pub members_at : ℕ → List ℕ → ℕ → List ℕ
members_at d s at = unless (token_at 0x7D s at) [] (λ p. places_at (member_at (value_at d s) s) s at)

-- a member that begins at j: its name, and where its value stands
unfoldable pub name_at : List ℕ → ℕ → List ℕ
name_at s j = bytes_at s (span_at is_space s j + 1)

unfoldable pub place_at : List ℕ → ℕ → ℕ
place_at s j = span_at is_space s (end_of (key_at s j))

-- the trees of those that begin at some places
unfoldable pub elements_of : (ℕ → Json) → List ℕ → List ℕ → Elements
elements_of tree s [] = no_more
elements_of tree s (j ∷ js) = element (tree (span_at is_space s j)) (elements_of tree s js)

unfoldable pub members_of : (ℕ → Json) → List ℕ → List ℕ → Members
members_of tree s [] = nothing
members_of tree s (j ∷ js) = member (name_at s j) (tree (place_at s j)) (members_of tree s js)

-- the number that n and then these digits give
unfoldable pub decimal : ℕ → List ℕ → ℕ
decimal n [] = n
decimal n (x ∷ xs) = decimal (n * 10 + (x - 0x30)) xs

-- an integer is digits and nothing more
unfoldable pub number_of : List ℕ → ℕ → Json
number_of s at =
    let e = span_at is_digit s at in
    cond (ltb at e) (cond (eqb (end_of (number_at s at)) e) (integer (decimal 0 (take (e - at) (drop at s)))) real) real

-- what stands at a place, by what its first byte begins
abbrev pub tree_by : Start → List ℕ → ℕ → (ℕ → Elements) → (ℕ → Members) → Json
tree_by Array s at arr obj = array (arr (at + 1))
tree_by Object s at arr obj = object (obj (at + 1))
tree_by Text s at arr obj = string (bytes_at s (at + 1))
tree_by True s at arr obj = bool true
tree_by False s at arr obj = bool false
tree_by Null s at arr obj = null
tree_by Number s at arr obj = number_of s at
tree_by Nothing s at arr obj = real

-- the tree of the value at a place, in which arrays and objects are nested at most so deep
unfoldable pub tree_at : ℕ → List ℕ → ℕ → Json
tree_at zero s at = tree_by (start_of (byte_at s at)) s at (λ i. no_more) (λ i. nothing)
tree_at (suc d) s at =
    tree_by (start_of (byte_at s at)) s at (λ i. elements_of (tree_at d s) s (elements_at d s i)) (λ i. members_of (tree_at d s) s (members_at d s i))

-- the tree of a whole text
unfoldable pub tree_of : ℕ → List ℕ → Json
tree_of d s = tree_at d s (span_at is_space s 0)

-- the elements of an array after its bracket, those from the one at a place on, and those after it; members of an object alike
abbrev pub elements_in : ℕ → List ℕ → ℕ → Elements
elements_in d s at = elements_of (tree_at d s) s (elements_at d s at)

abbrev pub elements_from : ℕ → List ℕ → ℕ → Elements
elements_from d s j = elements_of (tree_at d s) s (places_at (element_at (value_at d s) s) s j)

abbrev pub elements_after : ℕ → List ℕ → ℕ → Elements
elements_after d s j = elements_of (tree_at d s) s (onward (element_at (value_at d s) s j) (places_at (element_at (value_at d s) s) s))

abbrev pub members_in : ℕ → List ℕ → ℕ → Members
members_in d s at = members_of (tree_at d s) s (members_at d s at)

abbrev pub members_from : ℕ → List ℕ → ℕ → Members
members_from d s j = members_of (tree_at d s) s (places_at (member_at (value_at d s) s) s j)

abbrev pub members_after : ℕ → List ℕ → ℕ → Members
members_after d s j = members_of (tree_at d s) s (onward (member_at (value_at d s) s j) (places_at (member_at (value_at d s) s) s))

-- the elements of an array, and the members of an object; nothing else has any
abbrev pub items : Json → Elements
items null = no_more
items (bool b) = no_more
items (integer n) = no_more
items real = no_more
items (string b) = no_more
items (array es) = es
items (object ms) = no_more

abbrev pub fields : Json → Members
fields null = nothing
fields (bool b) = nothing
fields (integer n) = nothing
fields real = nothing
fields (string b) = nothing
fields (array es) = nothing
fields (object ms) = ms

-- those from where a walk begins, if it does
abbrev pub items_from : ℕ → List ℕ → Option ℕ → Elements
items_from d s (Some j) = elements_from d s j
items_from d s None = no_more

abbrev pub fields_from : ℕ → List ℕ → Option ℕ → Members
fields_from d s (Some j) = members_from d s j
fields_from d s None = nothing

-- the first member of that name
unfoldable pub find : List ℕ → Members → Option Json
find name nothing = None
find name (member n j ms) = cond (same_bytes n name) (Some j) (find name ms)

unfoldable pub lookup : List ℕ → Json → Option Json
lookup name j = find name (fields j)

-- the tree at the place that a search found
abbrev pub seen : (ℕ → Json) → Option ℕ → Option Json
seen tree r = option_map tree r

-- what kind of value it is
abbrev pub is_null : Json → Bool
is_null null = true
is_null (bool b) = false
is_null (integer n) = false
is_null real = false
is_null (string b) = false
is_null (array es) = false
is_null (object ms) = false

abbrev pub is_bool : Json → Bool
is_bool null = false
is_bool (bool b) = true
is_bool (integer n) = false
is_bool real = false
is_bool (string b) = false
is_bool (array es) = false
is_bool (object ms) = false

abbrev pub is_string : Json → Bool
is_string null = false
is_string (bool b) = false
is_string (integer n) = false
is_string real = false
is_string (string b) = true
is_string (array es) = false
is_string (object ms) = false

abbrev pub is_array : Json → Bool
is_array null = false
is_array (bool b) = false
is_array (integer n) = false
is_array real = false
is_array (string b) = false
is_array (array es) = true
is_array (object ms) = false

abbrev pub is_object : Json → Bool
is_object null = false
is_object (bool b) = false
is_object (integer n) = false
is_object real = false
is_object (string b) = false
is_object (array es) = false
is_object (object ms) = true

-- an integer, but at most a million: no rule asks for more
unfoldable pub capped : ℕ → ℕ
capped n = cond (ltb n 1000000) n 1000000

abbrev pub count_of : Json → Option ℕ
count_of null = None
count_of (bool b) = None
count_of (integer n) = Some (capped n)
count_of real = None
count_of (string b) = None
count_of (array es) = None
count_of (object ms) = None

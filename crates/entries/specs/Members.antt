-- Members that are found in one walk of their object: what each place found stands for.
use Rattle.std.specs.Prelude.{ℕ, ◌+◌, ◌-◌, ◌<◌, ◌≡◌, List, [], ◌∷◌, Bool, cond, ◌&&◌, length, slice_index_or, Option, None, Some}
use Rattle.std.specs.Option.{option_or}
use Rattle.text.specs.Words.{same_bytes}
use Rattle.values.specs.Decode.{bytes_at}
use Rattle.values.specs.Tree.{Members, tree_at, find, seen}
use Rattle.values.specs.Rules.{may, under, or_other, all_names}
use Rattle.header.specs.Asked.{is_among}
use Rattle.entries.specs.Known.{only}

-- the first byte of the string at a place, where it is known
pub record Begins (s : List ℕ) (at : ℕ) (head : Option ℕ) : Type 0 where
  pub known : {b : ℕ} → head ≡ Some b → bytes_at s at ≡ b ∷ bytes_at s (at + 1)

-- what is known of one name after a member whose value stands at p: the first one counts
abbrev pub noted : Option ℕ → Bool → ℕ → Option ℕ
noted f test p = option_or f (cond test (Some p) None)

-- what is known of some names after the member of a name
unfoldable pub all_noted : List ℕ → ℕ → List (List ℕ) → List (Option ℕ) → List (Option ℕ)
all_noted name p [] fs = fs
all_noted name p (w ∷ ws) [] = []
all_noted name p (w ∷ ws) (f ∷ fs) = noted f (same_bytes name w) p ∷ all_noted name p ws fs

-- nothing was known before some members, and the places are what is known after some of them: ms' are left
pub record Noted (depth : ℕ) (s : List ℕ) (names : List (List ℕ)) (ms ms' : Members) (places : List (Option ℕ)) (listed : Bool) : Type 0 where
  pub long_is : length names ≡ length places
  pub place_is : (k : ℕ) → k < length names → find (slice_index_or names k []) ms ≡ or_other (seen (tree_at depth s) (slice_index_or places k None)) (find (slice_index_or names k []) ms')
  pub listed_is : all_names (λ n. is_among n names) ms ≡ (listed && all_names (λ n. is_among n names) ms')

-- the first member of each name among some members
pub record MembersFrom (depth : ℕ) (s : List ℕ) (names : List (List ℕ)) (ms : Members) (places : List (Option ℕ)) (listed : Bool) : Type 0 where
  pub place_is : (k : ℕ) → k < length names → find (slice_index_or names k []) ms ≡ seen (tree_at depth s) (slice_index_or places k None)
  pub listed_is : all_names (λ n. is_among n names) ms ≡ listed

-- the member of each name in what was found, and whether it has no others
pub record MembersOf (depth : ℕ) (s : List ℕ) (names : List (List ℕ)) (found : Option ℕ) (places : List (Option ℕ)) (listed : Bool) : Type 0 where
  pub place_is : (k : ℕ) → k < length names → under (slice_index_or names k []) (seen (tree_at depth s) found) ≡ seen (tree_at (depth - 1) s) (slice_index_or places k None)
  pub listed_is : listed ≡ may (seen (tree_at depth s) found) (only names)

-- What the private functions promise one another; no public call is told by these.
use Rattle.std.specs.Prelude.{ℕ, ◌≡◌, List, Bool, true, false, cond, Option, None, Some}
use Rattle.jsontext.specs.Reading.{is_space, span_at}
use Rattle.values.specs.declared.Entry.{Entry}
use Rattle.values.specs.declared.Entry.TheVariants.{Known, Kept, Full}
use Rattle.values.specs.Decode.{bytes_at}
use Rattle.values.specs.Tree.{tree_at, elements_after}
use Rattle.values.specs.Names.{Entered, grown_of}
use Rattle.header.specs.Asked.{is_among}
use Rattle.lists.specs.Lists.{name_of, names_of}

-- does a name stand twice, after it was entered among those before it: where it was left out, by what comes after it
abbrev pub again_of : Bool → Entry → Bool
again_of b Known = true
again_of b Kept = false
again_of b Full = b

-- the name of the element that begins at j, entered among hi others in a, which then is b
pub record Added (d : ℕ) (s : List ℕ) (j : ℕ) (a : List ℕ) (hi : ℕ) (b : List ℕ) (r : Option ℕ) : Type 0 where
  pub name : ℕ
  pub stands : bytes_at s name ≡ name_of (tree_at d s (span_at is_space s j))
  pub entry : Entry
  pub entered : Entered s name j a 0 hi b entry
  pub told : r ≡ cond (again_of (is_among (bytes_at s name) (names_of (elements_after d s j))) entry) None (Some (grown_of hi entry))

-- The lists of the file by their names, gathered into words (src/index.rt).
use Rattle.std.specs.Prelude.{ℕ, ◌≤◌, ◌<◌, ◌≡◌, List, length, get_or, Option, Some, None}
use Rattle.values.specs.Decode.{bytes_at}
use Rattle.values.specs.Tree.{Elements, no_more, tree_at, elements_from, elements_after}
use Rattle.values.specs.Rules.{first_with}
use Rattle.values.specs.Names.{owner_in, key_at, Rising}
use Rattle.lists.specs.Lists.{is_named}

-- es but for the rest: up to hi each word has the first list of its name, and by any other name the rest decides
pub record Gathered (s : List ℕ) (es : Elements) (a : List ℕ) (hi : ℕ) (rest : Elements) : Type 0 where
  pub from : 1555 ≤ hi
  pub room : hi ≤ length a
  pub rising : Rising s a 1555 hi
  pub known : (k : ℕ) → 1555 ≤ k → k < hi → first_with (is_named (key_at s a k)) es ≡ Some (tree_at 13 s (owner_in (get_or a k 0)))
  pub left : (i : ℕ) → ((k : ℕ) → 1555 ≤ k → k < hi → key_at s a k ≡ bytes_at s i → ⊥) → first_with (is_named (bytes_at s i)) es ≡ first_with (is_named (bytes_at s i)) rest

-- one list more, the one that begins at j
unfoldable pub Onward : List ℕ → ℕ → List ℕ → ℕ → List ℕ → Option ℕ → Type 0
Onward s j a hi b (Some top) = (es : Elements) → Gathered s es a hi (elements_from 13 s j) → Gathered s es b top (elements_after 13 s j)
Onward s j a hi b None = Unit {0}

-- all of them; without an index nothing is known
unfoldable pub Indexed : List ℕ → Elements → List ℕ → Option ℕ → Type 0
Indexed s es a (Some hi) = Gathered s es a hi no_more
Indexed s es a None = Unit {0}

-- the first word above the names, and one that is at most n
abbrev pub above_of : Option ℕ → ℕ
above_of (Some hi) = hi
above_of None = 0

pub record Above (x : Option ℕ) (n r : ℕ) : Type 0 where
  pub room : r ≤ n
  pub is : above_of x ≤ n → r ≡ above_of x

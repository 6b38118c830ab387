-- The table in the document's own words (document 01, 'The table of a set of flows'); proofs/Words.antt shows that this is `table_of`.
use Rattle.std.specs.Prelude.{ℕ, suc, ◌≤◌, ◌<◌, ◌≡◌, true, false, cond, List, [], ◌∷◌, ◌⊎◌}
use Rattle.flows.specs.Table.{Point, Set, Table, Run, run, within, section, lines_of}

-- Two sets hold the same points, as far as the widths go
abbrev pub Same : List ℕ → Set → Set → Type 0
Same ws S S' = (p : Point) → within ws p ≡ true → S p ≡ S' p

abbrev pub none : Set
none p = false

-- "Two values of a dimension are alike when their cross sections are the same set."
abbrev pub Alike : List ℕ → Set → ℕ → ℕ → Type 0
Alike ws S u v = Same ws (section S u) (section S v)

-- "the longest runs of consecutive alike values whose section is not empty"
pub record Longest (w : ℕ) (ws : List ℕ) (S : Set) (lo hi : ℕ) : Type 0 where
  pub rises : lo ≤ hi
  pub inside : hi < w
  pub alike : (x : ℕ) → lo ≤ x → x ≤ hi → Alike ws S lo x
  pub some : ¬ Same ws (section S lo) none
  pub no_further : suc hi < w → ¬ Alike ws S lo (suc hi)
  pub no_earlier : (u : ℕ) → suc u ≡ lo → ¬ Alike ws S u lo

-- "in rising order", the first from n on
abbrev pub Rising : ℕ → List Run → Type 0
Rising n [] = Unit {0}
Rising n (run lo hi t ∷ rs) = (n ≤ lo) × Rising (suc hi) rs

-- Something holds of each run
abbrev pub Each : (ℕ → ℕ → Table → Type 0) → List Run → Type 0
Each P [] = Unit {0}
Each P (run lo hi t ∷ rs) = P lo hi t × Each P rs

-- x stands in one of the runs
abbrev pub Held : ℕ → List Run → Type 0
Held x [] = ⊥
Held x (run lo hi t ∷ rs) = ((lo ≤ x) × (x ≤ hi)) ⊎ Held x rs

-- The lines t are the table of S: with no dimension left "one line if the flow is in the set, otherwise none"; else there are rising
-- longest runs, each with its cross section's table, of which t has the lines, and no value with a non-empty section is left out.
abbrev pub IsTable : List ℕ → Set → Table → Type 0
IsTable [] S t = t ≡ cond (S []) ([] ∷ []) []
IsTable (w ∷ ws) S t = (rs : List Run)
    × (t ≡ lines_of rs)
    × Rising 0 rs
    × Each (λ lo hi u. Longest w ws S lo hi × IsTable ws (section S lo) u) rs
    × ((x : ℕ) → x < w → ¬ Same ws (section S x) none → Held x rs)

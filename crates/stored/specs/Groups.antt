-- The groups of a table's lines: what the functions that test their order answer. (Cited by inner functions only.)
use Rattle.std.specs.Prelude.{ℕ, zero, suc, ◌-◌, ◌≤◌, ◌<◌, ◌≡◌, [], ◌∷◌, Bool, true, false, ◌&&◌, not, length, get_or, drop, ltb, leb, eqb, Option, Some, is_some}
use Rattle.flows.specs.Table.{Range, Line, Table, eq_range, eq_table}
use Rattle.flows.specs.Flow.{widths}
use Rattle.flows.specs.Canonical.{canonical, low_end, high_end}
use Rattle.stored.specs.Text.{nth}

-- the line at a place, and the lines from there on
abbrev pub row : Table → ℕ → Line
row t at = get_or t at []

abbrev pub rows : Table → ℕ → Table
rows t at = drop at t

-- how many ranges of two lines agree, from the first on
unfoldable pub differ_of : Line → Line → ℕ
differ_of [] m = zero
differ_of (r ∷ l) [] = zero
differ_of (r ∷ l) (q ∷ m) = elim (eq_range r q) [ true ↦ suc (differ_of l m) | false ↦ zero ]

-- of the lines in front, those that agree with a line before range d: what they have from d on, and the lines after them
unfoldable pub under : ℕ → Line → Table → Table
under d x [] = []
under d x (l ∷ t) = elim (leb d (differ_of x l)) [ true ↦ drop d l ∷ under d x t | false ↦ [] ]

unfoldable pub past : ℕ → Line → Table → Table
past d x [] = []
past d x (l ∷ t) = elim (leb d (differ_of x l)) [ true ↦ past d x t | false ↦ l ∷ t ]

-- a line stands at a place and agrees with another before range d
unfoldable pub member_at : ℕ → Line → Table → ℕ → Bool
member_at d x t at = ltb at (length t) && leb d (differ_of x (row t at))

-- the group of the line at k may follow that of the line at i: higher in range d, and not the same after it where they touch
unfoldable pub follow : Range → Range → Bool → Bool
follow p q same = ltb (high_end p) (low_end q) && not (eqb (low_end q) (suc (high_end p)) && same)

unfoldable pub follow_at : ℕ → Table → ℕ → ℕ → Bool
follow_at d t i k =
    follow (nth (row t i) d) (nth (row t k) d) (eq_table (under (suc d) (row t i) (rows t i)) (under (suc d) (row t k) (rows t k)))

-- the run of the line at i in range d ends before the line at k, which is of the same group
pub record Next (d : ℕ) (t : Table) (i k : ℕ) : Type 0 where
  pub below : d < 6
  pub onward : i < k
  pub within : k < length t
  pub run : suc d ≤ differ_of (row t i) (row t (k - 1))
  pub alike : d ≤ differ_of (row t (k - 1)) (row t k)
  pub ended : differ_of (row t (k - 1)) (row t k) ≤ d

-- a group ends at a place
pub record Ended (d : ℕ) (x : Line) (t : Table) (at e : ℕ) : Type 0 where
  pub rest : rows t e ≡ past d x (rows t at)
  pub further : at < e
  pub within : e ≤ length t
  pub last : d ≤ differ_of x (row t (e - 1))

-- what the group of the line at a place tells: where it ends, if it is a table's
pub record Grouped (d : ℕ) (x : Line) (t : Table) (at : ℕ) (r : Option ℕ) : Type 0 where
  pub test : is_some r ≡ canonical (drop d widths) (under d x (rows t at))
  pub ended : (e : ℕ) → r ≡ Some e → Ended d x t at e

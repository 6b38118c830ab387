-- The table of a set (document 01, 'The table of a set of flows'), for any number of dimensions and any widths.
use Rattle.std.specs.Prelude.{ℕ, zero, suc, ◌+◌, Bool, true, false, ◌&&◌, ◌||◌, cond, List, [], ◌∷◌, ◌++◌, leb, ltb, eqb}

-- A point has a number for each dimension; a set says which points are in it.
abbrev pub Point : Type 0
Point = List ℕ

abbrev pub Set : Type 0
Set = Point → Bool

infix 70 ◌to◌
-- A range is always low to high, both ends in it; a line has a range for each dimension.
pub data Range : Type 0 where
  ◌to◌ : ℕ → ℕ → Range

abbrev pub Line : Type 0
Line = List Range

abbrev pub Table : Type 0
Table = List Line

unfoldable pub in_range : ℕ → ℕ → ℕ → Bool
in_range lo hi x = leb lo x && leb x hi

unfoldable pub in_line : Line → Point → Bool
in_line [] [] = true
in_line [] (x ∷ p) = false
in_line (lo to hi ∷ l) [] = false
in_line (lo to hi ∷ l) (x ∷ p) = in_range lo hi x && in_line l p

unfoldable pub in_table : Table → Set
in_table [] p = false
in_table (l ∷ t) p = in_line l p || in_table t p

-- How many lines of the table have the point
unfoldable pub count : Table → Point → ℕ
count [] p = 0
count (l ∷ t) p = cond (in_line l p) 1 0 + count t p

-- The point has a number for each width, below it
unfoldable pub within : List ℕ → Point → Bool
within [] [] = true
within [] (x ∷ p) = false
within (w ∷ ws) [] = false
within (w ∷ ws) (x ∷ p) = ltb x w && within ws p

-- The cross section of a set at a value of its first dimension
unfoldable pub section : Set → ℕ → Set
section S v p = S (v ∷ p)

-- Are two tables the same, line by line?
unfoldable pub eq_range : Range → Range → Bool
eq_range (a to b) (c to d) = eqb a c && eqb b d

unfoldable pub eq_line : Line → Line → Bool
eq_line [] [] = true
eq_line [] (r ∷ l) = false
eq_line (r ∷ l) [] = false
eq_line (r ∷ l) (s ∷ m) = let rest = eq_line l m in eq_range r s && rest

unfoldable pub eq_table : Table → Table → Bool
eq_table [] [] = true
eq_table [] (l ∷ t) = false
eq_table (l ∷ t) [] = false
eq_table (l ∷ t) (m ∷ u) = let rest = eq_table t u in eq_line l m && rest

-- A run of consecutive values, low to high, whose sections all have one table
pub data Run : Type 0 where
  run : ℕ → ℕ → Table → Run

-- The run lo to hi, whose section has the table t, in front of the runs that follow: one longer run where the next touches it and is alike
unfoldable pub join_run : ℕ → ℕ → Table → List Run → List Run
join_run lo hi t [] = run lo hi t ∷ []
join_run lo hi t (run a b u ∷ rs) =
    elim (eqb a (suc hi) && eq_table t u) [ true ↦ run lo b u ∷ rs | false ↦ run lo hi t ∷ (run a b u ∷ rs) ]

-- A run whose section is empty is left out
unfoldable pub add_run : ℕ → ℕ → Table → List Run → List Run
add_run lo hi [] rs = rs
add_run lo hi (l ∷ t) rs = join_run lo hi (l ∷ t) rs

-- The longest runs among the k values from v on, where the section of each value x has the table f x
unfoldable pub runs_from : ℕ → ℕ → (ℕ → Table) → List Run
runs_from zero v f = []
runs_from (suc k) v f = add_run v v (f v) (runs_from k (suc v) f)

-- "with the run put before every line"
unfoldable pub put_before : Range → Table → Table
put_before r [] = []
put_before r (l ∷ t) = (r ∷ l) ∷ put_before r t

unfoldable pub lines_of : List Run → Table
lines_of [] = []
lines_of (run lo hi t ∷ rs) = put_before (lo to hi) t ++ lines_of rs

-- THE TABLE OF A SET. "For each run write the cross section's own table, one dimension fewer, with the run put before every line.
-- With no dimension left there is one line if the flow is in the set, otherwise none."
unfoldable pub table_of : List ℕ → Set → Table
table_of [] S = cond (S []) ([] ∷ []) []
table_of (w ∷ ws) S = lines_of (runs_from w 0 (λ v. table_of ws (section S v)))

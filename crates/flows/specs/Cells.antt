-- The table by one value for each elementary interval: which values the ranges of some rules cannot tell apart.
use Rattle.std.specs.Prelude.{ℕ, zero, suc, Bool, true, false, cond, List, [], ◌∷◌, ltb, eqb}
use Rattle.flows.specs.Table.{Range, ◌to◌, Table, Run, add_run, lines_of}
use Rattle.flows.specs.Rules.{Rule, rule, in_all, accepts}

-- The runs from v on, by the last value of each interval
unfoldable pub runs_at : ℕ → List ℕ → (ℕ → Table) → List Run
runs_at v [] f = []
runs_at v (e ∷ es) f = add_run v e (f v) (runs_at (suc e) es f)

unfoldable pub keep_if : Bool → Rule → List Rule → List Rule
keep_if true r rs = r ∷ rs
keep_if false r rs = rs

-- The rules that hold the value v in the first dimension, one dimension fewer
unfoldable pub live : ℕ → List Rule → List Rule
live v [] = []
live v (rule a [] ∷ rs) = live v rs
live v (rule a (ls ∷ b) ∷ rs) = keep_if (in_all ls v) (rule a b) (live v rs)

-- The table of what rules accept, by the last values of the intervals of each dimension
unfoldable pub cell_table : List (List ℕ) → List Rule → Table
cell_table [] rs = cond (accepts rs []) ([] ∷ []) []
cell_table (es ∷ ess) rs = lines_of (runs_at 0 es (λ v. cell_table ess (live v rs)))

-- One more end, c, among ends that rise; c past the last is none
unfoldable pub insert_end : ℕ → List ℕ → List ℕ
insert_end c [] = []
insert_end c (e ∷ es) = elim (ltb c e) [ true ↦ c ∷ (e ∷ es) | false ↦ elim (eqb c e) [ true ↦ e ∷ es | false ↦ e ∷ insert_end c es ] ]

-- An interval begins at c: another ends before it
unfoldable pub insert_start : ℕ → List ℕ → List ℕ
insert_start zero es = es
insert_start (suc c) es = insert_end c es

unfoldable pub insert_ranges : List Range → List ℕ → List ℕ
insert_ranges [] es = es
insert_ranges (lo to hi ∷ rs) es = insert_start lo (insert_end hi (insert_ranges rs es))

unfoldable pub insert_limits : List (List Range) → List ℕ → List ℕ
insert_limits [] es = es
insert_limits (rs ∷ ls) es = insert_ranges rs (insert_limits ls es)

unfoldable pub last_of : ℕ → List ℕ
last_of zero = []
last_of (suc n) = n ∷ []

-- The ends of the intervals of the first dimension, of width w
unfoldable pub ends_of : ℕ → List Rule → List ℕ
ends_of w [] = last_of w
ends_of w (rule a [] ∷ rs) = ends_of w rs
ends_of w (rule a (ls ∷ b) ∷ rs) = insert_limits ls (ends_of w rs)

-- The same rules without their first dimension
unfoldable pub rest : List Rule → List Rule
rest [] = []
rest (rule a [] ∷ rs) = rest rs
rest (rule a (ls ∷ b) ∷ rs) = rule a b ∷ rest rs

-- The ends of the intervals of all dimensions
unfoldable pub cuts_of : List ℕ → List Rule → List (List ℕ)
cuts_of [] rs = []
cuts_of (w ∷ ws) rs = ends_of w rs ∷ cuts_of ws (rest rs)

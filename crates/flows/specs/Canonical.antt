-- A test that tells whether lines are the table of some set of flows (document 01, 'Answer numbers': "a stored table is .. the lines .. of
-- the table of some set of flows"); proofs/Canonical.antt and proofs/Stored.antt show that it does.
use Rattle.std.specs.Prelude.{ℕ, suc, ◌≤◌, ◌<◌, Bool, true, false, ◌&&◌, ◌||◌, not, List, [], ◌∷◌, leb, ltb, eqb, get_or}
use Rattle.flows.specs.Table.{Range, ◌to◌, Line, Table, Run, run, eq_table}
use Rattle.flows.specs.Flow.{widths}

-- A line, by its first range and the rest of it, in front of the groups of the lines that follow
unfoldable pub push : ℕ → ℕ → Line → List Run → List Run
push a b l [] = run a b (l ∷ []) ∷ []
push a b l (run c d t ∷ rs) =
    elim (eqb a c && eqb b d) [ true ↦ run c d (l ∷ t) ∷ rs | false ↦ run a b (l ∷ []) ∷ (run c d t ∷ rs) ]

-- The lines of a table in groups of one first range
unfoldable pub group : Table → List Run
group [] = []
group ([] ∷ t) = group t
group ((a to b ∷ l) ∷ t) = push a b l (group t)

unfoldable pub headed : Table → Bool
headed [] = true
headed ([] ∷ t) = false
headed ((r ∷ l) ∷ t) = headed t

unfoldable pub filled : Table → Bool
filled [] = false
filled (l ∷ t) = true

-- The next run does not touch the one that ends at hi, or is not alike
unfoldable pub apart : ℕ → Table → List Run → Bool
apart hi t [] = true
apart hi t (run a b u ∷ rs) = not (eqb a (suc hi) && eq_table t u)

-- Rising runs below w, the first from n on, none empty, none alike to one that it touches; c holds of each one's lines
unfoldable pub rising : (Table → Bool) → ℕ → ℕ → List Run → Bool
rising c w n [] = true
rising c w n (run lo hi t ∷ rs) =
    leb n lo && (leb lo hi && (ltb hi w && (filled t && (c t && (apart hi t rs && rising c w (suc hi) rs)))))

-- The lines are the table of some set of points
unfoldable pub canonical : List ℕ → Table → Bool
canonical [] [] = true
canonical [] ([] ∷ []) = true
canonical [] ([] ∷ (l ∷ t)) = false
canonical [] ((r ∷ l) ∷ t) = false
canonical (w ∷ ws) t = headed t && rising (canonical ws) w 0 (group t)

-- A line with these first and last protocol, last opener and last ports has flows only
unfoldable pub flow_ends : ℕ → ℕ → ℕ → ℕ → ℕ → Bool
flow_ends p0 p1 opener remote device =
    (eqb opener 0 || (eqb p0 6 && eqb p1 6))
    && ((eqb remote 0 && eqb device 0) || ((eqb p0 6 && eqb p1 6) || (eqb p0 17 && eqb p1 17)))

abbrev pub low_end : Range → ℕ
low_end (lo to hi) = lo

abbrev pub high_end : Range → ℕ
high_end (lo to hi) = hi

abbrev range_at : Line → ℕ → Range
range_at l d = get_or l d (0 to 0)

-- Each range of the line is one of numbers within the widths, low not above high
abbrev pub LineIn : List ℕ → Line → Type 0
LineIn [] [] = Unit {0}
LineIn [] (r ∷ l) = ⊥
LineIn (w ∷ ws) [] = ⊥
LineIn (w ∷ ws) (lo to hi ∷ l) = (lo ≤ hi) × (hi < w) × LineIn ws l

abbrev pub AllLines : (Line → Type 0) → Table → Type 0
AllLines P [] = Unit {0}
AllLines P (l ∷ t) = P l × AllLines P t

unfoldable pub flow_line : Line → Bool
flow_line l = flow_ends (low_end (range_at l 1)) (high_end (range_at l 1)) (high_end (range_at l 2)) (high_end (range_at l 4)) (high_end (range_at l 5))

unfoldable pub all_lines : (Line → Bool) → Table → Bool
all_lines ok [] = true
all_lines ok (l ∷ t) = ok l && all_lines ok t

-- THE TEST: the lines are the table of some set of flows
unfoldable pub table_of_flows : Table → Bool
table_of_flows t = canonical widths t && all_lines flow_line t

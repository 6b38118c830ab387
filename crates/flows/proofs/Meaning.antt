-- What a table says: in how many of its lines a point stands; and that a set has one table.
use Prim.Native.Nat.{ℕ, zero, suc, ◌+◌, ◌≤◌, ◌<◌}
use native.Mathlib.Nat.{zero-add}
use mathlib.Core.Path.{◌≡◌, refl, sym, ap, ◌∙◌}
use mathlib.Core.Bool.{◌&&◌, cond}
use mathlib.Core.List.{List, [], ◌∷◌, ◌++◌}
use mathlib.Core.Logic.{◌↔◌}
use lib.Dec.{ltb, eqb}
use native.Mathlib.Omega.{arith}
use borrow.Author.Tests.{ltb-true, ltb-false, eqb-true, eqb-false, lt-ltb}
use lib.ListN.{length, length-append}
use Rattle.flows.specs.Table.{Point, Set, Range, ◌to◌, Run, run, Table, in_range, in_line, in_table, count, within, section, runs_from, put_before, lines_of, table_of}
use Rattle.flows.specs.Words.{Same}
use Rattle.text.proofs.Tests.{by_test, both}
use Rattle.flows.proofs.Runs.{Step, skip, join, fresh, step, look, Good, look_low, look_high, look_runs, runs_good, runs_same, in_hi}

pub count_append : (t u : Table) (p : Point) → count (t ++ u) p ≡ count t p + count u p
unfolding count
count_append [] u p = sym (zero-add (count u p))
count_append (l ∷ t) u p = rw (count_append t u p) (omega arith)

pub count_put : (lo hi : ℕ) (t : Table) (x : ℕ) (p : Point) → count (put_before (lo to hi) t) (x ∷ p) ≡ cond (in_range lo hi x) (count t p) 0
unfolding count put_before in_line
count_put lo hi [] x p = by_test (in_range lo hi x) (λ e. rw e) (λ e. rw e)
count_put lo hi (l ∷ t) x p = rw (count_put lo hi t x p) (by_test (in_range lo hi x) (λ e. rw e) (λ e. rw e))

pub count_none : (p : Point) → count [] p ≡ 0
unfolding count
count_none p = refl

-- Of good runs a point is counted where its first number is found
pub count_lines : (w n : ℕ) (rs : List Run) (x : ℕ) (p : Point) → Good w n rs → count (lines_of rs) (x ∷ p) ≡ count (look rs x) p
unfolding lines_of look count
count_lines w n [] x p g = refl
count_lines w n (run lo hi t ∷ rs) x p g =
    simp (count_append, count_put, count_lines w (suc hi) rs x p g.5)
    (by_test (in_range lo hi x)
    (λ e. let h : x ≤ hi = in_hi lo hi x e in rw (e, look_low w (suc hi) x rs g.5 (omega arith), count_none p) (omega arith))
    (λ e. rw e (omega arith)))

pub count_put_end : (r : Range) (t : Table) → count (put_before r t) [] ≡ 0
unfolding count put_before in_line
count_put_end r [] = refl
count_put_end (a to b) (l ∷ t) = rw (count_put_end (a to b) t)

pub count_lines_end : (rs : List Run) → count (lines_of rs) [] ≡ 0
unfolding lines_of
count_lines_end [] = count_none []
count_lines_end (run lo hi t ∷ rs) = simp (count_append, count_put_end, count_lines_end rs)

-- THE MEANING. Each point of the set within the widths stands in exactly one line of its table; every other point in none.
pub one_line_each : (ws : List ℕ) (S : Set) (p : Point) → count (table_of ws S) p ≡ cond (within ws p && S p) 1 0
unfolding table_of within count in_line section
one_line_each [] S [] = by_test (S []) (λ e. rw e) (λ e. rw e)
one_line_each [] S (x ∷ p) = by_test (S []) (λ e. rw e) (λ e. rw e)
one_line_each (w ∷ ws) S [] = count_lines_end _
one_line_each (w ∷ ws) S (x ∷ p) =
    let f : ℕ → Table = λ v. table_of ws (section S v) in
    let g : Good w 0 (runs_from w 0 f) = runs_good w 0 w f (zero-add w) in
    rw (count_lines w 0 (runs_from w 0 f) x p g)
    (by_test (ltb x w)
    (λ e. rw (e, look_runs w 0 w x f (zero-add w) (omega arith) (ltb-true x w e)) (one_line_each ws (section S x) p))
    (λ e. rw (e, look_high w 0 x (runs_from w 0 f) g (ltb-false x w e))))

pub in_count : (t : Table) (p : Point) → in_table t p ≡ ltb 0 (count t p)
unfolding in_table count
in_count [] p = refl
in_count (l ∷ t) p = by_test (in_line l p) (λ e. rw e (sym (lt-ltb 0 (1 + count t p) (omega arith)))) (λ e. rw (e, in_count t p, zero-add (count t p)))

pub in_table_lem : (ws : List ℕ) (S : Set) (p : Point) → in_table (table_of ws S) p ≡ (within ws p && S p)
in_table_lem ws S p = rw (in_count (table_of ws S) p, one_line_each ws S p) (by_test (within ws p && S p) (λ e. rw e) (λ e. rw e))

pub same_section : (w : ℕ) (ws : List ℕ) (S S' : Set) (x : ℕ) → x < w → Same (w ∷ ws) S S' → Same ws (section S x) (section S' x)
unfolding within section
same_section w ws S S' x h q p e = q (x ∷ p) (both (ltb x w) (within ws p) (lt-ltb x w h) e)

pub same_table : (ws : List ℕ) (S S' : Set) → Same ws S S' → table_of ws S ≡ table_of ws S'
unfolding table_of within
same_table [] S S' h = rw (h [] refl)
same_table (w ∷ ws) S S' h =
    ap lines_of (runs_same w 0 _ _ (λ x a b. same_table ws (section S x) (section S' x) (same_section w ws S S' x (omega arith) h)))

pub table_same : (ws : List ℕ) (S S' : Set) → table_of ws S ≡ table_of ws S' → Same ws S S'
table_same ws S S' h p e =
    let a : in_table (table_of ws S) p ≡ (within ws p && S p) = in_table_lem ws S p in
    let b : in_table (table_of ws S') p ≡ (within ws p && S' p) = in_table_lem ws S' p in
    sym (rw (h, e) at a) ∙ (rw e at b)

-- Equal tables exactly where the sets agree within the widths
pub equal_tables_same_set : (ws : List ℕ) (S S' : Set) → Same ws S S' ↔ (table_of ws S ≡ table_of ws S')
equal_tables_same_set ws S S' = (same_table ws S S', table_same ws S S')

-- A section's table is no longer than the whole
pub length_put : (r : Range) (t : Table) → length (put_before r t) ≡ length t
unfolding put_before
length_put r [] = refl
length_put r (l ∷ t) = ap suc (length_put r t)

pub step_length : {lo hi : ℕ} {t : Table} {rs rs' : List Run} → Step lo hi t rs rs' → (length t ≤ length (lines_of rs')) × (length (lines_of rs) ≤ length (lines_of rs'))
unfolding lines_of
step_length (skip {rs = rs}) = omega arith
step_length (join {u = u} e f) = simp (length-append, length_put) (omega (arith, ap length f))
step_length (fresh c) = simp (length-append, length_put) (omega arith)

pub runs_length : (k v : ℕ) (f : ℕ → Table) (x : ℕ) → v ≤ x → x < v + k → length (f x) ≤ length (lines_of (runs_from k v f))
unfolding runs_from
runs_length zero v f x g h = absurd (omega arith)
runs_length (suc k) v f x g h =
    let s : (length (f v) ≤ length (lines_of (runs_from (suc k) v f))) × (length (lines_of (runs_from k (suc v) f)) ≤ length (lines_of (runs_from (suc k) v f))) = step_length (step v v (f v) (runs_from k (suc v) f)) in
    by_test (eqb x v)
    (λ e. rw (eqb-true x v e) s.0)
    (λ e. let q : v < x = omega (arith, eqb-false x v e) in omega (arith, runs_length k (suc v) f x q (omega arith), s))

pub section_length : (w : ℕ) (ws : List ℕ) (S : Set) (v : ℕ) → v < w → length (table_of ws (section S v)) ≤ length (table_of (w ∷ ws) S)
unfolding table_of
section_length w ws S v h = runs_length w 0 (λ v. table_of ws (section S v)) v (omega arith) (omega arith)

-- The beginning of a table's first dimension has no more lines than the whole.
use Prim.Native.Nat.{ℕ, zero, suc, ◌≤◌}
use mathlib.Core.Bool.{◌&&◌}
use mathlib.Core.List.{List, [], ◌∷◌}
use lib.Dec.{eqb}
use native.Mathlib.Omega.{arith}
use lib.ListN.{length, length-append}
use Rattle.flows.specs.Table.{Set, Run, run, Table, eq_table, section, join_run, add_run, runs_from, lines_of, table_of}
use Rattle.text.proofs.Tests.{by_test, and_right}
use Rattle.flows.proofs.Equal.{eq_table_eq}
use Rattle.flows.proofs.Meaning.{length_put}

-- The first runs of a list, the last of them perhaps shorter there
pub data Begin : List Run → List Run → Type 0 where
  nil : {rs : List Run} → Begin [] rs
  more : {a b c : ℕ} {t : Table} {qs rs : List Run} → Begin qs rs → Begin (run a b t ∷ qs) (run a c t ∷ rs)

pub begin_one : (lo hi : ℕ) (t : Table) (rs : List Run) → Begin (run lo hi t ∷ []) (join_run lo hi t rs)
unfolding join_run
begin_one lo hi t [] = more nil
begin_one lo hi t (run a b u ∷ rs) =
    by_test (eqb a (suc hi) && eq_table t u)
    (λ e. rw (e, join_run, ← eq_table_eq t u (and_right (eqb a (suc hi)) _ e)) (more nil))
    (λ e. rw (e, join_run) (more nil))

pub begin_join : (lo hi : ℕ) (t : Table) {qs rs : List Run} → Begin qs rs → Begin (join_run lo hi t qs) (join_run lo hi t rs)
unfolding join_run
begin_join lo hi t (nil {rs = rs}) = begin_one lo hi t rs
begin_join lo hi t (more {a = a} {t = u} p) =
    by_test (eqb a (suc hi) && eq_table t u) (λ e. rw (e, join_run) (more p)) (λ e. rw (e, join_run) (more (more p)))

pub begin_add : (lo hi : ℕ) (t : Table) {qs rs : List Run} → Begin qs rs → Begin (add_run lo hi t qs) (add_run lo hi t rs)
unfolding add_run
begin_add lo hi [] p = p
begin_add lo hi (l ∷ t) p = begin_join lo hi (l ∷ t) p

pub begin_runs : (j k v : ℕ) (f : ℕ → Table) → j ≤ k → Begin (runs_from j v f) (runs_from k v f)
unfolding runs_from
begin_runs zero k v f h = nil
begin_runs (suc j) zero v f h = absurd (omega arith)
begin_runs (suc j) (suc k) v f h = begin_add v v (f v) (begin_runs j k (suc v) f (omega arith))

pub begin_length : {qs rs : List Run} → Begin qs rs → length (lines_of qs) ≤ length (lines_of rs)
unfolding lines_of
begin_length nil = omega arith
begin_length (more {a = a} {b = b} {c = c} {t = t} {qs = qs} {rs = rs} p) =
    simp (length-append, length_put) (omega (arith, begin_length p))

pub prefix_length : (ws : List ℕ) (S : Set) (v w : ℕ) → v ≤ w → length (table_of (v ∷ ws) S) ≤ length (table_of (w ∷ ws) S)
unfolding table_of
prefix_length ws S v w h = begin_length (begin_runs v w 0 (λ x. table_of ws (section S x)) h)

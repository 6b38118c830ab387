-- A pending run behind the lines that are laid down, whatever the buffer looks like: f gives the table of each value's section, w is the
-- dimension's width.
use Prim.Native.Nat.{ℕ, suc, ◌+◌, ◌-◌, ◌≤◌, ◌<◌}
use native.Mathlib.Omega.{arith}
use mathlib.Core.Path.{◌≡◌, refl, sym, ap, ◌∙◌}
use mathlib.Core.Bool.{true, ◌&&◌}
use mathlib.Core.List.{List, [], ◌∷◌, ◌++◌, append_assoc, append-nil, cons≢nil}
use lib.Dec.{eqb}
use lib.ListN.{length, length-append}
use borrow.Author.Tests.{eq-eqb}
use Rattle.flows.specs.Table.{◌to◌, Table, Run, run, eq_table, join_run, add_run, runs_from, put_before, lines_of}
use Rattle.text.proofs.Tests.{by_test, and_right, both}
use Rattle.flows.proofs.Equal.{eq_table_refl}
use Rattle.flows.proofs.Runs.{Apart, Step, skip, join, fresh, step, Good, runs_good, runs_run, runs_none, cons_fresh}
use Rattle.flows.proofs.Meaning.{length_put, step_length}

-- ---- one more interval behind a run
same_next : (hi : ℕ) (t : Table) → (eqb (suc hi) (suc hi) && eq_table t t) ≡ true
same_next hi t = both (eqb (suc hi) (suc hi)) (eq_table t t) (eq-eqb (suc hi) (suc hi) refl) (eq_table_refl t)

-- of the same table: one longer run
run_on : (lo hi e : ℕ) (t : Table) (rs : List Run) → add_run lo hi t (add_run (suc hi) e t rs) ≡ add_run lo e t rs
unfolding add_run join_run
run_on lo hi e [] rs = refl
run_on lo hi e (l ∷ t) [] = rw (same_next hi (l ∷ t), join_run)
run_on lo hi e (l ∷ t) (run a b u ∷ rs) =
    by_test (eqb a (suc e) && eq_table (l ∷ t) u)
    (λ h. let q : (eqb (suc hi) (suc hi) && eq_table (l ∷ t) u) ≡ true = both (eqb (suc hi) (suc hi)) (eq_table (l ∷ t) u) (eq-eqb (suc hi) (suc hi) refl) (and_right (eqb a (suc e)) (eq_table (l ∷ t) u) h) in
    rw (h, join_run) (rw q))
    (λ h. rw (h, join_run) (rw (same_next hi (l ∷ t), join_run)))

-- of another table: the run is closed
apart_far : (w e hi : ℕ) (t : Table) (rs : List Run) → suc hi ≤ e → Good w (suc e) rs → Apart hi t rs
apart_far w e hi t [] h g = tt
apart_far w e hi t (run a b u ∷ rs) h g = λ p q. omega (arith, g.0)

apart_step : (w : ℕ) {e hi : ℕ} {s : Table} {rs rs' : List Run} (t : Table) → Step (suc hi) e s rs rs' → suc hi ≤ e → Good w (suc e) rs → (t ≡ s → ⊥) → Apart hi t rs'
apart_step w {e} {hi} t (skip {rs = rs}) h g n = apart_far w e hi t rs h g
apart_step w t (join p f) h g n = λ a q. n (q ∙ sym f)
apart_step w t (fresh c) h g n = λ a q. n q

run_closed : (w lo hi e : ℕ) (t s : Table) (rs : List Run) → suc hi ≤ e → Good w (suc e) rs → (t ≡ s → ⊥) → lines_of (add_run lo hi t (add_run (suc hi) e s rs)) ≡ put_before (lo to hi) t ++ lines_of (add_run (suc hi) e s rs)
unfolding add_run lines_of put_before
run_closed w lo hi e [] s rs h g n = refl
run_closed w lo hi e (l ∷ t) s rs h g n =
    ap lines_of (cons_fresh lo hi (l ∷ t) (add_run (suc hi) e s rs) (λ q. cons≢nil q) (apart_step w (l ∷ t) (step (suc hi) e s rs) h g n))

run_last : (lo hi : ℕ) (t : Table) → lines_of (add_run lo hi t []) ≡ put_before (lo to hi) t
unfolding add_run join_run lines_of put_before
run_last lo hi [] = refl
run_last lo hi (l ∷ t) = append-nil (put_before (lo to hi) (l ∷ t))

least_lines : (lo hi : ℕ) (t : Table) (rs : List Run) → length t ≤ length (lines_of (add_run lo hi t rs))
least_lines lo hi t rs = (step_length (step lo hi t rs)).0

rest_lines : (lo hi : ℕ) (t : Table) (rs : List Run) → length (lines_of rs) ≤ length (lines_of (add_run lo hi t rs))
rest_lines lo hi t rs = (step_length (step lo hi t rs)).1

-- f is alike on an interval, from v to e
runs_next : (f : ℕ → Table) (w v e : ℕ) (s : Table) → v ≤ e → e < w → ((x : ℕ) → v ≤ x → x ≤ e → f x ≡ s) → runs_from (w - v) v f ≡ add_run v e s (runs_from (w - suc e) (suc e) f)
runs_next f w v e s h k g =
    runs_run (e - v) (w - suc e) v e (w - v) f (omega arith) (omega arith) (λ x a b. g x a b ∙ sym (g v (omega arith) h))
    ∙ ap (λ (t : Table). add_run v e t (runs_from (w - suc e) (suc e) f)) (g v (omega arith) h)

-- the lines laid down, the pending run and what comes behind it are the whole
pub record Pending (f : ℕ → Table) (w : ℕ) (whole done : Table) (lo hi : ℕ) (pend : Table) : Type 0 where
  pub all : done ++ lines_of (add_run lo hi pend (runs_from (w - suc hi) (suc hi) f)) ≡ whole
  pub rises : lo ≤ hi
  pub within : hi < w

pub pending_first : (f : ℕ → Table) (w : ℕ) (whole : Table) (hi : ℕ) (pend : Table) → whole ≡ lines_of (runs_from w 0 f) → hi < w → ((x : ℕ) → x ≤ hi → f x ≡ pend) → Pending f w whole [] 0 hi pend
pending_first f w whole hi pend wh k g =
    let z : w - 0 ≡ w = omega arith in
    record {
      all = sym (wh ∙ ap (λ (n : ℕ). lines_of (runs_from n 0 f)) (sym z) ∙ ap lines_of (runs_next f w 0 hi pend (omega arith) k (λ x a l. g x l)));
      rises = omega arith;
      within = k;
    }

module _ (f : ℕ → Table) (w : ℕ) (whole done : Table) (lo hi : ℕ) (pend : Table) (p : Pending f w whole done lo hi pend) where
  -- nothing comes behind it
  pub pending_last : w ≤ suc hi → done ++ put_before (lo to hi) pend ≡ whole
  pending_last h =
      let z : w - suc hi ≡ 0 = omega arith in
      ap (λ (x : Table). done ++ x) (sym (run_last lo hi pend) ∙ ap (λ (rs : List Run). lines_of (add_run lo hi pend rs)) (sym (runs_none (suc hi) f) ∙ ap (λ (n : ℕ). runs_from n (suc hi) f) (sym z))) ∙ p.all

  module _ (e : ℕ) (s : Table) (more : hi < e) (last : e < w) (alike : (x : ℕ) → hi < x → x ≤ e → f x ≡ s) where
    all_next : done ++ lines_of (add_run lo hi pend (add_run (suc hi) e s (runs_from (w - suc e) (suc e) f))) ≡ whole
    all_next = ap (λ (rs : List Run). done ++ lines_of (add_run lo hi pend rs)) (sym (runs_next f w (suc hi) e s more last alike)) ∙ p.all

    -- the next values have the same section
    pub pending_on : pend ≡ s → Pending f w whole done lo e pend
    pending_on q = record {
      all = ap (λ (rs : List Run). done ++ lines_of rs) (sym (run_on lo hi e pend (runs_from (w - suc e) (suc e) f)) ∙ ap (λ (t : Table). add_run lo hi pend (add_run (suc hi) e t (runs_from (w - suc e) (suc e) f))) q) ∙ all_next;
      rises = omega (arith, p.rises);
      within = last;
    }

    -- they have another
    pub pending_new : (pend ≡ s → ⊥) → Pending f w whole (done ++ put_before (lo to hi) pend) (suc hi) e s
    pending_new n = record {
      all = append_assoc done (put_before (lo to hi) pend) (lines_of (add_run (suc hi) e s (runs_from (w - suc e) (suc e) f)))
          ∙ ap (λ (x : Table). done ++ x) (sym (run_closed w lo hi e pend s (runs_from (w - suc e) (suc e) f) more (runs_good (w - suc e) (suc e) w f (omega arith)) n)) ∙ all_next;
      rises = more;
      within = last;
    }

    -- the whole is no shorter than the next section, and than what is laid down and the two sections where these differ
    pub pending_most : length s ≤ length whole
    pending_most =
        omega (
          arith,
          ap length (sym all_next) ∙ length-append done (lines_of (add_run lo hi pend (add_run (suc hi) e s (runs_from (w - suc e) (suc e) f)))),
          rest_lines lo hi pend (add_run (suc hi) e s (runs_from (w - suc e) (suc e) f)),
          least_lines (suc hi) e s (runs_from (w - suc e) (suc e) f),
        )

    pub pending_more : (pend ≡ s → ⊥) → length done + length pend + length s ≤ length whole
    pending_more n =
        omega (
          arith,
          ap length (sym (pending_new n).all) ∙ length-append (done ++ put_before (lo to hi) pend) (lines_of (add_run (suc hi) e s (runs_from (w - suc e) (suc e) f))),
          length-append done (put_before (lo to hi) pend),
          length_put (lo to hi) pend,
          least_lines (suc hi) e s (runs_from (w - suc e) (suc e) f),
        )

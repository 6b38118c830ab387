-- One dimension: the runs of consecutive values, and the table that they give back for each value.
use Prim.Native.Nat.{ℕ, zero, suc, ◌+◌, ◌-◌, ◌≤◌, ◌<◌}
use mathlib.Core.Path.{◌≡◌, refl, sym, ◌∙◌, subst}
use mathlib.Core.Bool.{true, false, ◌&&◌, cond}
use mathlib.Core.List.{List, [], ◌∷◌, cons≢nil}
use lib.Dec.{leb, eqb}
use native.Mathlib.Omega.{arith}
use borrow.Author.Tests.{leb-true, leb-false, eqb-true, eqb-false, le-leb, lt-leb, eq-eqb}
use Rattle.flows.specs.Table.{Run, run, Line, Table, in_range, eq_table, join_run, add_run, runs_from}
use Rattle.text.proofs.Tests.{by_test, and_left, and_right, both, clash}
use Rattle.flows.proofs.Equal.{eq_table_eq, eq_table_refl}

-- The three ways in which one more run is put in front
abbrev pub Apart : ℕ → Table → List Run → Type 0
Apart hi t [] = Unit {0}
Apart hi t (run a b u ∷ rs) = a ≡ suc hi → t ≡ u → ⊥

pub data Step (lo hi : ℕ) : Table → List Run → List Run → Type 0 where
  skip : {rs : List Run} → Step lo hi [] rs rs
  join : {l : Line} {t : Table} {a b : ℕ} {u : Table} {rs : List Run} → a ≡ suc hi → (l ∷ t) ≡ u → Step lo hi (l ∷ t) (run a b u ∷ rs) (run lo b u ∷ rs)
  fresh : {l : Line} {t : Table} {rs : List Run} → Apart hi (l ∷ t) rs → Step lo hi (l ∷ t) rs (run lo hi (l ∷ t) ∷ rs)

pub step : (lo hi : ℕ) (t : Table) (rs : List Run) → Step lo hi t rs (add_run lo hi t rs)
unfolding add_run join_run
step lo hi [] rs = skip
step lo hi (l ∷ t) [] = fresh tt
step lo hi (l ∷ t) (run a b u ∷ rs) =
    by_test (eqb a (suc hi) && eq_table (l ∷ t) u)
    (λ e. rw (e, join_run) (join (eqb-true a (suc hi) (and_left _ _ e)) (eq_table_eq (l ∷ t) u (and_right (eqb a (suc hi)) _ e))))
    (λ e. rw (e, join_run) (fresh {rs = run a b u ∷ rs} (λ p q. clash (both _ _ (eq-eqb a (suc hi) p) (subst (λ v. eq_table (l ∷ t) v ≡ true) q (eq_table_refl (l ∷ t)))) e)))

pub in_yes : (lo hi x : ℕ) → lo ≤ x → x ≤ hi → in_range lo hi x ≡ true
unfolding in_range
in_yes lo hi x h k = both (leb lo x) (leb x hi) (le-leb lo x h) (le-leb x hi k)

pub in_low : (lo hi x : ℕ) → x < lo → in_range lo hi x ≡ false
unfolding in_range
in_low lo hi x h = rw (lt-leb lo x h)

pub in_high : (lo hi x : ℕ) → hi < x → in_range lo hi x ≡ false
unfolding in_range
in_high lo hi x h = by_test (leb lo x) (λ e. rw (e, lt-leb x hi h)) (λ e. rw e)

pub in_lo : (lo hi x : ℕ) → in_range lo hi x ≡ true → lo ≤ x
unfolding in_range
in_lo lo hi x e = leb-true lo x (and_left (leb lo x) (leb x hi) e)

pub in_hi : (lo hi x : ℕ) → in_range lo hi x ≡ true → x ≤ hi
unfolding in_range
in_hi lo hi x e = leb-true x hi (and_right (leb lo x) (leb x hi) e)

-- The value that the runs give to x: the first that holds it
unfoldable pub look : List Run → ℕ → Table
look [] x = []
look (run lo hi t ∷ rs) x = cond (in_range lo hi x) t (look rs x)

abbrev pub NonEmpty : Table → Type 0
NonEmpty t = t ≡ [] → ⊥

-- Runs of values from n to below w, in rising order, none empty, and two that touch differ
abbrev pub Good : ℕ → ℕ → List Run → Type 0
Good w n [] = Unit {0}
Good w n (run lo hi t ∷ rs) = (n ≤ lo) × (lo ≤ hi) × (hi < w) × NonEmpty t × Apart hi t rs × Good w (suc hi) rs

pub weaken : (w m n : ℕ) (rs : List Run) → m ≤ n → Good w n rs → Good w m rs
weaken w m n [] h g = tt
weaken w m n (run lo hi t ∷ rs) h g = (omega arith, g.1, g.2, g.3, g.4, g.5)

pub step_good : {lo hi n w : ℕ} {t : Table} {rs rs' : List Run} → Step lo hi t rs rs' → n ≤ lo → lo ≤ hi → hi < w → Good w (suc hi) rs → Good w n rs'
step_good {lo} {hi} {n} {w} (skip {rs = rs}) h k j g = weaken w n (suc hi) rs (omega arith) g
step_good (join e f) h k j g = (h, omega arith, g.2, g.3, g.4, g.5)
step_good (fresh c) h k j g = (h, k, j, λ q. cons≢nil q, c, g)

pub runs_good : (k v w : ℕ) (f : ℕ → Table) → v + k ≡ w → Good w v (runs_from k v f)
unfolding runs_from
runs_good zero v w f h = tt
runs_good (suc k) v w f h = step_good (step v v (f v) (runs_from k (suc v) f)) (omega arith) (omega arith) (omega arith) (runs_good k (suc v) w f (omega arith))

pub look_low : (w n x : ℕ) (rs : List Run) → Good w n rs → x < n → look rs x ≡ []
unfolding look
look_low w n x [] g h = refl
look_low w n x (run lo hi t ∷ rs) g h = rw (in_low lo hi x (omega arith), look_low w (suc hi) x rs g.5 (omega arith))

pub look_high : (w n x : ℕ) (rs : List Run) → Good w n rs → w ≤ x → look rs x ≡ []
unfolding look
look_high w n x [] g h = refl
look_high w n x (run lo hi t ∷ rs) g h = rw (in_high lo hi x (omega arith), look_high w (suc hi) x rs g.5 h)

pub look_step : {lo hi : ℕ} {t : Table} {rs rs' : List Run} (w x : ℕ) → Step lo hi t rs rs' → lo ≤ hi → Good w (suc hi) rs → look rs' x ≡ cond (in_range lo hi x) t (look rs x)
unfolding look
look_step {lo} {hi} w x (skip {rs = rs}) h g =
    by_test (in_range lo hi x)
    (λ e. let p : x ≤ hi = in_hi lo hi x e in rw (e, look_low w (suc hi) x rs g (omega arith)))
    (λ e. rw e)
look_step {lo} {hi} w x (join {l = l} {t = t} {a = a} {b = b} {u = u} {rs = rs} q r) h g =
    by_test (in_range lo hi x)
    (λ e. let p : x ≤ hi = in_hi lo hi x e in rw (e, in_yes lo b x (in_lo lo hi x e) (omega arith)) (sym r))
    (λ e. rw e (by_test (in_range a b x)
    (λ d. let p : a ≤ x = in_lo a b x d in rw (d, in_yes lo b x (omega arith) (in_hi a b x d)))
    (λ d. rw d (by_test (in_range lo b x)
    (λ c. by_test (leb x hi)
    (λ m. clash (in_yes lo hi x (in_lo lo b x c) (leb-true x hi m)) e)
    (λ m. clash (in_yes a b x (omega (arith, leb-false x hi m)) (in_hi lo b x c)) d))
    (λ c. rw c)))))
look_step w x (fresh c) h g = refl

pub look_runs : (k v w x : ℕ) (f : ℕ → Table) → v + k ≡ w → v ≤ x → x < w → look (runs_from k v f) x ≡ f x
unfolding runs_from
look_runs zero v w x f h a b = absurd (omega arith)
look_runs (suc k) v w x f h a b =
    rw (look_step w x (step v v (f v) (runs_from k (suc v) f)) (omega arith) (runs_good k (suc v) w f (omega arith)))
    (by_test (eqb x v)
    (λ e. let q : x ≡ v = eqb-true x v e in rw (in_yes v v x a (omega arith), q))
    (λ e. let q : v < x = omega (arith, eqb-false x v e) in rw (in_high v v x q, look_runs k (suc v) w x f (omega arith) q b)))

-- A runs_from sees only the values that it passes
pub runs_same : (k v : ℕ) (f g : ℕ → Table) → ((x : ℕ) → v ≤ x → x < v + k → f x ≡ g x) → runs_from k v f ≡ runs_from k v g
unfolding runs_from
runs_same zero v f g h = refl
runs_same (suc k) v f g h = rw (h v (omega arith) (omega arith), runs_same k (suc v) f g (λ x a b. h x (omega arith) (omega arith)))

pub same_test : (v : ℕ) (t : Table) → (eqb (suc v) (suc v) && eq_table t t) ≡ true
same_test v t = both _ _ (eq-eqb (suc v) (suc v) refl) (eq_table_refl t)

-- One more value of the same section: the run is one longer
pub grow : (v e : ℕ) (t : Table) (rs : List Run) → add_run v v t (add_run (suc v) e t rs) ≡ add_run v e t rs
unfolding add_run join_run
grow v e [] rs = refl
grow v e (l ∷ t) [] = rw (same_test v (l ∷ t), join_run)
grow v e (l ∷ t) (run a b u ∷ rs) =
    by_test (eqb a (suc e) && eq_table (l ∷ t) u)
    (λ h. let q : (eqb (suc v) (suc v) && eq_table (l ∷ t) u) ≡ true = both _ _ (eq-eqb (suc v) (suc v) refl) (and_right (eqb a (suc e)) _ h) in
    rw (h, join_run) (rw q))
    (λ h. rw (h, join_run) (rw (same_test v (l ∷ t), join_run)))

pub runs_run : (d k v e n : ℕ) (f : ℕ → Table) → e ≡ v + d → n ≡ suc (d + k) → ((x : ℕ) → v ≤ x → x ≤ e → f x ≡ f v) → runs_from n v f ≡ add_run v e (f v) (runs_from k (suc e) f)
unfolding runs_from
runs_run zero k v e n f p q h =
    let p' : e ≡ v = omega arith in
    let q' : n ≡ suc k = omega arith in
    rw (p', q')
runs_run (suc d) k v e n f p q h =
    let q' : n ≡ suc (suc (d + k)) = omega arith in
    rw (q', runs_run d k (suc v) e (suc (d + k)) f (omega arith) refl (λ x a b. h x (omega arith) b ∙ sym (h (suc v) (omega arith) (omega arith))), h (suc v) (omega arith) (omega arith))
    (grow v e (f v) (runs_from k (suc e) f))

pub runs_gap : (d k v m n : ℕ) (f : ℕ → Table) → m ≡ v + d → n ≡ d + k → ((x : ℕ) → v ≤ x → x < m → f x ≡ []) → runs_from n v f ≡ runs_from k m f
unfolding runs_from add_run
runs_gap zero k v m n f p q h =
    let p' : m ≡ v = omega arith in
    let q' : n ≡ k = omega arith in
    rw (p', q')
runs_gap (suc d) k v m n f p q h =
    let q' : n ≡ suc (d + k) = omega arith in
    rw (q', h v (omega arith) (omega arith)) (runs_gap d k (suc v) m (d + k) f (omega arith) refl (λ x a b. h x (omega arith) b))

pub cons_fresh : (lo hi : ℕ) (t : Table) (rs : List Run) → NonEmpty t → Apart hi t rs → add_run lo hi t rs ≡ run lo hi t ∷ rs
unfolding add_run join_run
cons_fresh lo hi [] rs n a = absurd (n refl)
cons_fresh lo hi (l ∷ t) [] n a = refl
cons_fresh lo hi (l ∷ t) (run c d u ∷ rs) n a =
    by_test (eqb c (suc hi) && eq_table (l ∷ t) u)
    (λ e. absurd (a (eqb-true c (suc hi) (and_left _ _ e)) (eq_table_eq (l ∷ t) u (and_right (eqb c (suc hi)) _ e))))
    (λ e. rw (e, join_run))

pub runs_none : (v : ℕ) (f : ℕ → Table) → runs_from 0 v f ≡ []
unfolding runs_from
runs_none v f = refl

-- THE ONE LIST OF RUNS: good runs that give each value are the ones of `runs_from`
pub runs_unique : (rs : List Run) (k v w : ℕ) (f : ℕ → Table) → v + k ≡ w → Good w v rs → ((x : ℕ) → v ≤ x → x < w → f x ≡ look rs x) → runs_from k v f ≡ rs
unfolding look
runs_unique [] k v w f q g h = runs_gap k 0 v w k f (sym q) (omega arith) h ∙ runs_none w f
runs_unique (run lo hi t ∷ rs) k v w f q g h =
    runs_gap (lo - v) (w - lo) v lo k f (omega arith) (omega arith)
    (λ x a b. h x a (omega arith) ∙ rw (in_low lo hi x b, look_low w (suc hi) x rs g.5 (omega arith)))
    ∙ (runs_run (hi - lo) (w - suc hi) lo hi (w - lo) f (omega arith) (omega arith) (λ x a b. here x a b ∙ sym (here lo (omega arith) g.1))
    ∙ (rw (here lo (omega arith) g.1, runs_unique rs (w - suc hi) (suc hi) w f (omega arith) g.5 past) (cons_fresh lo hi t rs g.3 g.4)))
  where
    here : (x : ℕ) → lo ≤ x → x ≤ hi → f x ≡ t
    here x a b = h x (omega arith) (omega arith) ∙ rw (in_yes lo hi x a b)

    past : (x : ℕ) → suc hi ≤ x → x < w → f x ≡ look rs x
    past x a b = h x (omega arith) b ∙ rw (in_high lo hi x a)

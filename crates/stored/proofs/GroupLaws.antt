-- Laws of the groups of lines: which lines are of a group, and what the runs of a group are. Assumes nothing.
use Prim.Native.Nat.{ℕ, zero, suc, ◌≤◌, ◌<◌}
use mathlib.Core.Path.{◌≡◌, refl, ap, sym, ◌∙◌, subst}
use mathlib.Core.List.{List, [], ◌∷◌}
use mathlib.Core.Bool.{Bool, true, false, ◌&&◌}
use native.Mathlib.Omega.{arith}
use lib.ListN.{length, drop}
use lib.Seq.{drop-cons}
use lib.Dec.{eqb, leb}
use borrow.Author.Tests.{eq-eqb, eqb-true, leb-true, leb-false, le-leb, lt-leb}
use Rattle.text.proofs.Tests.{by_test, and_left, and_right, both, clash}
use Rattle.flows.specs.Table.{Range, ◌to◌, Run, run, Line, Table, eq_range}
use Rattle.flows.specs.Canonical.{group, push, AllLines, low_end, high_end}
use Rattle.flows.proofs.Equal.{eq_range_eq, eq_range_refl}
use Rattle.stored.specs.Text.{nth}
use Rattle.stored.specs.Groups.{differ_of, under, past}

-- ## two lines

pub differ_sym : (x y : Line) → differ_of x y ≡ differ_of y x
unfolding differ_of
differ_sym [] [] = refl
differ_sym [] (r ∷ y) = refl
differ_sym (r ∷ x) [] = refl
differ_sym (r ∷ x) (q ∷ y) =
    by_test (eq_range r q)
    (λ e. rw (eq_range_eq r q e, differ_of, eq_range_refl q, differ_sym x y))
    (λ e. by_test (eq_range q r) (λ f. clash (subst (λ z. eq_range z q ≡ true) (eq_range_eq q r f) (eq_range_refl q)) e) (λ f. rw (e, f, differ_of)))

pub differ_self : (x : Line) → differ_of x x ≡ length x
unfolding differ_of
differ_self [] = refl
differ_self (r ∷ x) = rw (eq_range_refl r, differ_of, differ_self x)

pub differ_within : (x y : Line) → differ_of x y ≤ length x
unfolding differ_of
differ_within [] y = omega arith
differ_within (r ∷ x) [] = omega arith
differ_within (r ∷ x) (q ∷ y) = by_test (eq_range r q) (λ e. rw (e, differ_of) (omega (arith, differ_within x y))) (λ e. rw (e, differ_of) (omega arith))

pub alike_trans : (d : ℕ) (x y z : Line) → d ≤ differ_of x y → d ≤ differ_of y z → d ≤ differ_of x z
unfolding differ_of
alike_trans zero x y z h k = omega arith
alike_trans (suc d) [] y z h k = absurd (omega arith)
alike_trans (suc d) (r ∷ x) [] z h k = absurd (omega arith)
alike_trans (suc d) (r ∷ x) (q ∷ y) [] h k = absurd (omega arith)
alike_trans (suc d) (r ∷ x) (q ∷ y) (p ∷ z) h k = go (eq_range r q) (eq_range q p) refl refl h k (alike_trans d x y z)
  where
    go : (a b : Bool) → eq_range r q ≡ a → eq_range q p ≡ b → suc d ≤ elim a [ true ↦ suc (differ_of x y) | false ↦ zero ] → suc d ≤ elim b [ true ↦ suc (differ_of y z) | false ↦ zero ] → (d ≤ differ_of x y → d ≤ differ_of y z → d ≤ differ_of x z) → suc d ≤ elim (eq_range r p) [ true ↦ suc (differ_of x z) | false ↦ zero ]
    go false b e f h k m = absurd (omega arith)
    go true false e f h k m = absurd (omega arith)
    go true true e f h k m =
        let g : eq_range r p ≡ true = subst (λ w. eq_range w p ≡ true) (sym (eq_range_eq r q e)) f in
        let n : d ≤ differ_of x z = m (omega arith) (omega arith) in rw g (omega arith)

-- of two lines that agree before range d, both agree with a third before it, or neither does
pub alike_swap : (d : ℕ) (x y z : Line) → d ≤ differ_of x y → leb d (differ_of y z) ≡ leb d (differ_of x z)
alike_swap d x y z h =
    by_test (leb d (differ_of y z))
    (λ e. e ∙ sym (le-leb d (differ_of x z) (alike_trans d x y z h (leb-true d (differ_of y z) e))))
    (λ e. by_test (leb d (differ_of x z))
    (λ f. clash (le-leb d (differ_of y z) (alike_trans d y x z (rw (differ_sym y x) h) (leb-true d (differ_of x z) f))) e)
    (λ f. e ∙ sym f))

leb_suc : (a b : ℕ) → leb (suc a) (suc b) ≡ leb a b
leb_suc a b =
    by_test (leb a b)
    (λ e. rw e (le-leb (suc a) (suc b) (omega (arith, leb-true a b e))))
    (λ e. rw e (lt-leb (suc a) (suc b) (omega (arith, leb-false a b e))))

-- one range more
pub differ_more : (d : ℕ) (x y : Line) → d < length x → d < length y → leb (suc d) (differ_of x y) ≡ (leb d (differ_of x y) && eq_range (nth x d) (nth y d))
unfolding differ_of nth
differ_more d [] y h k = absurd (omega arith)
differ_more d (r ∷ x) [] h k = absurd (omega arith)
differ_more zero (r ∷ x) (q ∷ y) h k = by_test (eq_range r q) (λ e. rw (e, differ_of, le-leb 1 (suc (differ_of x y)) (omega arith), le-leb 0 (suc (differ_of x y)) (omega arith))) (λ e. rw (e, differ_of))
differ_more (suc d) (r ∷ x) (q ∷ y) h k = by_test (eq_range r q) (λ e. rw (e, differ_of) (leb_suc (suc d) (differ_of x y) ∙ (differ_more d x y (omega arith) (omega arith) ∙ ap (λ b. b && eq_range (nth x d) (nth y d)) (sym (leb_suc d (differ_of x y)))))) (λ e. rw (e, differ_of, lt-leb (suc (suc d)) 0 (omega arith), lt-leb (suc d) 0 (omega arith)))

pub nth_same : (d : ℕ) (x y : Line) → d < length x → d < length y → suc d ≤ differ_of x y → nth x d ≡ nth y d
nth_same d x y h k l = eq_range_eq _ _ (and_right (leb d (differ_of x y)) _ (sym (differ_more d x y h k) ∙ le-leb _ _ l))

pub nth_other : (d : ℕ) (x y : Line) → d < length x → d < length y → d ≤ differ_of x y → differ_of x y < suc d → eq_range (nth x d) (nth y d) ≡ false
nth_other d x y h k l m =
    by_test (eq_range (nth x d) (nth y d))
    (λ e. clash (differ_more d x y h k ∙ both _ _ (le-leb _ _ l) e) (lt-leb _ _ m))
    (λ e. e)

-- ## the lines of a group
module _ (d : ℕ) (x y : Line) (t : Table) where
  pub under_in : d ≤ differ_of x y → under d x (y ∷ t) ≡ drop d y ∷ under d x t
  unfolding under
  under_in h = rw (under, le-leb _ _ h)

  pub under_out : differ_of x y < d → under d x (y ∷ t) ≡ []
  unfolding under
  under_out h = rw (under, lt-leb _ _ h)

  pub past_in : d ≤ differ_of x y → past d x (y ∷ t) ≡ past d x t
  unfolding past
  past_in h = rw (past, le-leb _ _ h)

  pub past_out : differ_of x y < d → past d x (y ∷ t) ≡ y ∷ t
  unfolding past
  past_out h = rw (past, lt-leb _ _ h)

-- the first line after a group is not of it
pub past_head : (d : ℕ) (x y : Line) (t u : Table) → past d x t ≡ y ∷ u → differ_of x y < d
unfolding past
past_head d x y [] u e = absurd (let z : ◌≡◌ {A = ℕ} 0 1 = cc in omega arith)
past_head d x y (l ∷ t) u e =
    by_test (leb d (differ_of x l))
    (λ f. past_head d x y t u (sym (past_in d x l t (leb-true d (differ_of x l) f)) ∙ e))
    (λ f. let g : l ∷ t ≡ y ∷ u = sym (past_out d x l t (leb-false d (differ_of x l) f)) ∙ e in
    let q : l ≡ y = cc in subst (λ (z : Line). differ_of x z < d) q (leb-false d (differ_of x l) f))

by_le {ℓ} : {P : Type ℓ} (d n : ℕ) → (d ≤ n → P) → (n < d → P) → P
by_le d n f g = by_test (leb d n) (λ e. f (leb-true d n e)) (λ e. g (leb-false d n e))

pub group_head : (r : Range) (m : Line) (u : Table) → group ((r ∷ m) ∷ u) ≡ push (low_end r) (high_end r) m (group u)
unfolding group
group_head (a to b) m u = refl

push_same : (a b : ℕ) (m : Line) (t : Table) (rs : List Run) → push a b m (run a b t ∷ rs) ≡ run a b (m ∷ t) ∷ rs
unfolding push
push_same a b m t rs = rw (both (eqb a a) (eqb b b) (eq-eqb a a refl) (eq-eqb b b refl), push)

push_apart : (p q : Range) (m n : Line) (rs : List Run) → eq_range p q ≡ false → push (low_end p) (high_end p) m (push (low_end q) (high_end q) n rs) ≡ run (low_end p) (high_end p) (m ∷ []) ∷ push (low_end q) (high_end q) n rs
unfolding push eq_range
push_apart (a to b) (c to d) m n [] e = rw (e, push)
push_apart (a to b) (c to d) m n (run f g t ∷ rs) e =
    by_test (eqb c f && eqb d g)
    (λ h. let u : c ≡ f = eqb-true c f (and_left _ _ h) in let v : d ≡ g = eqb-true d g (and_right (eqb c f) _ h) in
    let w : (eqb a f && eqb b g) ≡ false = rw (u, v) at e in rw (h, push, w))
    (λ h. rw (h, push, e))

abbrev pub Six : Line → Type 0
Six l = length l ≡ 6

cons_of : (d : ℕ) (x : Line) → d < length x → drop d x ≡ nth x d ∷ drop (suc d) x
unfolding nth
cons_of d x h = drop-cons x d (0 to 0) h

-- the first run of the lines of a group, and the runs after it
module _ (d : ℕ) (l y : Line) (n : d < 6) (ly : d ≤ differ_of l y) (sy : Six y) where
  first_line : (x : Line) (t : Table) → Six x → suc d ≤ differ_of y x → under d l (x ∷ t) ≡ (nth y d ∷ drop (suc d) x) ∷ under d l t
  first_line x t sx h =
      under_in d l x t (alike_trans d l y x ly (omega arith))
      ∙ rw (cons_of d x (omega arith), nth_same d y x (omega arith) (omega arith) h)

  pub group_under : (x : Line) (t : Table) → Six x → AllLines Six t → suc d ≤ differ_of y x → group (under d l (x ∷ t)) ≡ run (low_end (nth y d)) (high_end (nth y d)) (drop (suc d) x ∷ under (suc d) y t) ∷ group (under d l (past (suc d) y t))
  unfolding under past group push
  group_under x [] sx a h = rw (first_line x [] sx h, group_head)
  group_under x (z ∷ t) sx a h =
      by_le (suc d) (differ_of y z)
      (λ k. rw (first_line x (z ∷ t) sx h, group_head, under_in (suc d) y z t k, past_in (suc d) y z t k, group_under z t a.0 a.1 k)
      (push_same (low_end (nth y d)) (high_end (nth y d)) (drop (suc d) x) (drop (suc d) z ∷ under (suc d) y t) (group (under d l (past (suc d) y t)))))
      (λ k. rw (first_line x (z ∷ t) sx h, group_head, under_out (suc d) y z t k, past_out (suc d) y z t k)
      (by_le d (differ_of l z)
      (λ j. let b : d ≤ differ_of y l = rw (differ_sym y l) ly in
      rw (under_in d l z t j, cons_of d z (omega (arith, a.0)), group_head)
      (push_apart (nth y d) (nth z d) (drop (suc d) x) (drop (suc d) z) (group (under d l t)) (nth_other d y z (omega arith) (omega (arith, a.0)) (alike_trans d y l z b j) k)))
      (λ j. rw (under_out d l z t j))))

  pub past_past : (t : Table) → past d l t ≡ past d l (past (suc d) y t)
  unfolding past
  past_past [] = refl
  past_past (z ∷ t) =
      by_le (suc d) (differ_of y z)
      (λ k. rw (past_in (suc d) y z t k, past_in d l z t (alike_trans d l y z ly (omega arith)), past_past t))
      (λ k. rw (past_out (suc d) y z t k))

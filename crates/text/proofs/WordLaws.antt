-- Laws of `specs/Words.antt`. Assumes nothing.
use Prim.Native.Nat.{ℕ}
use mathlib.Core.Path.{◌≡◌, refl, sym, ◌∙◌}
use mathlib.Core.Logic.{◌↔◌}
use mathlib.Core.List.{List, [], ◌∷◌}
use mathlib.Core.Bool.{true, false}
use lib.Dec.{eqb}
use lib.ListN.{length, drop, take}
use lib.Pointwise.{pointwise}
use borrow.Author.Rules.{rules}
use borrow.Author.Tests.{eqb-true, eqb-false, eq-eqb, ne_eqb}
use Rattle.text.specs.Words.{starts, has_at, same_bytes}
use Rattle.text.proofs.Tests.{and_left, and_right, by_test, clash}

-- two texts are the same just when they are equal
same_equal : (a b : List ℕ) → same_bytes a b ≡ true → a ≡ b
same_equal [] [] h = refl
same_equal [] (y ∷ b) h = clash {b = false} h refl
same_equal (x ∷ a) [] h = clash {b = false} h refl
same_equal (x ∷ a) (y ∷ b) h =
    let e : x ≡ y = eqb-true x y (and_left (eqb x y) (same_bytes a b) h) in
    let t : a ≡ b = same_equal a b (and_right (eqb x y) (same_bytes a b) h) in
    cc

same_refl : (a : List ℕ) → same_bytes a a ≡ true
same_refl [] = refl
same_refl (x ∷ a) = rw (eq-eqb x x refl) (same_refl a)

pub same_iff : (a b : List ℕ) → same_bytes a b ≡ true ↔ a ≡ b
same_iff a b = (same_equal a b, λ e. rw e (same_refl b))

-- ## `begins`
eqb_swap : (x y : ℕ) → eqb x y ≡ eqb y x
eqb_swap x y =
    by_test (eqb x y)
    (λ e. let q : x ≡ y = eqb-true x y e in e ∙ sym (eq-eqb y x (sym q)))
    (λ e. e ∙ sym (ne_eqb y x (λ q. eqb-false x y e (sym q))))

starts_is : (w s : List ℕ) → pointwise eqb w (take (length w) s) ≡ starts w s
starts_is [] s = refl
starts_is (x ∷ w) [] = refl
starts_is (x ∷ w) (y ∷ s) = rw (eqb_swap x y, starts_is w s)

-- what `starts_with` says of the bytes from a place on
pub begins_here : (s : List ℕ) (at : ℕ) (w : List ℕ) {t : List ℕ} → t ≡ drop at s → pointwise eqb w (take (length w) t) ≡ has_at s at w
unfolding has_at
begins_here s at w e = rw e (starts_is w (drop at s))

pub ruleset comparing = (rules, begins_here)

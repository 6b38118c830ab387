-- Laws of two lines, one after the other. Assumes nothing.
use Prim.Native.Nat.{ℕ, zero, suc, ◌+◌, ◌*◌, ◌/◌, ◌%◌, ◌≤◌, ◌<◌}
use native.Mathlib.Omega.{arith}
use mathlib.Core.Path.{◌≡◌, refl, ◌∙◌}
use mathlib.Core.Bool.{true, false}
use lib.Dec.{eqb, leb}
use lib.ListN.{length, get_or}
use borrow.Author.Rules.{rules}
use borrow.Author.Tests.{eqb-true, leb-true, leb-false, le-leb}
use Rattle.text.proofs.Tests.{by_test, and_left, and_right}
use Rattle.flows.specs.Table.{Line, eq_range}
use Rattle.flows.proofs.Equal.{eq_range_refl}
use Rattle.stored.specs.declared.lines.Line as struct
use Rattle.stored.specs.Line.{words, ranges}
use Rattle.stored.specs.Text.{nth}
use Rattle.stored.specs.Words.{range_of}
use Rattle.stored.specs.Groups.{differ_of}
use Rattle.stored.specs.Marks.{step_of, Related}
use Rattle.stored.proofs.GroupLaws.{differ_more, differ_within}

-- two ranges are the same where their words are
pub same_word : (x y : ℕ) → x ≡ y → eq_range (range_of x) (range_of y) ≡ true
same_word x y q = rw q (eq_range_refl (range_of y))

pub other_word : (x y : ℕ) → (x ≡ y → ⊥) → eq_range (range_of x) (range_of y) ≡ false
unfolding eq_range
other_word x y f =
    by_test (eq_range (range_of x) (range_of y))
    (λ e. absurd (f (let a : x / 4294967296 ≡ y / 4294967296 = eqb-true (x / 4294967296) (y / 4294967296) (and_left _ _ e) in
    let b : x % 4294967296 ≡ y % 4294967296 = eqb-true (x % 4294967296) (y % 4294967296) (and_right (eqb (x / 4294967296) (y / 4294967296)) _ e) in omega arith)))
    (λ e. e)

-- ## the first dimension in which two lines differ
related : (x y : Line) (k z : ℕ) → differ_of x y ≡ k → k ≤ 6 → z ≡ step_of (nth x k) (nth y k) → z ≤ 2 → Related x y (z * 8 + k)
related x y k z e h q l = record {
  dimension = omega (arith, e);
  step = let a : (z * 8 + k) / 8 ≡ z = omega arith in a ∙ (q ∙ rw e);
  small = omega arith;
}

word_at : (l : struct.Line) (d : ℕ) → d < 6 → nth (ranges l) d ≡ range_of (get_or (words l) d 0)
unfolding ranges nth
word_at l zero h = refl
word_at l (suc zero) h = refl
word_at l (suc (suc zero)) h = refl
word_at l (suc (suc (suc zero))) h = refl
word_at l (suc (suc (suc (suc zero)))) h = refl
word_at l (suc (suc (suc (suc (suc zero))))) h = refl
word_at l (suc (suc (suc (suc (suc (suc d)))))) h = absurd (omega arith)

module _ (a b : struct.Line) where
  six_a : length (ranges a) ≡ 6
  unfolding ranges
  six_a = refl

  six_b : length (ranges b) ≡ 6
  unfolding ranges
  six_b = refl

  module _ (d : ℕ) (h : d < 6) (l : d ≤ differ_of (ranges a) (ranges b)) where
    one_more : leb (suc d) (differ_of (ranges a) (ranges b)) ≡ eq_range (range_of (get_or (words a) d 0)) (range_of (get_or (words b) d 0))
    one_more = differ_more d (ranges a) (ranges b) (omega (arith, six_a)) (omega (arith, six_b)) ∙ rw (le-leb d (differ_of (ranges a) (ranges b)) l, word_at a d h, word_at b d h)

    pub related_on : get_or (words a) d 0 ≡ get_or (words b) d 0 → d + 1 ≤ differ_of (ranges a) (ranges b)
    related_on q = omega (arith, leb-true (suc d) (differ_of (ranges a) (ranges b)) (one_more ∙ same_word _ _ q))

    pub related_here : (get_or (words a) d 0 ≡ get_or (words b) d 0 → ⊥) → (z : ℕ) → z ≡ step_of (range_of (get_or (words a) d 0)) (range_of (get_or (words b) d 0)) → z ≤ 2 → Related (ranges a) (ranges b) (z * 8 + d)
    related_here f z q m =
        let e : differ_of (ranges a) (ranges b) < suc d = leb-false (suc d) (differ_of (ranges a) (ranges b)) (one_more ∙ other_word _ _ f) in
        related (ranges a) (ranges b) d z (omega arith) (omega arith) (q ∙ rw (word_at a d h, word_at b d h)) m

  pub related_none : 6 ≤ differ_of (ranges a) (ranges b) → Related (ranges a) (ranges b) 6
  unfolding ranges nth step_of
  related_none l = related (ranges a) (ranges b) 6 0 (omega (arith, l, differ_within (ranges a) (ranges b), six_a)) (omega arith) refl (omega arith)

pub ruleset relating = (rules, related_on, related_here, related_none)

-- Laws of the tree at a place, by the byte that stands there. Assumes nothing.
use Prim.Native.Nat.{ℕ, zero, suc, ◌+◌, ◌-◌}
use mathlib.Core.Path.{◌≡◌, ap, sym, ◌∙◌}
use mathlib.Core.List.{List}
use mathlib.Core.Bool.{true, false}
use native.Mathlib.Omega.{arith}
use lib.ListN.{get_or}
use lib.Dec.{eqb, ltb}
use borrow.Author.Tests.{eqb-true}
use Rattle.text.specs.Bytes.{is_digit}
use Rattle.text.proofs.Tests.{cond_cases}
use Rattle.jsontext.specs.declared.Start.{Start}
use Rattle.jsontext.specs.Reading.{span_at, number_at, start_of}
use Rattle.values.specs.Decode.{bytes_at}
use Rattle.values.specs.Tree.{Json, null, bool, integer, real, string, array, object, Elements, Members, end_of, elements_at, members_at, elements_of, members_of, number_of, tree_by, tree_at}

-- what can stand at a place
pub number_cases : (P : Json → Type 0) (s : List ℕ) (at : ℕ) → ((n : ℕ) → P (integer n)) → P real → P (number_of s at)
unfolding number_of
number_cases P s at f r =
    cond_cases P (ltb at (span_at is_digit s at)) (λ q. cond_cases P (eqb (end_of (number_at s at)) (span_at is_digit s at)) (λ u. f _) (λ u. r)) (λ q. r)

pub tree_cases : (P : Json → Type 0) (s : List ℕ) (at b : ℕ) (arr : ℕ → Elements) (obj : ℕ → Members) → (b ≡ 91 → P (array (arr (at + 1)))) → (b ≡ 123 → P (object (obj (at + 1)))) → (b ≡ 34 → P (string (bytes_at s (at + 1)))) → (b ≡ 116 → P (bool true)) → (b ≡ 102 → P (bool false)) → (b ≡ 110 → P null) → P real → (b ≡ 45 → P (number_of s at)) → (is_digit b ≡ true → P (number_of s at)) → P (tree_by (start_of b) s at arr obj)
unfolding start_of
tree_cases P s at b arr obj a o t y n z r m d =
    cond_cases Q (eqb b 91) (λ q. a (eqb-true _ _ q))
    (λ q. cond_cases Q (eqb b 123) (λ q. o (eqb-true _ _ q))
    (λ q. cond_cases Q (eqb b 34) (λ q. t (eqb-true _ _ q))
    (λ q. cond_cases Q (eqb b 116) (λ q. y (eqb-true _ _ q))
    (λ q. cond_cases Q (eqb b 102) (λ q. n (eqb-true _ _ q))
    (λ q. cond_cases Q (eqb b 110) (λ q. z (eqb-true _ _ q))
    (λ q. cond_cases Q (eqb b 45) (λ q. m (eqb-true _ _ q))
    (λ q. cond_cases Q (is_digit b) (λ q. d q) (λ q. r))))))))
  where
    Q : Start → Type 0
    Q k = P (tree_by k s at arr obj)

pub tree_kinds : (P : Json → Type 0) (d : ℕ) (s : List ℕ) (at b : ℕ) → b ≡ get_or s at 0 → (b ≡ 91 → (es : Elements) → P (array es)) → (b ≡ 123 → (ms : Members) → P (object ms)) → (b ≡ 34 → P (string (bytes_at s (at + 1)))) → (b ≡ 116 → P (bool true)) → (b ≡ 102 → P (bool false)) → (b ≡ 110 → P null) → ((n : ℕ) → P (integer n)) → P real → P (tree_at d s at)
unfolding tree_at
tree_kinds P d s at b e a o t y n z m r = go d
  where
    num : P (number_of s at)
    num = number_cases P s at m r

    by : (arr : ℕ → Elements) (obj : ℕ → Members) → P (tree_by (start_of (get_or s at 0)) s at arr obj)
    by arr obj = tree_cases P s at (get_or s at 0) arr obj (λ q. a (e ∙ q) _) (λ q. o (e ∙ q) _) (λ q. t (e ∙ q)) (λ q. y (e ∙ q)) (λ q. n (e ∙ q)) (λ q. z (e ∙ q)) r (λ q. num) (λ q. num)

    go : (k : ℕ) → P (tree_at k s at)
    go zero = by _ _
    go (suc k) = by _ _

-- by what its first byte begins
pub tree_start : (P : Json → Type 0) (d : ℕ) (s : List ℕ) (at : ℕ) (k : Start) → start_of (get_or s at 0) ≡ k → ((arr : ℕ → Elements) (obj : ℕ → Members) → P (tree_by k s at arr obj)) → P (tree_at d s at)
unfolding tree_at
tree_start P zero s at k e f = rw e (f _ _)
tree_start P (suc d) s at k e f = rw e (f _ _)

suc_of : (d : ℕ) → (d ≡ 0 → ⊥) → suc (d - 1) ≡ d
suc_of d f = omega arith

-- a value by its first byte
pub tree_string : (d : ℕ) (s : List ℕ) (at : ℕ) {b : ℕ} → b ≡ get_or s at 0 → b ≡ 34 → tree_at d s at ≡ string (bytes_at s (at + 1))
unfolding tree_at start_of
tree_string zero s at e q = rw (← e, q)
tree_string (suc d) s at e q = rw (← e, q)

pub tree_array : (d : ℕ) (s : List ℕ) (at : ℕ) → (d ≡ 0 → ⊥) → {b : ℕ} → b ≡ get_or s at 0 → b ≡ 91 → tree_at d s at ≡ array (elements_of (tree_at (d - 1) s) s (elements_at (d - 1) s (at + 1)))
unfolding tree_at start_of
tree_array d s at f e q = ap (λ (k : ℕ). tree_at k s at) (sym (suc_of d f)) ∙ rw (← e, q)

pub tree_object : (d : ℕ) (s : List ℕ) (at : ℕ) → (d ≡ 0 → ⊥) → {b : ℕ} → b ≡ get_or s at 0 → b ≡ 123 → tree_at d s at ≡ object (members_of (tree_at (d - 1) s) s (members_at (d - 1) s (at + 1)))
unfolding tree_at start_of
tree_object d s at f e q = ap (λ (k : ℕ). tree_at k s at) (sym (suc_of d f)) ∙ rw (← e, q)

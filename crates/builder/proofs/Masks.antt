-- Masks by the rules that they have: what narrowing a mask does to the rules, and the rules' table.
use Prim.Native.Nat.{ℕ, zero, suc, ◌+◌, ◌*◌, ◌/◌, ◌%◌, ◌≤◌, ◌<◌, min}
use native.Mathlib.Nat.{mod-lt, zero-lt-suc}
use native.Mathlib.Omega.{arith}
use mathlib.Core.Path.{◌≡◌, refl, sym, ap, ap₂, ◌∙◌}
use mathlib.Core.Bool.{Bool, true, false, cond, ◌&&◌, not}
use mathlib.Core.List.{List, [], ◌∷◌}
use lib.Dec.{eqb, ltb}
use lib.ListN.{drop, get_or}
use lib.Seq.{get_or-drop, drop-drop}
use lib.Bits.{bit_and, and_step, and_zero_r}
use lib.Arith.{digits_div, digits_mod}
use borrow.Author.Rules.{rules}
use borrow.Author.Tests.{ltb-true, eqb-true, eqb-false, eq-eqb, ne_eqb}
use Rattle.flows.specs.Table.{Range, ◌to◌, in_range}
use Rattle.flows.specs.Rules.{in_some, in_all}
use Rattle.text.proofs.Tests.{by_test}
use Rattle.builder.specs.Encoding.{low_of, high_of, range_of, range_if, named_by, name_limits, at_most_seven, limits_of}
use Rattle.builder.specs.Cells.{bit_of, near_of, meets_all}

-- ---- one bit and the others
pub bit_mod : (b : Bool) (m : ℕ) → (bit_of b + 2 * m) % 2 ≡ bit_of b
bit_mod true m = let q : 1 + 2 * m ≡ m * 2 + 1 = omega arith in ap (λ (x : ℕ). x % 2) q ∙ digits_mod m (omega arith)
bit_mod false m = let q : 0 + 2 * m ≡ m * 2 + 0 = omega arith in ap (λ (x : ℕ). x % 2) q ∙ digits_mod m (omega arith)

pub bit_div : (b : Bool) (m : ℕ) → (bit_of b + 2 * m) / 2 ≡ m
bit_div true m = let q : 1 + 2 * m ≡ m * 2 + 1 = omega arith in ap (λ (x : ℕ). x / 2) q ∙ digits_div m (omega arith)
bit_div false m = let q : 0 + 2 * m ≡ m * 2 + 0 = omega arith in ap (λ (x : ℕ). x / 2) q ∙ digits_div m (omega arith)

pub bit_is : (b : Bool) → eqb (bit_of b) 1 ≡ b
bit_is true = refl
bit_is false = refl

min_bit : (x : ℕ) (b : Bool) → x < 2 → min x (bit_of b) < 2
min_bit zero b h = omega arith
min_bit (suc x) true h = omega arith
min_bit (suc x) false h = omega arith

pub and_bits : (m : ℕ) (b : Bool) (n : ℕ) → bit_and m (bit_of b + 2 * n) ≡ bit_and (m / 2) n * 2 + min (m % 2) (bit_of b)
and_bits m b n = and_step m (bit_of b + 2 * n) ∙ ap₂ (λ (x y : ℕ). bit_and (m / 2) x * 2 + min (m % 2) y) (bit_div b n) (bit_mod b n)

pub and_mod : (m : ℕ) (b : Bool) (n : ℕ) → bit_and m (bit_of b + 2 * n) % 2 ≡ min (m % 2) (bit_of b)
and_mod m b n = ap (λ (x : ℕ). x % 2) (and_bits m b n) ∙ digits_mod (bit_and (m / 2) n) (min_bit (m % 2) b (mod-lt m (zero-lt-suc 1)))

pub and_div : (m : ℕ) (b : Bool) (n : ℕ) → bit_and m (bit_of b + 2 * n) / 2 ≡ bit_and (m / 2) n
and_div m b n = ap (λ (x : ℕ). x / 2) (and_bits m b n) ∙ digits_div (bit_and (m / 2) n) (min_bit (m % 2) b (mod-lt m (zero-lt-suc 1)))

min_digit : (x : ℕ) (b : Bool) → x < 2 → eqb (min x (bit_of b)) 1 ≡ (eqb x 1 && b)
min_digit zero true h = refl
min_digit zero false h = refl
min_digit (suc zero) true h = refl
min_digit (suc zero) false h = refl
min_digit (suc (suc x)) b h = absurd (omega arith)

pub and_has : (m : ℕ) (b : Bool) (n : ℕ) → eqb (bit_and m (bit_of b + 2 * n) % 2) 1 ≡ (eqb (m % 2) 1 && b)
and_has m b n = ap (λ (x : ℕ). eqb x 1) (and_mod m b n) ∙ min_digit (m % 2) b (mod-lt m (zero-lt-suc 1))

-- ---- names: a mask meets the networks that hold v where one that it names holds v
twice_zero : (x : ℕ) → eqb (x * 2 + 0) 0 ≡ eqb x 0
twice_zero x = by_test (eqb x 0)
    (λ e. rw e (eq-eqb (x * 2 + 0) 0 (omega (arith, eqb-true x 0 e))))
    (λ e. rw e (ne_eqb (x * 2 + 0) 0 (λ q. eqb-false x 0 e (omega arith))))

named_case : (d : ℕ) (b : Bool) (x lo hi : ℕ) (rs : List Range) (v : ℕ) → d < 2 → in_range lo hi v ≡ b → in_some rs v ≡ not (eqb x 0)
    → in_some (range_if (eqb d 1) (lo to hi) rs) v ≡ not (eqb (x * 2 + min d (bit_of b)) 0)
unfolding in_some range_if
named_case zero true x lo hi rs v h e f = f ∙ ap not (sym (twice_zero x))
named_case zero false x lo hi rs v h e f = f ∙ ap not (sym (twice_zero x))
named_case (suc zero) true x lo hi rs v h e f = rw (e, ne_eqb (x * 2 + 1) 0 (omega arith))
named_case (suc zero) false x lo hi rs v h e f = rw e (f ∙ ap not (sym (twice_zero x)))
named_case (suc (suc d)) b x lo hi rs v h e f = absurd (omega arith)

pub named_near : (nets : List ℕ) (m v : ℕ) → in_some (named_by m nets) v ≡ not (eqb (bit_and m (near_of nets v)) 0)
unfolding named_by near_of in_some
named_near [] m v = rw (and_zero_r m)
named_near (w ∷ ws) m v =
    named_case (m % 2) (in_range (low_of w) (high_of w) v) (bit_and (m / 2) (near_of ws v)) (low_of w) (high_of w) (named_by (m / 2) ws) v (mod-lt m (zero-lt-suc 1)) refl (named_near ws (m / 2) v)
    ∙ ap (λ (x : ℕ). not (eqb x 0)) (sym (and_bits m (in_range (low_of w) (high_of w) v) (near_of ws v)))

pub names_near : (k : ℕ) (nets ms : List ℕ) (v : ℕ) → in_all (name_limits nets k ms) v ≡ meets_all k ms (near_of nets v)
unfolding name_limits meets_all in_all
names_near zero nets ms v = refl
names_near (suc k) nets ms v = ap₂ ◌&&◌ (named_near nets (get_or ms 0 0) v) (names_near k nets (drop 1 ms) v)

-- ---- a rule at a value
module _ (R nets : List ℕ) (p d v : ℕ) (b : Bool) (e : b ≡ in_some (range_of (get_or R (p + 2 * d + 1) 0) ∷ (range_of (get_or R (p + 2 * d + 1 + 1) 0) ∷ [])) v) where
  two_ranges : b ≡ in_some (range_of (get_or (drop p R) (2 * d + 1) 0) ∷ (range_of (get_or (drop p R) (2 * d + 2) 0) ∷ [])) v
  two_ranges =
      let q1 : p + 2 * d + 1 ≡ p + (2 * d + 1) = omega arith in
      let q2 : p + 2 * d + 1 + 1 ≡ p + (2 * d + 2) = omega arith in
      e ∙ ap₂ (λ (x y : ℕ). in_some (range_of (get_or R x 0) ∷ (range_of (get_or R y 0) ∷ [])) v) q1 q2
      ∙ ap₂ (λ (x y : ℕ). in_some (range_of x ∷ (range_of y ∷ [])) v) (sym (get_or-drop p R (2 * d + 1) 0)) (sym (get_or-drop p R (2 * d + 2) 0))

  pub rule_no : b ≡ false → false ≡ in_all (limits_of nets (drop p R) d) v
  unfolding limits_of in_all
  rule_no f = rw (← two_ranges, f)

  pub rule_plain : b ≡ true → (d ≡ 3 → ⊥) → true ≡ in_all (limits_of nets (drop p R) d) v
  unfolding limits_of in_all
  rule_plain f n = rw (← two_ranges, f, ne_eqb d 3 n)

  pub rule_named : b ≡ true → d ≡ 3 → (near y k : ℕ) (c : Bool) → (d ≡ 3 → near ≡ near_of nets v) → y ≡ get_or R (p + 13) 0 → k ≡ at_most_seven y → c ≡ meets_all k (drop (p + 14) R) near
      → c ≡ in_all (limits_of nets (drop p R) d) v
  unfolding limits_of in_all
  rule_named f n near y k c h i j l =
      let q : k ≡ at_most_seven (get_or (drop p R) 13 0) = j ∙ ap (λ (x : ℕ). at_most_seven x) (i ∙ sym (get_or-drop p R 13 0)) in
      let g : c ≡ in_all (name_limits nets (at_most_seven (get_or (drop p R) 13 0)) (drop 14 (drop p R))) v =
      l ∙ ap₂ (λ (x y : ℕ). meets_all x (drop (p + 14) R) y) q (h n) ∙ ap (λ (x : List ℕ). meets_all (at_most_seven (get_or (drop p R) 13 0)) x (near_of nets v)) (sym (drop-drop 14 p R))
      ∙ sym (names_near (at_most_seven (get_or (drop p R) 13 0)) nets (drop 14 (drop p R)) v) in
      rw (← two_ranges, f, eq-eqb d 3 n) g

seven_at_most : (k y : ℕ) → k ≡ at_most_seven y → k ≤ 7
seven_at_most k y e = by_test (ltb y 7)
    (λ f. omega (arith, e ∙ ap (λ (b : Bool). cond b y 7) f, ltb-true y 7 f))
    (λ f. omega (arith, e ∙ ap (λ (b : Bool). cond b y 7) f))

pub names_room : (p k y : ℕ) → k ≡ at_most_seven y → p + 21 ≤ 1555 → p + 14 + k ≤ 1555
names_room p k y e h = omega (arith, seven_at_most k y e)

pub ruleset ruled_rules = (rules, rule_no, names_room)

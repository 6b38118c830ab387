-- Laws of networks and rules as words, and of the small numbers of the layout.
use Prim.Native.Nat.{ℕ, zero, suc, ◌+◌, ◌-◌, ◌*◌, ◌^◌, ◌≤◌, ◌<◌}
use native.Mathlib.Nat.{pow-suc}
use native.Mathlib.Numerals.{add-one}
use native.Mathlib.Omega.{arith}
use mathlib.Core.Path.{◌≡◌, refl, sym, ap, ◌∙◌}
use mathlib.Core.Bool.{Bool, true, false, ◌&&◌, not}
use mathlib.Core.List.{List, [], ◌∷◌}
use lib.Dec.{eqb, ltb}
use lib.ListN.{length, take, drop, get_or, length-drop, drop_of_length-le}
use lib.Seq.{get_or-take, get_or-drop, drop-cons, drop-drop, take-take, length-take-le}
use mir.Val.{bool_byte}
use Rattle.std.specs.List.{list_all}
use Rattle.std.proofs.lemmas.List.{drop-take}
use lib.Bits.{bit_and}
use borrow.Author.Rules.{rules}
use Rattle.flows.specs.Table.{in_range}
use Rattle.flows.specs.Rules.{in_all}
use Rattle.text.proofs.Tests.{by_test}
use Rattle.builder.specs.Encoding.{low_of, high_of, limits_of}
use Rattle.builder.specs.Cells.{top_of, bit_of, mask_from, near_of, mask_of, accept_mask, meets_all}

pub word_is : (w : List ℕ) (x : ℕ) → x < 1555 → get_or w x 0 ≡ get_or (take 1555 w) x 0
word_is w x h = sym (get_or-take 1555 w x 0 h)

pub top_most : (d : ℕ) → top_of d ≤ 4294967295
unfolding top_of
top_most d = by_test (eqb d 3) (λ e. rw e (omega arith)) (λ e. rw e (by_test (ltb 3 d) (λ f. rw f (omega arith)) (λ f. rw f (by_test (eqb d 1) (λ g. rw g (omega arith)) (λ g. rw g (omega arith))))))

-- ---- masks made bit by bit, the last first
byte_is : (b : Bool) → bool_byte b ≡ bit_of b
byte_is true = refl
byte_is false = refl

bit_most : (b : Bool) → bit_of b ≤ 1
bit_most true = omega arith
bit_most false = omega arith

pub mask_none : (n : ℕ) (p : ℕ → Bool) → 0 ≡ mask_from n (n - n) p
unfolding mask_from
mask_none n p = let q : n - n ≡ 0 = omega arith in rw q

pub mask_small : (n : ℕ) → 0 < 2 ^ (n - n)
mask_small n = let q : n - n ≡ 0 = omega arith in rw q (omega arith)

pub mask_more : (i n m : ℕ) (b : Bool) (p : ℕ → Bool) → 0 < i → i ≤ n → m ≡ mask_from i (n - i) p → b ≡ p (i - 1) → 2 * m + bool_byte b ≡ mask_from (i - 1) (n - (i - 1)) p
unfolding mask_from
mask_more i n m b p z l e f =
    let q : n - (i - 1) ≡ suc (n - i) = omega arith in
    let r : i - 1 + 1 ≡ i = omega arith in
    rw (q, r, ← f, ← e) (omega (arith, byte_is b))

pub mask_grows : (i n m : ℕ) (b : Bool) → 0 < i → i ≤ n → m < 2 ^ (n - i) → 2 * m + bool_byte b < 2 ^ (n - (i - 1))
mask_grows i n m b z l h =
    let q : n - (i - 1) ≡ suc (n - i) = omega arith in
    rw q (omega (arith, pow-suc 2 (n - i), byte_is b, bit_most b))

-- the mask of networks, of rules that hold a value, and of rules that accept
pub near_is : (nets : List ℕ) (v k i : ℕ) → i + k ≡ length nets → mask_from i k (λ j. in_range (low_of (get_or nets j 0)) (high_of (get_or nets j 0)) v) ≡ near_of (drop i nets) v
unfolding mask_from near_of
near_is nets v zero i h =
    let n : length nets ≤ i = omega arith in
    rw (drop_of_length-le nets n) refl
near_is nets v (suc k) i h =
    rw (drop-cons nets i 0 (omega arith))
    (ap (λ (m : ℕ). bit_of (in_range (low_of (get_or nets i 0)) (high_of (get_or nets i 0)) v) + 2 * m) (near_is nets v k (i + 1) (omega arith) ∙ ap (λ (j : ℕ). near_of (drop j nets) v) (add-one i)))

holding_from : (d p : ℕ) (nets R : List ℕ) (v k i : ℕ) → mask_from i k (λ j. in_all (limits_of nets (drop (p + 21 * j) R) d) v) ≡ mask_of d k nets (drop (p + 21 * i) R) v
unfolding mask_from mask_of
holding_from d p nets R v zero i = refl
holding_from d p nets R v (suc k) i =
    let r : p + 21 * i + 21 ≡ p + 21 * (i + 1) = omega arith in
    rw (drop-drop 21 (p + 21 * i) R, r) (ap (λ (m : ℕ). bit_of (in_all (limits_of nets (drop (p + 21 * i) R) d) v) + 2 * m) (holding_from d p nets R v k (i + 1)))

pub holding_is : (d p n : ℕ) (nets R : List ℕ) (v : ℕ) → mask_from 0 n (λ j. in_all (limits_of nets (drop (p + 21 * j) R) d) v) ≡ mask_of d n nets (drop p R) v
holding_is d p n nets R v = let q : p + 21 * 0 ≡ p = omega arith in holding_from d p nets R v n 0 ∙ ap (λ (j : ℕ). mask_of d n nets (drop j R) v) q

accepting_from : (p : ℕ) (R : List ℕ) (k i : ℕ) → mask_from i k (λ j. eqb (get_or R (p + 21 * j) 0) 1) ≡ accept_mask k (drop (p + 21 * i) R)
unfolding mask_from accept_mask
accepting_from p R zero i = refl
accepting_from p R (suc k) i =
    let r : p + 21 * i + 21 ≡ p + 21 * (i + 1) = omega arith in
    let s : p + 21 * i + 0 ≡ p + 21 * i = omega arith in
    rw (drop-drop 21 (p + 21 * i) R, r, get_or-drop (p + 21 * i) R 0 0, s) (ap (λ (m : ℕ). bit_of (eqb (get_or R (p + 21 * i) 0) 1) + 2 * m) (accepting_from p R k (i + 1)))

pub accepting_is : (p n : ℕ) (R : List ℕ) → mask_from 0 n (λ j. eqb (get_or R (p + 21 * j) 0) 1) ≡ accept_mask n (drop p R)
accepting_is p n R = let q : p + 21 * 0 ≡ p = omega arith in accepting_from p R n 0 ∙ ap (λ (j : ℕ). accept_mask n (drop j R)) q

pub nets_length : (w : List ℕ) → 1555 ≤ length w → length (take 64 (take 1555 w)) ≡ 64
nets_length w long = length-take-le 64 (take 1555 w) (omega (arith, length-take-le 1555 w long))

-- ---- names
all_meet : (k : ℕ) (ms : List ℕ) (near : ℕ) → k ≤ length ms → list_all (λ m. not (eqb (bit_and m near) 0)) (take k ms) ≡ meets_all k ms near
unfolding meets_all
all_meet zero ms near h = refl
all_meet (suc k) [] near h = absurd (omega arith)
all_meet (suc k) (m ∷ ms) near h = ap (λ (b : Bool). not (eqb (bit_and m near) 0) && b) (all_meet k ms near (omega arith))

pub names_are : (k x near : ℕ) (w : List ℕ) → 1555 ≤ length w → x + k ≤ 1555 → list_all (λ m. not (eqb (bit_and m near) 0)) (take k (drop x w)) ≡ meets_all k (drop x (take 1555 w)) near
names_are k x near w long h =
    let q : 1555 ≡ x + (1555 - x) = omega arith in
    let d : drop x (take 1555 w) ≡ take (1555 - x) (drop x w) = ap (λ (n : ℕ). drop x (take n w)) q ∙ drop-take x (1555 - x) w in
    let t : take k (drop x (take 1555 w)) ≡ take k (drop x w) = ap (λ (l : List ℕ). take k l) d ∙ take-take k (1555 - x) (drop x w) (omega arith) in
    ap (λ (l : List ℕ). list_all (λ m. not (eqb (bit_and m near) 0)) l) (sym t)
    ∙ all_meet k (drop x (take 1555 w)) near (simp length-drop (omega (arith, length-take-le 1555 w long)))

pub ruleset words = (rules, word_is)

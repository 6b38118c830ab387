-- Laws of integers. Assumes nothing.
use Rattle.std.specs.Prelude.{None, Some}
use Prim.Native.Nat.{ℕ, zero, suc, ◌+◌, ◌-◌, ◌*◌, ◌≤◌, ◌<◌}
use mathlib.Core.Path.{◌≡◌, refl, ap, sym, ◌∙◌}
use mathlib.Core.List.{List, [], ◌∷◌}
use mathlib.Core.Bool.{Bool, true, false}
use native.Mathlib.Numerals.{add-one}
use native.Mathlib.Omega.{arith}
use native.Mathlib.Decide.{dec_lt}
use lib.ListN.{length, get_or, drop, take, length-drop, length-take, drop_of_length-le}
use Rattle.std.specs.List.{prefix_len}
use Rattle.std.proofs.lemmas.List.{get_or-take}
use Rattle.std.proofs.lemmas.List.Sums.{prefix_len-le-length, prefix_len_passes}
use lib.Seq.{drop-cons}
use lib.Dec.{ltb}
use borrow.Author.Rules.{rules}
use borrow.Author.Tests.{eq-eqb, ne_eqb, ltb-true, lt-ltb, le-ltb, not-true, not-false}
use Rattle.text.specs.Bytes.{is_digit}
use Rattle.text.proofs.Tests.{cond_cases}
use Rattle.text.proofs.ByteLaws.{between_low, between_high, digit_inside}
use Rattle.jsontext.specs.declared.Start.TheVariants.{Number}
use Rattle.jsontext.specs.Reading.{span_at, number_at, start_of}
use Rattle.jsontext.proofs.Complete.{span_from, span_more, span_stop, span_end}
use Rattle.jsontext.proofs.Lexing.{start_digit}
use Rattle.values.specs.Tree.{Json, real, Elements, Members, end_of, decimal, number_of, tree_by, tree_at, capped, count_of}
use Rattle.values.proofs.Trees.{tree_cases}

pub cap_low : (n : ℕ) → n < 1000000 → n ≡ capped n
unfolding capped
cap_low n h = rw (lt-ltb _ _ h)

pub cap_high : (n : ℕ) → 1000000 ≤ n → 1000000 ≡ capped n
unfolding capped
cap_high n h = rw (le-ltb _ _ h)

capped_most : (n : ℕ) → capped n ≤ 1000000
unfolding capped
capped_most n = cond_cases (λ (k : ℕ). k ≤ 1000000) (ltb n 1000000) (λ q. let h : n < 1000000 = ltb-true _ _ q in omega arith) (λ q. omega arith)

decimal_grows : (n : ℕ) (l : List ℕ) → n ≤ decimal n l
unfolding decimal
decimal_grows n [] = omega arith
decimal_grows n (x ∷ xs) = let h : n * 10 + (x - 48) ≤ decimal (n * 10 + (x - 48)) xs = decimal_grows (n * 10 + (x - 48)) xs in omega arith

decimal_capped : (n : ℕ) (l : List ℕ) → capped (decimal n l) ≡ capped (decimal (capped n) l)
decimal_capped n l = go (dec_lt n 1000000)
  where
    go : Dec (n < 1000000) → capped (decimal n l) ≡ capped (decimal (capped n) l)
    go (yes h) = ap (λ (k : ℕ). capped (decimal k l)) (cap_low n h)
    go (no h) =
        let k : 1000000 ≡ capped n = cap_high n (omega arith) in
        let a : n ≤ decimal n l = decimal_grows n l in
        let b : capped n ≤ decimal (capped n) l = decimal_grows (capped n) l in
        sym (cap_high (decimal n l) (omega arith)) ∙ cap_high (decimal (capped n) l) (omega arith)

-- a run of digits
module _ (s : List ℕ) (at e : ℕ) (q : e ≡ span_at is_digit s at) where
  run_within : at ≤ length s → e ≤ length s
  unfolding span_at
  run_within h = let l : prefix_len is_digit (drop at s) ≤ length s - at = omega (arith, prefix_len-le-length is_digit (drop at s), length-drop at s) in omega arith

  pub run_digits : (k : ℕ) → k < length (take (e - at) (drop at s)) → 48 ≤ get_or (take (e - at) (drop at s)) k 0
  unfolding span_at
  run_digits k h =
      let n : k < e - at = omega (arith, length-take (e - at) (drop at s)) in
      let l : k < prefix_len is_digit (drop at s) = omega arith in
      rw (get_or-take (e - at) (drop at s) k 0 n) (between_low 0x30 0x39 _ (prefix_len_passes is_digit (drop at s) k 0 l))

pub record Counting (l : List ℕ) (n i : ℕ) : Type 0 where
  pub within_cap : n ≤ 1000000
  pub same_value : capped (decimal 0 l) ≡ capped (decimal n (drop i l))

pub counting_from : (l : List ℕ) → Counting l 0 0
counting_from l = record { within_cap = omega arith; same_value = refl }

module _ (l : List ℕ) (n i : ℕ) (h : Counting l n i) where
  pub counting_on : i < length l → {m : ℕ} → m ≡ capped (n * 10 + (get_or l i 0 - 48)) → Counting l m (i + 1)
  unfolding decimal
  counting_on k {m} q =
      let z : m ≤ 1000000 = rw q (capped_most (n * 10 + (get_or l i 0 - 48))) in
      record {
        within_cap = z;
        same_value = h.same_value ∙ ap (λ (v : List ℕ). capped (decimal n v)) (drop-cons l i 0 k) ∙ decimal_capped (n * 10 + (get_or l i 0 - 48)) (drop (suc i) l) ∙ rw (add-one, q);
      }

  pub counting_end : length l ≤ i → n ≡ capped (decimal 0 l)
  unfolding decimal
  counting_end k = sym (h.same_value ∙ rw (drop_of_length-le l k, low (dec_lt n 1000000)))
    where
      low : Dec (n < 1000000) → capped n ≡ n
      low (yes m) = sym (cap_low n m)
      low (no m) = let w : n ≤ 1000000 = h.within_cap in sym (cap_high n (omega arith)) ∙ omega arith

digit_run : (s : List ℕ) (at : ℕ) → is_digit (get_or s at 0) ≡ true → at < span_at is_digit s at
digit_run s at q =
    let m : span_at is_digit s at ≡ span_at is_digit s (at + 1) = span_more is_digit s at (digit_inside s at q) q in
    let l : at + 1 ≤ span_at is_digit s (at + 1) = span_from is_digit s (at + 1) in
    omega arith

tree_number : (d : ℕ) (s : List ℕ) (at : ℕ) → is_digit (get_or s at 0) ≡ true → tree_at d s at ≡ number_of s at
unfolding tree_at
tree_number d s at q = go d
  where
    b : ℕ
    b = get_or s at 0

    k : start_of b ≡ Number
    k =
        let h : 48 ≤ b = between_low 0x30 0x39 b q in
        let l : b ≤ 57 = between_high 0x30 0x39 b q in
        start_digit b (λ z. omega arith) (λ z. omega arith) (λ z. omega arith) (λ z. omega arith) (λ z. omega arith) (λ z. omega arith) (λ z. omega arith) ∙ rw q

    go : (n : ℕ) → tree_at n s at ≡ number_of s at
    go zero = rw k
    go (suc n) = rw k

no_digit : (s : List ℕ) (at : ℕ) → is_digit (get_or s at 0) ≡ false → number_of s at ≡ real
unfolding number_of
no_digit s at q = rw (le-ltb at (span_at is_digit s at) (le (dec_lt at (length s))))
  where
    le : Dec (at < length s) → span_at is_digit s at ≤ at
    le (yes m) = let z : span_at is_digit s at ≡ at = span_stop is_digit s at q in omega arith
    le (no m) = let z : span_at is_digit s at ≡ at = span_end is_digit s at (omega arith) in omega arith

module _ (d : ℕ) (s : List ℕ) (at b : ℕ) (e : b ≡ get_or s at 0) (t : Bool) (p : t ≡ is_digit b) where
  count_other : t ≡ false → (arr : ℕ → Elements) (obj : ℕ → Members) → None ≡ count_of (tree_by (start_of (get_or s at 0)) s at arr obj)
  count_other q arr obj =
      let f : is_digit (get_or s at 0) ≡ false = ap is_digit (sym e) ∙ sym p ∙ q in
      let z : None ≡ count_of (number_of s at) = rw (no_digit s at f) in
      tree_cases (λ (j : Json). None ≡ count_of j) s at (get_or s at 0) arr obj (λ q. refl) (λ q. refl) (λ q. refl) (λ q. refl) (λ q. refl) (λ q. refl) refl (λ q. z) (λ q. z)

  pub count_not : t ≡ false → None ≡ count_of (tree_at d s at)
  unfolding tree_at
  count_not q = go d
    where
      go : (n : ℕ) → None ≡ count_of (tree_at n s at)
      go zero = count_other q _ _
      go (suc n) = count_other q _ _

  module _ (q : t ≡ true) {x y : ℕ} (g : x ≡ span_at is_digit s at) (h : y ≡ end_of (number_at s at)) where
    yes_digit : is_digit (get_or s at 0) ≡ true
    yes_digit = ap is_digit (sym e) ∙ sym p ∙ q

    pub count_real : (y ≡ x → ⊥) → None ≡ count_of (tree_at d s at)
    unfolding number_of
    count_real f = rw (tree_number d s at yes_digit, lt-ltb _ _ (digit_run s at yes_digit), ← g, ← h, ne_eqb _ _ f)

    pub count_is : y ≡ x → {n : ℕ} → n ≡ capped (decimal 0 (take (x - at) (drop at s))) → Some n ≡ count_of (tree_at d s at)
    unfolding number_of
    count_is f u = rw (tree_number d s at yes_digit, lt-ltb _ _ (digit_run s at yes_digit), ← g, ← h, eq-eqb _ _ f, u)

    pub count_within : x ≤ length s
    count_within = let l : at < length s = digit_inside s at yes_digit in run_within s at x g (omega arith)

    pub count_from : at ≤ x
    count_from = let m : at < span_at is_digit s at = digit_run s at yes_digit in omega arith

pub ruleset counting = (rules, not-true, not-false, run_digits, count_within, counting_from, counting_on, counting_end, count_not, count_real, count_is, count_from)

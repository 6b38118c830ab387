-- Laws of `specs/Numbers.antt`: the steps of the readers, and the bounds of what they answer. Assumes nothing.
use Prim.Native.Nat.{ℕ, ◌+◌, ◌*◌, ◌-◌, ◌^◌, ◌≤◌, ◌<◌}
use mir.Syntax.{w64}
use mir.Val.{Fits}
use mathlib.Core.Path.{◌≡◌, sym, ap, ◌∙◌, subst}
use mathlib.Core.List.{List, [], ◌∷◌}
use mathlib.Core.Bool.{Bool, true, false}
use native.Mathlib.Numerals.{add-one}
use native.Mathlib.Omega.{arith}
use lib.Dec.{eqb, leb, ltb}
use lib.ListN.{length, drop, drop_of_length-le, length-drop}
use lib.Seq.{drop-cons}
use borrow.Author.Rules.{rules}
use borrow.Author.Tests.{eqb-true, leb-true, ltb-true, ltb-false, le-leb, lt-leb}
use Rattle.text.specs.Bytes.{byte_at, is_at, is_digit}
use Rattle.text.specs.Numbers.{digits_from, number_at, then_read, closed_by, closed_at, quad_at}
use Rattle.std.specs.Prelude.{Option, Some, None}
use Rattle.text.proofs.Tests.{by_test, cond_cases}
use Rattle.text.proofs.ByteLaws.{inside, at_inside, between_low, digit_inside}

-- the place after a byte that is not 0 fits
module _ (s : List ℕ) (at b : ℕ) (e : b ≡ byte_at s at) (l : length s < 2 ^ 64) where
  pub at_fits : {k : ℕ} → b ≡ k → 0 < k → Fits w64 (at + 1)
  at_fits q h = let m : at < length s = inside s at (omega arith) in omega arith

  pub digit_fits : (r : Bool) → r ≡ is_digit b → r ≡ true → Fits w64 (at + 1)
  digit_fits r p q = let m : at < length s = digit_inside s at (ap is_digit (sym e) ∙ sym p ∙ q) in omega arith

pub digit_room : (s : List ℕ) (at b : ℕ) → b ≡ byte_at s at → (r : Bool) → r ≡ is_digit b → r ≡ true → at + 1 ≤ length s
digit_room s at b e r p q = let m : at < length s = digit_inside s at (ap is_digit (sym e) ∙ sym p ∙ q) in omega arith

pub closing_fits : (s : List ℕ) (at b : ℕ) → length s < 2 ^ 64 → (r : Bool) → r ≡ is_at s at b → r ≡ true → Fits w64 (at + 1)
closing_fits s at b l r p q = let m : at < length s = at_inside s at b (sym p ∙ q) in omega arith

pub value_low : (b : ℕ) (r : Bool) → r ≡ is_digit b → r ≡ true → 0x30 ≤ b
value_low b r p q = between_low 0x30 0x39 b (sym p ∙ q)

-- ## a number
-- within a number
module _ (max : ℕ) (s : List ℕ) (i v : ℕ) (w : Option (ℕ × ℕ)) (h : w ≡ digits_from max v (drop i s) i) where
  pub digits_over : max < v → None ≡ w
  unfolding digits_from
  digits_over l = go (drop i s) h
    where
      go : (xs : List ℕ) → w ≡ digits_from max v xs i → None ≡ w
      go [] q = sym (rw (digits_from, lt-leb v max l) at q)
      go (x ∷ xs) q = sym (rw (digits_from, lt-leb v max l) at q)

  module _ (m : v ≤ max) (c : ℕ) (e : c ≡ byte_at s i) (r : Bool) (p : r ≡ is_digit c) where
    pub digits_end : r ≡ false → Some (v, i) ≡ w
    unfolding digits_from
    digits_end q =
        by_test (ltb i (length s))
        (λ t. let l : i < length s = ltb-true i (length s) t in
        sym (h ∙ rw (drop-cons s i 0 l, digits_from, le-leb v max m, ← e, ← p, q)))
        (λ t. let l : length s ≤ i = ltb-false i (length s) t in sym (h ∙ rw (drop_of_length-le s l, digits_from, le-leb v max m)))

    module _ (q : r ≡ true) where
      pub digits_more : (u : ℕ) → u ≡ c - 0x30 → w ≡ digits_from max (v * 10 + u) (drop (i + 1) s) (i + 1)
      unfolding digits_from
      digits_more u k =
          let l : i < length s = digit_inside s i (ap is_digit (sym e) ∙ sym p ∙ q) in
          h ∙ rw (drop-cons s i 0 l, digits_from, le-leb v max m, ← e, ← p, q, k, add-one i)

      pub digits_less : length s - (i + 1) < length s - i
      digits_less = let l : i < length s = digit_inside s i (ap is_digit (sym e) ∙ sym p ∙ q) in omega arith

-- ## bounds
-- a value of at most max, and a place further on in the text
abbrev pub Sound : ℕ → List ℕ → ℕ → Option (ℕ × ℕ) → Type 0
Sound max s at None = Unit {0}
Sound max s at (Some (v, n)) = (v ≤ max) × (at < n) × (n ≤ length s)

digits_sound : (max v : ℕ) (s xs : List ℕ) (at i : ℕ) → at < i → i + length xs ≤ length s → Sound max s at (digits_from max v xs i)
unfolding digits_from
digits_sound max v s [] at i h l = cond_cases (Sound max s at) (leb v max) (λ e. (leb-true v max e, h, omega arith)) (λ e. tt)
digits_sound max v s (x ∷ xs) at i h l =
    cond_cases (Sound max s at) (leb v max)
    (λ e. cond_cases (Sound max s at) (is_digit x)
    (λ d. digits_sound max (v * 10 + (x - 0x30)) s xs at (i + 1) (omega arith) (omega arith))
    (λ d. (leb-true v max e, h, omega arith)))
    (λ e. tt)

pub number_sound : (max : ℕ) (s : List ℕ) (at : ℕ) → Sound max s at (number_at max s at)
unfolding number_at
number_sound max s at =
    cond_cases (Sound max s at) (eqb (byte_at s at) 0x30)
    (λ e. let q : byte_at s at ≡ 0x30 = eqb-true _ _ e in let l : at < length s = inside s at (omega arith) in
    cond_cases (Sound max s at) (is_digit (byte_at s (at + 1))) (λ d. tt) (λ d. (omega arith, omega arith, omega arith)))
    (λ e. cond_cases (Sound max s at) (is_digit (byte_at s at))
    (λ q. let l : at < length s = digit_inside s at q in
    digits_sound max (byte_at s at - 0x30) s (drop (at + 1) s) at (at + 1) (omega arith) (omega (arith, length-drop (at + 1) s)))
    (λ q. tt))

then_sound : (a b : ℕ) (s : List ℕ) (at : ℕ) (r : Option (ℕ × ℕ)) (g : ℕ → ℕ → Option (ℕ × ℕ)) → Sound a s at r → ((v i : ℕ) → v ≤ a → at < i → i ≤ length s → Sound b s at (g v i)) → Sound b s at (then_read r g)
then_sound a b s at None g h f = tt
then_sound a b s at (Some (v, i)) g h f = f v i h.0 h.1 h.2

sound_down : (m : ℕ) (s : List ℕ) (i j : ℕ) (r : Option (ℕ × ℕ)) → i ≤ j → Sound m s j r → Sound m s i r
sound_down m s i j None l h = tt
sound_down m s i j (Some (v, n)) l h = (h.0, omega arith, h.2)

pub closed_sound : (max close : ℕ) (s : List ℕ) (at : ℕ) (r : Option (ℕ × ℕ)) → Sound max s at r → Sound max s at (closed_by close s r)
unfolding closed_by
closed_sound max close s at r h =
    then_sound max max s at r _ h
    (λ v i m l k. cond_cases (Sound max s at) (is_at s i close)
    (λ e. let b : i < length s = at_inside s i close e in (m, omega arith, omega arith))
    (λ e. tt))

part_sound : (s : List ℕ) (at i : ℕ) → at ≤ i → Sound 255 s at (closed_at 255 0x2E s i)
part_sound s at i h = sound_down 255 s at i (closed_at 255 0x2E s i) h (closed_sound 255 0x2E s i (number_at 255 s i) (number_sound 255 s i))

pub quad_sound : (s : List ℕ) (at : ℕ) → Sound 0xFFFFFFFF s at (quad_at s at)
unfolding quad_at
quad_sound s at =
    then_sound 255 0xFFFFFFFF s at (closed_at 255 0x2E s at) _ (part_sound s at at (omega arith))
    (λ a i ha l m. then_sound 255 0xFFFFFFFF s at (closed_at 255 0x2E s i) _ (part_sound s at i (omega arith))
    (λ b j hb l m. then_sound 255 0xFFFFFFFF s at (closed_at 255 0x2E s j) _ (part_sound s at j (omega arith))
    (λ c k hc l m. then_sound 255 0xFFFFFFFF s at (number_at 255 s k) _ (sound_down 255 s at k (number_at 255 s k) (omega arith) (number_sound 255 s k))
    (λ d n hd l m. (omega arith, l, m)))))

-- a part of a quad that is read is small
pub part_small : (s : List ℕ) (at : ℕ) (r : Option (ℕ × ℕ)) → r ≡ closed_at 255 0x2E s at → {v n : ℕ} → r ≡ Some (v, n) → v ≤ 255
part_small s at r e q = (subst (Sound 255 s at) (sym e ∙ q) (part_sound s at at (omega arith))).0

pub number_small : (max : ℕ) (s : List ℕ) (at : ℕ) (r : Option (ℕ × ℕ)) → r ≡ number_at max s at → {v n : ℕ} → r ≡ Some (v, n) → v ≤ max
number_small max s at r e q = (subst (Sound max s at) (sym e ∙ q) (number_sound max s at)).0

pub ruleset reading = (rules, at_fits, digit_fits, digit_room, closing_fits, value_low, digits_over, digits_end, digits_more, digits_less, part_small, number_small)

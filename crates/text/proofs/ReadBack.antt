-- What is written is read back, and what is read is written so. Assumes nothing.
use Prim.Native.Nat.{ℕ, zero, suc, ◌+◌, ◌*◌, ◌-◌, ◌/◌, ◌%◌, ◌≤◌, ◌<◌}
use mathlib.Core.Path.{◌≡◌, refl, ap, sym, ◌∙◌}
use mathlib.Core.List.{List, [], ◌∷◌, ◌++◌, append_assoc, cons≢nil}
use mathlib.Core.Bool.{Bool, true, false}
use native.Mathlib.Numerals.{add-one}
use native.Mathlib.Nat.{add-zero}
use native.Mathlib.Omega.{arith}
use lib.Dec.{eqb, leb, ltb}
use lib.ListN.{length, drop, length-append, length-drop}
use lib.Seq.{drop-cons, get_or-drop}
use borrow.Author.Tests.{eq-eqb, ne_eqb, eqb-true, eqb-false, ltb-true, ltb-false, le-leb}
use Rattle.text.specs.Bytes.{byte_at, is_at, between, is_digit}
use Rattle.text.specs.Numbers.{digits_from, number_at, then_read, closed_by, closed_at, quad_at, closed_quad_at}
use Rattle.text.specs.Written.{decimal_by, decimal, quad}
use Rattle.std.specs.Prelude.{Option, Some, None}
use Rattle.std.proofs.lemmas.Option.{some_pair_parts}
use Rattle.text.proofs.Tests.{by_test}
use Rattle.text.proofs.ByteLaws.{inside, between_low, between_high, between_is, digit_inside, at_inside, at_is, at_from}
use Rattle.text.proofs.NumberLaws.{number_small, part_small}
use Rattle.text.proofs.WrittenLaws.{decimal_one, decimal_more}

-- ## places
drop_head : (s : List ℕ) (at b : ℕ) (xs : List ℕ) → drop at s ≡ b ∷ xs → (byte_at s at ≡ b) × (drop (at + 1) s ≡ xs)
drop_head s at b xs e = rw (add-one at) (go s at e)
  where
    go : (s : List ℕ) (at : ℕ) → drop at s ≡ b ∷ xs → (byte_at s at ≡ b) × (drop (suc at) s ≡ xs)
    go [] zero e = absurd (cons≢nil (sym e))
    go [] (suc at) e = absurd (cons≢nil (sym e))
    go (x ∷ s) zero e = (cc, cc)
    go (x ∷ s) (suc at) e = go s at e

pub drop_past : (s : List ℕ) (at : ℕ) (xs ys : List ℕ) → drop at s ≡ xs ++ ys → drop (at + length xs) s ≡ ys
drop_past s at [] ys e = rw (add-zero at) e
drop_past s at (x ∷ xs) ys e =
    let h = drop_head s at x (xs ++ ys) e in
    let q : at + suc (length xs) ≡ at + 1 + length xs = omega arith in
    rw q (drop_past s (at + 1) xs ys h.1)

byte_rest : (s : List ℕ) (n : ℕ) (rest : List ℕ) → drop n s ≡ rest → byte_at s n ≡ byte_at rest 0
byte_rest s n rest e = sym (ap (λ (t : List ℕ). byte_at t 0) (sym e) ∙ (get_or-drop n s 0 0 ∙ ap (byte_at s) (add-zero n)))

-- a number's reading: the place after it, and what stands there
pub record Reads (r : Option (ℕ × ℕ)) (v : ℕ) (s rest : List ℕ) : Type 0 where
  pub n : ℕ
  pub is : r ≡ Some (v, n)
  pub after : drop n s ≡ rest

-- taking a reading apart
parted : (r : Option (ℕ × ℕ)) (g : ℕ → ℕ → Option (ℕ × ℕ)) {v n : ℕ} → Some (v, n) ≡ then_read r g → record { u : ℕ; i : ℕ; is : Some (u, i) ≡ r; go : Some (v, n) ≡ g u i }
parted None g q = absurd (let w : ◌≡◌ {A = ℕ} 0 1 = cc in omega arith)
parted (Some (u, i)) g q = record { u = u; i = i; is = refl; go = q }

-- ## what is read is written so
digit_more : (a x : ℕ) → 0 < a → is_digit x ≡ true → decimal (a * 10 + (x - 0x30)) ≡ decimal a ++ (x ∷ [])
digit_more a x h d =
    let l : 0x30 ≤ x = between_low 0x30 0x39 x d in
    let m : x ≤ 0x39 = between_high 0x30 0x39 x d in
    let p : (a * 10 + (x - 0x30)) / 10 ≡ a = omega arith in
    let q : 0x30 + (a * 10 + (x - 0x30)) % 10 ≡ x = omega arith in
    decimal_more (a * 10 + (x - 0x30)) (omega arith) ∙ rw (p, q)

-- the digits read, and that no digit follows
abbrev Spelt : List ℕ → List ℕ → ℕ → ℕ → Type 0
Spelt s xs v n = (xs ≡ decimal v ++ drop n s) × (is_digit (byte_at s n) ≡ false)

spelt_end : (s xs : List ℕ) (a i v n : ℕ) → drop i s ≡ xs → is_digit (byte_at xs 0) ≡ false → ◌≡◌ {A = Option (ℕ × ℕ)} (Some (v, n)) (Some (a, i)) → Spelt s (decimal a ++ xs) v n
spelt_end s xs a i v n e d q =
    let p = some_pair_parts v a n i q in
    rw (p.0, p.1) (ap {B = List ℕ} (λ t. decimal a ++ t) (sym e), ap is_digit (byte_rest s i xs e) ∙ d)

digits_spelt : (max : ℕ) (s xs : List ℕ) (a i v n : ℕ) → 0 < a → drop i s ≡ xs → Some (v, n) ≡ digits_from max a xs i → Spelt s (decimal a ++ xs) v n
unfolding digits_from between
digits_spelt max s [] a i v n h e q =
    by_test (leb a max)
    (λ l. spelt_end s [] a i v n e refl (rw l at q))
    (λ l. absurd (let z : Some (v, n) ≡ None = rw l at q in let w : ◌≡◌ {A = ℕ} 0 1 = cc in omega arith))
digits_spelt max s (x ∷ xs) a i v n h e q =
    by_test (leb a max)
    (λ l. by_test (is_digit x)
    (λ d. let r = digits_spelt max s xs (a * 10 + (x - 0x30)) (i + 1) v n (omega arith) (drop_head s i x xs e).1 (rw (l, d) at q) in
    (sym (append_assoc (decimal a) (x ∷ []) xs) ∙ (ap {B = List ℕ} (λ t. t ++ xs) (sym (digit_more a x h d)) ∙ r.0), r.1))
    (λ d. spelt_end s (x ∷ xs) a i v n e d (rw (l, d) at q)))
    (λ l. absurd (let z : Some (v, n) ≡ None = rw l at q in let w : ◌≡◌ {A = ℕ} 0 1 = cc in omega arith))

pub number_spelt : (max : ℕ) (s : List ℕ) (at v n : ℕ) → Some (v, n) ≡ number_at max s at → (drop at s ≡ decimal v ++ drop n s) × (is_digit (byte_at s n) ≡ false)
unfolding number_at
number_spelt max s at v n q =
    by_test (eqb (byte_at s at) 0x30)
    (λ e. let b : byte_at s at ≡ 0x30 = eqb-true _ _ e in
    let f : drop at s ≡ decimal 0 ++ drop (at + 1) s = drop-cons s at 0 (inside s at (omega arith)) ∙ rw (b, add-one at, decimal_one 0 (omega arith)) in
    by_test (is_digit (byte_at s (at + 1)))
    (λ d. absurd (let z : Some (v, n) ≡ None = rw (e, d) at q in let w : ◌≡◌ {A = ℕ} 0 1 = cc in omega arith))
    (λ d. let p = some_pair_parts v 0 n (at + 1) (rw (e, d) at q) in rw (p.0, p.1) (f, d)))
    (λ e. let f : byte_at s at ≡ 0x30 → ⊥ = eqb-false (byte_at s at) 0x30 e in
    by_test (is_digit (byte_at s at))
    (λ d. let l : 0x30 ≤ byte_at s at = between_low 0x30 0x39 (byte_at s at) d in
    let m : byte_at s at ≤ 0x39 = between_high 0x30 0x39 (byte_at s at) d in
    let y : 0x30 + (byte_at s at - 0x30) ≡ byte_at s at = omega arith in
    let st : decimal (byte_at s at - 0x30) ≡ byte_at s at ∷ [] = decimal_one (byte_at s at - 0x30) (omega arith) ∙ ap {B = List ℕ} (λ k. k ∷ []) y in
    let r = digits_spelt max s (drop (at + 1) s) (byte_at s at - 0x30) (at + 1) v n (omega arith) refl (rw (e, d) at q) in
    (drop-cons s at 0 (digit_inside s at d) ∙ (ap {B = List ℕ} (λ t. t ++ drop (suc at) s) (sym st) ∙ (rw (← add-one at) r.0)), r.1))
    (λ d. absurd (let z : Some (v, n) ≡ None = rw (e, d) at q in let w : ◌≡◌ {A = ℕ} 0 1 = cc in omega arith)))

-- what closes it
closing_spelt : (c : ℕ) (s : List ℕ) (r : Option (ℕ × ℕ)) (v n : ℕ) → Some (v, n) ≡ closed_by c s r → record { i : ℕ; is : Some (v, i) ≡ r; here : drop i s ≡ c ∷ drop n s }
unfolding closed_by
closing_spelt c s r v n q =
    let p = parted r _ q in
    by_test (is_at s p.i c)
    (λ e. let k = some_pair_parts v p.u n (p.i + 1) (rw e at p.go) in
    let u : v ≡ p.u = k.0 in
    let w : n ≡ p.i + 1 = k.1 in
    let f : drop p.i s ≡ c ∷ drop (p.i + 1) s = drop-cons s p.i 0 (at_inside s p.i c e) ∙ rw (at_is s p.i c e, add-one p.i) in
    record { i = p.i; is = ap (λ k. Some (k, p.i)) u ∙ p.is; here = f ∙ ap {B = List ℕ} (λ k. c ∷ drop k s) (sym w) })
    (λ e. absurd (let k : Some (v, n) ≡ None = rw e at p.go in let w : ◌≡◌ {A = ℕ} 0 1 = cc in omega arith))

pub closed_spelt : (max c : ℕ) (s : List ℕ) (at v n : ℕ) → Some (v, n) ≡ closed_at max c s at → drop at s ≡ decimal v ++ (c ∷ drop n s)
closed_spelt max c s at v n q =
    let p = closing_spelt c s (number_at max s at) v n q in
    (number_spelt max s at v p.i p.is).0 ∙ ap {B = List ℕ} (λ t. decimal v ++ t) p.here

-- four parts, one after the other
quad_of : (s : List ℕ) (v a b c d at i j k n : ℕ) → v / 16777216 ≡ a → v / 65536 % 256 ≡ b → v / 256 % 256 ≡ c → v % 256 ≡ d
    → drop at s ≡ decimal a ++ (0x2E ∷ drop i s) → drop i s ≡ decimal b ++ (0x2E ∷ drop j s) → drop j s ≡ decimal c ++ (0x2E ∷ drop k s) → drop k s ≡ decimal d ++ drop n s
    → drop at s ≡ quad v ++ drop n s
unfolding quad
quad_of s v a b c d at i j k n p q r t e f g h = rw (p, q, r, t) (e ∙ rw (f, g, h) (simp append_assoc))

pub quad_spelt : (s : List ℕ) (at v n : ℕ) → Some (v, n) ≡ quad_at s at → (drop at s ≡ quad v ++ drop n s) × (is_digit (byte_at s n) ≡ false)
unfolding quad_at
quad_spelt s at v n q =
    let r₁ = parted (closed_at 255 0x2E s at) _ q in
    let r₂ = parted (closed_at 255 0x2E s r₁.i) _ r₁.go in
    let r₃ = parted (closed_at 255 0x2E s r₂.i) _ r₂.go in
    let r₄ = parted (number_at 255 s r₃.i) _ r₃.go in
    let a : r₁.u ≤ 255 = part_small s at _ refl (sym r₁.is) in
    let b : r₂.u ≤ 255 = part_small s r₁.i _ refl (sym r₂.is) in
    let c : r₃.u ≤ 255 = part_small s r₂.i _ refl (sym r₃.is) in
    let d : r₄.u ≤ 255 = number_small 255 s r₃.i _ refl (sym r₄.is) in
    let k = some_pair_parts v (((r₁.u * 256 + r₂.u) * 256 + r₃.u) * 256 + r₄.u) n r₄.i r₄.go in
    let u : v ≡ ((r₁.u * 256 + r₂.u) * 256 + r₃.u) * 256 + r₄.u = k.0 in
    let w : n ≡ r₄.i = k.1 in
    let z = number_spelt 255 s r₃.i r₄.u r₄.i r₄.is in
    let x : drop at s ≡ quad v ++ drop r₄.i s =
    quad_of s v r₁.u r₂.u r₃.u r₄.u at r₁.i r₂.i r₃.i r₄.i (omega arith) (omega arith) (omega arith) (omega arith)
    (closed_spelt 255 0x2E s at r₁.u r₁.i r₁.is) (closed_spelt 255 0x2E s r₁.i r₂.u r₂.i r₂.is) (closed_spelt 255 0x2E s r₂.i r₃.u r₃.i r₃.is) z.0 in
    (x ∙ ap {B = List ℕ} (λ k. quad v ++ drop k s) (sym w), ap {B = Bool} (λ k. is_digit (byte_at s k)) w ∙ z.1)

pub closed_quad_spelt : (c : ℕ) (s : List ℕ) (at v n : ℕ) → Some (v, n) ≡ closed_quad_at c s at → drop at s ≡ quad v ++ (c ∷ drop n s)
closed_quad_spelt c s at v n q =
    let p = closing_spelt c s (quad_at s at) v n q in
    (quad_spelt s at v p.i p.is).0 ∙ ap {B = List ℕ} (λ t. quad v ++ t) p.here

-- ## what is written is read back
-- the first digit of a number that is not 0, and the digits after it
record First (v : ℕ) (xs : List ℕ) : Type 0 where
  b : ℕ
  ys : List ℕ
  is : xs ≡ b ∷ ys
  low : 0x30 < b
  high : b ≤ 0x39
  run : (max : ℕ) (zs : List ℕ) (i : ℕ) → v ≤ max → digits_from max (b - 0x30) (ys ++ zs) i ≡ digits_from max v zs (i + length ys)

first_of : (f v : ℕ) → v < f → 0 < v → First v (decimal_by f v)
unfolding decimal_by digits_from
first_of zero v h k = absurd (omega arith)
first_of (suc f) v h k =
    by_test (ltb v 10)
    (λ e. let l : v < 10 = ltb-true v 10 e in let p : (0x30 + v) - 0x30 ≡ v = omega arith in
    rw (e, decimal_by) (record { b = 0x30 + v; ys = []; is = refl; low = omega arith; high = omega arith; run = λ max zs i m. rw (p, add-zero i) }))
    (λ e. let l : 10 ≤ v = ltb-false v 10 e in
    let r : First (v / 10) (decimal_by f (v / 10)) = first_of f (v / 10) (omega arith) (omega arith) in
    rw (e, decimal_by, r.is) (record {
      b = r.b;
      ys = r.ys ++ ((0x30 + v % 10) ∷ []);
      is = refl;
      low = r.low;
      high = r.high;
      run = λ max zs i m.
          let p : v / 10 * 10 + ((0x30 + v % 10) - 0x30) ≡ v = omega arith in
          let u : i + length (r.ys ++ ((0x30 + v % 10) ∷ [])) ≡ i + length r.ys + 1 = rw (length-append r.ys ((0x30 + v % 10) ∷ [])) (omega arith) in
          rw (append_assoc r.ys ((0x30 + v % 10) ∷ []) zs, r.run max ((0x30 + v % 10) ∷ zs) i (omega arith), digits_from, le-leb (v / 10) max (omega arith), between_is 0x30 0x39 (0x30 + v % 10) (omega arith) (omega arith), p, u);
    }))

digits_end : (max v : ℕ) (rest : List ℕ) (i : ℕ) → is_digit (byte_at rest 0) ≡ false → v ≤ max → digits_from max v rest i ≡ Some (v, i)
unfolding digits_from
digits_end max v [] i d m = rw (le-leb v max m)
digits_end max v (c ∷ rest) i d m = rw (le-leb v max m, d)

pub number_read : (max : ℕ) (s : List ℕ) (at v : ℕ) (rest : List ℕ) → v ≤ max → is_digit (byte_at rest 0) ≡ false → drop at s ≡ decimal v ++ rest → Reads (number_at max s at) v s rest
unfolding number_at
number_read max s at v rest m d e = record { n = at + length (decimal v); is = place; after = drop_past s at (decimal v) rest e }
  where
    place : number_at max s at ≡ Some (v, at + length (decimal v))
    place =
        by_test (eqb v 0)
        (λ z. let q : v ≡ 0 = eqb-true v 0 z in
        let w : decimal v ≡ 0x30 ∷ [] = ap decimal q ∙ decimal_one 0 (omega arith) in
        let h = drop_head s at 0x30 rest (e ∙ ap {B = List ℕ} (λ t. t ++ rest) w) in
        rw (h.0, byte_rest s (at + 1) rest h.1, d, w, q))
        (λ z. let r : First v (decimal v) = unfold decimal in first_of (suc v) v (omega arith) (omega (arith, eqb-false v 0 z)) in
        let h = drop_head s at r.b (r.ys ++ rest) (e ∙ ap {B = List ℕ} (λ t. t ++ rest) r.is) in
        let l : 0x30 < r.b = r.low in
        let u : at + length (decimal v) ≡ at + 1 + length r.ys = ap {B = ℕ} (λ t. at + length t) r.is ∙ omega arith in
        rw (h.0, ne_eqb r.b 0x30 (omega arith), between_is 0x30 0x39 r.b (omega arith) r.high, h.1, r.run max rest (at + 1) m, digits_end max v rest (at + 1 + length r.ys) d m, u))

pub closing_read : (c : ℕ) (s : List ℕ) (r : Option (ℕ × ℕ)) (v : ℕ) (rest : List ℕ) → Reads r v s (c ∷ rest) → Reads (closed_by c s r) v s rest
unfolding closed_by
closing_read c s r v rest a =
    let h = drop_head s a.n c rest a.after in
    let l : length s - a.n ≡ length (c ∷ rest) = simp length-drop at (ap length a.after) in
    let t : is_at s a.n c ≡ true = sym (at_from s a.n c (omega arith)) ∙ eq-eqb _ _ h.0 in
    record { n = a.n + 1; is = rw (a.is, t); after = h.1 }

pub closed_read : (max c : ℕ) (s : List ℕ) (at v : ℕ) (rest : List ℕ) → v ≤ max → is_digit c ≡ false → drop at s ≡ decimal v ++ (c ∷ rest) → Reads (closed_at max c s at) v s rest
closed_read max c s at v rest m d e = closing_read c s (number_at max s at) v rest (number_read max s at v (c ∷ rest) m d e)

pub quad_read : (s : List ℕ) (at v : ℕ) (rest : List ℕ) → v ≤ 0xFFFFFFFF → is_digit (byte_at rest 0) ≡ false → drop at s ≡ quad v ++ rest → Reads (quad_at s at) v s rest
unfolding quad_at quad between
quad_read s at v rest m d e =
    let r₁ = closed_read 255 0x2E s at (v / 16777216) _ (omega arith) refl (e ∙ append_assoc (decimal (v / 16777216)) _ rest) in
    let r₂ = closed_read 255 0x2E s r₁.n (v / 65536 % 256) _ (omega arith) refl (r₁.after ∙ append_assoc (decimal (v / 65536 % 256)) _ rest) in
    let r₃ = closed_read 255 0x2E s r₂.n (v / 256 % 256) _ (omega arith) refl (r₂.after ∙ append_assoc (decimal (v / 256 % 256)) _ rest) in
    let r₄ = number_read 255 s r₃.n (v % 256) rest (omega arith) d r₃.after in
    let u : ((v / 16777216 * 256 + v / 65536 % 256) * 256 + v / 256 % 256) * 256 + v % 256 ≡ v = omega arith in
    record { n = r₄.n; is = rw (r₁.is, r₂.is, r₃.is, r₄.is, u); after = r₄.after }

pub closed_quad_read : (c : ℕ) (s : List ℕ) (at v : ℕ) (rest : List ℕ) → v ≤ 0xFFFFFFFF → is_digit c ≡ false → drop at s ≡ quad v ++ (c ∷ rest) → Reads (closed_quad_at c s at) v s rest
closed_quad_read c s at v rest m d e = closing_read c s (quad_at s at) v rest (quad_read s at v (c ∷ rest) m d e)

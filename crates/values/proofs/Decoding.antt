-- Laws of decoding: characters, and what is left of a string. Assumes nothing.
use Rattle.jsontext.specs.declared.Bad.{Bad}
use Rattle.std.specs.Prelude.{is_ok, Result, Ok, Err}
use Prim.Native.Nat.{ℕ, zero, suc, ◌+◌, ◌-◌, ◌^◌, ◌≤◌, ◌<◌}
use mathlib.Core.Path.{◌≡◌, refl, ap, sym, ◌∙◌}
use mathlib.Core.List.{List, ◌∷◌}
use mathlib.Core.Bool.{Bool, true, false, ◌&&◌}
use native.Mathlib.Omega.{arith}
use native.Mathlib.Decide.{dec_lt}
use lib.ListN.{length, get_or, get_or-eq_default}
use lib.Dec.{eqb, ltb}
use mir.Syntax.{w64}
use mir.Val.{Fits}
use borrow.Author.Rules.{rules}
use borrow.Author.Tests.{ne_eqb, le-ltb}
use Rattle.text.specs.Bytes.{between, is_digit}
use Rattle.text.proofs.Tests.{by_test, clash, cond_cases, and_left, and_right}
use Rattle.text.proofs.ByteLaws.{inside, between_from, between_below, between_low, between_high}
use Rattle.jsontext.specs.Reading.{refused, is_hex, is_escape, one_at, times_at}
use Rattle.jsontext.proofs.Runs.{past_is}
use Rattle.values.specs.declared.Piece.{Piece}
use Rattle.values.specs.declared.Piece.TheVariants.{Stop, One, Two, Three, Four}
use Rattle.values.specs.Decode.{unit_at, utf8, utf8_long, is_high, is_low, low_at, partner_at, escaped_at, after_digits, unicode_at, piece_at, before, bytes_from, bytes_at}
use Rattle.jsontext.proofs.Sound.{inside_by}

-- a digit of base 16
module _ (b n : ℕ) (e : n ≡ b) {t : Bool} (p : t ≡ is_digit b) where
  pub digit_from : t ≡ true → 48 ≤ n
  digit_from q = omega (arith, between_low 0x30 0x39 b (sym p ∙ q))

-- four of them stand inside
times_inside : (p : ℕ → Bool) → p 0 ≡ false → (n : ℕ) (s : List ℕ) (i e : ℕ) → times_at p (suc n) s i ≡ Ok e → (e ≡ i + suc n) × (e ≤ length s)
unfolding times_at one_at
times_inside p z zero s i e = by_test (p (get_or s i 0)) (λ q r. let h : Ok (i + 1) ≡ Ok e = rw q at r in let k : i + 1 ≡ e = cc in let m : i < length s = inside_by p s i z q in omega arith) (λ q r. let h : refused i ≡ Ok e = rw q at r in let k : ◌≡◌ {A = ℕ} 0 1 = cc in absurd (omega arith))
times_inside p z (suc n) s i e = by_test (p (get_or s i 0)) (λ q r. let h = times_inside p z n s (i + 1) e (rw q at r) in omega arith) (λ q r. let h : refused i ≡ Ok e = rw q at r in let k : ◌≡◌ {A = ℕ} 0 1 = cc in absurd (omega arith))

hex_four : (s : List ℕ) (i e : ℕ) → times_at is_hex 4 s i ≡ Ok e → (e ≡ i + 4) × (e ≤ length s)
unfolding is_hex between
hex_four s i e q = times_inside is_hex refl 3 s i e q

pub hex_inside : (s : List ℕ) (i : ℕ) {r : Result ℕ Bad} → r ≡ times_at is_hex 4 s i → {e : ℕ} → r ≡ Ok e → i + 4 ≤ length s
hex_inside s i p {e} q = let h = hex_four s i e (sym p ∙ q) in omega arith

ended_is : (r : Result ℕ Bad) → is_ok r ≡ true → (e : ℕ) × (r ≡ Ok e)
ended_is (Ok e) q = (e, refl)
ended_is (Err p) q = clash {b = false} q refl

pub hex_ended : (s : List ℕ) (i : ℕ) {r : Result ℕ Bad} → r ≡ times_at is_hex 4 s i → is_ok r ≡ true → i + 4 ≤ length s
hex_ended s i {r} p q = let e = ended_is r q in hex_inside s i p e.1

-- surrogates
module _ (u : ℕ) {t : Bool} (e : t ≡ is_high u) (q : t ≡ true) where
  pub high_low : 0xD800 ≤ u
  high_low = between_low 0xD800 0xDBFF u (sym e ∙ q)

  pub high_high : u ≤ 0xDBFF
  high_high = between_high 0xD800 0xDBFF u (sym e ∙ q)

module _ (s : List ℕ) (at : ℕ) {t : Bool} (e : t ≡ partner_at s at) (q : t ≡ true) where
  partner_rest : (is_ok (times_at is_hex 4 s (at + 2)) && is_low (unit_at s (at + 2))) ≡ true
  unfolding partner_at low_at
  partner_rest = and_right (eqb (get_or s (at + 1) 0) 0x75) _ (and_right (eqb (get_or s at 0) 0x5C) _ (sym e ∙ q))

  pub partner_inside : at + 2 + 4 ≤ length s
  partner_inside = let h = ended_is (times_at is_hex 4 s (at + 2)) (and_left _ _ partner_rest) in let k = hex_four s (at + 2) h.0 h.1 in omega arith

  pub partner_fits : length s < 2 ^ 64 → (k : ℕ) → k ≤ 6 → Fits w64 (at + k)
  partner_fits l k h = let m = partner_inside in omega arith

  module _ {v : ℕ} (u : v ≡ unit_at s (at + 2)) where
    pub low_low : 0xDC00 ≤ v
    low_low = rw u (between_low 0xDC00 0xDFFF _ (and_right (is_ok (times_at is_hex 4 s (at + 2))) _ partner_rest))

    pub low_high : v ≤ 0xDFFF
    low_high = rw u (between_high 0xDC00 0xDFFF _ (and_right (is_ok (times_at is_hex 4 s (at + 2))) _ partner_rest))

-- the character at a place
module _ (s : List ℕ) (at : ℕ) (l : length s < 2 ^ 64) where
  pub past_one : (b : ℕ) → b ≡ get_or s at 0 → 32 ≤ b → Fits w64 (at + 1)
  past_one b e h = let m : at < length s = inside s at (omega arith) in omega arith

  module _ {c : ℕ} (e : c ≡ get_or s (at + 1) 0) where
    pub past_two : (k : ℕ) → c ≡ k → 0 < k → Fits w64 (at + 2)
    past_two k q h = let m : at + 1 < length s = inside s (at + 1) (omega arith) in omega arith

    pub past_escape : {t : Bool} → t ≡ is_escape c → t ≡ true → Fits w64 (at + 2)
    unfolding is_escape
    past_escape f q = let m : at + 1 < length s = inside_by is_escape s (at + 1) refl (ap is_escape (sym e) ∙ sym f ∙ q) in omega arith

pub piece_plain : (s : List ℕ) (at b : ℕ) → b ≡ get_or s at 0 → 32 ≤ b → (b ≡ 34 → ⊥) → (b ≡ 92 → ⊥) → {n : ℕ} → n ≡ b → One n (at + 1) ≡ piece_at s at
unfolding piece_at
piece_plain s at b e h f g q = rw (← e, le-ltb _ _ h, ne_eqb _ _ f, ne_eqb _ _ g, q)

-- the bytes of a string: no more fuel than its places is ever used
ends : Piece → ℕ → Type 0
ends Stop i = Unit {0}
ends (One a n) i = i < n
ends (Two a b n) i = i < n
ends (Three a b c n) i = i < n
ends (Four a b c d n) i = i < n

utf8_ends : (u i n : ℕ) → i < n → ends (utf8 u n) i
unfolding utf8 ends
utf8_ends u i n h = cond_cases (λ (p : Piece). ends p i) (ltb u 128) (λ q. h) (λ q. cond_cases (λ (p : Piece). ends p i) (ltb u 2048) (λ r. h) (λ r. h))

escaped_ends : (u : ℕ) (s : List ℕ) (i n : ℕ) → i < n → ends (escaped_at u s n) i
unfolding escaped_at ends utf8_long
escaped_ends u s i n h =
    cond_cases (λ (p : Piece). ends p i) (is_high u) (λ q. cond_cases (λ (p : Piece). ends p i) (partner_at s n) (λ t. omega arith) (λ t. h))
    (λ q. cond_cases (λ (p : Piece). ends p i) (is_low u) (λ t. h) (λ t. utf8_ends u i n h))

unicode_ends : (s : List ℕ) (i : ℕ) → ends (unicode_at s (i + 2)) i
unfolding unicode_at ends
unicode_ends s i = go (times_at is_hex 4 s (i + 2)) refl
  where
    go : (r : Result ℕ Bad) → times_at is_hex 4 s (i + 2) ≡ r → ends (after_digits r (λ e. escaped_at (unit_at s (i + 2)) s e)) i
    go (Ok e) q = let h = hex_four s (i + 2) e q in escaped_ends (unit_at s (i + 2)) s i e (omega arith)
    go (Err p) q = tt

piece_ends : (s : List ℕ) (i : ℕ) → ends (piece_at s i) i
unfolding piece_at ends
piece_ends s i =
    cond_cases (λ (p : Piece). ends p i) (ltb (get_or s i 0) 32) (λ q. tt)
    (λ q. cond_cases (λ (p : Piece). ends p i) (eqb (get_or s i 0) 34) (λ r. tt)
    (λ r. cond_cases (λ (p : Piece). ends p i) (eqb (get_or s i 0) 92)
    (λ t. cond_cases (λ (p : Piece). ends p i) (eqb (get_or s (i + 1) 0) 117) (λ v. unicode_ends s i) (λ v. cond_cases (λ (p : Piece). ends p i) (is_escape (get_or s (i + 1) 0)) (λ w. omega arith) (λ w. tt)))
    (λ t. omega arith)))

pub piece_stop : (s : List ℕ) (i : ℕ) → length s ≤ i → piece_at s i ≡ Stop
unfolding piece_at
piece_stop s i h = rw (get_or-eq_default s 0 h)

before_same : (p : Piece) (i : ℕ) → ends p i → (f g : ℕ → List ℕ) → ((n : ℕ) → i < n → f n ≡ g n) → before p f ≡ before p g
unfolding ends
before_same Stop i e f g h = refl
before_same (One a n) i e f g h = ap (λ (l : List ℕ). a ∷ l) (h n e)
before_same (Two a b n) i e f g h = ap (λ (l : List ℕ). a ∷ b ∷ l) (h n e)
before_same (Three a b c n) i e f g h = ap (λ (l : List ℕ). a ∷ b ∷ c ∷ l) (h n e)
before_same (Four a b c d n) i e f g h = ap (λ (l : List ℕ). a ∷ b ∷ c ∷ d ∷ l) (h n e)

bytes_fuel : (s : List ℕ) (f g i : ℕ) → length s - i < f → length s - i < g → bytes_from f s i ≡ bytes_from g s i
unfolding bytes_from
bytes_fuel s zero g i h l = absurd (omega arith)
bytes_fuel s (suc f) zero i h l = absurd (omega arith)
bytes_fuel s (suc f) (suc g) i h l = go (λ n a b. bytes_fuel s f g n a b) (dec_lt i (length s))
  where
    go : ((n : ℕ) → length s - n < f → length s - n < g → bytes_from f s n ≡ bytes_from g s n) → Dec (i < length s) → before (piece_at s i) (λ n. bytes_from f s n) ≡ before (piece_at s i) (λ n. bytes_from g s n)
    go r (yes m) = before_same (piece_at s i) i (piece_ends s i) (λ n. bytes_from f s n) (λ n. bytes_from g s n) (λ n k. r n (omega arith) (omega arith))
    go r (no m) = rw (piece_stop s i (omega arith))

pub string_turn : (s : List ℕ) (i : ℕ) → bytes_at s i ≡ before (piece_at s i) (bytes_at s)
unfolding bytes_at bytes_from
string_turn s i = go (dec_lt i (length s))
  where
    go : Dec (i < length s) → before (piece_at s i) (λ n. bytes_from (length s) s n) ≡ before (piece_at s i) (λ n. bytes_from (suc (length s)) s n)
    go (yes m) = before_same (piece_at s i) i (piece_ends s i) (λ n. bytes_from (length s) s n) (λ n. bytes_from (suc (length s)) s n) (λ n k. bytes_fuel s (length s) (suc (length s)) n (omega arith) (omega arith))
    go (no m) = rw (piece_stop s i (omega arith))

pub ruleset spelling = (rules, between_from, between_below, past_is, past_one, past_two, past_escape, digit_from, hex_inside, hex_ended, high_low, high_high, partner_inside, partner_fits, low_low, low_high)

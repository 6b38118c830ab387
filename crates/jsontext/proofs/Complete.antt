-- Every JSON text is taken. Assumes nothing.
use Prim.Native.Nat.{ℕ, zero, suc, ◌+◌, ◌≤◌, ◌<◌}
use mathlib.Core.Path.{◌≡◌, refl, ap, sym, ◌∙◌}
use mathlib.Core.List.{List, [], ◌∷◌, ◌++◌}
use mathlib.Core.Bool.{Bool, true, false, ◌&&◌, ◌||◌}
use native.Mathlib.Numerals.{add-one}
use native.Mathlib.Nat.{add-zero, zero-add}
use native.Mathlib.Omega.{arith}
use lib.ListN.{length, get_or, drop, drop_of_length-le, get_or-eq_default}
use lib.Seq.{drop-cons}
use lib.Dec.{ltb}
use borrow.Author.Tests.{eq-eqb, ne_eqb, lt-ltb, le-ltb, le-leb, lt-leb}
use Rattle.text.proofs.Tests.{and_left, and_right, and-false}
use Rattle.text.proofs.ByteLaws.{between_is}
use Rattle.jsontext.specs.declared.Bad.{Bad}
use Rattle.std.specs.Prelude.{Result, Ok}
use Rattle.jsontext.specs.declared.Start.{Start}
use Rattle.text.specs.Bytes.{between, is_digit}
use Rattle.std.specs.List.{prefix_len}
use Rattle.std.specs.Result.{result_or}
use Rattle.jsontext.specs.Reading.{is, refused, ◌>>=◌, is_space, is_hex, is_escape, is_plain, span_at, skip_at, one_at, times_at, some_at, token_at, word_at, run, tails_at, wide_at, escape_at, char_at, quote_or_char_at, string_at, minus_at, sign_at, int_at, fraction_at, is_e, exponent_at, number_at, key_at, start_of, next_at, element_at, member_at, array_at, object_at, by_start, value_at, stop, text_of}
use Rattle.jsontext.specs.Rfc8259.{Language, word, Byte, Range, within, ◌·◌, pair, ◌∣◌, left, right, Star, none, more, Opt, Times, Ws, Token, Digit, HexDig, Minus, Int, Frac, Exp, Number, Tail, Wide, Escaped, Char, String, Listed, Member, Literal, Value, Text}
use Rattle.jsontext.proofs.Sound.{Seg, here, byte, seg_length, cons_drop, wide_first, char_first}

pub seg_split : (u : List ℕ) {s v : List ℕ} {i k : ℕ} → Seg s i (u ++ v) k → (j : ℕ) × Seg s i u j × Seg s j v k
seg_split [] x = (_, here, x)
seg_split (b ∷ u) (byte h e x) = let r = seg_split u x in (r.0, byte h e r.1, r.2)

pub seg_inside : {s v : List ℕ} {i b j : ℕ} → Seg s i (b ∷ v) j → i < length s
seg_inside (byte h e x) = h

pub seg_of_drop : (s l : List ℕ) (i : ℕ) → drop i s ≡ l → Seg s i l (i + length l)
seg_of_drop s [] i e = rw (add-zero i) here
seg_of_drop s (x ∷ l) i e =
    let r = cons_drop s i x l e in
    let n : i + suc (length l) ≡ i + 1 + length l = omega arith in
    rw n (byte r.0 r.1 (seg_of_drop s l (i + 1) r.2))

pub seg_whole : (s : List ℕ) → Seg s 0 s (length s)
seg_whole s = rw zero-add at (seg_of_drop s s 0 refl)

pub span_more : (p : ℕ → Bool) (s : List ℕ) (i : ℕ) → i < length s → p (get_or s i 0) ≡ true → span_at p s i ≡ span_at p s (i + 1)
unfolding span_at
span_more p s i h e = rw (drop-cons s i 0, e, add-one) (omega arith)

pub span_stop : (p : ℕ → Bool) (s : List ℕ) (i : ℕ) → p (get_or s i 0) ≡ false → span_at p s i ≡ i
unfolding span_at
span_stop p s i e = go (drop i s) refl
  where
    go : (l : List ℕ) → drop i s ≡ l → i + prefix_len p l ≡ i
    go [] q = add-zero i
    go (x ∷ l) q = let r = cons_drop s i x l q in let f : p x ≡ false = rw r.1 at e in rw f (add-zero i)

pub span_from : (p : ℕ → Bool) (s : List ℕ) (i : ℕ) → i ≤ span_at p s i
unfolding span_at
span_from p s i = omega arith

pub span_end : (p : ℕ → Bool) (s : List ℕ) (i : ℕ) → length s ≤ i → span_at p s i ≡ i
unfolding span_at
span_end p s i h = rw (drop_of_length-le s h) (add-zero i)

pub ne_is : (k b : ℕ) → (k ≡ b → ⊥) → is k b ≡ false
ne_is k b f = rw (ne_eqb b k (λ q. f (sym q))) (sym (and-false (ltb 0 k) refl))

pub eq_is : (k : ℕ) → 0 < k → is k k ≡ true
eq_is k h = rw (lt-ltb 0 k h, eq-eqb k k refl)

-- a test that every member of a language passes, each being one byte
pub record First (p : ℕ → Bool) (s : List ℕ) (i j : ℕ) : Type 0 where
  pub passes : p (get_or s i 0) ≡ true
  pub inside : i < length s
  pub next : j ≡ i + 1

abbrev pub Covers : (ℕ → Bool) → Language → Type 0
Covers p G = (s : List ℕ) (i j : ℕ) (v : List ℕ) → G v → Seg s i v j → First p s i j

pub eq_covers : (b : ℕ) → is b b ≡ true → Covers (is b) (Byte b)
eq_covers b z s i j v word (byte h e here) = record { passes = rw e z; inside = h; next = refl }

pub above : (lo hi b : ℕ) → lo ≤ b → hi < b → between lo hi b ≡ false
unfolding between
above lo hi b l h = rw (le-leb _ _ l, lt-leb _ _ h)

pub range_covers : (lo hi : ℕ) → Covers (between lo hi) (Range lo hi)
range_covers lo hi s i j v (within l r) (byte h e here) = record { passes = rw e (between_is lo hi _ l r); inside = h; next = refl }

pub either_covers : {p q : ℕ → Bool} {G H : Language} → Covers p G → Covers q H → Covers (λ b. p b || q b) (G ∣ H)
either_covers c d s i j v (left x) y = let r = c s i j v x y in record { passes = rw r.passes; inside = r.inside; next = r.next }
either_covers {p} {q} c d s i j v (right x) y = let r = d s i j v x y in record { passes = rw r.passes (go (p (get_or s i 0))); inside = r.inside; next = r.next }
  where
    go : (b : Bool) → (b || true) ≡ true
    go true = refl
    go false = refl

pub ws_covers : Covers is_space (Byte 0x20 ∣ Byte 0x09 ∣ Byte 0x0A ∣ Byte 0x0D)
unfolding is_space
ws_covers = either_covers (eq_covers 32 refl) (either_covers (eq_covers 9 refl) (either_covers (eq_covers 10 refl) (eq_covers 13 refl)))

pub digit_covers : Covers is_digit Digit
unfolding between
digit_covers = range_covers 48 57

pub hex_covers : Covers is_hex HexDig
unfolding is_hex between
hex_covers = either_covers digit_covers (either_covers (range_covers 65 70) (range_covers 97 102))

pub e_covers : Covers is_e (Byte 0x65 ∣ Byte 0x45)
unfolding is_e
e_covers = either_covers (eq_covers 101 refl) (eq_covers 69 refl)

pub plain_covers : Covers is_plain (Range 0x20 0x21 ∣ Range 0x23 0x5B ∣ Range 0x5D 0x7F)
unfolding is_plain
plain_covers = either_covers (range_covers 32 33) (either_covers (range_covers 35 91) (range_covers 93 127))

pub escape_covers : Covers is_escape (Byte 0x22 ∣ Byte 0x5C ∣ Byte 0x2F ∣ Byte 0x62 ∣ Byte 0x66 ∣ Byte 0x6E ∣ Byte 0x72 ∣ Byte 0x74)
unfolding is_escape
escape_covers =
    either_covers (eq_covers 34 refl)
    (either_covers (eq_covers 92 refl)
    (either_covers (eq_covers 47 refl) (either_covers (eq_covers 98 refl) (either_covers (eq_covers 102 refl) (either_covers (eq_covers 110 refl) (either_covers (eq_covers 114 refl) (eq_covers 116 refl)))))))

-- the readers of bytes
pub star_takes : {p : ℕ → Bool} {G : Language} → Covers p G → {s v : List ℕ} {i j : ℕ} → Star G v → Seg s i v j → span_at p s i ≡ span_at p s j
star_takes c none here = refl
star_takes {p} c {s} {i = i} (more {u = u} g gs) x =
    let t = seg_split u x in
    let r = c _ _ _ _ g t.1 in
    span_more p s i r.inside r.passes ∙ (rw (← r.next) (star_takes c gs t.2))

module _ {p : ℕ → Bool} {G : Language} (c : Covers p G) where
  pub byte_takes : {s v : List ℕ} {i j : ℕ} → G v → Seg s i v j → one_at p s i ≡ Ok j
  unfolding one_at
  byte_takes g x = let r = c _ _ _ _ g x in rw (r.passes, r.next)

  pub some_takes : {q : ℕ → Bool} {H : Language} {s v : List ℕ} {i j : ℕ} → Covers q H → (G · Star H) v → Seg s i v j → q (get_or s j 0) ≡ false → some_at p q s i ≡ Ok j
  unfolding some_at
  some_takes {q} {s = s} {j = j} d (pair {u = u} g gs) x n = let t = seg_split u x in rw (byte_takes g t.1) (ap Ok (star_takes d gs t.2 ∙ span_stop q s j n))

  pub times_takes : {s v : List ℕ} {i j : ℕ} (n : ℕ) → Times n G v → Seg s i v j → times_at p n s i ≡ Ok j
  unfolding times_at
  times_takes zero word here = refl
  times_takes {v = w} (suc n) (pair {u = u} {v = v} g gs) x = let t = seg_split u x in rw (byte_takes g t.1, times_takes {v = v} n gs t.2)

-- no byte is 0
abbrev solid : List ℕ → Bool
solid [] = true
solid (x ∷ w) = is x x && solid w

pub word_takes : (w : List ℕ) → solid w ≡ true → {s : List ℕ} {i j : ℕ} → Seg s i w j → word_at w s i ≡ Ok j
unfolding word_at
word_takes [] z here = refl
word_takes (b ∷ w) z (byte h e x) = rw (byte_takes (eq_covers b (and_left _ _ z)) word (byte h e here)) (word_takes w (and_right (is b b) _ z) x)

-- strings
pub tails_takes : (lo hi n : ℕ) {s v : List ℕ} {i j : ℕ} → (Range lo hi · Times n Tail) v → Seg s i v j → tails_at lo hi n s i ≡ Ok j
unfolding tails_at
tails_takes lo hi n (pair {u = u} g t) x = let r = seg_split u x in rw (byte_takes (range_covers lo hi) g r.1) (times_takes (range_covers 128 191) n t r.2)

pub wide_takes : {s v : List ℕ} {i j : ℕ} → Wide v → Seg s i v j → wide_at s i ≡ Ok j
unfolding wide_at between
wide_takes (left (pair (within {b = b} l r) t)) (byte h e x) = rw (e, between_is 194 223 b l r) (tails_takes 128 191 0 t x)
wide_takes (right (left (pair word t))) (byte h e x) = rw e (tails_takes 160 191 1 t x)
wide_takes (right (right (left (pair (within {b = b} l r) t)))) (byte h e x) =
    rw (e, above 194 223 b (omega arith) (omega arith), ne_is 224 b (λ q. omega arith), between_is 225 236 b l r) (tails_takes 128 191 1 t x)
wide_takes (right (right (right (left (pair word t))))) (byte h e x) = rw e (tails_takes 128 159 1 t x)
wide_takes (right (right (right (right (left (pair (within {b = b} l r) t)))))) (byte h e x) =
    rw (e, above 194 223 b (omega arith) (omega arith), ne_is 224 b (λ q. omega arith), above 225 236 b (omega arith) (omega arith), ne_is 237 b (λ q. omega arith), between_is 238 239 b l r) (tails_takes 128 191 1 t x)
wide_takes (right (right (right (right (right (left (pair word t))))))) (byte h e x) = rw e (tails_takes 144 191 2 t x)
wide_takes (right (right (right (right (right (right (left (pair (within {b = b} l r) t)))))))) (byte h e x) =
    rw (e, above 194 223 b (omega arith) (omega arith), ne_is 224 b (λ q. omega arith), above 225 236 b (omega arith) (omega arith), ne_is 237 b (λ q. omega arith), above 238 239 b (omega arith) (omega arith), ne_is 240 b (λ q. omega arith), between_is 241 243 b l r) (tails_takes 128 191 2 t x)
wide_takes (right (right (right (right (right (right (right (pair word t)))))))) (byte h e x) = rw e (tails_takes 128 143 2 t x)

pub escape_takes : {s v : List ℕ} {i j : ℕ} → Escaped v → Seg s i v j → escape_at s i ≡ Ok j
unfolding escape_at is_escape
escape_takes (left c) x = let r = escape_covers _ _ _ _ c x in rw (r.passes, r.next)
escape_takes (right (pair word t)) (byte h e x) = rw e (times_takes hex_covers 4 t x)

pub not_plain : (b : ℕ) → 127 < b → is_plain b ≡ false
unfolding is_plain
not_plain b h = rw (above 32 33 b (omega arith) (omega arith), above 35 91 b (omega arith) (omega arith)) (above 93 127 b (omega arith) (omega arith))

pub char_takes : {s v : List ℕ} {i j : ℕ} → Char v → Seg s i v j → char_at s i ≡ Ok j
unfolding char_at is_plain between
char_takes (left (left c)) x = let r = plain_covers _ _ _ _ c x in rw (r.passes, r.next)
char_takes {s} {i = i} (left (right c)) x = let r = wide_first c x in rw (not_plain (get_or s i 0) (omega arith), ne_is 92 (get_or s i 0) (λ q. omega arith)) (wide_takes c x)
char_takes (right (pair word t)) (byte h e x) = rw e (escape_takes t x)

pub chars_take : (f : ℕ) {s v : List ℕ} {i m j : ℕ} → Star Char v → Seg s i v m → Seg s m (34 ∷ []) j → m < f + i → run (quote_or_char_at s) f i ≡ Ok j
unfolding run quote_or_char_at
chars_take zero cs x (byte h e here) l = let n = seg_length x in absurd (omega arith)
chars_take (suc f) none here (byte h e here) l = rw e
chars_take (suc f) {s} {i = i} (more {u = u} c cs) x y l =
    let t = seg_split u x in
    let r = char_first c t.1 in
    rw (ne_is 34 (get_or s i 0) r.0, char_takes c t.1) (chars_take f cs t.2 y (omega arith))

pub text_takes : {s v : List ℕ} {i j : ℕ} → (Star Char · Byte 0x22) v → Seg s i v j → string_at s i ≡ Ok j
unfolding string_at
text_takes {s} (pair {u = u} cs word) x = let t = seg_split u x in let h = seg_inside t.2 in chars_take (suc (length s)) cs t.1 t.2 (omega arith)

-- numbers
-- a byte that does not go on with a number
pub record Ends (b : ℕ) : Type 0 where
  pub digit : is_digit b ≡ false
  pub dot : is 46 b ≡ false
  letter : is_e b ≡ false

pub sign_takes : {s v : List ℕ} {i j : ℕ} → Opt Minus v → Seg s i v j → 45 < get_or s j 0 → minus_at s i ≡ j
unfolding minus_at
sign_takes {s} {i = i} (left word) here h = rw (ne_is 45 (get_or s i 0) (λ q. omega arith))
sign_takes (right word) (byte h e here) n = rw e

pub any_takes : {s v : List ℕ} {i j : ℕ} → Opt (Minus ∣ Byte 0x2B) v → Seg s i v j → 45 < get_or s j 0 → sign_at s i ≡ j
unfolding sign_at minus_at
any_takes {s} {i = i} (left word) here h = rw (ne_is 43 (get_or s i 0) (λ q. omega arith), ne_is 45 (get_or s i 0) (λ q. omega arith))
any_takes (right (left word)) (byte h e here) n = rw e
any_takes (right (right word)) (byte h e here) n = rw e

pub int_takes : {s v : List ℕ} {i j : ℕ} → Int v → Seg s i v j → is_digit (get_or s j 0) ≡ false → int_at s i ≡ Ok j
unfolding int_at
int_takes (left word) (byte h e here) n = rw e
int_takes {s} {i = i} (right (pair (within l r) ds)) (byte h e x) n =
    rw (ne_is 48 (get_or s i 0) (λ q. omega arith)) (some_takes (range_covers 49 57) digit_covers (pair (within l r) ds) (byte h e x) n)

pub int_first : {s v : List ℕ} {i j : ℕ} → Int v → Seg s i v j → (48 ≤ get_or s i 0) × (get_or s i 0 ≤ 57)
int_first (left word) (byte h e here) = omega arith
int_first (right (pair (within l r) ds)) (byte h e x) = omega arith

pub digits_first : {s v : List ℕ} {i j : ℕ} → (Digit · Star Digit) v → Seg s i v j → 45 < get_or s i 0
digits_first (pair (within l r) ds) (byte h e x) = omega arith

pub fraction_takes : {s v : List ℕ} {i j : ℕ} → Opt Frac v → Seg s i v j → is_digit (get_or s j 0) ≡ false → is 46 (get_or s j 0) ≡ false → fraction_at s i ≡ Ok j
unfolding fraction_at
fraction_takes (left word) here n d = rw d
fraction_takes (right (pair word ds)) (byte h e x) n d = rw e (some_takes digit_covers digit_covers ds x n)

pub fraction_first : {s v : List ℕ} {i j : ℕ} → Opt Frac v → Seg s i v j → is_digit (get_or s j 0) ≡ false → is_digit (get_or s i 0) ≡ false
unfolding between
fraction_first (left word) here n = n
fraction_first (right (pair word ds)) (byte h e x) n = rw e

pub exponent_takes : {s v : List ℕ} {i j : ℕ} → Opt Exp v → Seg s i v j → Ends (get_or s j 0) → exponent_at s i ≡ Ok j
unfolding exponent_at
exponent_takes (left word) here n = rw n.letter
exponent_takes {s} (right (pair {u = u} c (pair {u = w} sg ds))) x n =
    let t = seg_split u x in
    let r = e_covers _ _ _ _ c t.1 in
    let y = seg_split w t.2 in
    rw (r.passes, ← r.next, any_takes sg y.1 (digits_first ds y.2)) (some_takes digit_covers digit_covers ds y.2 n.digit)

pub exponent_first : {s v : List ℕ} {i j : ℕ} → Opt Exp v → Seg s i v j → Ends (get_or s j 0) → (is_digit (get_or s i 0) ≡ false) × (is 46 (get_or s i 0) ≡ false)
unfolding between
exponent_first (left word) here n = (n.digit, n.dot)
exponent_first (right (pair (left word) t)) (byte h e x) n = (rw e, rw e)
exponent_first (right (pair (right word) t)) (byte h e x) n = (rw e, rw e)

pub number_takes : {s v : List ℕ} {i j : ℕ} → Number v → Seg s i v j → Ends (get_or s j 0) → number_at s i ≡ Ok j
unfolding number_at
number_takes {s} (pair {u = a} sg (pair {u = b} n (pair {u = c} f e))) x h =
    let t = seg_split a x in
    let y = seg_split b t.2 in
    let z = seg_split c y.2 in
    let i = int_first n y.1 in
    let d = exponent_first e z.2 h in
    rw (sign_takes sg t.1 (omega arith), int_takes n y.1 (fraction_first f z.1 d.0), fraction_takes f z.1 d.0 d.1) (exponent_takes e z.2 h)

-- white space and structure
pub not_ws : (b : ℕ) → 32 < b → is_space b ≡ false
unfolding is_space
not_ws b h = rw (ne_is 32 b (λ q. omega arith), ne_is 9 b (λ q. omega arith), ne_is 10 b (λ q. omega arith)) (ne_is 13 b (λ q. omega arith))

pub skip_none : (s : List ℕ) (i : ℕ) → 32 < get_or s i 0 → skip_at s i ≡ i
unfolding skip_at
skip_none s i h = span_stop is_space s i (not_ws _ h)

pub ws_takes : {s v : List ℕ} {i j : ℕ} → Ws v → Seg s i v j → skip_at s i ≡ skip_at s j
unfolding skip_at
ws_takes w x = star_takes ws_covers w x

-- a token, whose byte is found after white space
pub record Found (b : ℕ) (s : List ℕ) (i j : ℕ) : Type 0 where
  pub there : get_or s (skip_at s i) 0 ≡ b
  pub rest : skip_at s (skip_at s i + 1) ≡ skip_at s j

pub found : {b : ℕ} {s v : List ℕ} {i m j : ℕ} → skip_at s i ≡ skip_at s m → Ws v → Seg s m (b ∷ v) j → 32 < b → Found b s i j
found {s = s} {m = m} q w (byte l e z) h =
    let k : skip_at s m ≡ m = skip_none s m (omega arith) in
    record { there = rw (q, k) e; rest = rw (q, k) (ws_takes w z) }

pub token_takes : {b : ℕ} {s v : List ℕ} {i j : ℕ} → Token b v → Seg s i v j → 32 < b → Found b s i j
token_takes (pair {u = u} w (pair word w')) x h = let t = seg_split u x in found (ws_takes w t.1) w' t.2 h

pub token_past : {b : ℕ} {s v : List ℕ} {i j : ℕ} → Token b v → Seg s i v j → (i < j) × (i < length s)
token_past (pair {u = u} w (pair word w')) x = let t = seg_split u x in let h = seg_inside t.2 in let n = seg_length t.1 in let m = seg_length t.2 in omega arith

pub first_byte : {s v : List ℕ} {i b j : ℕ} → Seg s i (b ∷ v) j → get_or s i 0 ≡ b
first_byte (byte h e x) = e

pub after_first : {s v : List ℕ} {i b j : ℕ} → Seg s i (b ∷ v) j → Seg s (i + 1) v j
after_first (byte h e x) = x

pub ws_ends : {s v : List ℕ} {i j : ℕ} → Ws v → Seg s i v j → Ends (get_or s j 0) → Ends (get_or s i 0)
unfolding between is_e
ws_ends none here n = n
ws_ends (more (left word) w) (byte h e x) n = rw e (record { digit = refl; dot = refl; letter = refl })
ws_ends (more (right (left word)) w) (byte h e x) n = rw e (record { digit = refl; dot = refl; letter = refl })
ws_ends (more (right (right (left word))) w) (byte h e x) n = rw e (record { digit = refl; dot = refl; letter = refl })
ws_ends (more (right (right (right word))) w) (byte h e x) n = rw e (record { digit = refl; dot = refl; letter = refl })

pub token_ends : {b : ℕ} {s v : List ℕ} {i j : ℕ} → Token b v → Seg s i v j → Ends b → Ends (get_or s i 0)
token_ends (pair {u = u} w (pair word w')) x n = let t = seg_split u x in ws_ends w t.1 (rw (first_byte t.2) n)

-- a reader's end, up to white space
pub record Ended (s : List ℕ) (j : ℕ) (r : Result ℕ Bad) : Type 0 where
  pub place : ℕ
  pub ended : r ≡ Ok place
  pub rest : skip_at s place ≡ skip_at s j

-- a reader that takes a language, from wherever only white space stands before it
abbrev pub Taken : Language → List ℕ → (ℕ → Result ℕ Bad) → Type 0
Taken G s rd = (i i' j : ℕ) (v : List ℕ) → G v → Seg s i v j → skip_at s i' ≡ skip_at s i → Ends (get_or s j 0) → Ended s j (rd i')

pub comma_ends : Ends 44
unfolding between is_e
comma_ends = record { digit = refl; dot = refl; letter = refl }

module _ {G : Language} (close : ℕ) (s : List ℕ) (rd : ℕ → Result ℕ Bad) (tk : Taken G s rd) (ce : Ends close) (h : 44 < close) where
  pub list_ends : {w z : List ℕ} {j k l : ℕ} → Star (Token 0x2C · G) w → Seg s j w k → Token close z → Seg s k z l → Ends (get_or s j 0)
  list_ends none here c z = token_ends c z ce
  list_ends (more {u = u} (pair {u = t} tok g) gs) y c z = let y₁ = seg_split u y in token_ends tok (seg_split t y₁.1).1 comma_ends

  pub items_take : (f i' : ℕ) {u w z : List ℕ} {i j k l : ℕ} → G u → Seg s i u j → Star (Token 0x2C · G) w → Seg s j w k → Token close z → Seg s k z l → skip_at s i' ≡ skip_at s i → k < f + j → Ended s l (run (λ n. rd n >>= (λ e. next_at close s e)) f i')
  unfolding run next_at
  items_take zero i' g x gs y c z q n = let m = seg_length y in absurd (omega arith)
  items_take (suc f) i' {j = j} g x none here c z q n =
      let a = tk _ i' _ _ g x q (token_ends c z ce) in
      let b = token_takes c z (omega arith) in
      record { place = skip_at s j + 1; ended = rw (a.ended, a.rest, b.there, eq_is close (omega arith)); rest = b.rest }
  items_take (suc f) i' g x (more {u = u} (pair {u = t} tok g') gs) y c z q n =
      let y₁ = seg_split u y in
      let y₂ = seg_split t y₁.1 in
      let a = tk _ i' _ _ g x q (token_ends tok y₂.1 comma_ends) in
      let b = token_takes tok y₂.1 (omega arith) in
      let p = token_past tok y₂.1 in
      let m = seg_length y₂.2 in
      let r = items_take f _ g' y₂.2 gs y₁.2 c z b.rest (omega arith) in
      record { place = r.place; ended = rw (a.ended, a.rest, b.there, ne_is close 44 (λ q. omega arith)) r.ended; rest = r.rest }

  -- the items or none, and the closing byte
  pub list_takes : ((i j : ℕ) (v : List ℕ) → G v → Seg s i v j → Ends (get_or s j 0) → is close (get_or s (skip_at s i) 0) ≡ false) → (i' : ℕ) {v : List ℕ} {i j : ℕ} → (Opt (Listed G) · Token close) v → Seg s i v j → skip_at s i' ≡ skip_at s i → Ended s j (result_or (token_at close s i') (run (λ n. rd n >>= (λ e. next_at close s e)) (suc (length s)) i'))
  unfolding token_at one_at
  list_takes nc i' {i = i} (pair (left word) c) x q =
      let b = token_takes c x (omega arith) in
      record { place = skip_at s i + 1; ended = rw (q, b.there, eq_is close (omega arith)); rest = b.rest }
  list_takes nc i' (pair {u = u} (right (pair {u = t} g gs)) c) x q =
      let y₁ = seg_split u x in
      let y₂ = seg_split t y₁.1 in
      let p = token_past c y₁.2 in
      let m = seg_length y₂.2 in
      let r = items_take (suc (length s)) i' g y₂.1 gs y₂.2 c y₁.2 q (omega arith) in
      record { place = r.place; ended = rw (q, nc _ _ _ g y₂.1 (list_ends gs y₂.2 c y₁.2)) r.ended; rest = r.rest }

pub member_takes : {G : Language} (s : List ℕ) (rd : ℕ → Result ℕ Bad) → Taken G s (λ i. rd (skip_at s i)) → Taken (Member G) s (λ i. key_at s i >>= (λ v. rd (skip_at s v)))
unfolding key_at token_at one_at
member_takes s rd tk i i' j v (pair {u = u} (pair word t) (pair {u = w} tok g)) x q n =
    let y₁ = seg_split u x in
    let y₂ = seg_split w y₁.2 in
    let b = token_takes tok y₂.1 (omega arith) in
    let e = first_byte y₁.1 in
    let k : skip_at s i ≡ i = skip_none s i (omega arith) in
    let r = tk _ (skip_at s y₁.0 + 1) _ _ g y₂.2 b.rest n in
    let a : key_at s i' ≡ Ok (skip_at s y₁.0 + 1) = rw (q, k, e, text_takes t (after_first y₁.1), b.there) in
    record { place = r.place; ended = rw a r.ended; rest = r.rest }

-- values
pub is_digit_lem : (b : ℕ) → 48 ≤ b → b ≤ 57 → is_digit b ≡ true
unfolding between
is_digit_lem b h l = between_is 48 57 b h l

pub number_start : {s v : List ℕ} {i j : ℕ} → Number v → Seg s i v j → (start_of (get_or s i 0) ≡ Start.Number) × (32 < get_or s i 0)
unfolding start_of
number_start {s} {i = i} (pair (left word) (pair {u = u} n f)) x =
    let b = get_or s i 0 in
    let t = seg_split u x in
    let r = int_first n t.1 in
    let l : 32 < b = omega arith in
    (rw (ne_is 91 b (λ q. omega arith), ne_is 123 b (λ q. omega arith), ne_is 34 b (λ q. omega arith), ne_is 116 b (λ q. omega arith), ne_is 102 b (λ q. omega arith), ne_is 110 b (λ q. omega arith), ne_is 45 b (λ q. omega arith), is_digit_lem b r.0 r.1), l)
number_start (pair (right word) t) (byte h e x) = (rw e, omega arith)

pub simple_start : {s v : List ℕ} {i j : ℕ} (arr obj : ℕ → Result ℕ Bad) → (Literal ∣ Number ∣ String) v → Seg s i v j → Ends (get_or s j 0) → (by_start (start_of (get_or s i 0)) s i arr obj ≡ Ok j) × (32 < get_or s i 0)
unfolding start_of
simple_start arr obj (left (left word)) (byte h e x) n = (rw e (word_takes _ refl (byte h e x)), omega arith)
simple_start arr obj (left (right (left word))) (byte h e x) n = (rw e (word_takes _ refl (byte h e x)), omega arith)
simple_start arr obj (left (right (right word))) (byte h e x) n = (rw e (word_takes _ refl (byte h e x)), omega arith)
simple_start arr obj (right (left m)) x n = let r = number_start m x in (rw r.0 (number_takes m x n), r.1)
simple_start arr obj (right (right (pair word t))) (byte h e x) n = (rw e (text_takes t x), omega arith)

pub value_bad : (d : ℕ) (s : List ℕ) (k : ℕ) → 93 ≡ get_or s k 0 → value_at d s k ≡ refused k
unfolding value_at start_of between
value_bad zero s k h = rw (← h)
value_bad (suc d) s k h = rw (← h)

pub value_not : (d : ℕ) (s : List ℕ) (k e : ℕ) → value_at d s k ≡ Ok e → is 93 (get_or s k 0) ≡ false
value_not d s k e q = ne_is 93 (get_or s k 0) (λ h. let b = value_bad d s k h in let z : ◌≡◌ {A = ℕ} 0 1 = cc in omega arith)

pub member_not : {G : Language} {s v : List ℕ} {i j : ℕ} → Member G v → Seg s i v j → is 125 (get_or s (skip_at s i) 0) ≡ false
member_not {s = s} {i = i} (pair (pair word t) g) (byte h e x) = rw (skip_none s i (omega arith), e)

pub value_array : (d : ℕ) (s : List ℕ) (k : ℕ) → get_or s k 0 ≡ 91 → value_at (suc d) s k ≡ array_at (value_at d s) s (k + 1)
unfolding value_at start_of
value_array d s k h = rw h

pub value_object : (d : ℕ) (s : List ℕ) (k : ℕ) → get_or s k 0 ≡ 123 → value_at (suc d) s k ≡ object_at (value_at d s) s (k + 1)
unfolding value_at start_of
value_object d s k h = rw h

pub close_ends : (Ends 93) × (Ends 125)
unfolding between is_e
close_ends = (record { digit = refl; dot = refl; letter = refl }, record { digit = refl; dot = refl; letter = refl })

pub value_takes : (d : ℕ) (s : List ℕ) → Taken (Value d) s (λ i. value_at d s (skip_at s i))
unfolding value_at array_at object_at element_at member_at
value_takes zero s i i' j v x y q n =
    let r = simple_start (λ j. refused i) (λ j. refused i) x y n in
    record { place = j; ended = rw (q, skip_none s i r.1) r.0; rest = refl }
value_takes (suc d) s i i' j v (left (pair {u = u} tok l)) y q n =
    let y₁ = seg_split u y in
    let f = token_takes tok y₁.1 (omega arith) in
    let r = list_takes 125 s (λ i. key_at s i >>= (λ v. value_at d s (skip_at s v))) (member_takes s (value_at d s) (value_takes d s)) close_ends.1 (omega arith) (λ i j v g x n. member_not g x) (skip_at s i + 1) l y₁.2 f.rest in
    record { place = r.place; ended = ap (value_at (suc d) s) q ∙ value_object d s (skip_at s i) f.there ∙ r.ended; rest = r.rest }
value_takes (suc d) s i i' j v (right (left (pair {u = u} tok l))) y q n =
    let y₁ = seg_split u y in
    let f = token_takes tok y₁.1 (omega arith) in
    let r = list_takes 93 s (λ i. value_at d s (skip_at s i)) (value_takes d s) close_ends.0 (omega arith) (λ i j v g x n. let r = value_takes d s i i j v g x refl n in value_not d s (skip_at s i) r.place r.ended) (skip_at s i + 1) l y₁.2 f.rest in
    record { place = r.place; ended = ap (value_at (suc d) s) q ∙ value_array d s (skip_at s i) f.there ∙ r.ended; rest = r.rest }
value_takes (suc d) s i i' j v (right (right x)) y q n =
    let r = simple_start (λ i. array_at (value_at d s) s i) (λ i. object_at (value_at d s) s i) x y n in
    record { place = j; ended = rw (q, skip_none s i r.1) r.0; rest = refl }

pub end_ends : (s : List ℕ) → Ends (get_or s (length s) 0)
unfolding between is_e
end_ends s = rw (get_or-eq_default s 0 {n = length s} (omega arith)) (record { digit = refl; dot = refl; letter = refl })

pub skip_end : (s : List ℕ) → skip_at s (length s) ≡ length s
unfolding skip_at is_space
skip_end s = span_stop is_space s (length s) (rw (get_or-eq_default s 0 {n = length s} (omega arith)))

-- every JSON text is taken
pub complete : (d : ℕ) (s : List ℕ) → Text d s → text_of d s ≡ Ok (length s)
unfolding text_of stop
complete d s t = go t (seg_whole s)
  where
    go : {v : List ℕ} → Text d v → Seg s 0 v (length s) → text_of d s ≡ Ok (length s)
    go (pair {u = u} a (pair {u = w} v b)) x =
        let y₁ = seg_split u x in
        let y₂ = seg_split w y₁.2 in
        let r = value_takes d s y₁.0 0 _ _ v y₂.1 (ws_takes a y₁.1) (ws_ends b y₂.2 (end_ends s)) in
        let e : skip_at s r.place ≡ length s = r.rest ∙ ws_takes b y₂.2 ∙ skip_end s in
        rw (r.ended, e, le-ltb (length s) (length s) (omega arith))

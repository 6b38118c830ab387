-- What a reader takes belongs to the grammar, and what stands before a place that it refuses begins something that does. Assumes nothing.
use Prim.Native.Nat.{ℕ, zero, suc, ◌+◌, ◌≤◌, ◌<◌}
use mathlib.Core.Path.{◌≡◌, refl, subst, subst⁻¹, ◌∙◌}
use mathlib.Core.List.{List, [], ◌∷◌, ◌++◌, append_assoc, append-nil}
use mathlib.Core.Bool.{Bool, true, false, cond, ◌||◌}
use native.Mathlib.Numerals.{add-one}
use native.Mathlib.Nat.{add-zero}
use native.Mathlib.Omega.{arith}
use lib.ListN.{length, get_or, take, drop, drop_of_length-le, length-append}
use lib.Seq.{drop-cons, take_at}
use lib.Dec.{ltb}
use borrow.Author.Tests.{eqb-true, ltb-true, ltb-false, lt-ltb, ne_eqb}
use Rattle.text.proofs.Tests.{by_test, cond_cases, and_right, clash}
use Rattle.text.proofs.ByteLaws.{between_low, between_high}
use Rattle.jsontext.specs.declared.Bad.{Bad}
use Rattle.std.specs.Prelude.{Result, Ok, Err}
use Rattle.jsontext.specs.declared.Next.{Next}
use Rattle.jsontext.specs.declared.Next.TheVariants.{Done, More}
use Rattle.jsontext.specs.declared.Start.{Start}
use Rattle.text.specs.Bytes.{between, is_digit}
use Rattle.std.specs.List.{prefix_len}
use Rattle.std.specs.Result.{result_or}
use Rattle.jsontext.specs.Reading.{is, refused, ◌>>=◌, after, is_space, is_hex, is_escape, is_plain, span_at, skip_at, one_at, times_at, some_at, token_at, word_at, run, tails_at, wide_at, escape_at, char_at, quote_or_char_at, string_at, minus_at, sign_at, int_at, fraction_at, is_e, exponent_at, number_at, key_at, start_of, next_at, element_at, member_at, array_at, object_at, by_start, value_at, stop, text_of}
use Rattle.jsontext.specs.Rfc8259.{Language, Word, word, Byte, Range, within, ◌·◌, pair, ◌∣◌, left, right, Star, none, more, Opt, Times, Ws, Token, Digit, HexDig, Minus, Int, Frac, Exp, Number, Tail, Wide, Escaped, Char, String, Listed, Member, Literal, Value, Text, Begins}

-- s holds the bytes v from place i on, up to place j
pub data Seg (s : List ℕ) : ℕ → List ℕ → ℕ → Type 0 where
  here : {i : ℕ} → Seg s i [] i
  byte : {i j b : ℕ} {v : List ℕ} → i < length s → get_or s i 0 ≡ b → Seg s (i + 1) v j → Seg s i (b ∷ v) j

pub seg_append : {s u v : List ℕ} {i j k : ℕ} → Seg s i u j → Seg s j v k → Seg s i (u ++ v) k
seg_append here y = y
seg_append (byte h e x) y = byte h e (seg_append x y)

pub seg_drop : {s v : List ℕ} {i j : ℕ} → Seg s i v j → drop i s ≡ v ++ drop j s
seg_drop here = refl
seg_drop {s} (byte {i = i} h e x) = rw (drop-cons s i 0 h, e, ← add-one, seg_drop x)

pub seg_length : {s v : List ℕ} {i j : ℕ} → Seg s i v j → j ≡ i + length v
seg_length here = omega arith
seg_length (byte h e x) = let r = seg_length x in omega arith

-- by where a place stands
pub split : {P : Type 0} (n i : ℕ) → (i < n → P) → (n ≤ i → P) → P
split {P} n i f g = by_test (ltb i n) (λ q. f (ltb-true i n q)) (λ q. g (ltb-false i n q))

pub seg_end : {s v : List ℕ} {i j : ℕ} → Seg s i v j → i < j → j ≤ length s
seg_end here h = absurd (omega arith)
seg_end (byte {i = i} {j = j} h e x) l = split j (i + 1) (λ m. seg_end x m) (λ m. let n = seg_length x in omega arith)

pub seg_take : {s v : List ℕ} {j : ℕ} → Seg s 0 v j → take j s ≡ v
seg_take {s} {v} {j} x = let c : s ≡ v ++ drop j s = seg_drop x in let n = seg_length x in rw (c, take_at v (drop j s) j (omega arith))

-- a reader's answer, told in the grammar
pub data Means (G : List ℕ → Type 0) (s : List ℕ) (i : ℕ) : Result ℕ Bad → Type 0 where
  ended : {e : ℕ} {v : List ℕ} → Seg s i v e → G v → Means G s i (Ok e)
  bad : {k : ℕ} {v : List ℕ} (x : List ℕ) → Seg s i v k → G (v ++ x) → Means G s i (refused k)

abbrev pub Some : Language → Type 0
Some G = (x : List ℕ) × G x

module _ {G H : Language} {s : List ℕ} where
  pub map_means : {i : ℕ} {r : Result ℕ Bad} → ((v : List ℕ) → G v → H v) → Means G s i r → Means H s i r
  map_means f (ended x a) = ended x (f _ a)
  map_means f (bad z x a) = bad z x (f _ a)

  pub glue : {i j : ℕ} {r : Result ℕ Bad} {v : List ℕ} → Seg s i v j → G v → Means H s j r → Means (G · H) s i r
  glue x a (ended y b) = ended (seg_append x y) (pair a b)
  glue x a (bad z y b) = bad z (seg_append x y) (rw append_assoc (pair a b))

  pub then_means : {i : ℕ} {r : Result ℕ Bad} (g : ℕ → Result ℕ Bad) → Means G s i r → Some H → ((e : ℕ) → Means H s e (g e)) → Means (G · H) s i (r >>= g)
  then_means g (ended x a) h f = glue x a (f _)
  then_means g (bad z x a) h f = bad (z ++ h.0) x (rw (← append_assoc) (pair a h.1))

-- a byte that passes a test that 0 does not pass stands inside_by
pub inside_by : (p : ℕ → Bool) (s : List ℕ) (k : ℕ) → p 0 ≡ false → p (get_or s k 0) ≡ true → k < length s
inside_by p [] k z q = clash q z
inside_by p (x ∷ xs) zero z q = omega arith
inside_by p (x ∷ xs) (suc k) z q = let r : k < length xs = inside_by p xs k z q in omega arith

pub one : (p : ℕ → Bool) (s : List ℕ) (k : ℕ) → p 0 ≡ false → p (get_or s k 0) ≡ true → Seg s k (get_or s k 0 ∷ []) (k + 1)
one p s k z q = byte (inside_by p s k z q) refl here

pub times_some : {G : Language} (n : ℕ) → Some G → Some (Times n G)
times_some zero h = ([], word)
times_some (suc n) h = (h.0 ++ (times_some n h).0, pair h.1 (times_some n h).1)

pub some_pair : {G H : Language} → Some G → Some H → Some (G · H)
some_pair a b = (a.0 ++ b.0, pair a.1 b.1)

pub some_range : (lo hi : ℕ) → lo ≤ hi → Some (Range lo hi)
some_range lo hi h = (lo ∷ [], within {b = lo} (omega arith) h)

pub some_word : (w : List ℕ) → Some (Word w)
some_word w = (w, word)

pub some_star : {G : Language} → Some (Star G)
some_star = ([], none)

-- a test that passes only bytes of a language
pub record Class (p : ℕ → Bool) (G : Language) : Type 0 where
  pub zeroth : p 0 ≡ false
  pub member : (b : ℕ) → p b ≡ true → G (b ∷ [])

pub cons_drop : (s : List ℕ) (i x : ℕ) (l : List ℕ) → drop i s ≡ x ∷ l → (i < length s) × (get_or s i 0 ≡ x) × (drop (i + 1) s ≡ l)
cons_drop [] zero x l e = let z : ◌≡◌ {A = ℕ} 0 1 = cc in absurd (omega arith)
cons_drop [] (suc i) x l e = let z : ◌≡◌ {A = ℕ} 0 1 = cc in absurd (omega arith)
cons_drop (y ∷ s) zero x l e = (omega arith, cc, cc)
cons_drop (y ∷ s) (suc i) x l e = let r = cons_drop s i x l e in (omega arith, r.1, rw add-one (rw add-one at r.2))

-- what stands between two places, in a language
abbrev pub Reads : Language → List ℕ → ℕ → ℕ → Type 0
Reads G s i j = (v : List ℕ) × Seg s i v j × G v

pub reads_then : {G H : Language} {s : List ℕ} {i j k : ℕ} → Reads G s i j → Reads H s j k → Reads (G · H) s i k
reads_then a b = (_, seg_append a.1 b.1, pair a.2 b.2)

pub reads_means : {G H : Language} {s : List ℕ} {i j : ℕ} {r : Result ℕ Bad} → Reads G s i j → Means H s j r → Means (G · H) s i r
reads_means a m = glue a.1 a.2 m

module _ {p : ℕ → Bool} {G : Language} (c : Class p G) where
  pub byte_means : Some G → (s : List ℕ) (i : ℕ) → Means G s i (one_at p s i)
  unfolding one_at
  byte_means h s i = cond_cases (Means G s i) (p (get_or s i 0)) (λ q. ended (one p s i c.zeroth q) (c.member _ q)) (λ q. bad h.0 here h.1)

  pub span_go : (s l : List ℕ) (i : ℕ) → drop i s ≡ l → Reads (Star G) s i (i + prefix_len p l)
  span_go s [] i e = ([], rw (add-zero i) here, none)
  span_go s (x ∷ l) i e = let r = cons_drop s i x l e in go (p x) refl (span_go s l (i + 1) r.2)
    where
      go : (b : Bool) → p x ≡ b → Reads (Star G) s (i + 1) (i + 1 + prefix_len p l) → Reads (Star G) s i (i + (cond b (1 + prefix_len p l) 0))
      go true q t =
          let r = cons_drop s i x l e in
          let n : i + (1 + prefix_len p l) ≡ i + 1 + prefix_len p l = omega arith in
          rw n (x ∷ t.0, byte r.0 r.1 t.1, more (c.member x q) t.2)
      go false q t = ([], rw (add-zero i) here, none)

  pub span_reads : (s : List ℕ) (i : ℕ) → Reads (Star G) s i (span_at p s i)
  unfolding span_at
  span_reads s i = span_go s (drop i s) i refl

  pub times_means : Some G → (n : ℕ) (s : List ℕ) (i : ℕ) → Means (Times n G) s i (times_at p n s i)
  unfolding times_at
  times_means h zero s i = ended here word
  times_means h (suc n) s i = then_means _ (byte_means h s i) (times_some n h) (times_means h n s)

  pub byte_reads : (s : List ℕ) (i : ℕ) → p (get_or s i 0) ≡ true → Reads G s i (i + 1)
  byte_reads s i q = (_, one p s i c.zeroth q, c.member _ q)

-- by the first byte
module _ {G : Language} {p : ℕ → Bool} (c : Class p G) (s : List ℕ) (i : ℕ) where
  pub alt_means : {H K : Language} {r t : Result ℕ Bad} → Means H s (i + 1) r → Means K s i t → Means (G · H ∣ K) s i (cond (p (get_or s i 0)) r t)
  alt_means {H} {K} m n = cond_cases (Means (G · H ∣ K) s i) (p (get_or s i 0)) (λ q. map_means (λ v. left) (reads_means (byte_reads c s i q) m)) (λ q. map_means (λ v. right) n)

  pub alt_byte : {K : Language} {t : Result ℕ Bad} → Means K s i t → Means (G ∣ K) s i (cond (p (get_or s i 0)) (Ok (i + 1)) t)
  alt_byte {K} n = cond_cases (Means (G ∣ K) s i) (p (get_or s i 0)) (λ q. let r = byte_reads c s i q in ended r.1 (left r.2)) (λ q. map_means (λ v. right) n)

  pub alt_last : {H : Language} {r : Result ℕ Bad} → Some (G · H) → Means H s (i + 1) r → Means (G · H) s i (cond (p (get_or s i 0)) r (refused i))
  alt_last {H} h m = cond_cases (Means (G · H) s i) (p (get_or s i 0)) (λ q. reads_means (byte_reads c s i q) m) (λ q. bad h.0 here h.1)

  pub alt_none : {H : Language} {r : Result ℕ Bad} → Means H s (i + 1) r → Means (Opt (G · H)) s i (cond (p (get_or s i 0)) r (Ok i))
  alt_none {H} m = cond_cases (Means (Opt (G · H)) s i) (p (get_or s i 0)) (λ q. map_means (λ v. right) (reads_means (byte_reads c s i q) m)) (λ q. ended here (left word))

pub some_means : {G H : Language} {p q : ℕ → Bool} → Class p G → Class q H → Some G → (s : List ℕ) (i : ℕ) → Means (G · Star H) s i (some_at p q s i)
unfolding some_at
some_means c d h s i = then_means _ (byte_means c h s i) ([], none) (λ k. let r = span_reads d s k in ended r.1 r.2)

-- the tests
pub is_zero : (b : ℕ) → is b 0 ≡ false
is_zero zero = refl
is_zero (suc b) = rw (lt-ltb 0 (suc b) (omega arith)) (ne_eqb 0 (suc b) (λ q. omega arith))

pub eq_class : (b : ℕ) → Class (is b) (Byte b)
eq_class b = record { zeroth = is_zero b; member = λ c q. rw (eqb-true c b (and_right (ltb 0 b) _ q)) word }

pub either_class : {p q : ℕ → Bool} {G H : Language} → Class p G → Class q H → Class (λ b. p b || q b) (G ∣ H)
either_class {p} {q} {G} {H} c d = record { zeroth = rw (c.zeroth, d.zeroth); member = λ b. go b (p b) refl }
  where
    go : (b : ℕ) (x : Bool) → p b ≡ x → (x || q b) ≡ true → ◌∣◌ G H (b ∷ [])
    go b true e h = left (c.member b e)
    go b false e h = right (d.member b h)

pub range_class : (lo hi : ℕ) → between lo hi 0 ≡ false → Class (between lo hi) (Range lo hi)
range_class lo hi z = record { zeroth = z; member = λ b e. within (between_low lo hi b e) (between_high lo hi b e) }

pub ws_class : Class is_space (Byte 0x20 ∣ Byte 0x09 ∣ Byte 0x0A ∣ Byte 0x0D)
unfolding is_space
ws_class = either_class (eq_class 32) (either_class (eq_class 9) (either_class (eq_class 10) (eq_class 13)))

pub digit_class : Class is_digit Digit
unfolding between
digit_class = range_class 48 57 refl

pub hex_class : Class is_hex HexDig
unfolding is_hex between
hex_class = either_class digit_class (either_class (range_class 65 70 refl) (range_class 97 102 refl))

pub e_class : Class is_e (Byte 0x65 ∣ Byte 0x45)
unfolding is_e
e_class = either_class (eq_class 101) (eq_class 69)

pub plain_class : Class is_plain (Range 0x20 0x21 ∣ Range 0x23 0x5B ∣ Range 0x5D 0x7F)
unfolding is_plain between
plain_class = either_class (range_class 32 33 refl) (either_class (range_class 35 91 refl) (range_class 93 127 refl))

pub escape_class : Class is_escape (Byte 0x22 ∣ Byte 0x5C ∣ Byte 0x2F ∣ Byte 0x62 ∣ Byte 0x66 ∣ Byte 0x6E ∣ Byte 0x72 ∣ Byte 0x74)
unfolding is_escape
escape_class =
    either_class (eq_class 34)
    (either_class (eq_class 92)
    (either_class (eq_class 47)
    (either_class (eq_class 98) (either_class (eq_class 102) (either_class (eq_class 110) (either_class (eq_class 114) (eq_class 116)))))))

-- numbers
pub one_digit : Some Digit
one_digit = some_range 48 57 (omega arith)

pub sign_reads : (s : List ℕ) (i : ℕ) → Reads (Opt Minus) s i (minus_at s i)
unfolding minus_at
sign_reads s i =
    cond_cases (λ (j : ℕ). Reads (Opt Minus) s i j) (is 45 (get_or s i 0)) (λ q. let r = byte_reads (eq_class 45) s i q in (r.0, r.1, right r.2)) (λ q. ([], here, left word))

pub any_reads : (s : List ℕ) (i : ℕ) → Reads (Opt (Minus ∣ Byte 0x2B)) s i (sign_at s i)
unfolding sign_at minus_at
any_reads s i =
    cond_cases (λ (j : ℕ). Reads (Opt (Minus ∣ Byte 0x2B)) s i j) (is 43 (get_or s i 0)) (λ q. let r = byte_reads (eq_class 43) s i q in (r.0, r.1, right (right r.2)))
    (λ q. cond_cases (λ (j : ℕ). Reads (Opt (Minus ∣ Byte 0x2B)) s i j) (is 45 (get_or s i 0)) (λ q. let r = byte_reads (eq_class 45) s i q in (r.0, r.1, right (left r.2))) (λ q. ([], here, left word)))

pub whole_means : (s : List ℕ) (i : ℕ) → Means Int s i (int_at s i)
unfolding int_at between
whole_means s i = alt_byte (eq_class 48) s i (some_means (range_class 49 57 refl) digit_class (some_range 49 57 (omega arith)) s i)

pub fraction_means : (s : List ℕ) (i : ℕ) → Means (Opt Frac) s i (fraction_at s i)
unfolding fraction_at
fraction_means s i = alt_none (eq_class 46) s i (some_means digit_class digit_class one_digit s (i + 1))

pub exponent_means : (s : List ℕ) (i : ℕ) → Means (Opt Exp) s i (exponent_at s i)
unfolding exponent_at
exponent_means s i = alt_none e_class s i (reads_means (any_reads s (i + 1)) (some_means digit_class digit_class one_digit s (sign_at s (i + 1))))

pub number_means : (s : List ℕ) (i : ℕ) → Means Number s i (number_at s i)
unfolding number_at
number_means s i =
    reads_means (sign_reads s i)
    (then_means _ (whole_means s (minus_at s i)) ([], pair (left word) (left word)) (λ j. then_means _ (fraction_means s j) ([], left word) (λ k. exponent_means s k)))

-- words
pub word_cons : {x : ℕ} {w v : List ℕ} → (Byte x · Word w) v → Word (x ∷ w) v
word_cons (pair word word) = word

pub word_means : (w s : List ℕ) (i : ℕ) → Means (Word w) s i (word_at w s i)
unfolding word_at
word_means [] s i = ended here word
word_means (x ∷ w) s i =
    map_means (λ v. word_cons) (then_means _ (byte_means (eq_class x) (x ∷ [], word) s i) (w, word) (λ k. word_means w s k))

-- strings
pub some_tail : Some Tail
some_tail = some_range 128 191 (omega arith)

pub tails_means : (lo hi n : ℕ) → between lo hi 0 ≡ false → lo ≤ hi → (s : List ℕ) (i : ℕ) → Means (Range lo hi · Times n Tail) s i (tails_at lo hi n s i)
unfolding tails_at between
tails_means lo hi n z h s i =
    then_means _ (byte_means (range_class lo hi z) (some_range lo hi h) s i) (times_some n some_tail) (λ k. times_means (range_class 128 191 refl) some_tail n s k)

pub wide_means : (s : List ℕ) (i : ℕ) → Means Wide s i (wide_at s i)
unfolding wide_at between
wide_means s i =
    alt_means (range_class 194 223 refl) s i (tails_means 128 191 0 refl (omega arith) s (i + 1))
    (alt_means (eq_class 224) s i (tails_means 160 191 1 refl (omega arith) s (i + 1))
    (alt_means (range_class 225 236 refl) s i (tails_means 128 191 1 refl (omega arith) s (i + 1))
    (alt_means (eq_class 237) s i (tails_means 128 159 1 refl (omega arith) s (i + 1))
    (alt_means (range_class 238 239 refl) s i (tails_means 128 191 1 refl (omega arith) s (i + 1))
    (alt_means (eq_class 240) s i (tails_means 144 191 2 refl (omega arith) s (i + 1))
    (alt_means (range_class 241 243 refl) s i (tails_means 128 191 2 refl (omega arith) s (i + 1))
    (alt_last (eq_class 244) s i (some_pair (some_word _) (some_pair (some_range 128 143 (omega arith)) (times_some 2 some_tail))) (tails_means 128 143 2 refl (omega arith) s (i + 1)))))))))

pub one_hex : Some HexDig
one_hex = (one_digit.0, left one_digit.1)

pub escape_means : (s : List ℕ) (i : ℕ) → Means Escaped s i (escape_at s i)
unfolding escape_at
escape_means s i =
    alt_byte escape_class s i (alt_last (eq_class 117) s i (some_pair (some_word _) (times_some 4 one_hex)) (times_means hex_class one_hex 4 s (i + 1)))

pub char_order : {v : List ℕ} {A B C : Language} → (A ∣ B ∣ C) v → ((A ∣ C) ∣ B) v
char_order (left a) = left (left a)
char_order (right (left b)) = right b
char_order (right (right c)) = left (right c)

pub char_means : (s : List ℕ) (i : ℕ) → Means Char s i (char_at s i)
unfolding char_at
char_means s i = map_means (λ v. char_order) (alt_byte plain_class s i (alt_means (eq_class 92) s i (escape_means s (i + 1)) (wide_means s i)))

pub wide_first : {s v : List ℕ} {i j : ℕ} → Wide v → Seg s i v j → (194 ≤ get_or s i 0) × (i < j)
wide_first (left (pair (within l r) t)) (byte h e x) = let n = seg_length x in omega arith
wide_first (right (left (pair word t))) (byte h e x) = let n = seg_length x in omega arith
wide_first (right (right (left (pair (within l r) t)))) (byte h e x) = let n = seg_length x in omega arith
wide_first (right (right (right (left (pair word t))))) (byte h e x) = let n = seg_length x in omega arith
wide_first (right (right (right (right (left (pair (within l r) t)))))) (byte h e x) = let n = seg_length x in omega arith
wide_first (right (right (right (right (right (left (pair word t))))))) (byte h e x) = let n = seg_length x in omega arith
wide_first (right (right (right (right (right (right (left (pair (within l r) t)))))))) (byte h e x) = let n = seg_length x in omega arith
wide_first (right (right (right (right (right (right (right (pair word t)))))))) (byte h e x) = let n = seg_length x in omega arith

pub char_first : {s v : List ℕ} {i j : ℕ} → Char v → Seg s i v j → (34 ≡ get_or s i 0 → ⊥) × (i < j)
char_first (left (left (left (within l r)))) (byte h e here) = omega arith
char_first (left (left (right (left (within l r))))) (byte h e here) = omega arith
char_first (left (left (right (right (within l r))))) (byte h e here) = omega arith
char_first (left (right c)) x = let r = wide_first c x in omega arith
char_first (right (pair word t)) (byte h e x) = let n = seg_length x in omega arith

-- a step of a loop that reads a language
pub data Steps (L : List ℕ → Type 0) (s : List ℕ) (i : ℕ) : Result Next Bad → Type 0 where
  finish : {k : ℕ} {v : List ℕ} → Seg s i v k → L v → Steps L s i (Ok (Done k))
  onward : {k : ℕ} {v : List ℕ} → Seg s i v k → i < k → ((w : List ℕ) → L w → L (v ++ w)) → Steps L s i (Ok (More k))
  wrong : {k : ℕ} {v : List ℕ} (x : List ℕ) → Seg s i v k → L (v ++ x) → Steps L s i (refused k)

module _ {L : Language} {s : List ℕ} where
  pub onto : {i k : ℕ} {v : List ℕ} {r : Result ℕ Bad} → Seg s i v k → ((w : List ℕ) → L w → L (v ++ w)) → Means L s k r → Means L s i r
  onto x f (ended y b) = ended (seg_append x y) (f _ b)
  onto x f (bad z y b) = bad z (seg_append x y) (rw append_assoc (f _ b))

  pub after_means : {i : ℕ} {n : Result Next Bad} (g : ℕ → Result ℕ Bad) → Steps L s i n → ((k : ℕ) → Means L s k (g k)) → Means L s i (after n g)
  after_means g (finish x a) f = ended x a
  after_means g (onward x l a) f = onto x a (f _)
  after_means g (wrong z x a) f = bad z x a

  pub run_means : (step : ℕ → Result Next Bad) → Some L → ((j : ℕ) → Steps L s j (step j)) → (f i : ℕ) → Means L s i (run step f i)
  unfolding run
  run_means step h m zero i = bad h.0 here h.1
  run_means step h m (suc f) i = after_means _ (m i) (λ k. run_means step h m f k)

pub add_char : {v w : List ℕ} → Char v → (Star Char · Byte 0x22) w → (Star Char · Byte 0x22) (v ++ w)
add_char c (pair cs q) = rw (← append_assoc) (pair (more c cs) q)

pub char_steps : (s : List ℕ) (i : ℕ) → Steps (Star Char · Byte 0x22) s i (quote_or_char_at s i)
unfolding quote_or_char_at
char_steps s i =
    cond_cases (Steps (Star Char · Byte 0x22) s i) (is 34 (get_or s i 0)) (λ q. let r = byte_reads (eq_class 34) s i q in finish r.1 (pair none r.2)) (λ q. go (char_means s i))
  where
    go : {r : Result ℕ Bad} → Means Char s i r → Steps (Star Char · Byte 0x22) s i (r >>= (λ k. Ok (More k)))
    go (ended x c) = onward x (char_first c x).1 (λ w l. add_char c l)
    go (bad z x c) = wrong (z ++ (34 ∷ [])) x (rw (← append_assoc) (add_char c (pair none word)))

pub text_means : (s : List ℕ) (i : ℕ) → Means (Star Char · Byte 0x22) s i (string_at s i)
unfolding string_at
text_means s i = run_means (quote_or_char_at s) (34 ∷ [], pair none word) (char_steps s) (suc (length s)) i

-- arrays and objects
pub ws_reads : (s : List ℕ) (i : ℕ) → Reads Ws s i (skip_at s i)
unfolding skip_at
ws_reads s i = span_reads ws_class s i

pub token_means : (b : ℕ) (s : List ℕ) (i : ℕ) → Means (Ws · Byte b) s i (token_at b s i)
unfolding token_at
token_means b s i = reads_means (ws_reads s i) (byte_means (eq_class b) (some_word _) s (skip_at s i))

-- what follows an item
pub data Follows (close : ℕ) (s : List ℕ) (i : ℕ) : Result Next Bad → Type 0 where
  closed : {k : ℕ} → Reads (Ws · Byte close) s i k → Follows close s i (Ok (Done k))
  comma : {k : ℕ} → Reads (Ws · Byte 0x2C) s i k → Follows close s i (Ok (More k))
  neither : {k : ℕ} → Reads Ws s i k → Follows close s i (refused k)

pub next_follows : (close : ℕ) (s : List ℕ) (i : ℕ) → Follows close s i (next_at close s i)
unfolding next_at
next_follows close s i =
    let k : ℕ = skip_at s i in
    cond_cases (Follows close s i) (is close (get_or s k 0)) (λ q. closed (reads_then (ws_reads s i) (byte_reads (eq_class close) s k q)))
    (λ p. cond_cases (Follows close s i) (is 44 (get_or s k 0)) (λ q. comma (reads_then (ws_reads s i) (byte_reads (eq_class 44) s k q))) (λ q. neither (ws_reads s i)))

-- items, from after the opening bracket to the closing one
abbrev pub Items : Language → ℕ → Language
Items G close = Ws · Listed G · Ws · Byte close

pub recast : (G : Language) {u v : List ℕ} → G v → u ≡ v → G u
recast G x e = subst⁻¹ G e x

pub some_items : {G : Language} (close : ℕ) → Some G → Some (Items G close)
some_items close h = some_pair some_star (some_pair (some_pair h some_star) (some_pair some_star (some_word _)))

pub last_item : {G : Language} {close : ℕ} {u t : List ℕ} → (Ws · G) u → (Ws · Byte close) t → Items G close (u ++ t)
last_item {G} {close} (pair w g) c = recast (Items G close) (pair w (pair (pair g none) c)) (simp append_assoc)

pub more_item : {G : Language} {close : ℕ} {u t w : List ℕ} → (Ws · G) u → (Ws · Byte 0x2C) t → Items G close w → Items G close (u ++ t ++ w)
more_item {G} {close} (pair a g) (pair b word) (pair a' (pair (pair g' gs) c)) =
    recast (Items G close) (pair a (pair (pair g (more (pair (pair b (pair word a')) g') gs)) c)) (simp append_assoc)

pub comma_past : {s u v : List ℕ} {i j k : ℕ} → Seg s i u j → Seg s j v k → (Ws · Byte 0x2C) v → i < k
comma_past x y (pair {u = w} a word) =
    let l = seg_length x in
    let m : _ ≡ _ + length (w ++ (44 ∷ [])) = seg_length y in
    let n = length-append w (44 ∷ []) in
    omega arith

pub item_steps : {G : Language} (close : ℕ) (s : List ℕ) {j : ℕ} {r : Result ℕ Bad} (g : ℕ → Result Next Bad) → Means (Ws · G) s j r → ((e : ℕ) → Follows close s e (g e)) → Steps (Items G close) s j (r >>= g)
item_steps {G} close s g (bad z x a) f = wrong (z ++ (close ∷ [])) x (rw (← append_assoc) (last_item a (pair none word)))
item_steps {G} close s {j} g (ended {e = e} {v = v} x a) f = go (f e)
  where
    go : {n : Result Next Bad} → Follows close s e n → Steps (Items G close) s j n
    go (closed t) = finish (seg_append x t.1) (last_item a t.2)
    go (comma t) = onward (seg_append x t.1) (comma_past x t.1 t.2) (λ w l. more_item a t.2 l)
    go (neither t) = wrong (close ∷ []) (seg_append x t.1) (rw append_assoc (last_item a (pair t.2 word)))

pub else_means : {G H : Language} {s : List ℕ} {i : ℕ} {r t : Result ℕ Bad} → Means G s i r → Means H s i t → Means (G ∣ H) s i (result_or r t)
else_means (ended x a) f = ended x (left a)
else_means (bad z x a) f = map_means (λ v. right) f

pub bracketed : {G : Language} {start close : ℕ} {v : List ℕ} → (Byte start · (Ws · Byte close ∣ Items G close)) v → (Token start · Opt (Listed G) · Token close) v
bracketed (pair word (left (pair w word))) = pair (pair none (pair word none)) (pair (left word) (pair w (pair word none)))
bracketed (pair word (right (pair a (pair l (pair b word))))) = pair (pair none (pair word a)) (pair (right l) (pair b (pair word none)))

pub member_order : {G : Language} {v : List ℕ} → (((Ws · Byte 0x22) · (Star Char · Byte 0x22) · Ws · Byte 0x3A) · Ws · G) v → (Ws · Member G) v
member_order {G} (pair (pair (pair a word) (pair t (pair b word))) (pair c g)) =
    recast (Ws · Member G) (pair a (pair (pair word t) (pair (pair b (pair word c)) g))) (simp append_assoc)

pub key_means : (s : List ℕ) (i : ℕ) → Means ((Ws · Byte 0x22) · (Star Char · Byte 0x22) · Ws · Byte 0x3A) s i (key_at s i)
unfolding key_at
key_means s i =
    then_means _ (token_means 34 s i) (some_pair (some_pair some_star (some_word _)) (some_pair some_star (some_word _)))
    (λ q. then_means _ (text_means s q) (some_pair some_star (some_word _)) (λ e. token_means 58 s e))

module _ {G : Language} (h : Some G) (s : List ℕ) (rd : ℕ → Result ℕ Bad) (m : (i : ℕ) → Means G s i (rd i)) where
  pub element_steps : (j : ℕ) → Steps (Items G 0x5D) s j (element_at rd s j)
  unfolding element_at
  element_steps j = item_steps 93 s _ (reads_means (ws_reads s j) (m (skip_at s j))) (next_follows 93 s)

  pub array_means : (i : ℕ) → Means (Ws · Byte 0x5D ∣ Items G 0x5D) s i (array_at rd s i)
  unfolding array_at
  array_means i = else_means (token_means 93 s i) (run_means (element_at rd s) (some_items 93 h) element_steps (suc (length s)) i)

  pub some_member : Some (Member G)
  some_member = some_pair (some_pair (some_word _) (some_pair some_star (some_word _))) (some_pair (some_pair some_star (some_pair (some_word _) some_star)) h)

  pub member_steps : (j : ℕ) → Steps (Items (Member G) 0x7D) s j (member_at rd s j)
  unfolding member_at
  member_steps j =
      item_steps 125 s _ (map_means (λ v. member_order) (then_means _ (key_means s j) (some_pair some_star h) (λ v. reads_means (ws_reads s v) (m (skip_at s v))))) (next_follows 125 s)

  pub object_means : (i : ℕ) → Means (Ws · Byte 0x7D ∣ Items (Member G) 0x7D) s i (object_at rd s i)
  unfolding object_at
  object_means i = else_means (token_means 125 s i) (run_means (member_at rd s) (some_items 125 some_member) member_steps (suc (length s)) i)

-- values
abbrev pub Fact : ℕ → Start → Type 0
Fact b Start.Array = is 91 b ≡ true
Fact b Start.Object = is 123 b ≡ true
Fact b Start.Text = is 34 b ≡ true
Fact b Start.True = Unit {0}
Fact b Start.False = Unit {0}
Fact b Start.Null = Unit {0}
Fact b Start.Number = Unit {0}
Fact b Start.Nothing = Unit {0}

pub start_fact : (b : ℕ) → Fact b (start_of b)
unfolding start_of
start_fact b =
    cond_cases (Fact b) (is 91 b) (λ q. q)
    (λ _. cond_cases (Fact b) (is 123 b) (λ q. q)
    (λ _. cond_cases (Fact b) (is 34 b) (λ q. q)
    (λ _. cond_cases (Fact b) (is 116 b) (λ q. tt)
    (λ _. cond_cases (Fact b) (is 102 b) (λ q. tt)
    (λ _. cond_cases (Fact b) (is 110 b) (λ q. tt) (λ _. cond_cases (Fact b) (is 45 b) (λ q. tt) (λ _. cond_cases (Fact b) (is_digit b) (λ q. tt) (λ q. tt))))))))

-- values by what they begin with: S without a bracket, A and O with one
pub some_number : Some Number
some_number = (48 ∷ [], pair (left word) (pair (left word) (pair (left word) (left word))))

abbrev pub Simple : Language
Simple = Literal ∣ Number ∣ String

pub by_start_lem : {A O : Language} (s : List ℕ) (i : ℕ) (arr obj : ℕ → Result ℕ Bad) → (is 91 (get_or s i 0) ≡ true → Means A s i (arr (i + 1))) → (is 123 (get_or s i 0) ≡ true → Means O s i (obj (i + 1))) → (t : Start) → Fact (get_or s i 0) t → Means (O ∣ A ∣ Simple) s i (by_start t s i arr obj)
by_start_lem s i arr obj f g Start.Array q = map_means (λ v x. right (left x)) (f q)
by_start_lem s i arr obj f g Start.Object q = map_means (λ v. left) (g q)
by_start_lem s i arr obj f g Start.Text q = map_means (λ v x. right (right (right (right x)))) (reads_means (byte_reads (eq_class 34) s i q) (text_means s (i + 1)))
by_start_lem s i arr obj f g Start.True q = map_means (λ v x. right (right (left (right (right x))))) (word_means _ s i)
by_start_lem s i arr obj f g Start.False q = map_means (λ v x. right (right (left (left x)))) (word_means _ s i)
by_start_lem s i arr obj f g Start.Null q = map_means (λ v x. right (right (left (right (left x))))) (word_means _ s i)
by_start_lem s i arr obj f g Start.Number q = map_means (λ v x. right (right (right (left x)))) (number_means s i)
by_start_lem s i arr obj f g Start.Nothing q = bad some_number.0 here (right (right (right (left some_number.1))))

pub some_value : (d : ℕ) → Some (Value d)
some_value zero = (some_number.0, right (left some_number.1))
some_value (suc d) = (some_number.0, right (right (right (left some_number.1))))

pub flat : {v : List ℕ} → (Simple ∣ Simple ∣ Simple) v → Simple v
flat (left x) = x
flat (right (left x)) = x
flat (right (right x)) = x

pub value_means : (d : ℕ) (s : List ℕ) (i : ℕ) → Means (Value d) s i (value_at d s i)
unfolding value_at
value_means zero s i =
    let n : Means Simple s i (refused i) = bad some_number.0 here (right (left some_number.1)) in
    map_means (λ v. flat) (by_start_lem s i (λ j. refused i) (λ j. refused i) (λ q. n) (λ q. n) (start_of (get_or s i 0)) (start_fact (get_or s i 0)))
value_means (suc d) s i =
    by_start_lem s i _ _ (λ q. map_means (λ v. bracketed) (reads_means (byte_reads (eq_class 91) s i q) (array_means (some_value d) s (value_at d s) (λ j. value_means d s j) (i + 1))))
    (λ q. map_means (λ v. bracketed) (reads_means (byte_reads (eq_class 123) s i q) (object_means (some_value d) s (value_at d s) (λ j. value_means d s j) (i + 1))))
    (start_of (get_or s i 0)) (start_fact (get_or s i 0))

pub stop_means : (s : List ℕ) (e : ℕ) → Means Ws s e (stop s (skip_at s e))
unfolding stop
stop_means s e =
    let r = ws_reads s e in
    cond_cases (Means Ws s e) (ltb (skip_at s e) (length s)) (λ q. bad [] r.1 (rw append-nil r.2)) (λ q. ended r.1 r.2)

-- the whole text
pub text_means_of : (d : ℕ) (s : List ℕ) → Means (Text d) s 0 (text_of d s)
unfolding text_of
text_means_of d s = reads_means (ws_reads s 0) (then_means _ (value_means d s (skip_at s 0)) some_star (λ e. stop_means s e))

pub then_end : (r : Result ℕ Bad) (g : ℕ → Result ℕ Bad) (e : ℕ) → r >>= g ≡ Ok e → (m : ℕ) × (g m ≡ Ok e)
then_end (Ok m) g e q = (m, q)
then_end (Err b) g e q = let z : ◌≡◌ {A = ℕ} 0 1 = cc in absurd (omega arith)

pub stop_end : (s : List ℕ) (k e : ℕ) → stop s k ≡ Ok e → length s ≤ e
unfolding stop
stop_end s k e = go (ltb k (length s)) refl
  where
    go : (b : Bool) → ltb k (length s) ≡ b → cond b (refused k) (Ok k) ≡ Ok e → length s ≤ e
    go true h q = let z : ◌≡◌ {A = ℕ} 0 1 = cc in absurd (omega arith)
    go false h q = let z : k ≡ e = cc in let y : length s ≤ k = ltb-false k (length s) h in omega arith

-- what is taken is a JSON text
pub sound : (d : ℕ) (s : List ℕ) (e : ℕ) → text_of d s ≡ Ok e → Text d s
unfolding text_of
sound d s e q = go (subst (λ r. Means (Text d) s 0 r) q (text_means_of d s))
  where
    go : Means (Text d) s 0 (Ok e) → Text d s
    go (ended {v = v} x t) =
        let m = then_end (value_at d s (skip_at s 0)) (λ e. stop s (skip_at s e)) e q in
        let l : length s ≤ e = stop_end s _ e m.1 in
        let c : s ≡ v ++ drop e s = seg_drop x in
        let y : s ≡ v = c ∙ rw (drop_of_length-le s l) (append-nil v) in
        rw y t

-- what stands before the place of a refusal begins a JSON text
pub viable : (d : ℕ) (s : List ℕ) (k : ℕ) → text_of d s ≡ refused k → Begins d (take k s)
viable d s k q = go (subst (λ r. Means (Text d) s 0 r) q (text_means_of d s))
  where
    go : Means (Text d) s 0 (refused k) → Begins d (take k s)
    go (bad {v = v} z x t) = (z, rw (seg_take x) t)

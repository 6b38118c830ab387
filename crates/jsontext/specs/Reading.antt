-- What each reader answers, over the list of a text's bytes: the place after what it read, or the place of the byte that
-- it refuses. The grammar itself is Rfc8259.antt; proofs/Place.antt shows that the two agree.
use Rattle.std.specs.Prelude.{ℕ, zero, suc, ◌+◌, ◌≡◌, ◌<◌, List, [], ◌∷◌, Bool, false, cond, ◌&&◌, ◌||◌, length, drop, ltb, eqb, Result, Ok, Err}
use Rattle.std.specs.List.{prefix_len}
use Rattle.std.specs.Result.{result_or}
use Rattle.text.specs.Ascii.{ascii}
use Rattle.text.specs.Bytes.{byte_at, between, is_digit}
use Rattle.jsontext.specs.declared.Bad.{Bad}
use Rattle.jsontext.specs.declared.Next.{Next}
use Rattle.jsontext.specs.declared.Next.TheVariants.{Done, More}
use Rattle.jsontext.specs.declared.Start.{Start}
use Rattle.jsontext.specs.declared.Start.TheVariants.{Array, Object, Text, True, False, Null, Number, Nothing}

-- refused, at this byte
abbrev pub refused : {A : Type 0} → ℕ → Result A Bad
refused at = Err (record { at = at })

-- go on with what a reader answered
infixl 10 ◌>>=◌
abbrev pub ◌>>=◌ : {A B : Type 0} → Result A Bad → (A → Result B Bad) → Result B Bad
Ok x >>= g = g x
Err b >>= g = Err b

-- go on after a step
abbrev pub after : Result Next Bad → (ℕ → Result ℕ Bad) → Result ℕ Bad
after (Ok (Done k)) g = Ok k
after (Ok (More k)) g = g k
after (Err b) g = Err b

-- Classes of bytes. The byte b is k; never where k is 0, the byte that stands past the end
abbrev pub is : ℕ → ℕ → Bool
is k b = ltb 0 k && eqb b k

-- RFC 8259, 2: white space
unfoldable pub is_space : ℕ → Bool
is_space b = is 0x20 b || (is 0x09 b || (is 0x0A b || is 0x0D b))

-- RFC 5234, B.1: a digit of base 16, in capitals or not
unfoldable pub is_hex : ℕ → Bool
is_hex b = is_digit b || (between 0x41 0x46 b || between 0x61 0x66 b)

-- RFC 8259, 7: the byte after a backslash, but for u: one of " \ / b f n r t
unfoldable pub is_escape : ℕ → Bool
is_escape b = is 0x22 b || (is 0x5C b || (is 0x2F b || (is 0x62 b || (is 0x66 b || (is 0x6E b || (is 0x72 b || is 0x74 b))))))

-- RFC 8259, 7: an unescaped character of one byte: no control character, quote or backslash
unfoldable pub is_plain : ℕ → Bool
is_plain b = between 0x20 0x21 b || (between 0x23 0x5B b || between 0x5D 0x7F b)

-- RFC 8259, 6: e or E
unfoldable pub is_e : ℕ → Bool
is_e b = is 0x65 b || is 0x45 b

-- what a test answers of a byte is what p says, and p is false of what stands past the end
pub record Tests (post : ℕ → Bool → Type 0) (p : ℕ → Bool) : Type 0 where
  pub zeroth : p 0 ≡ false
  pub answers : (b : ℕ) (r : Bool) → b < 256 → post b r → r ≡ p b

-- Runs of bytes. The place after all that pass the test from here on
unfoldable pub span_at : (ℕ → Bool) → List ℕ → ℕ → ℕ
span_at p s at = at + prefix_len p (drop at s)

-- a byte that passes the test
unfoldable pub one_at : (ℕ → Bool) → List ℕ → ℕ → Result ℕ Bad
one_at p s at = cond (p (byte_at s at)) (Ok (at + 1)) (refused at)

-- so many bytes that pass the test
unfoldable pub times_at : (ℕ → Bool) → ℕ → List ℕ → ℕ → Result ℕ Bad
times_at p zero s at = Ok at
times_at p (suc n) s at = do
  k ← one_at p s at
  times_at p n s k

-- a byte that passes the first test, and as many as there are that pass the second
unfoldable pub some_at : (ℕ → Bool) → (ℕ → Bool) → List ℕ → ℕ → Result ℕ Bad
some_at p q s at = do
  k ← one_at p s at
  Ok (span_at q s k)

-- these bytes
unfoldable pub word_at : List ℕ → List ℕ → ℕ → Result ℕ Bad
word_at [] s at = Ok at
word_at (x ∷ w) s at = do
  k ← one_at (is x) s at
  word_at w s k

-- steps up to one that is done; the number bounds how many
unfoldable pub run : (ℕ → Result Next Bad) → ℕ → ℕ → Result ℕ Bad
run step zero i = refused i
run step (suc f) i = after (step i) (λ k. run step f k)

-- RFC 8259, 2. The first place from here on that holds no white space
unfoldable pub skip_at : List ℕ → ℕ → ℕ
skip_at s at = span_at is_space s at

-- after white space, the byte b
unfoldable pub token_at : ℕ → List ℕ → ℕ → Result ℕ Bad
token_at b s at = one_at (is b) s (skip_at s at)

-- after white space, the closing byte or a comma
unfoldable pub next_at : ℕ → List ℕ → ℕ → Result Next Bad
next_at close s at =
    let k = skip_at s at in
    let b = byte_at s k in
    cond (is close b) (Ok (Done (k + 1))) (cond (is 0x2C b) (Ok (More (k + 1))) (refused k))

-- RFC 3629, 4. After the first byte of a character: a byte of a range, then so many of UTF8-tail
unfoldable pub tails_at : ℕ → ℕ → ℕ → List ℕ → ℕ → Result ℕ Bad
tails_at low high n s at = do
  k ← one_at (between low high) s at
  times_at (between 0x80 0xBF) n s k

-- a character of two bytes or more
unfoldable pub wide_at : List ℕ → ℕ → Result ℕ Bad
wide_at s at =
    let b = byte_at s at in
    cond (between 0xC2 0xDF b) (tails_at 0x80 0xBF 0 s (at + 1))
    (cond (is 0xE0 b) (tails_at 0xA0 0xBF 1 s (at + 1))
    (cond (between 0xE1 0xEC b) (tails_at 0x80 0xBF 1 s (at + 1))
    (cond (is 0xED b) (tails_at 0x80 0x9F 1 s (at + 1))
    (cond (between 0xEE 0xEF b) (tails_at 0x80 0xBF 1 s (at + 1))
    (cond (is 0xF0 b) (tails_at 0x90 0xBF 2 s (at + 1))
    (cond (between 0xF1 0xF3 b) (tails_at 0x80 0xBF 2 s (at + 1))
    (cond (is 0xF4 b) (tails_at 0x80 0x8F 2 s (at + 1)) (refused at))))))))

-- RFC 8259, 7. What follows a backslash
unfoldable pub escape_at : List ℕ → ℕ → Result ℕ Bad
escape_at s at =
    let b = byte_at s at in
    cond (is_escape b) (Ok (at + 1)) (cond (is 0x75 b) (times_at is_hex 4 s (at + 1)) (refused at))

-- a character
unfoldable pub char_at : List ℕ → ℕ → Result ℕ Bad
char_at s at =
    let b = byte_at s at in
    cond (is_plain b) (Ok (at + 1)) (cond (is 0x5C b) (escape_at s (at + 1)) (wide_at s at))

-- the closing quote, or a character
unfoldable pub quote_or_char_at : List ℕ → ℕ → Result Next Bad
quote_or_char_at s at = cond (is 0x22 (byte_at s at)) (Ok (Done (at + 1))) (char_at s at >>= (λ k. Ok (More k)))

-- a string, after its opening quote
unfoldable pub string_at : List ℕ → ℕ → Result ℕ Bad
string_at s at = run (quote_or_char_at s) (suc (length s)) at

-- RFC 8259, 6. The place after a minus, if one stands here
unfoldable pub minus_at : List ℕ → ℕ → ℕ
minus_at s at = cond (is 0x2D (byte_at s at)) (at + 1) at

-- and after a plus or a minus
unfoldable pub sign_at : List ℕ → ℕ → ℕ
sign_at s at = cond (is 0x2B (byte_at s at)) (at + 1) (minus_at s at)

unfoldable pub int_at : List ℕ → ℕ → Result ℕ Bad
int_at s at = cond (is 0x30 (byte_at s at)) (Ok (at + 1)) (some_at (between 0x31 0x39) is_digit s at)

unfoldable pub fraction_at : List ℕ → ℕ → Result ℕ Bad
fraction_at s at = cond (is 0x2E (byte_at s at)) (some_at is_digit is_digit s (at + 1)) (Ok at)

unfoldable pub exponent_at : List ℕ → ℕ → Result ℕ Bad
exponent_at s at = cond (is_e (byte_at s at)) (some_at is_digit is_digit s (sign_at s (at + 1))) (Ok at)

unfoldable pub number_at : List ℕ → ℕ → Result ℕ Bad
number_at s at = do
  i ← int_at s (minus_at s at)
  j ← fraction_at s i
  exponent_at s j

-- RFC 8259, 4. A member's name and its colon
unfoldable pub key_at : List ℕ → ℕ → Result ℕ Bad
key_at s at = do
  q ← token_at 0x22 s at
  e ← string_at s q
  token_at 0x3A s e

-- RFC 8259, 5 and 4. An element of an array with what follows it, and a member of an object, by a reader of values
unfoldable pub element_at : (ℕ → Result ℕ Bad) → List ℕ → ℕ → Result Next Bad
element_at rd s j = do
  e ← rd (skip_at s j)
  next_at 0x5D s e

unfoldable pub member_at : (ℕ → Result ℕ Bad) → List ℕ → ℕ → Result Next Bad
member_at rd s j = do
  e ← (key_at s j >>= (λ v. rd (skip_at s v)))
  next_at 0x7D s e

-- an array and an object, after the opening bracket
unfoldable pub array_at : (ℕ → Result ℕ Bad) → List ℕ → ℕ → Result ℕ Bad
array_at rd s at = result_or (token_at 0x5D s at) (run (element_at rd s) (suc (length s)) at)

unfoldable pub object_at : (ℕ → Result ℕ Bad) → List ℕ → ℕ → Result ℕ Bad
object_at rd s at = result_or (token_at 0x7D s at) (run (member_at rd s) (suc (length s)) at)

-- RFC 8259, 3. What a byte begins
unfoldable pub start_of : ℕ → Start
start_of b =
    cond (is 0x5B b) Array
    (cond (is 0x7B b) Object
    (cond (is 0x22 b) Text
    (cond (is 0x74 b) True
    (cond (is 0x66 b) False
    (cond (is 0x6E b) Null
    (cond (is 0x2D b) Number
    (cond (is_digit b) Number Nothing)))))))

-- what stands at a place, by what its first byte begins
abbrev pub by_start : Start → List ℕ → ℕ → (ℕ → Result ℕ Bad) → (ℕ → Result ℕ Bad) → Result ℕ Bad
by_start Array s at arr obj = arr (at + 1)
by_start Object s at arr obj = obj (at + 1)
by_start Text s at arr obj = string_at s (at + 1)
by_start True s at arr obj = word_at (ascii "true") s at
by_start False s at arr obj = word_at (ascii "false") s at
by_start Null s at arr obj = word_at (ascii "null") s at
by_start Number s at arr obj = number_at s at
by_start Nothing s at arr obj = refused at

-- a value, in which arrays and objects are nested at most so deep
unfoldable pub value_at : ℕ → List ℕ → ℕ → Result ℕ Bad
value_at zero s at = by_start (start_of (byte_at s at)) s at (λ i. refused at) (λ i. refused at)
value_at (suc d) s at =
    by_start (start_of (byte_at s at)) s at (λ i. array_at (value_at d s) s i) (λ i. object_at (value_at d s) s i)

-- RFC 8259, 2. A whole text: white space, a value, white space, and nothing more
unfoldable pub stop : List ℕ → ℕ → Result ℕ Bad
stop s k = cond (ltb k (length s)) (refused k) (Ok k)

unfoldable pub text_of : ℕ → List ℕ → Result ℕ Bad
text_of depth s = do
  e ← value_at depth s (skip_at s 0)
  stop s (skip_at s e)

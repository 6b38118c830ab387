-- What a string of a text stands for: its bytes after escapes are decoded (RFC 8259, 7). Raw UTF-8 stands as it is, byte for byte.
-- A surrogate escape without its partner stands as its own number, which is above 0xFF and so no byte.
use Rattle.jsontext.specs.declared.Bad.{Bad}
use Rattle.std.specs.Prelude.{ℕ, zero, suc, ◌+◌, ◌-◌, ◌*◌, ◌/◌, ◌%◌, ◌^◌, ◌≤◌, ◌<◌, ◌≡◌, List, [], ◌∷◌, ◌++◌, Bool, cond, ◌&&◌, ◌||◌, length, take, ltb, Option, None, Some, Result, Ok, Err, is_ok}
use Rattle.text.specs.Bytes.{byte_at, between, is_digit}
use Rattle.jsontext.specs.Reading.{is, is_hex, is_escape, times_at}
use Rattle.values.specs.declared.Piece.{Piece}
use Rattle.values.specs.declared.Piece.TheVariants.{Stop, One, Two, Three, Four}

-- the number that a digit of base 16 stands for
unfoldable pub digit_of : ℕ → ℕ
digit_of b = cond (is_digit b) (b - 0x30) (cond (ltb b 0x61) (b - 0x37) (b - 0x57))

-- and four of them
unfoldable pub unit_at : List ℕ → ℕ → ℕ
unit_at s i =
    digit_of (byte_at s i) * 4096 + digit_of (byte_at s (i + 1)) * 256 + digit_of (byte_at s (i + 2)) * 16 + digit_of (byte_at s (i + 3))

-- the byte that a letter after a backslash stands for: b, f, n, r, t, or itself
unfoldable pub letter_of : ℕ → ℕ
letter_of c =
    cond (is 0x62 c) 0x08 (cond (is 0x66 c) 0x0C (cond (is 0x6E c) 0x0A (cond (is 0x72 c) 0x0D (cond (is 0x74 c) 0x09 c))))

-- UTF-8 (RFC 3629, 3) of a number below 0x10000, and of one from there on
unfoldable pub utf8 : ℕ → ℕ → Piece
utf8 u next =
    cond (ltb u 0x80) (One u next)
    (cond (ltb u 0x800) (Two (0xC0 + u / 64) (0x80 + u % 64) next) (Three (0xE0 + u / 4096) (0x80 + u / 64 % 64) (0x80 + u % 64) next))

unfoldable pub utf8_long : ℕ → ℕ → Piece
utf8_long u next = Four (0xF0 + u / 262144) (0x80 + u / 4096 % 64) (0x80 + u / 64 % 64) (0x80 + u % 64) next

-- surrogates: the first and the second of a pair, and the number of the pair
abbrev pub is_high : ℕ → Bool
is_high u = between 0xD800 0xDBFF u

abbrev pub is_low : ℕ → Bool
is_low u = between 0xDC00 0xDFFF u

unfoldable pub pair_of : ℕ → ℕ → ℕ
pair_of u v = 0x10000 + (u - 0xD800) * 1024 + (v - 0xDC00)

-- the digits of the second of a pair stand here
unfoldable pub low_at : List ℕ → ℕ → Bool
low_at s i = is_ok (times_at is_hex 4 s i) && is_low (unit_at s i)

-- an escape by number stands here, of the second of a pair
unfoldable pub partner_at : List ℕ → ℕ → Bool
partner_at s i = is 0x5C (byte_at s i) && (is 0x75 (byte_at s (i + 1)) && low_at s (i + 2))

-- the character of an escape by the number u that ends at i
unfoldable pub escaped_at : ℕ → List ℕ → ℕ → Piece
escaped_at u s i =
    cond (is_high u) (cond (partner_at s i) (utf8_long (pair_of u (unit_at s (i + 2))) (i + 6)) (One u i))
    (cond (is_low u) (One u i) (utf8 u i))

-- the character of an escape by number, whose digits begin at i
abbrev pub after_digits : Result ℕ Bad → (ℕ → Piece) → Piece
after_digits (Ok e) g = g e
after_digits (Err b) g = Stop

unfoldable pub unicode_at : List ℕ → ℕ → Piece
unicode_at s i = after_digits (times_at is_hex 4 s i) (λ e. escaped_at (unit_at s i) s e)

-- the character at i: its bytes and the place after it; Stop at the closing quote, and where no character stands
unfoldable pub piece_at : List ℕ → ℕ → Piece
piece_at s i =
    let b = byte_at s i in
    let c = byte_at s (i + 1) in
    cond (ltb b 0x20) Stop
    (cond (is 0x22 b) Stop
    (cond (is 0x5C b) (cond (is 0x75 c) (unicode_at s (i + 2)) (cond (is_escape c) (One (letter_of c) (i + 2)) Stop))
    (One b (i + 1))))

-- a byte of a string that stands for itself
unfoldable pub is_raw : ℕ → Bool
is_raw b = between 0x20 0x21 b || (between 0x23 0x5B b || between 0x5D 0xFF b)

-- a character's bytes, then what stands at the place after it
abbrev pub before : Piece → (ℕ → List ℕ) → List ℕ
before Stop g = []
before (One a n) g = a ∷ g n
before (Two a b n) g = a ∷ b ∷ g n
before (Three a b c n) g = a ∷ b ∷ c ∷ g n
before (Four a b c d n) g = a ∷ b ∷ c ∷ d ∷ g n

-- the bytes from i on, of at most so many characters
unfoldable pub bytes_from : ℕ → List ℕ → ℕ → List ℕ
bytes_from zero s i = []
bytes_from (suc f) s i = before (piece_at s i) (λ n. bytes_from f s n)

-- the bytes of the string whose first character stands at i
unfoldable pub bytes_at : List ℕ → ℕ → List ℕ
bytes_at s i = bytes_from (suc (length s)) s i

-- the first byte of what is left of a string, and what is left after it
abbrev pub first_of : Piece → Option ℕ
first_of Stop = None
first_of (One a n) = Some a
first_of (Two a b n) = Some a
first_of (Three a b c n) = Some a
first_of (Four a b c d n) = Some a

abbrev pub rest_of : List ℕ → Piece → Piece
rest_of s Stop = Stop
rest_of s (One a n) = piece_at s n
rest_of s (Two a b n) = One b n
rest_of s (Three a b c n) = Two b c n
rest_of s (Four a b c d n) = Three b c d n

-- two strings begin with the same n bytes, each of which stands for itself
pub record Common (s : List ℕ) (i j n : ℕ) : Type 0 where
  pub front : List ℕ
  pub first : bytes_at s i ≡ front ++ bytes_at s (i + n)
  pub second : bytes_at s j ≡ front ++ bytes_at s (j + n)
  pub fits : (i + n < 2 ^ 64) × (j + n < 2 ^ 64)

-- a string begins with the first n bytes of w, each of which stands for itself
pub record Begun (s : List ℕ) (i : ℕ) (w : List ℕ) (n : ℕ) : Type 0 where
  pub first : bytes_at s i ≡ take n w ++ bytes_at s (i + n)
  pub fits : (n ≤ length w) × (i + n < 2 ^ 64)

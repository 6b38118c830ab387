-- Decimal numbers and dotted quads in a text, none with a zero too many in front.
use Rattle.std.specs.Prelude.{ℕ, ◌+◌, ◌*◌, ◌-◌, List, [], ◌∷◌, cond, drop, leb, eqb, Option, Some, None}
use Rattle.text.specs.Bytes.{byte_at, is_at, is_digit}

-- v so far, with the digits that follow in xs, from place i on; at most max
unfoldable pub digits_from : ℕ → ℕ → List ℕ → ℕ → Option (ℕ × ℕ)
digits_from max v [] i = cond (leb v max) (Some (v, i)) None
digits_from max v (x ∷ xs) i =
    cond (leb v max) (cond (is_digit x) (digits_from max (v * 10 + (x - 0x30)) xs (i + 1)) (Some (v, i))) None

-- all the digits at a place, if they spell a number of at most max: `0`, or digits that do not begin with 0
unfoldable pub number_at : ℕ → List ℕ → ℕ → Option (ℕ × ℕ)
number_at max s at =
    cond (eqb (byte_at s at) 0x30)
    (cond (is_digit (byte_at s (at + 1))) None (Some (0, at + 1)))
    (cond (is_digit (byte_at s at)) (digits_from max (byte_at s at - 0x30) (drop (at + 1) s) (at + 1)) None)

-- what is read from a value and the place after it
abbrev pub then_read : {A : Type 0} → {B : Type 0} → Option (A × ℕ) → (A → ℕ → Option B) → Option B
then_read None g = None
then_read (Some (v, i)) g = g v i

-- the byte that must follow a number
unfoldable pub closed_by : ℕ → List ℕ → Option (ℕ × ℕ) → Option (ℕ × ℕ)
closed_by close s r = then_read r (λ v i. cond (is_at s i close) (Some (v, i + 1)) None)

abbrev pub closed_at : ℕ → ℕ → List ℕ → ℕ → Option (ℕ × ℕ)
closed_at max close s at = closed_by close s (number_at max s at)

-- four numbers to 255 with dots between them, as one number of 32 bits
unfoldable pub quad_at : List ℕ → ℕ → Option (ℕ × ℕ)
quad_at s at =
    then_read (closed_at 255 0x2E s at) (λ a i.
    then_read (closed_at 255 0x2E s i) (λ b j.
    then_read (closed_at 255 0x2E s j) (λ c k.
    then_read (number_at 255 s k) (λ d n. Some (((a * 256 + b) * 256 + c) * 256 + d, n)))))

abbrev pub closed_quad_at : ℕ → List ℕ → ℕ → Option (ℕ × ℕ)
closed_quad_at close s at = closed_by close s (quad_at s at)

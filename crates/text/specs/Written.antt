-- Numbers and addresses as text (document 01, 'The table of a set of flows': "decimal without leading zeros; address ends are
-- dotted quads").
use Rattle.std.specs.Prelude.{ℕ, zero, suc, ◌+◌, ◌/◌, ◌%◌, ◌≡◌, cond, List, [], ◌∷◌, ◌++◌, ltb, length}
use Rattle.std.proofs.lemmas.List.Edits.{sets}

-- the digits of n, the last split off first, in at most f steps
unfoldable pub decimal_by : ℕ → ℕ → List ℕ
decimal_by zero n = []
decimal_by (suc f) n = cond (ltb n 10) ((0x30 + n) ∷ []) (decimal_by f (n / 10) ++ ((0x30 + n % 10) ∷ []))

-- decimal, without a zero in front
unfoldable pub decimal : ℕ → List ℕ
decimal n = decimal_by (suc n) n

-- an address of 32 bits as a dotted quad
unfoldable pub quad : ℕ → List ℕ
quad a =
    decimal (a / 16777216) ++ (0x2E ∷ (decimal (a / 65536 % 256) ++ (0x2E ∷ (decimal (a / 256 % 256) ++ (0x2E ∷ decimal (a % 256))))))

-- xs was put into l at a place: r is the place after it, and m what l is then
pub record Put (l : List ℕ) (at : ℕ) (xs : List ℕ) (r : ℕ) (m : List ℕ) : Type 0 where
  pub place : r ≡ at + length xs
  pub text : m ≡ sets l at xs

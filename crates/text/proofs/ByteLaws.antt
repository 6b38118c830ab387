-- Laws of `specs/Bytes.antt`. Assumes nothing.
use Prim.Native.Nat.{ℕ, zero, suc, ◌≤◌, ◌<◌}
use mathlib.Core.Path.{◌≡◌}
use mathlib.Core.List.{List, [], ◌∷◌}
use mathlib.Core.Bool.{true, false}
use native.Mathlib.Omega.{arith}
use lib.ListN.{length}
use lib.Dec.{leb, ltb, eqb}
use borrow.Author.Tests.{leb-true, ltb-true, eqb-true, le-leb, lt-leb, lt-ltb}
use Rattle.text.specs.Bytes.{byte_at, is_at, between, is_digit}
use Rattle.text.proofs.Tests.{and_left, and_right}

-- a byte that is not 0 stands inside
pub inside : (s : List ℕ) (at : ℕ) → 0 < byte_at s at → at < length s
inside [] at h = absurd (omega arith)
inside (x ∷ xs) zero h = omega arith
inside (x ∷ xs) (suc at) h = let r : at < length xs = inside xs at h in omega arith

pub at_from : (s : List ℕ) (at b : ℕ) → at < length s → eqb (byte_at s at) b ≡ is_at s at b
unfolding is_at
at_from s at b h = rw (lt-ltb _ _ h)

-- what the test says
pub at_inside : (s : List ℕ) (at b : ℕ) → is_at s at b ≡ true → at < length s
unfolding is_at
at_inside s at b e = ltb-true at (length s) (and_left _ _ e)

pub at_is : (s : List ℕ) (at b : ℕ) → is_at s at b ≡ true → byte_at s at ≡ b
unfolding is_at
at_is s at b e = eqb-true (byte_at s at) b (and_right (ltb at (length s)) _ e)

pub between_from : (low high b : ℕ) → low ≤ b → leb b high ≡ between low high b
unfolding between
between_from low high b h = rw (le-leb _ _ h)

pub between_below : (low high b : ℕ) → b < low → false ≡ between low high b
unfolding between
between_below low high b h = rw (lt-leb _ _ h)

-- what the test says
pub between_low : (low high b : ℕ) → between low high b ≡ true → low ≤ b
unfolding between
between_low low high b e = leb-true low b (and_left _ _ e)

pub between_high : (low high b : ℕ) → between low high b ≡ true → b ≤ high
unfolding between
between_high low high b e = leb-true b high (and_right (leb low b) _ e)

pub between_is : (low high b : ℕ) → low ≤ b → b ≤ high → between low high b ≡ true
unfolding between
between_is low high b h k = rw (le-leb _ _ h, le-leb _ _ k)

pub digit_inside : (s : List ℕ) (at : ℕ) → is_digit (byte_at s at) ≡ true → at < length s
digit_inside s at e = inside s at (omega (arith, between_low 0x30 0x39 (byte_at s at) e))

-- Laws of `specs/Networks.antt`. Assumes nothing.
use Prim.Native.Nat.{ℕ, zero, suc, ◌+◌, ◌*◌, ◌-◌, ◌/◌, ◌%◌, ◌^◌, ◌≤◌, ◌<◌}
use mir.Syntax.{w64, w32}
use mir.Val.{Fits}
use mathlib.Core.Path.{◌≡◌, sym, ap, ◌∙◌}
use mathlib.Core.List.{List}
use mathlib.Core.Bool.{Bool, true, false}
use native.Mathlib.Nat.{suc-add, zero-add, one-mul, add-mul, mul-le-mul_right, two-pow-succ, pow-le-pow_right, mod-lt, mod-le, mod-eq_of_lt, div-add-mod', div-lt_iff_lt-mul}
use native.Mathlib.Omega.{arith}
use borrow.Author.Rules.{rules}
use lib.ListN.{length}
use Rattle.text.specs.Bytes.{is_at}
use Rattle.text.specs.Numbers.{number_at, quad_at, then_read}
use Rattle.text.specs.Networks.{size_of, low_of, high_of, net_of, network_at}
use Rattle.std.specs.Prelude.{Option, Some, None}
use Rattle.text.specs.declared.networks.Net.{Net}
use Rattle.text.proofs.Tests.{cond_cases}
use Rattle.text.proofs.NumberLaws.{Sound, number_sound, quad_sound, number_small, closing_fits}

-- ## powers of two
power_positive : (k : ℕ) → 0 < 2 ^ k
power_positive zero = omega arith
power_positive (suc k) = let h : 0 < 2 ^ k = power_positive k in rw (two-pow-succ k) (omega arith)

power_split : (j k : ℕ) → 2 ^ (j + k) ≡ 2 ^ j * 2 ^ k
power_split zero k = rw (zero-add k) (sym (one-mul (2 ^ k)))
power_split (suc j) k = rw (suc-add j k, two-pow-succ (j + k), two-pow-succ j, add-mul (2 ^ j) (2 ^ j) (2 ^ k), power_split j k)

-- ## a network's size and ends
pub size_positive : (n : ℕ) → 0 < size_of n
unfolding size_of
size_positive n = power_positive (32 - n)

size_parts : (n : ℕ) → n ≤ 32 → 2 ^ n * size_of n ≡ 4294967296
unfolding size_of
size_parts n h = let e : n + (32 - n) ≡ 32 = omega arith in sym (power_split n (32 - n)) ∙ ap {B = ℕ} (λ k. 2 ^ k) e

-- the address stands between the ends, and the last is an address
pub low_below : (n a : ℕ) → low_of n a ≤ a
unfolding low_of
low_below n a = omega arith

pub high_above : (n a : ℕ) → a ≤ high_of n a
unfolding low_of high_of
high_above n a = let m : a % size_of n < size_of n = mod-lt a (size_positive n) in let k : a % size_of n ≤ a = mod-le a (size_of n) in omega arith

pub high_address : (n a : ℕ) → n ≤ 32 → a < 4294967296 → high_of n a < 4294967296
unfolding low_of high_of
high_address n a h l =
    let p : 0 < size_of n = size_positive n in
    let e : 2 ^ n * size_of n ≡ 4294967296 = size_parts n h in
    let q : a / size_of n < 2 ^ n = (div-lt_iff_lt-mul p).1 (rw e l) in
    let s : suc (a / size_of n) * size_of n ≤ 2 ^ n * size_of n = mul-le-mul_right (size_of n) q in
    let t : suc (a / size_of n) * size_of n ≡ a / size_of n * size_of n + size_of n = omega arith in
    let u : a / size_of n * size_of n + a % size_of n ≡ a = div-add-mod' a (size_of n) in
    omega arith

-- ## the steps of `size` and `around`
pub size_is : (n : ℕ) → 1 * 2 ^ (32 - n) % 18446744073709551616 ≡ size_of n
unfolding size_of
size_is n =
    let h : 2 ^ (32 - n) ≤ 2 ^ 32 = pow-le-pow_right (omega arith) {i = 32 - n} {j = 32} (omega arith) in
    let l : 2 ^ (32 - n) < 18446744073709551616 = omega arith in
    rw (one-mul (2 ^ (32 - n))) (mod-eq_of_lt l)

module _ (n a m : ℕ) (e : m ≡ size_of n) where
  module _ (h : n ≤ 32) (l : a < 2 ^ 32) where
    last_address : a - a % m + (m - 1) < 4294967296
    unfolding low_of high_of
    last_address = rw e (high_address n a h l)

    pub last_fits : Fits w32 (a - a % m + (m - 1))
    last_fits = omega (arith, last_address)

    pub last_fits_wide : Fits w64 (a - a % m + (m - 1))
    last_fits_wide = omega (arith, last_address)

  pub size_some : 0 < m
  size_some = rw e (size_positive n)

  pub around_is : (g : Bool) → record { low = a - a % m; high = a - a % m + (m - 1); given = g } ≡ net_of n a g
  unfolding net_of low_of high_of
  around_is g = rw e

pub rest_below : (a m : ℕ) → a % m ≤ a
rest_below a m = mod-le a m

pub ruleset finding = (rules, size_is, size_some, last_fits, last_fits_wide, around_is, rest_below, number_small, closing_fits)

-- ## what a network that is read is
-- its first address is not above its last, both are addresses, and the place after it stands further on in the text
abbrev pub SoundNet : List ℕ → ℕ → Option (Net × ℕ) → Type 0
SoundNet s at None = Unit {0}
SoundNet s at (Some (n, i)) = (n.low ≤ n.high) × (n.high < 4294967296) × (at < i) × (i ≤ length s)

net_sound : (s : List ℕ) (at n a : ℕ) (given : Bool) (i : ℕ) → n ≤ 32 → a ≤ 0xFFFFFFFF → at < i → i ≤ length s → SoundNet s at (Some (net_of n a given, i))
unfolding net_of
net_sound s at n a given i h l k m =
    let p : low_of n a ≤ a = low_below n a in
    let q : a ≤ high_of n a = high_above n a in
    let r : high_of n a < 4294967296 = high_address n a h (omega arith) in
    (omega arith, r, k, m)

then_net_sound : (max : ℕ) (s : List ℕ) (at j : ℕ) (r : Option (ℕ × ℕ)) (g : ℕ → ℕ → Option (Net × ℕ)) → Sound max s j r → ((v i : ℕ) → v ≤ max → j < i → i ≤ length s → SoundNet s at (g v i)) → SoundNet s at (then_read r g)
then_net_sound max s at j None g h f = tt
then_net_sound max s at j (Some (v, i)) g h f = f v i h.0 h.1 h.2

pub network_sound : (s : List ℕ) (at : ℕ) → SoundNet s at (network_at s at)
unfolding network_at
network_sound s at =
    then_net_sound 0xFFFFFFFF s at at (quad_at s at) _ (quad_sound s at)
    (λ a i ha l m. cond_cases (SoundNet s at) (is_at s i 0x2F)
    (λ e. then_net_sound 32 s at (i + 1) (number_at 32 s (i + 1)) _ (number_sound 32 s (i + 1))
    (λ n j hn k o. net_sound s at n a true j hn ha (omega arith) o))
    (λ e. net_sound s at 32 a false i (omega arith) ha l m))

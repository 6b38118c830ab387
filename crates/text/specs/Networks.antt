-- Networks in a text (document 01, 'Site table': "a dotted quad with or without `/0` to `/32`, no number written with extra
-- zeros in front; without means /32. Host bits are cleared").
use Rattle.std.specs.Prelude.{ℕ, ◌+◌, ◌-◌, ◌%◌, ◌^◌, List, Bool, true, false, cond, Option, Some}
use Rattle.text.specs.Bytes.{is_at}
use Rattle.text.specs.Numbers.{number_at, quad_at, then_read}
use Rattle.text.specs.declared.networks.Net.{Net}

-- how many addresses a network of n bits has
unfoldable pub size_of : ℕ → ℕ
size_of n = 2 ^ (32 - n)

-- its first address, with the host bits of a cleared, and its last
unfoldable pub low_of : ℕ → ℕ → ℕ
low_of n a = a - a % size_of n

unfoldable pub high_of : ℕ → ℕ → ℕ
high_of n a = low_of n a + (size_of n - 1)

-- the network of n bits around a, and whether n was given
unfoldable pub net_of : ℕ → ℕ → Bool → Net
net_of n a given = record { low = low_of n a; high = high_of n a; given = given }

-- a quad, and after `/` the length
unfoldable pub network_at : List ℕ → ℕ → Option (Net × ℕ)
network_at s at =
    then_read (quad_at s at) (λ a i.
    cond (is_at s i 0x2F) (then_read (number_at 32 s (i + 1)) (λ n j. Some (net_of n a true, j))) (Some (net_of 32 a false, i)))

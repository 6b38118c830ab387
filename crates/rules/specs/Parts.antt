-- The parts of an entry, one for each dimension, as ranges. `m` is the entry's `matches`, if there is one.
use Rattle.std.specs.Prelude.{ℕ, cond, ltb, Option, None, Some}
use Rattle.text.specs.Ascii.{ascii}
use Rattle.text.specs.Words.{same_bytes}
use Rattle.text.specs.declared.networks.Net.{Net}
use Rattle.flows.specs.declared.Direction.{Direction}
use Rattle.values.specs.Tree.{count_of, Json}
use Rattle.values.specs.Rules.{under, or_other, if_there, bytes_in}
use Rattle.header.specs.Asked.{net_in}
use Rattle.entries.specs.Sound.{remote_network}
use Rattle.rules.specs.declared.parts.Between.{Between}

abbrev pub between : ℕ → ℕ → Between
between a b = record { low = a; high = b }

abbrev pub number_or : Option ℕ → Between → Between
number_or None z = z
number_or (Some n) z = cond (ltb n 256) (between n n) z

abbrev pub protocol_in : Option Json → Between
protocol_in None = between 0 255
protocol_in (Some j) = number_or (count_of j) (between 0 255)

-- "`tcp` means protocol 6 and `udp` 17"
unfoldable pub protocols : Option Json → Between
protocols m =
    if_there (under (ascii "tcp") m) (between 6 6)
    (if_there (under (ascii "udp") m) (between 17 17) (protocol_in (under (ascii "protocol") (under (ascii "ipv4") m))))

abbrev pub opener_in : Option Json → Between
opener_in None = between 0 1
opener_in (Some j) = cond (same_bytes (bytes_in (Some j)) (ascii "from-device")) (between 0 0) (between 1 1)

unfoldable pub openers : Option Json → Between
openers m = opener_in (under (ascii "ietf-mud:direction-initiated") (under (ascii "tcp") m))

abbrev pub net_or : Option (Net × ℕ) → Between
net_or None = between 0 4294967295
net_or (Some (net, after)) = between net.low net.high

abbrev pub network_in : Option Json → Between
network_in None = between 0 4294967295
network_in (Some j) = net_or (net_in (bytes_in (Some j)))

unfoldable pub networks : Direction → Option Json → Between
networks d m = network_in (under (remote_network d) (under (ascii "ipv4") m))

-- `tcp` or `udp`, whichever is there
unfoldable pub transport : Option Json → Option Json
transport m = or_other (under (ascii "tcp") m) (under (ascii "udp") m)

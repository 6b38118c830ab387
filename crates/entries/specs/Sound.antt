-- Number 10 (document 01, 'Answer numbers'): "in an entry read: any other breach in `matches` or `actions`".
use Rattle.std.specs.Prelude.{ℕ, List, Bool, false, ◌&&◌, ◌||◌, leb, Option, None, Some}
use Rattle.text.specs.Ascii.{ascii}
use Rattle.flows.specs.declared.Direction.{Direction}
use Rattle.flows.specs.declared.Direction.TheVariants.{FromDevice, ToDevice}
use Rattle.values.specs.Tree.{Json, lookup, is_object, count_of}
use Rattle.values.specs.Rules.{must, may}
use Rattle.header.specs.Asked.{obeys}
use Rattle.header.specs.declared.asked.Form.TheVariants.{Network, Forwarding, Operator, Initiator}
use Rattle.header.specs.declared.asked.Asked.TheVariants.{Text, Nulls, Integer, Spelt, Nothing}

abbrev pub absent : List ℕ → Json → Bool
absent name j = may (lookup name j) (obeys Nothing)

-- ## actions
-- "`actions` is an object with `forwarding`: `accept`, `drop` or `reject`"
unfoldable pub actions_ok : Json → Bool
actions_ok a = must (lookup (ascii "forwarding") a) (obeys (Spelt Forwarding))

-- ## `ietf-mud:mud`
-- "`manufacturer`, `model`, `controller` (strings); `same-manufacturer`, `local-networks`, `my-controller` (each `[null]`)"
unfoldable pub strings_ok : Json → Bool
strings_ok j =
    may (lookup (ascii "manufacturer") j) (obeys Text)
    && (may (lookup (ascii "model") j) (obeys Text) && may (lookup (ascii "controller") j) (obeys Text))

unfoldable pub nulls_ok : Json → Bool
nulls_ok j =
    may (lookup (ascii "same-manufacturer") j) (obeys Nulls)
    && (may (lookup (ascii "local-networks") j) (obeys Nulls) && may (lookup (ascii "my-controller") j) (obeys Nulls))

unfoldable pub mud_ok : Json → Bool
mud_ok j = is_object j && (strings_ok j && nulls_ok j)

-- ## `ipv4`
-- "In a from-device list the destination is the remote and the source the device; in a to-device list the reverse."
unfoldable pub remote_network : Direction → List ℕ
remote_network FromDevice = ascii "destination-ipv4-network"
remote_network ToDevice = ascii "source-ipv4-network"

unfoldable pub device_network : Direction → List ℕ
device_network FromDevice = ascii "source-ipv4-network"
device_network ToDevice = ascii "destination-ipv4-network"

unfoldable pub remote_name : Direction → List ℕ
remote_name FromDevice = ascii "ietf-acldns:dst-dnsname"
remote_name ToDevice = ascii "ietf-acldns:src-dnsname"

unfoldable pub device_name : Direction → List ℕ
device_name FromDevice = ascii "ietf-acldns:src-dnsname"
device_name ToDevice = ascii "ietf-acldns:dst-dnsname"

-- "`protocol` (integer to 255)"; "A network or DNS name on the device's side is malformed."
unfoldable pub sides_named : List ℕ → List ℕ → List ℕ → List ℕ → Json → Bool
sides_named network name otherNetwork otherName j =
    may (lookup network j) (obeys (Spelt Network))
    && (may (lookup name j) (obeys Text) && (absent otherNetwork j && absent otherName j))

unfoldable pub sides_ok : Direction → Json → Bool
sides_ok d j = sides_named (remote_network d) (remote_name d) (device_network d) (device_name d) j

unfoldable pub ipv4_ok : Direction → Json → Bool
ipv4_ok d j = is_object j && (may (lookup (ascii "protocol") j) (obeys (Integer 0 255)) && sides_ok d j)

-- ## ports
abbrev pub not_above : Option ℕ → Option ℕ → Bool
not_above None b = false
not_above (Some low) None = false
not_above (Some low) (Some high) = leb low high

-- "All ports are integers to 65535."; "`lower-port` and `upper-port`, low not above high"
unfoldable pub in_order : Json → Json → Bool
in_order low high = obeys (Integer 0 65535) low && (obeys (Integer 0 65535) high && not_above (count_of low) (count_of high))

unfoldable pub ordered : Json → Bool
ordered p = must (lookup (ascii "lower-port") p) (λ low. must (lookup (ascii "upper-port") p) (λ high. in_order low high))

-- "The two forms do not stand together."
unfoldable pub is_range_form : Json → Bool
is_range_form p = ordered p && (absent (ascii "port") p && absent (ascii "operator") p)

-- "or `port` with `operator` `eq`, `neq`, `lte`, `gte`. An absent operator is `eq`."
unfoldable pub is_operator_form : Json → Bool
is_operator_form p =
    must (lookup (ascii "port") p) (obeys (Integer 0 65535))
    && (may (lookup (ascii "operator") p) (obeys (Spelt Operator)) && (absent (ascii "lower-port") p && absent (ascii "upper-port") p))

unfoldable pub port_ok : Json → Bool
port_ok p = is_range_form p || is_operator_form p

unfoldable pub ports_ok : Json → Bool
ports_ok j =
    is_object j && (may (lookup (ascii "source-port") j) port_ok && may (lookup (ascii "destination-port") j) port_ok)

-- "in `tcp` also `ietf-mud:direction-initiated`, `from-device` (opener 0) or `to-device` (opener 1)"
unfoldable pub tcp_ok : Json → Bool
tcp_ok j = ports_ok j && may (lookup (ascii "ietf-mud:direction-initiated") j) (obeys (Spelt Initiator))

-- "`tcp` means protocol 6 and `udp` 17; another `protocol` beside it is malformed."
unfoldable pub protocol_is : ℕ → Json → Bool
protocol_is n m = may (lookup (ascii "ipv4") m) (λ j. may (lookup (ascii "protocol") j) (obeys (Integer n n)))

-- "`tcp` or `udp`, not both"
unfoldable pub tcp_beside : Json → Json → Bool
tcp_beside m tcp = tcp_ok tcp && (absent (ascii "udp") m && protocol_is 6 m)

unfoldable pub udp_beside : Json → Json → Bool
udp_beside m udp = ports_ok udp && protocol_is 17 m

unfoldable pub transport_ok : Json → Bool
transport_ok m = may (lookup (ascii "tcp") m) (tcp_beside m) && may (lookup (ascii "udp") m) (udp_beside m)

unfoldable pub matches_ok : Direction → Json → Bool
matches_ok d m =
    is_object m && (may (lookup (ascii "ietf-mud:mud") m) mud_ok && (may (lookup (ascii "ipv4") m) (ipv4_ok d) && transport_ok m))

unfoldable pub entry_ok : Direction → Json → Bool
entry_ok d e = must (lookup (ascii "actions") e) actions_ok && may (lookup (ascii "matches") e) (matches_ok d)

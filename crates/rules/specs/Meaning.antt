-- WHICH FLOWS A FILE LETS THROUGH (document 01, 'The MUD rules'), in its sentences: no ranges, no tables.
use Rattle.std.specs.Prelude.{ℕ, List, [], ◌∷◌, Bool, false, not, ◌&&◌, ◌||◌, cond, leb, eqb, get_or, Option, None, Some}
use Rattle.text.specs.Ascii.{ascii}
use Rattle.text.specs.Words.{same_bytes}
use Rattle.text.specs.Networks.{network_at}
use Rattle.text.specs.declared.networks.Net.{Net}
use Rattle.flows.specs.Table.{Point, in_range}
use Rattle.flows.specs.Flow.{is_flow}
use Rattle.flows.specs.Rules.{Said, silent, said}
use Rattle.flows.specs.Numbers.{direction_number}
use Rattle.flows.specs.declared.Direction.{Direction}
use Rattle.flows.specs.declared.Direction.TheVariants.{FromDevice, ToDevice}
use Rattle.site.specs.Url.{authority_of}
use Rattle.values.specs.Tree.{Json, null, bool, integer, real, string, array, object, lookup, count_of}
use Rattle.values.specs.Rules.{must, may, text, under, bytes_in}
use Rattle.lists.specs.Lists.{entries_of}
use Rattle.entries.specs.Sound.{remote_network, remote_name}
use Rattle.naming.specs.Named.{is_host, is_class, is_mine, is_local, is_made_by, is_model}

-- a number against an integer of the file
abbrev pub equals : ℕ → Option ℕ → Bool
equals x None = false
equals x (Some n) = eqb x n

abbrev pub at_least : ℕ → Option ℕ → Bool
at_least x None = false
at_least x (Some n) = leb n x

abbrev pub at_most : ℕ → Option ℕ → Bool
at_most x None = false
at_most x (Some n) = leb x n

-- `ietf-mud:mud`: "Each limits the remote address to the site networks it names"
unfoldable pub mud_holds : List ℕ → List ℕ → Json → ℕ → Bool
mud_holds site url j address =
    may (lookup (ascii "manufacturer") j) (text (λ b. is_made_by site b address))
    && (may (lookup (ascii "model") j) (text (λ b. is_model site b address))
    && (may (lookup (ascii "controller") j) (text (λ b. is_class site b address))
    && (may (lookup (ascii "same-manufacturer") j) (λ x. is_made_by site (authority_of url) address)
    && (may (lookup (ascii "local-networks") j) (λ x. is_local site address)
    && may (lookup (ascii "my-controller") j) (λ x. is_mine site url address)))))

-- `ipv4`: the protocol, and a network or a DNS name on the remote's side
abbrev pub in_net : Option (Net × ℕ) → ℕ → Bool
in_net None a = false
in_net (Some (net, after)) a = in_range net.low net.high a

unfoldable pub ipv4_holds : Direction → List ℕ → Json → ℕ → ℕ → Bool
ipv4_holds d site j protocol address =
    may (lookup (ascii "protocol") j) (λ x. equals protocol (count_of x))
    && (may (lookup (remote_network d) j) (text (λ b. in_net (network_at b 0) address))
    && may (lookup (remote_name d) j) (text (λ b. is_host site b address)))

-- ports: "`lower-port` and `upper-port` .. or `port` with `operator` `eq`, `neq`, `lte`, `gte`. An absent operator is `eq`."
unfoldable pub operator_holds : List ℕ → ℕ → Option ℕ → Bool
operator_holds operator port n =
    cond (same_bytes operator (ascii "neq")) (not (equals port n))
    (cond (same_bytes operator (ascii "lte")) (at_most port n)
    (cond (same_bytes operator (ascii "gte")) (at_least port n) (equals port n)))

abbrev pub operator_of : Option Json → List ℕ
operator_of None = ascii "eq"
operator_of (Some null) = ascii "eq"
operator_of (Some (bool b)) = ascii "eq"
operator_of (Some (integer n)) = ascii "eq"
operator_of (Some real) = ascii "eq"
operator_of (Some (string b)) = b
operator_of (Some (array es)) = ascii "eq"
operator_of (Some (object ms)) = ascii "eq"

unfoldable pub port_holds : ℕ → Json → Bool
port_holds port p =
    may (lookup (ascii "lower-port") p) (λ x. at_least port (count_of x))
    && (may (lookup (ascii "upper-port") p) (λ x. at_most port (count_of x))
    && may (lookup (ascii "port") p) (λ x. operator_holds (operator_of (lookup (ascii "operator") p)) port (count_of x)))

-- "In a from-device list the destination is the remote and the source the device; in a to-device list the reverse."
abbrev pub source_of : Direction → ℕ → ℕ → ℕ
source_of FromDevice remote device = device
source_of ToDevice remote device = remote

abbrev pub destination_of : Direction → ℕ → ℕ → ℕ
destination_of FromDevice remote device = remote
destination_of ToDevice remote device = device

unfoldable pub ports_hold : Direction → Json → ℕ → ℕ → Bool
ports_hold d j remote device =
    may (lookup (ascii "source-port") j) (port_holds (source_of d remote device))
    && may (lookup (ascii "destination-port") j) (port_holds (destination_of d remote device))

-- "`ietf-mud:direction-initiated`, `from-device` (opener 0) or `to-device` (opener 1)"
unfoldable pub opener_holds : Json → ℕ → Bool
opener_holds j opener =
    may (lookup (ascii "ietf-mud:direction-initiated") j) (text (λ b. cond (same_bytes b (ascii "from-device")) (eqb opener 0) (eqb opener 1)))

-- "All members given must hold together." "`tcp` means protocol 6 and `udp` 17"
unfoldable pub matches_hold : Direction → List ℕ → List ℕ → Json → (protocol opener address remote device : ℕ) → Bool
matches_hold d site url m protocol opener address remote device =
    may (lookup (ascii "ietf-mud:mud") m) (λ j. mud_holds site url j address)
    && (may (lookup (ascii "ipv4") m) (λ j. ipv4_holds d site j protocol address)
    && (may (lookup (ascii "tcp") m) (λ j. eqb protocol 6 && (ports_hold d j remote device && opener_holds j opener))
    && may (lookup (ascii "udp") m) (λ j. eqb protocol 17 && ports_hold d j remote device)))

-- "`matches` absent or empty matches every flow of the direction."
unfoldable pub entry_holds : Direction → List ℕ → List ℕ → Json → Point → Bool
entry_holds d site url e p =
    may (lookup (ascii "matches") e) (λ m. matches_hold d site url m (get_or p 1 0) (get_or p 2 0) (get_or p 3 0) (get_or p 4 0) (get_or p 5 0))

-- "`accept`, `drop` or `reject`; reject counts as drop"
unfoldable pub entry_accepts : Json → Bool
entry_accepts e = must (lookup (ascii "actions") e) (λ a. must (lookup (ascii "forwarding") a) (text (λ b. same_bytes b (ascii "accept"))))

-- "The verdict is that of the first matching entry"
unfoldable pub first_entry : Direction → List ℕ → List ℕ → List Json → Point → Said
first_entry d site url [] p = silent
first_entry d site url (e ∷ es) p = cond (entry_holds d site url e p) (said (entry_accepts e)) (first_entry d site url es p)

-- "After them, in both directions: accept protocol 17 with remote port 53 for class `urn:ietf:params:mud:dns`, and 123 for
-- `urn:ietf:params:mud:ntp`. Then drop."
unfoldable pub by_default : List ℕ → Point → Bool
by_default site p =
    eqb (get_or p 1 0) 17
    && ((eqb (get_or p 4 0) 53 && is_class site (ascii "urn:ietf:params:mud:dns") (get_or p 3 0))
    || (eqb (get_or p 4 0) 123 && is_class site (ascii "urn:ietf:params:mud:ntp") (get_or p 3 0)))

abbrev pub or_else : Said → Bool → Bool
or_else silent b = b
or_else (said a) b = a

-- the file's own URL
unfoldable pub url_of : Json → List ℕ
url_of file = bytes_in (under (ascii "mud-url") (lookup (ascii "ietf-mud:mud") file))

-- entries of the flow's own direction only
unfoldable pub direction_says : Direction → List ℕ → Json → Point → Said
direction_says d site file p = cond (eqb (get_or p 0 0) (direction_number d)) (first_entry d site (url_of file) (entries_of d file) p) silent

abbrev pub or_then : Said → Said → Said
or_then silent b = b
or_then (said a) b = said a

-- A file with a site table lets a flow through
unfoldable pub lets : Json → List ℕ → Point → Bool
lets file site p =
    is_flow p && or_else (or_then (direction_says FromDevice site file p) (direction_says ToDevice site file p)) (by_default site p)

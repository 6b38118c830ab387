-- Where the members of an entry stand: what each place found stands for, and whether the object has no others.
use Rattle.std.specs.Prelude.{ℕ, ◌≡◌, List, Bool, Option}
use Rattle.text.specs.Ascii.{ascii}
use Rattle.flows.specs.declared.Direction.{Direction}
use Rattle.values.specs.Tree.{tree_at, lookup, seen}
use Rattle.values.specs.Rules.{may, under}
use Rattle.entries.specs.Known.{only, match_names, mud_names, ipv4_names, tcp_names, udp_names, port_names}
use Rattle.entries.specs.Sound.{remote_network, device_network, remote_name, device_name}
use Rattle.entries.specs.declared.places.Sides.{Sides}

-- ## the members of one object each; `listed` is whether it has no others
pub record MudAt (s : List ℕ) (found manufacturer model controller kin local mine : Option ℕ) (listed : Bool) : Type 0 where
  pub manufacturer_is : under (ascii "manufacturer") (seen (tree_at 8 s) found) ≡ seen (tree_at 7 s) manufacturer
  pub model_is : under (ascii "model") (seen (tree_at 8 s) found) ≡ seen (tree_at 7 s) model
  pub controller_is : under (ascii "controller") (seen (tree_at 8 s) found) ≡ seen (tree_at 7 s) controller
  pub kin_is : under (ascii "same-manufacturer") (seen (tree_at 8 s) found) ≡ seen (tree_at 7 s) kin
  pub local_is : under (ascii "local-networks") (seen (tree_at 8 s) found) ≡ seen (tree_at 7 s) local
  pub mine_is : under (ascii "my-controller") (seen (tree_at 8 s) found) ≡ seen (tree_at 7 s) mine
  pub listed_is : listed ≡ may (seen (tree_at 8 s) found) (only mud_names)

pub record Ipv4At (s : List ℕ) (found protocol source destination sender receiver : Option ℕ) (listed : Bool) : Type 0 where
  pub protocol_is : under (ascii "protocol") (seen (tree_at 8 s) found) ≡ seen (tree_at 7 s) protocol
  pub source_is : under (ascii "source-ipv4-network") (seen (tree_at 8 s) found) ≡ seen (tree_at 7 s) source
  pub destination_is : under (ascii "destination-ipv4-network") (seen (tree_at 8 s) found) ≡ seen (tree_at 7 s) destination
  pub sender_is : under (ascii "ietf-acldns:src-dnsname") (seen (tree_at 8 s) found) ≡ seen (tree_at 7 s) sender
  pub receiver_is : under (ascii "ietf-acldns:dst-dnsname") (seen (tree_at 8 s) found) ≡ seen (tree_at 7 s) receiver
  pub listed_is : listed ≡ may (seen (tree_at 8 s) found) (only ipv4_names)

pub record PortAt (s : List ℕ) (found lower upper port operator : Option ℕ) (listed : Bool) : Type 0 where
  pub lower_is : under (ascii "lower-port") (seen (tree_at 7 s) found) ≡ seen (tree_at 6 s) lower
  pub upper_is : under (ascii "upper-port") (seen (tree_at 7 s) found) ≡ seen (tree_at 6 s) upper
  pub port_is : under (ascii "port") (seen (tree_at 7 s) found) ≡ seen (tree_at 6 s) port
  pub operator_is : under (ascii "operator") (seen (tree_at 7 s) found) ≡ seen (tree_at 6 s) operator
  pub listed_is : listed ≡ may (seen (tree_at 7 s) found) (only port_names)

pub record TcpAt (s : List ℕ) (found source destination initiated : Option ℕ) (listed : Bool) : Type 0 where
  pub source_is : under (ascii "source-port") (seen (tree_at 8 s) found) ≡ seen (tree_at 7 s) source
  pub destination_is : under (ascii "destination-port") (seen (tree_at 8 s) found) ≡ seen (tree_at 7 s) destination
  pub initiated_is : under (ascii "ietf-mud:direction-initiated") (seen (tree_at 8 s) found) ≡ seen (tree_at 7 s) initiated
  pub listed_is : listed ≡ may (seen (tree_at 8 s) found) (only tcp_names)

pub record UdpAt (s : List ℕ) (found source destination : Option ℕ) (listed : Bool) : Type 0 where
  pub source_is : under (ascii "source-port") (seen (tree_at 8 s) found) ≡ seen (tree_at 7 s) source
  pub destination_is : under (ascii "destination-port") (seen (tree_at 8 s) found) ≡ seen (tree_at 7 s) destination
  pub listed_is : listed ≡ may (seen (tree_at 8 s) found) (only udp_names)

pub record MatchesAt (s : List ℕ) (found mud ipv4 tcp udp : Option ℕ) (listed : Bool) : Type 0 where
  pub mud_is : under (ascii "ietf-mud:mud") (seen (tree_at 9 s) found) ≡ seen (tree_at 8 s) mud
  pub ipv4_is : under (ascii "ipv4") (seen (tree_at 9 s) found) ≡ seen (tree_at 8 s) ipv4
  pub tcp_is : under (ascii "tcp") (seen (tree_at 9 s) found) ≡ seen (tree_at 8 s) tcp
  pub udp_is : under (ascii "udp") (seen (tree_at 9 s) found) ≡ seen (tree_at 8 s) udp
  pub listed_is : listed ≡ may (seen (tree_at 9 s) found) (only match_names)

-- the entry at a place
pub record EntryAt (s : List ℕ) (at : ℕ) (actions matches : Option ℕ) : Type 0 where
  pub actions_is : lookup (ascii "actions") (tree_at 10 s at) ≡ seen (tree_at 9 s) actions
  pub matches_is : lookup (ascii "matches") (tree_at 10 s at) ≡ seen (tree_at 9 s) matches

-- the members of the `ipv4` that was found, by side
pub record SidesOf (d : Direction) (s : List ℕ) (found : Option ℕ) (x : Sides) : Type 0 where
  pub network : under (remote_network d) (seen (tree_at 8 s) found) ≡ seen (tree_at 7 s) x.network
  pub name : under (remote_name d) (seen (tree_at 8 s) found) ≡ seen (tree_at 7 s) x.name
  pub elsewhere : under (device_network d) (seen (tree_at 8 s) found) ≡ seen (tree_at 7 s) x.elsewhere
  pub stranger : under (device_name d) (seen (tree_at 8 s) found) ≡ seen (tree_at 7 s) x.stranger

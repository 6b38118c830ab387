-- Laws of the objects of an entry.
use Prim.Native.Nat.{ℕ}
use mathlib.Core.Path.{◌≡◌, refl, sym}
use mathlib.Core.List.{List}
use mathlib.Core.Bool.{Bool, true, false, ◌&&◌, ◌||◌, and_assoc}
use borrow.Author.Rules.{rules}
use Rattle.std.specs.Prelude.{Option, None, Some}
use Rattle.std.specs.Option.{is_none}
use Rattle.text.specs.Ascii.{ascii}
use Rattle.flows.specs.declared.Direction.{Direction}
use Rattle.flows.specs.declared.Direction.TheVariants.{FromDevice, ToDevice}
use Rattle.values.specs.Tree.{Json, tree_at, lookup, seen, is_object}
use Rattle.values.specs.Rules.{may, must, under}
use Rattle.header.specs.Asked.{obeys}
use Rattle.header.specs.declared.asked.Form.TheVariants.{Network, Forwarding, Operator, Initiator}
use Rattle.header.specs.declared.asked.Asked.TheVariants.{Text, Nulls, Integer, Spelt, Nothing}
use Rattle.entries.specs.Known.{inside_known, only, match_names, mud_names, ipv4_names, tcp_names, udp_names, port_names, ports_known, matches_known, entry_known}
use Rattle.entries.specs.Sound.{strings_ok, nulls_ok, mud_ok, remote_network, device_network, remote_name, device_name, sides_named, sides_ok, ipv4_ok, in_order, ordered, is_range_form, is_operator_form, port_ok, ports_ok, tcp_ok, protocol_is, tcp_beside, udp_beside, transport_ok, matches_ok, actions_ok, entry_ok}
use Rattle.entries.specs.declared.places.Mud.{Mud}
use Rattle.entries.specs.declared.places.Ipv4.{Ipv4}
use Rattle.entries.specs.declared.places.Port.{Port}
use Rattle.entries.specs.declared.places.Tcp.{Tcp}
use Rattle.entries.specs.declared.places.Udp.{Udp}
use Rattle.entries.specs.declared.places.Matches.{Matches}
use Rattle.entries.specs.declared.places.Entry.{Entry}
use Rattle.entries.specs.Places.{SidesOf}

-- ## rules over what may be missing
may_under : (w : List ℕ) (m : Option Json) (g : Json → Bool) → may m (λ j. may (lookup w j) g) ≡ may (under w m) g
may_under w None g = refl
may_under w (Some j) g = refl

may_strings : (m : Option Json) → may m strings_ok ≡ (may (under (ascii "manufacturer") m) (obeys Text) && (may (under (ascii "model") m) (obeys Text) && may (under (ascii "controller") m) (obeys Text)))
unfolding strings_ok
may_strings None = refl
may_strings (Some j) = refl

may_nulls : (m : Option Json) → may m nulls_ok ≡ (may (under (ascii "same-manufacturer") m) (obeys Nulls) && (may (under (ascii "local-networks") m) (obeys Nulls) && may (under (ascii "my-controller") m) (obeys Nulls)))
unfolding nulls_ok
may_nulls None = refl
may_nulls (Some j) = refl

pub mud_is : (m : Option Json) → may m mud_ok ≡ (may m is_object && (may m strings_ok && may m nulls_ok))
unfolding mud_ok
mud_is None = refl
mud_is (Some j) = refl

pub may_sides : (d : Direction) (m : Option Json) → may m (sides_ok d) ≡ (may (under (remote_network d) m) (obeys (Spelt Network)) && (may (under (remote_name d) m) (obeys Text) && (may (under (device_network d) m) (obeys Nothing) && may (under (device_name d) m) (obeys Nothing))))
unfolding sides_named sides_ok
may_sides d None = refl
may_sides d (Some j) = refl

may_ipv4 : (d : Direction) (m : Option Json) → may m (ipv4_ok d) ≡ (may m is_object && (may (under (ascii "protocol") m) (obeys (Integer 0 255)) && may m (sides_ok d)))
unfolding ipv4_ok
may_ipv4 d None = refl
may_ipv4 d (Some j) = refl

must_ordered : (m : Option Json) → must m ordered ≡ must (under (ascii "lower-port") m) (λ low. must (under (ascii "upper-port") m) (λ high. in_order low high))
unfolding ordered
must_ordered None = refl
must_ordered (Some j) = refl

must_range : (m : Option Json) → must m is_range_form ≡ (must m ordered && (may (under (ascii "port") m) (obeys Nothing) && may (under (ascii "operator") m) (obeys Nothing)))
unfolding is_range_form
must_range None = refl
must_range (Some j) = refl

must_operator : (m : Option Json) → must m is_operator_form ≡ (must (under (ascii "port") m) (obeys (Integer 0 65535)) && (may (under (ascii "operator") m) (obeys (Spelt Operator)) && (may (under (ascii "lower-port") m) (obeys Nothing) && may (under (ascii "upper-port") m) (obeys Nothing))))
unfolding is_operator_form
must_operator None = refl
must_operator (Some j) = refl

pub port_is : (m : Option Json) → must m port_ok ≡ (must m is_range_form || must m is_operator_form)
unfolding port_ok
port_is None = refl
port_is (Some j) = refl

may_ports : (m : Option Json) → may m ports_ok ≡ (may m is_object && (may (under (ascii "source-port") m) (port_ok) && may (under (ascii "destination-port") m) (port_ok)))
unfolding ports_ok
may_ports None = refl
may_ports (Some j) = refl

may_tcp : (m : Option Json) → may m tcp_ok ≡ (may m ports_ok && may (under (ascii "ietf-mud:direction-initiated") m) (obeys (Spelt Initiator)))
unfolding tcp_ok
may_tcp None = refl
may_tcp (Some j) = refl

may_protocol : (n : ℕ) (m : Option Json) → may m (protocol_is n) ≡ may (under (ascii "protocol") (under (ascii "ipv4") m)) (obeys (Integer n n))
unfolding protocol_is
may_protocol n None = refl
may_protocol n (Some j) = may_under (ascii "protocol") (lookup (ascii "ipv4") j) (obeys (Integer n n))

may_ports_known : (names : List (List ℕ)) (m : Option Json) → may m (ports_known names) ≡ (may m (only names) && (may (under (ascii "source-port") m) (only port_names) && may (under (ascii "destination-port") m) (only port_names)))
unfolding ports_known
may_ports_known names None = refl
may_ports_known names (Some j) = refl

may_inside : (m : Option Json) → may m inside_known ≡ (may (under (ascii "ietf-mud:mud") m) (only mud_names) && (may (under (ascii "ipv4") m) (only ipv4_names) && (may (under (ascii "tcp") m) (ports_known tcp_names) && may (under (ascii "udp") m) (ports_known udp_names))))
may_inside None = refl
may_inside (Some j) = refl

may_known : (m : Option Json) → may m matches_known ≡ (may m (only match_names) && may m inside_known)
unfolding matches_known
may_known None = refl
may_known (Some j) = refl

may_matches : (d : Direction) (m : Option Json) → may m (matches_ok d) ≡ (may m is_object && (may (under (ascii "ietf-mud:mud") m) (mud_ok) && (may (under (ascii "ipv4") m) (ipv4_ok d) && (may m (λ j. may (lookup (ascii "tcp") j) (tcp_beside j)) && may m (λ j. may (lookup (ascii "udp") j) (udp_beside j))))))
unfolding matches_ok transport_ok
may_matches d None = refl
may_matches d (Some j) = refl

-- `tcp` and `udp` of the matches
beside_tcp : (m : Option Json) (d : ℕ) (s : List ℕ) (f u : Option ℕ) → under (ascii "tcp") m ≡ seen (tree_at d s) f → under (ascii "udp") m ≡ seen (tree_at d s) u → may m (λ j. may (lookup (ascii "tcp") j) (tcp_beside j)) ≡ (is_none f || ((may (seen (tree_at d s) f) tcp_ok && is_none u) && may m (protocol_is 6)))
unfolding tcp_beside
beside_tcp None d s None u e h = refl
beside_tcp None d s (Some p) u e h = cc
beside_tcp (Some j) d s None u e h = rw e
beside_tcp (Some j) d s (Some p) None e h = rw (e, h) (sym (and_assoc (tcp_ok (tree_at d s p)) true (protocol_is 6 j)))
beside_tcp (Some j) d s (Some p) (Some q) e h = rw (e, h) (sym (and_assoc (tcp_ok (tree_at d s p)) false (protocol_is 6 j)))

beside_udp : (m : Option Json) (d : ℕ) (s : List ℕ) (u : Option ℕ) → under (ascii "udp") m ≡ seen (tree_at d s) u → may m (λ j. may (lookup (ascii "udp") j) (udp_beside j)) ≡ (is_none u || (may (seen (tree_at d s) u) ports_ok && may m (protocol_is 17)))
unfolding udp_beside
beside_udp None d s None e = refl
beside_udp None d s (Some p) e = cc
beside_udp (Some j) d s None e = rw e
beside_udp (Some j) d s (Some p) e = rw e

-- ## the objects of an entry
module _ (m : Mud) where
  pub mud_listed : m.listed ≡ may (seen (tree_at 8 m.s.now) m.found) (only mud_names)
  mud_listed = m.held.listed_is

  pub strings_are : may (seen (tree_at 8 m.s.now) m.found) strings_ok ≡ (may (seen (tree_at 7 m.s.now) m.manufacturer) (obeys Text) && (may (seen (tree_at 7 m.s.now) m.model) (obeys Text) && may (seen (tree_at 7 m.s.now) m.controller) (obeys Text)))
  strings_are = rw (may_strings (seen (tree_at 8 m.s.now) m.found), m.held.manufacturer_is, m.held.model_is, m.held.controller_is)

  pub nulls_are : may (seen (tree_at 8 m.s.now) m.found) nulls_ok ≡ (may (seen (tree_at 7 m.s.now) m.kin) (obeys Nulls) && (may (seen (tree_at 7 m.s.now) m.local) (obeys Nulls) && may (seen (tree_at 7 m.s.now) m.mine) (obeys Nulls)))
  nulls_are = rw (may_nulls (seen (tree_at 8 m.s.now) m.found), m.held.kin_is, m.held.local_is, m.held.mine_is)

module _ (i : Ipv4) where
  pub ipv4_listed : i.listed ≡ may (seen (tree_at 8 i.s.now) i.found) (only ipv4_names)
  ipv4_listed = i.held.listed_is

  module _ (d : Direction) where
    pub sides_from : d ≡ FromDevice → SidesOf d i.s.now i.found (record { network = i.destination; name = i.receiver; elsewhere = i.source; stranger = i.sender })
    unfolding remote_network remote_name device_network device_name
    sides_from q = rw q (record { network = i.held.destination_is; name = i.held.receiver_is; elsewhere = i.held.source_is; stranger = i.held.sender_is })

    pub sides_to : d ≡ ToDevice → SidesOf d i.s.now i.found (record { network = i.source; name = i.sender; elsewhere = i.destination; stranger = i.receiver })
    unfolding remote_network remote_name device_network device_name
    sides_to q = rw q (record { network = i.held.source_is; name = i.held.sender_is; elsewhere = i.held.destination_is; stranger = i.held.receiver_is })

    pub ipv4_is : may (seen (tree_at 8 i.s.now) i.found) (ipv4_ok d) ≡ (may (seen (tree_at 8 i.s.now) i.found) is_object && (may (seen (tree_at 7 i.s.now) i.protocol) (obeys (Integer 0 255)) && may (seen (tree_at 8 i.s.now) i.found) (sides_ok d)))
    ipv4_is = rw (may_ipv4 d (seen (tree_at 8 i.s.now) i.found), i.held.protocol_is)

module _ (p : Port) where
  pub port_listed : p.listed ≡ may (seen (tree_at 7 p.s.now) p.found) (only port_names)
  port_listed = p.held.listed_is

  pub ordered_is : must (seen (tree_at 7 p.s.now) p.found) ordered ≡ must (seen (tree_at 6 p.s.now) p.lower) (λ low. must (seen (tree_at 6 p.s.now) p.upper) (λ high. in_order low high))
  ordered_is = rw (must_ordered (seen (tree_at 7 p.s.now) p.found), p.held.lower_is, p.held.upper_is)

  pub range_is : must (seen (tree_at 7 p.s.now) p.found) is_range_form ≡ (must (seen (tree_at 7 p.s.now) p.found) ordered && (may (seen (tree_at 6 p.s.now) p.port) (obeys Nothing) && may (seen (tree_at 6 p.s.now) p.operator) (obeys Nothing)))
  range_is = rw (must_range (seen (tree_at 7 p.s.now) p.found), p.held.port_is, p.held.operator_is)

  pub operator_is : must (seen (tree_at 7 p.s.now) p.found) is_operator_form ≡ (must (seen (tree_at 6 p.s.now) p.port) (obeys (Integer 0 65535)) && (may (seen (tree_at 6 p.s.now) p.operator) (obeys (Spelt Operator)) && (may (seen (tree_at 6 p.s.now) p.lower) (obeys Nothing) && may (seen (tree_at 6 p.s.now) p.upper) (obeys Nothing))))
  operator_is = rw (must_operator (seen (tree_at 7 p.s.now) p.found), p.held.port_is, p.held.operator_is, p.held.lower_is, p.held.upper_is)

module _ (t : Tcp) where
  pub tcp_known : may (seen (tree_at 8 t.s.now) t.found) (ports_known tcp_names) ≡ (t.listed && (may (seen (tree_at 7 t.s.now) t.source) (only port_names) && may (seen (tree_at 7 t.s.now) t.destination) (only port_names)))
  tcp_known = rw (may_ports_known tcp_names (seen (tree_at 8 t.s.now) t.found), t.held.source_is, t.held.destination_is, t.held.listed_is)

  pub ports_are : may (seen (tree_at 8 t.s.now) t.found) ports_ok ≡ (may (seen (tree_at 8 t.s.now) t.found) is_object && (may (seen (tree_at 7 t.s.now) t.source) port_ok && may (seen (tree_at 7 t.s.now) t.destination) port_ok))
  ports_are = rw (may_ports (seen (tree_at 8 t.s.now) t.found), t.held.source_is, t.held.destination_is)

  pub tcp_is : may (seen (tree_at 8 t.s.now) t.found) tcp_ok ≡ (may (seen (tree_at 8 t.s.now) t.found) ports_ok && may (seen (tree_at 7 t.s.now) t.initiated) (obeys (Spelt Initiator)))
  tcp_is = rw (may_tcp (seen (tree_at 8 t.s.now) t.found), t.held.initiated_is)

module _ (u : Udp) where
  pub udp_known : may (seen (tree_at 8 u.s.now) u.found) (ports_known udp_names) ≡ (u.listed && (may (seen (tree_at 7 u.s.now) u.source) (only port_names) && may (seen (tree_at 7 u.s.now) u.destination) (only port_names)))
  udp_known = rw (may_ports_known udp_names (seen (tree_at 8 u.s.now) u.found), u.held.source_is, u.held.destination_is, u.held.listed_is)

module _ (m : Matches) where
  pub inside_is : may (seen (tree_at 9 m.s.now) m.found) inside_known ≡ (may (seen (tree_at 8 m.s.now) m.mud) (only mud_names) && (m.ipv4.listed && (may (seen (tree_at 8 m.s.now) m.tcp) (ports_known tcp_names) && may (seen (tree_at 8 m.s.now) m.udp) (ports_known udp_names))))
  inside_is = rw (may_inside (seen (tree_at 9 m.s.now) m.found), m.held.mud_is, m.held.ipv4_is, m.held.tcp_is, m.held.udp_is, m.ipv4.held.listed_is, m.in_file)

  pub protocol_stands : (n : ℕ) → may (seen (tree_at 9 m.s.now) m.found) (protocol_is n) ≡ may (seen (tree_at 7 m.s.now) m.ipv4.protocol) (obeys (Integer n n))
  protocol_stands n = rw (may_protocol n (seen (tree_at 9 m.s.now) m.found), m.held.ipv4_is, ← m.in_file, m.ipv4.held.protocol_is)

  pub tcp_stands : may (seen (tree_at 9 m.s.now) m.found) (λ j. may (lookup (ascii "tcp") j) (tcp_beside j)) ≡ (is_none m.tcp || ((may (seen (tree_at 8 m.s.now) m.tcp) tcp_ok && is_none m.udp) && may (seen (tree_at 9 m.s.now) m.found) (protocol_is 6)))
  tcp_stands = beside_tcp (seen (tree_at 9 m.s.now) m.found) 8 m.s.now m.tcp m.udp m.held.tcp_is m.held.udp_is

  pub udp_stands : may (seen (tree_at 9 m.s.now) m.found) (λ j. may (lookup (ascii "udp") j) (udp_beside j)) ≡ (is_none m.udp || (may (seen (tree_at 8 m.s.now) m.udp) ports_ok && may (seen (tree_at 9 m.s.now) m.found) (protocol_is 17)))
  udp_stands = beside_udp (seen (tree_at 9 m.s.now) m.found) 8 m.s.now m.udp m.held.udp_is

  pub matches_are : (d : Direction) → may (seen (tree_at 9 m.s.now) m.found) (matches_ok d) ≡ (may (seen (tree_at 9 m.s.now) m.found) is_object && (may (seen (tree_at 8 m.s.now) m.mud) mud_ok && (may (seen (tree_at 8 m.ipv4.s.now) m.ipv4.found) (ipv4_ok d) && (may (seen (tree_at 9 m.s.now) m.found) (λ j. may (lookup (ascii "tcp") j) (tcp_beside j)) && may (seen (tree_at 9 m.s.now) m.found) (λ j. may (lookup (ascii "udp") j) (udp_beside j))))))
  matches_are d = rw (may_matches d (seen (tree_at 9 m.s.now) m.found), m.held.mud_is, m.held.ipv4_is, m.in_file)

module _ (e : Entry) where
  pub entry_known_is : entry_known (tree_at 10 e.s.now e.at) ≡ (e.matches.listed && may (seen (tree_at 9 e.matches.s.now) e.matches.found) inside_known)
  unfolding entry_known
  entry_known_is = rw (e.held.matches_is, ← e.in_file, e.matches.held.listed_is) (may_known (seen (tree_at 9 e.matches.s.now) e.matches.found))

  pub action_is : must (lookup (ascii "actions") (tree_at 10 e.s.now e.at)) actions_ok ≡ must (seen (tree_at 9 e.s.now) e.actions) (λ j. must (lookup (ascii "forwarding") j) (obeys (Spelt Forwarding)))
  unfolding actions_ok
  action_is = rw (e.held.actions_is)

  pub entry_is : (d : Direction) → entry_ok d (tree_at 10 e.s.now e.at) ≡ (must (lookup (ascii "actions") (tree_at 10 e.s.now e.at)) actions_ok && may (seen (tree_at 9 e.matches.s.now) e.matches.found) (matches_ok d))
  unfolding entry_ok
  entry_is d = rw (e.held.matches_is, e.in_file)

pub ruleset placing = (rules, mud_is, port_is, mud_listed, strings_are, nulls_are, ipv4_listed, sides_from, sides_to, ipv4_is, may_sides, port_listed, ordered_is, range_is, operator_is, tcp_known, ports_are, tcp_is, udp_known, inside_is, protocol_stands, tcp_stands, udp_stands, matches_are, entry_known_is, action_is, entry_is)

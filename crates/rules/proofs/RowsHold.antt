-- A rule in words holds exactly the flows that its entry matches.
use Rattle.std.specs.Prelude.{Option, None, Some}
use Prim.Native.Nat.{ℕ, ◌+◌, ◌*◌, ◌/◌, ◌%◌, ◌≤◌, ◌<◌}
use native.Mathlib.Omega.{arith}
use mathlib.Core.Path.{◌≡◌, refl, sym, ap, ap₂, ◌∙◌, subst}
use mathlib.Core.List.{List, [], ◌∷◌, ◌++◌}
use mathlib.Core.Bool.{Bool, true, false, ◌&&◌, cond, and-true}
use lib.ListN.{length, get_or, length-append}
use lib.Dec.{ltb, eqb}
use borrow.Author.Tests.{lt-ltb, ltb-true, ltb-false}
use Rattle.text.specs.Ascii.{ascii}
use Rattle.text.specs.Words.{same_bytes}
use Rattle.text.specs.Networks.{network_at}
use Rattle.text.specs.declared.networks.Net.{Net}
use Rattle.text.proofs.NetworkLaws.{SoundNet, network_sound}
use Rattle.text.proofs.Tests.{by_test, and_left, and_right, split, both, clash}
use Rattle.flows.specs.Table.{Range, ◌to◌, in_range}
use Rattle.flows.specs.Rules.{in_some, in_all, in_box}
use Rattle.flows.specs.Numbers.{direction_number}
use Rattle.flows.specs.declared.Direction.{Direction}
use Rattle.flows.specs.declared.Direction.TheVariants.{FromDevice, ToDevice}
use Rattle.flows.proofs.Runs.{in_yes, in_low, in_high}
use Rattle.builder.specs.Encoding.{range_of, named_by, name_limits, at_most_seven, limits_of, box_of, accepting}
use Rattle.values.specs.Tree.{Json, null, bool, integer, real, string, array, object, lookup, count_of, is_object}
use Rattle.values.specs.Rules.{must, may, inside, text, bytes_in, under, if_there}
use Rattle.site.specs.Site.{lines}
use Rattle.site.specs.Url.{authority_of, same_host, same_authority, same_name}
use Rattle.site.specs.declared.lines.Kind.{Kind}
use Rattle.site.specs.declared.lines.Kind.TheVariants.{Host, Class, Mine, Local, Thing}
use Rattle.naming.specs.Named.{names, stands_for, is_host, is_class, is_made_by}
use Rattle.naming.specs.Masks.{network_words}
use Rattle.naming.proofs.Masking.{mask_holds}
use Rattle.header.specs.Asked.{is_network, whole_net, net_in, obeys}
use Rattle.header.specs.declared.asked.Asked.TheVariants.{Text, Integer, Spelt, Nothing}
use Rattle.header.specs.declared.asked.Form.TheVariants.{Network, Initiator}
use Rattle.entries.specs.Sound.{strings_ok, nulls_ok, mud_ok, remote_network, remote_name, sides_named, sides_ok, ipv4_ok, port_ok, ports_ok, tcp_ok, protocol_is, tcp_beside, udp_beside, transport_ok, matches_ok, entry_ok}
use Rattle.rules.specs.Meaning.{equals, in_net, mud_holds, ipv4_holds, port_holds, ports_hold, opener_holds, matches_hold, entry_holds, entry_accepts}
use Rattle.rules.specs.Ports.{port_number, one_range, other_than, by_operator, ports_of, ports_in, all_ports}
use Rattle.rules.specs.Words.{ranges_of}
use Rattle.rules.specs.Parts.{number_or, protocol_in, protocols, opener_in, openers, net_or, network_in, networks, transport}
use Rattle.rules.specs.Names.{mask_if, masked, maker_mask, model_mask, controller_mask, kin_mask, local_mask, mine_mask, dns_mask, thing_masks, class_mask, null_masks, host_mask, mask_words}
use Rattle.rules.specs.Rows.{port_sides, row_of, span_words, ports_words, rule_words}
use Rattle.rules.specs.Defaults.{default_words}
use Rattle.rules.specs.declared.parts.Between.{Between}
use Rattle.rules.specs.declared.ports.Ports.{Ports}
use Rattle.rules.proofs.PortsHold.{absent_none, counted, one_holds, single_holds, ports_hold_lem}

-- two tests that pass together are the same
pub same_test : {a b : Bool} → (a ≡ true → b ≡ true) → (b ≡ true → a ≡ true) → a ≡ b
same_test {a} {b} f g = by_test a (λ e. e ∙ sym (f e)) (λ e. by_test b (λ h. clash (g h) e) (λ h. e ∙ sym h))

and_turn : (p q : Bool) → (p && q) ≡ (q && p)
and_turn p q = same_test (λ e. both q p (and_right p q e) (and_left p q e)) (λ e. both p q (and_right q p e) (and_left q p e))

-- ## ranges in words
module _ (low high : ℕ) (h : high < 4294967296) where
  range_back : range_of (low * 4294967296 + high) ≡ (low to high)
  range_back =
      let a : (low * 4294967296 + high) / 4294967296 ≡ low = omega arith in
      let b : (low * 4294967296 + high) % 4294967296 ≡ high = omega arith in
      ap₂ (λ (x y : ℕ). x to y) a b

abbrev pair_of : List ℕ → List Range
pair_of ws = range_of (get_or ws 0 0) ∷ (range_of (get_or ws 1 0) ∷ [])

empty_range : (x : ℕ) → in_range 1 0 x ≡ false
empty_range x = by_test (ltb x 1) (λ e. in_low 1 0 x (ltb-true x 1 e)) (λ e. let h : 1 ≤ x = ltb-false x 1 e in in_high 1 0 x (omega arith))

one_of_two : (lo hi x : ℕ) → in_some (lo to hi ∷ (1 to 0 ∷ [])) x ≡ in_range lo hi x
unfolding in_some
one_of_two lo hi x = rw (empty_range x) (by_test (in_range lo hi x) (λ e. rw e) (λ e. rw e))

pub span_holds : (b : Between) (x : ℕ) → b.high < 4294967296 → in_some (pair_of (span_words b)) x ≡ in_range b.low b.high x
span_holds b x h = ap (λ (r : Range). in_some (r ∷ (1 to 0 ∷ [])) x) (range_back b.low b.high h) ∙ one_of_two b.low b.high x

pub pair_holds : (p : Ports) (x : ℕ) → p.high < 4294967296 → p.other_high < 4294967296 → in_some (pair_of (ports_words p)) x ≡ in_some (ranges_of p) x
pair_holds p x h k = ap₂ (λ (a b : Range). in_some (a ∷ (b ∷ [])) x) (range_back p.low p.high h) (range_back p.other_low p.other_high k)

-- ## the numbers of a rule are small
protocols_small : (m : Option Json) → (protocols m).high < 4294967296
unfolding protocols
protocols_small m = go (under (ascii "tcp") m) (under (ascii "udp") m) (under (ascii "protocol") (under (ascii "ipv4") m))
  where
    number : (c : Option ℕ) → (number_or c (record { low = 0; high = 255 })).high < 4294967296
    number None = omega arith
    number (Some n) = by_test (ltb n 256) (λ e. rw e (omega (arith, ltb-true n 256 e))) (λ e. rw e (omega arith))

    go : (t u p : Option Json) → (if_there t (record { low = 6; high = 6 }) (if_there u (record { low = 17; high = 17 }) (protocol_in p))).high < 4294967296
    go (Some j) u p = omega arith
    go None (Some j) p = omega arith
    go None None None = omega arith
    go None None (Some j) = number (count_of j)

openers_small : (m : Option Json) → (openers m).high < 4294967296
unfolding openers
openers_small m = go (under (ascii "ietf-mud:direction-initiated") (under (ascii "tcp") m))
  where
    go : (o : Option Json) → (opener_in o).high < 4294967296
    go None = omega arith
    go (Some j) = by_test (same_bytes (bytes_in (Some j)) (ascii "from-device")) (λ e. rw e (omega arith)) (λ e. rw e (omega arith))

networks_small : (d : Direction) (m : Option Json) → (networks d m).high < 4294967296
unfolding networks
networks_small d m = go (under (remote_network d) (under (ascii "ipv4") m))
  where
    block : (b : List ℕ) (n : Option (Net × ℕ)) → SoundNet b 0 n → (net_or n).high < 4294967296
    block b None h = omega arith
    block b (Some (net, after)) h = h.1

    go : (o : Option Json) → (network_in o).high < 4294967296
    go None = omega arith
    go (Some j) =
        let b = bytes_in (Some j) in
        unfold net_in in by_test (is_network b) (λ e. rw e (block b (network_at b 0) (network_sound b 0))) (λ e. rw e (omega arith))

record Small (p : Ports) : Type 0 where
  first : p.high < 4294967296
  second : p.other_high < 4294967296

number_small : (c : Option ℕ) → port_number c ≤ 65535
number_small None = omega arith
number_small (Some n) = by_test (ltb n 65536) (λ e. rw e (omega (arith, ltb-true n 65536 e))) (λ e. rw e (omega arith))

one_small : (a b : ℕ) → b ≤ 65535 → Small (one_range a b)
one_small a b h = record { first = omega arith; second = omega arith }

operator_small : (o : List ℕ) (n : ℕ) → n ≤ 65535 → Small (by_operator o n)
unfolding by_operator other_than
operator_small o n h =
    by_test (same_bytes o (ascii "neq"))
    (λ e. rw e (by_test (eqb n 0) (λ f. rw f (one_small 1 65535 (omega arith))) (λ f. rw f (by_test (eqb n 65535) (λ g. rw g (one_small 0 65534 (omega arith))) (λ g. rw g (record { first = omega arith; second = omega arith }))))))
    (λ e. rw e (by_test (same_bytes o (ascii "lte")) (λ f. rw f (one_small 0 n h)) (λ f. rw f (by_test (same_bytes o (ascii "gte")) (λ g. rw g (one_small n 65535 (omega arith))) (λ g. rw g (one_small n n h))))))

ports_small : (m : Option Json) → Small (ports_in m)
ports_small None = one_small 0 65535 (omega arith)
ports_small (Some p) = unfold ports_of in go (lookup (ascii "lower-port") p) (lookup (ascii "upper-port") p) (lookup (ascii "port") p)
  where
    go : (l h n : Option Json) → Small (inside l (λ low. inside h (λ high. one_range (port_number (count_of low)) (port_number (count_of high))) all_ports) (inside n (λ k. by_operator (Rattle.rules.specs.Meaning.operator_of (lookup (ascii "operator") p)) (port_number (count_of k))) all_ports))
    go (Some l) (Some h) n = one_small (port_number (count_of l)) (port_number (count_of h)) (number_small (count_of h))
    go (Some l) None n = one_small 0 65535 (omega arith)
    go None h None = one_small 0 65535 (omega arith)
    go None h (Some k) = operator_small (Rattle.rules.specs.Meaning.operator_of (lookup (ascii "operator") p)) (port_number (count_of k)) (number_small (count_of k))

pub side_holds : (m : Option Json) (x : ℕ) → x ≤ 65535 → may m port_ok ≡ true → in_some (pair_of (ports_words (ports_in m))) x ≡ may m (port_holds x)
side_holds m x h e = pair_holds (ports_in m) x (ports_small m).first (ports_small m).second ∙ ports_hold_lem m x h e

-- ## names
module _ (site : List ℕ) (few : length (lines site 0) ≤ 64) (x : ℕ) where
  unfoldable pub meets : List ℕ → Bool
  meets [] = true
  meets (m ∷ ms) = in_some (named_by m (network_words site)) x && meets ms

  meets_append : (a b : List ℕ) → meets (a ++ b) ≡ (meets a && meets b)
  unfolding meets
  meets_append [] b = refl
  meets_append (m ∷ a) b = rw (meets_append a b) (and_assoc (in_some (named_by m (network_words site)) x) (meets a) (meets b))
    where
      and_assoc : (p q r : Bool) → (p && (q && r)) ≡ ((p && q) && r)
      and_assoc true q r = refl
      and_assoc false q r = refl

  limits_meet : (ms rest : List ℕ) → in_all (name_limits (network_words site) (length ms) (ms ++ rest)) x ≡ meets ms
  unfolding name_limits in_all meets
  limits_meet [] rest = refl
  limits_meet (m ∷ ms) rest = rw (limits_meet ms rest)

  mask_meets : (m : Option Json) (k : Kind) (test : List ℕ → Bool) → meets (mask_if m (masked k test site)) ≡ may m (λ j. stands_for k test site x)
  unfolding meets
  mask_meets None k test = refl
  mask_meets (Some j) k test = and-true (in_some (named_by (masked k test site) (network_words site)) x) ∙ mask_holds (names k test site) site x few

  -- a name that is a string
  string_meets : (m : Option Json) (k : Kind) (test : List ℕ → List ℕ → Bool) → may m (obeys Text) ≡ true → meets (mask_if m (masked k (test (bytes_in m)) site)) ≡ may m (text (λ b. stands_for k (test b) site x))
  string_meets None k test e = mask_meets None k (test [])
  string_meets (Some null) k test e = clash {b = false} e refl
  string_meets (Some (bool b)) k test e = clash {b = false} e refl
  string_meets (Some (integer n)) k test e = clash {b = false} e refl
  string_meets (Some real) k test e = clash {b = false} e refl
  string_meets (Some (string b)) k test e = mask_meets (Some (string b)) k (test b)
  string_meets (Some (array es)) k test e = clash {b = false} e refl
  string_meets (Some (object ms)) k test e = clash {b = false} e refl

  module _ (url : List ℕ) where
    mud_meets : (m : Option Json) → may m mud_ok ≡ true → ((meets (thing_masks site m)) && (meets (class_mask site m) && meets (null_masks site url m))) ≡ may m (λ j. mud_holds site url j x)
    unfolding thing_masks class_mask null_masks meets mud_ok strings_ok mud_holds
    mud_meets None e = refl
    mud_meets (Some j) e =
        let a = and_right (is_object j) _ e in
        let s = and_left (strings_ok j) (nulls_ok j) a in
        let u = and_right (may (lookup (ascii "manufacturer") j) (obeys Text)) _ s in
        let maker = lookup (ascii "manufacturer") j in
        let model = lookup (ascii "model") j in
        let class = lookup (ascii "controller") j in
        let kin = lookup (ascii "same-manufacturer") j in
        let near = lookup (ascii "local-networks") j in
        let mine = lookup (ascii "my-controller") j in
        let p1 = string_meets maker Thing (λ b n. same_authority (authority_of n) b) (and_left (may maker (obeys Text)) _ s) in
        let p2 = string_meets model Thing (λ b n. same_name n b) (and_left (may model (obeys Text)) _ u) in
        let p3 = string_meets class Class (λ b n. same_name n b) (and_right (may model (obeys Text)) _ u) in
        let p4 = mask_meets kin Thing (λ n. same_authority (authority_of n) (authority_of url)) in
        let p5 = mask_meets near Local (λ n. true) in
        let p6 = mask_meets mine Mine (λ n. same_name n url) in
        ap₂ ◌&&◌ (meets_append (maker_mask site maker) (model_mask site model) ∙ ap₂ ◌&&◌ p1 p2)
        (ap₂ ◌&&◌ p3 (meets_append (kin_mask site url kin) (local_mask site near ++ mine_mask site url mine) ∙ ap₂ ◌&&◌ p4 (meets_append (local_mask site near) (mine_mask site url mine) ∙ ap₂ ◌&&◌ p5 p6)))
        ∙ and_assoc₂ (may maker (text (λ b. is_made_by site b x))) _ _
      where
        and_assoc₂ : (p q r : Bool) → ((p && q) && r) ≡ (p && (q && r))
        and_assoc₂ true q r = refl
        and_assoc₂ false q r = refl

-- ## the parts of `matches`
net_holds : (m : Option Json) (x : ℕ) → x ≤ 4294967295 → may m (obeys (Spelt Network)) ≡ true → in_range (network_in m).low (network_in m).high x ≡ may m (text (λ n. in_net (network_at n 0) x))
net_holds None x h e = in_yes 0 4294967295 x (omega arith) h
net_holds (Some null) x h e = clash {b = false} e refl
net_holds (Some (bool b)) x h e = clash {b = false} e refl
net_holds (Some (integer n)) x h e = clash {b = false} e refl
net_holds (Some real) x h e = clash {b = false} e refl
net_holds (Some (string b)) x h e = unfold net_in in rw e (go (network_at b 0) (unfold is_network in e))
  where
    go : (n : Option (Net × ℕ)) → whole_net b n ≡ true → in_range (net_or n).low (net_or n).high x ≡ in_net n x
    go None q = clash {b = false} q refl
    go (Some (net, after)) q = refl
net_holds (Some (array es)) x h e = clash {b = false} e refl
net_holds (Some (object ms)) x h e = clash {b = false} e refl

initiator_holds : (m : Option Json) (c : ℕ) → c ≤ 1 → may m (obeys (Spelt Initiator)) ≡ true → in_range (opener_in m).low (opener_in m).high c ≡ may m (text (λ b. cond (same_bytes b (ascii "from-device")) (eqb c 0) (eqb c 1)))
initiator_holds None c h e = in_yes 0 1 c (omega arith) h
initiator_holds (Some null) c h e = clash {b = false} e refl
initiator_holds (Some (bool b)) c h e = clash {b = false} e refl
initiator_holds (Some (integer n)) c h e = clash {b = false} e refl
initiator_holds (Some real) c h e = clash {b = false} e refl
initiator_holds (Some (string b)) c h e = by_test (same_bytes b (ascii "from-device")) (λ q. rw q (single_holds 0 c)) (λ q. rw q (single_holds 1 c))
initiator_holds (Some (array es)) c h e = clash {b = false} e refl
initiator_holds (Some (object ms)) c h e = clash {b = false} e refl

number_holds : (m : Option Json) (b : ℕ) → b ≤ 255 → may m (obeys (Integer 0 255)) ≡ true → in_range (protocol_in m).low (protocol_in m).high b ≡ may m (λ j. equals b (count_of j))
number_holds None b h e = in_yes 0 255 b (omega arith) h
number_holds (Some j) b h e =
    let c = counted 0 255 (count_of j) e in
    go c.n c.is c.below
  where
    go : (n : ℕ) → count_of j ≡ Some n → n ≤ 255 → in_range (protocol_in (Some j)).low (protocol_in (Some j)).high b ≡ equals b (count_of j)
    go n q l = rw (q, lt-ltb n 256 (omega arith)) (single_holds n b)

-- beside `tcp` or `udp` no other protocol stands
number_agrees : (m : Option Json) (b n : ℕ) → may m (obeys (Integer n n)) ≡ true → eqb b n ≡ true → may m (λ j. equals b (count_of j)) ≡ true
number_agrees None b n e h = refl
number_agrees (Some j) b n e h =
    let c = counted n n (count_of j) e in
    go c.n c.is c.above c.below
  where
    go : (k : ℕ) → count_of j ≡ Some k → n ≤ k → k ≤ n → equals b (count_of j) ≡ true
    go k q l m = let z : n ≡ k = omega arith in rw q (subst (λ (i : ℕ). eqb b i ≡ true) z h)

-- ports of both sides
sides_hold : (d : Direction) (t : Option Json) (y z : ℕ) → y ≤ 65535 → z ≤ 65535 → may t ports_ok ≡ true → ((in_some (pair_of (ports_words (port_sides d t).remote)) y) && in_some (pair_of (ports_words (port_sides d t).device)) z) ≡ may t (λ j. ports_hold d j y z)
unfolding port_sides ports_hold ports_ok
sides_hold d None y z h k e = go d
  where
    all_ports_lem : (x : ℕ) → x ≤ 65535 → in_some (pair_of (ports_words (ports_in None))) x ≡ true
    all_ports_lem x l = side_holds None x l refl

    go : (d : Direction) → ((in_some (pair_of (ports_words (port_sides d None).remote)) y) && in_some (pair_of (ports_words (port_sides d None).device)) z) ≡ true
    go FromDevice = unfold port_sides in ap₂ ◌&&◌ (all_ports_lem y h) (all_ports_lem z k)
    go ToDevice = unfold port_sides in ap₂ ◌&&◌ (all_ports_lem y h) (all_ports_lem z k)
sides_hold FromDevice (Some j) y z h k e =
    let a = and_right (is_object j) _ e in
    let s = and_left (may (lookup (ascii "source-port") j) port_ok) _ a in
    let t = and_right (may (lookup (ascii "source-port") j) port_ok) _ a in
    ap₂ ◌&&◌ (side_holds (lookup (ascii "destination-port") j) y h t) (side_holds (lookup (ascii "source-port") j) z k s)
    ∙ and_turn (may (lookup (ascii "destination-port") j) (port_holds y)) (may (lookup (ascii "source-port") j) (port_holds z))
sides_hold ToDevice (Some j) y z h k e =
    let a = and_right (is_object j) _ e in
    let s = and_left (may (lookup (ascii "source-port") j) port_ok) _ a in
    let t = and_right (may (lookup (ascii "source-port") j) port_ok) _ a in
    ap₂ ◌&&◌ (side_holds (lookup (ascii "source-port") j) y h s) (side_holds (lookup (ascii "destination-port") j) z k t)

-- ## tests in another order
module _ (e p n h m o q : Bool) where
  with_transport : (e ≡ true → p ≡ true) → (e && (o && ((n && (m && h)) && q))) ≡ (m && ((p && (n && h)) && (e && (q && o))))
  with_transport f = same_test there back
    where
      there : (e && (o && ((n && (m && h)) && q))) ≡ true → (m && ((p && (n && h)) && (e && (q && o)))) ≡ true
      there z =
          let a = split e _ z in
          let b = split o _ a.1 in
          let c = split (n && (m && h)) q b.1 in
          let g = split n _ c.0 in
          let i = split m h g.1 in
          both m _ i.0 (both (p && (n && h)) _ (both p _ (f a.0) (both n h g.0 i.1)) (both e _ a.0 (both q o c.1 b.0)))

      back : (m && ((p && (n && h)) && (e && (q && o)))) ≡ true → (e && (o && ((n && (m && h)) && q))) ≡ true
      back z =
          let a = split m _ z in
          let b = split (p && (n && h)) _ a.1 in
          let c = split p _ b.0 in
          let g = split n h c.1 in
          let i = split e _ b.1 in
          let k = split q o i.1 in
          both e _ i.0 (both o _ k.1 (both (n && (m && h)) q (both n _ g.0 (both m h a.0 g.1)) k.0))

without_transport : (p n h m : Bool) → (p && (n && (m && h))) ≡ (m && (p && (n && h)))
without_transport p n h m = same_test
    (λ z. let a = split p _ z in let b = split n _ a.1 in let c = split m h b.1 in both m _ c.0 (both p _ a.0 (both n h b.0 c.1)))
    (λ z. let a = split m _ z in let b = split p _ a.1 in let c = split n h b.1 in both p _ b.0 (both n _ c.0 (both m h a.0 c.1)))

-- ## the words of a rule
mask_one : (m : Option Json) (w : ℕ) → length (mask_if m w) ≤ 1
mask_one None w = omega arith
mask_one (Some j) w = omega arith

pub masks_few : (d : Direction) (site url : List ℕ) (m : Option Json) → length (mask_words d site url m) ≤ 7
unfolding mask_words thing_masks class_mask null_masks host_mask
masks_few d site url m =
    let mud = under (ascii "ietf-mud:mud") m in
    let i = under (ascii "ipv4") m in
    let a = maker_mask site (under (ascii "manufacturer") mud) in
    let b = model_mask site (under (ascii "model") mud) in
    let c = controller_mask site (under (ascii "controller") mud) in
    let e = kin_mask site url (under (ascii "same-manufacturer") mud) in
    let f = local_mask site (under (ascii "local-networks") mud) in
    let g = mine_mask site url (under (ascii "my-controller") mud) in
    let h = dns_mask site (under (remote_name d) i) in
    let la : length a ≤ 1 = mask_one (under (ascii "manufacturer") mud) _ in
    let lb : length b ≤ 1 = mask_one (under (ascii "model") mud) _ in
    let lc : length c ≤ 1 = mask_one (under (ascii "controller") mud) _ in
    let le : length e ≤ 1 = mask_one (under (ascii "same-manufacturer") mud) _ in
    let lf : length f ≤ 1 = mask_one (under (ascii "local-networks") mud) _ in
    let lg : length g ≤ 1 = mask_one (under (ascii "my-controller") mud) _ in
    let lh : length h ≤ 1 = mask_one (under (remote_name d) i) _ in
    omega (arith, length-append (a ++ b) (c ++ ((e ++ (f ++ g)) ++ h)), length-append a b, length-append c ((e ++ (f ++ g)) ++ h), length-append (e ++ (f ++ g)) h, length-append e (f ++ g), length-append f g)

seven : (k : ℕ) → k ≤ 7 → at_most_seven k ≡ k
seven k h = by_test (ltb k 7) (λ e. rw e) (λ e. rw e (omega (arith, ltb-false k 7 e)))

-- what stands after the masks is not looked at
limits_rest : (nets ms rest : List ℕ) → name_limits nets (length ms) (ms ++ rest) ≡ name_limits nets (length ms) ms
unfolding name_limits
limits_rest nets [] rest = refl
limits_rest nets (m ∷ ms) rest = ap (λ (l : List (List Range)). named_by m nets ∷ l) (limits_rest nets ms rest)

pub rule_rest : (nets : List ℕ) (d : Direction) (site url : List ℕ) (e : Json) (rest : List ℕ) → box_of nets (rule_words d site url e ++ rest) 6 ≡ box_of nets (rule_words d site url e) 6
unfolding box_of limits_of rule_words row_of
rule_rest nets d site url e rest =
    let ms = mask_words d site url (lookup (ascii "matches") e) in
    rw (seven (length ms) (masks_few d site url (lookup (ascii "matches") e)), limits_rest nets ms rest)

pub rule_long : (d : Direction) (site url : List ℕ) (e : Json) → length (rule_words d site url e) ≤ 21
unfolding rule_words row_of
rule_long d site url e = omega (arith, masks_few d site url (lookup (ascii "matches") e))

-- ## all of them together
module _ (d : Direction) (site url : List ℕ) (few : length (lines site 0) ≤ 64) (b c x y z : ℕ) (hb : b ≤ 255) (hc : c ≤ 1) (hx : x ≤ 4294967295) (hy : y ≤ 65535) (hz : z ≤ 65535) where
  abbrev inside₁ : Option Json → Bool
  inside₁ m = in_range (protocols m).low (protocols m).high b

  abbrev inside₂ : Option Json → Bool
  inside₂ m = in_range (openers m).low (openers m).high c

  abbrev inside₃ : Option Json → Bool
  inside₃ m = in_range (networks d m).low (networks d m).high x && meets site few x (mask_words d site url m)

  abbrev inside₄ : Option Json → Bool
  inside₄ m = in_some (pair_of (ports_words (port_sides d (transport m)).remote)) y && in_some (pair_of (ports_words (port_sides d (transport m)).device)) z

  -- what `ipv4` says, part by part
  abbrev numbered : Option Json → Bool
  numbered i = may (under (ascii "protocol") i) (λ j. equals b (count_of j))

  abbrev networked : Option Json → Bool
  networked i = may (under (remote_network d) i) (text (λ n. in_net (network_at n 0) x))

  abbrev hosted : Option Json → Bool
  hosted i = may (under (remote_name d) i) (text (λ n. is_host site n x))

  ipv4_parts : (i : Option Json) → may i (λ j. ipv4_holds d site j b x) ≡ (numbered i && (networked i && hosted i))
  unfolding ipv4_holds
  ipv4_parts None = refl
  ipv4_parts (Some j) = refl

  record Ipv4 (i : Option Json) : Type 0 where
    number : may (under (ascii "protocol") i) (obeys (Integer 0 255)) ≡ true
    network : may (under (remote_network d) i) (obeys (Spelt Network)) ≡ true
    name : may (under (remote_name d) i) (obeys Text) ≡ true

  ipv4_sound : (i : Option Json) → may i (ipv4_ok d) ≡ true → Ipv4 i
  unfolding ipv4_ok sides_ok sides_named
  ipv4_sound None e = record { number = refl; network = refl; name = refl }
  ipv4_sound (Some j) e =
      let a = and_right (is_object j) _ e in
      let n = may (lookup (ascii "protocol") j) (obeys (Integer 0 255)) in
      let s = and_right n _ a in
      let w = may (lookup (remote_network d) j) (obeys (Spelt Network)) in
      record { number = and_left n _ a; network = and_left w _ s; name = and_left (may (lookup (remote_name d) j) (obeys Text)) _ (and_right w _ s) }

  -- the address: network and names
  address_holds : (m : Json) → may (lookup (ascii "ietf-mud:mud") m) mud_ok ≡ true → may (lookup (ascii "ipv4") m) (ipv4_ok d) ≡ true → inside₃ (Some m) ≡ (networked (lookup (ascii "ipv4") m) && (may (lookup (ascii "ietf-mud:mud") m) (λ j. mud_holds site url j x) && hosted (lookup (ascii "ipv4") m)))
  unfolding networks mask_words host_mask
  address_holds m e f =
      let i = lookup (ascii "ipv4") m in
      let mud = lookup (ascii "ietf-mud:mud") m in
      let s = ipv4_sound i f in
      let a = thing_masks site mud in
      let k = class_mask site mud in
      let n = null_masks site url mud in
      let h = dns_mask site (under (remote_name d) i) in
      ap₂ ◌&&◌ (net_holds (under (remote_network d) i) x hx s.network)
      (meets_append site few x a (k ++ (n ++ h)) ∙ ap (λ t. meets site few x a && t) (meets_append site few x k (n ++ h) ∙ ap (λ t. meets site few x k && t) (meets_append site few x n h))
      ∙ and_three (meets site few x a) (meets site few x k) (meets site few x n) (meets site few x h)
      ∙ ap₂ ◌&&◌ (mud_meets site few x url mud e) (string_meets site few x (under (remote_name d) i) Host (λ b n. same_host n b) s.name))
    where
      and_three : (p q r s : Bool) → (p && (q && (r && s))) ≡ ((p && (q && r)) && s)
      and_three true true r s = refl
      and_three true false r s = refl
      and_three false q r s = refl

  may_under : (w : List ℕ) (i : Option Json) (f : Json → Bool) → may i (λ j. may (lookup w j) f) ≡ true → may (under w i) f ≡ true
  may_under w None f e = refl
  may_under w (Some j) f e = e

  module _ (m : Json) (mud : may (lookup (ascii "ietf-mud:mud") m) mud_ok ≡ true) (ipv4 : may (lookup (ascii "ipv4") m) (ipv4_ok d) ≡ true) where
    abbrev Together : Type 0
    Together = (inside₁ (Some m) && (inside₂ (Some m) && (inside₃ (Some m) && inside₄ (Some m)))) ≡ matches_hold d site url m b c x y z

    abbrev i : Option Json
    i = lookup (ascii "ipv4") m

    abbrev M : Bool
    M = may (lookup (ascii "ietf-mud:mud") m) (λ j. mud_holds site url j x)

    tcp_case : (j : Json) → lookup (ascii "tcp") m ≡ Some j → lookup (ascii "udp") m ≡ None → tcp_ok j ≡ true → protocol_is 6 m ≡ true → Together
    unfolding protocols openers transport tcp_ok protocol_is matches_hold opener_holds
    tcp_case j p q k n =
        let ports = and_left (ports_ok j) _ k in
        let who = and_right (ports_ok j) _ k in
        let one : inside₁ (Some m) ≡ eqb b 6 = rw p (single_holds 6 b) in
        let two : inside₂ (Some m) ≡ opener_holds j c = rw p (initiator_holds (lookup (ascii "ietf-mud:direction-initiated") j) c hc who) in
        let four : inside₄ (Some m) ≡ ports_hold d j y z = rw p (sides_hold d (Some j) y z hy hz ports) in
        ap₂ ◌&&◌ one (ap₂ ◌&&◌ two (ap₂ ◌&&◌ (address_holds m mud ipv4) four))
        ∙ with_transport (eqb b 6) (numbered i) (networked i) (hosted i) M (opener_holds j c) (ports_hold d j y z) (number_agrees (under (ascii "protocol") i) b 6 (may_under (ascii "protocol") i (obeys (Integer 6 6)) n))
        ∙ sym (rw (p, q, ipv4_parts i, and-true (eqb b 6 && (ports_hold d j y z && opener_holds j c))))

    udp_case : (j : Json) → lookup (ascii "tcp") m ≡ None → lookup (ascii "udp") m ≡ Some j → ports_ok j ≡ true → protocol_is 17 m ≡ true → Together
    unfolding protocols openers transport protocol_is matches_hold
    udp_case j p q k n =
        let one : inside₁ (Some m) ≡ eqb b 17 = rw (p, q) (single_holds 17 b) in
        let two : inside₂ (Some m) ≡ true = rw p (in_yes 0 1 c (omega arith) hc) in
        let four : inside₄ (Some m) ≡ ports_hold d j y z = rw (p, q) (sides_hold d (Some j) y z hy hz k) in
        ap₂ ◌&&◌ one (ap₂ ◌&&◌ two (ap₂ ◌&&◌ (address_holds m mud ipv4) four))
        ∙ with_transport (eqb b 17) (numbered i) (networked i) (hosted i) M true (ports_hold d j y z) (number_agrees (under (ascii "protocol") i) b 17 (may_under (ascii "protocol") i (obeys (Integer 17 17)) n))
        ∙ sym (rw (p, q, ipv4_parts i, and-true (ports_hold d j y z)))

    other_case : lookup (ascii "tcp") m ≡ None → lookup (ascii "udp") m ≡ None → Together
    unfolding protocols openers transport matches_hold
    other_case p q =
        let one : inside₁ (Some m) ≡ numbered i = rw (p, q) (number_holds (under (ascii "protocol") i) b hb (ipv4_sound i ipv4).number) in
        let two : inside₂ (Some m) ≡ true = rw p (in_yes 0 1 c (omega arith) hc) in
        let four : inside₄ (Some m) ≡ true = rw (p, q) (sides_hold d None y z hy hz refl) in
        ap₂ ◌&&◌ one (ap₂ ◌&&◌ two (ap₂ ◌&&◌ (address_holds m mud ipv4) four))
        ∙ ap (λ t. numbered i && t) (and-true (networked i && (M && hosted i)))
        ∙ without_transport (numbered i) (networked i) (hosted i) M
        ∙ sym (rw (p, q, ipv4_parts i, and-true (numbered i && (networked i && hosted i))))

  matches_hold_lem : (m : Json) → matches_ok d m ≡ true → (inside₁ (Some m) && (inside₂ (Some m) && (inside₃ (Some m) && inside₄ (Some m)))) ≡ matches_hold d site url m b c x y z
  unfolding matches_ok transport_ok tcp_beside udp_beside
  matches_hold_lem m e =
      let a = and_right (is_object m) _ e in
      let mud = may (lookup (ascii "ietf-mud:mud") m) mud_ok in
      let f = and_right mud _ a in
      let i = may (lookup (ascii "ipv4") m) (ipv4_ok d) in
      let t = and_right i _ f in
      let u = may (lookup (ascii "tcp") m) (tcp_beside m) in
      go (lookup (ascii "tcp") m) (lookup (ascii "udp") m) refl refl (and_left mud _ a) (and_left i _ f) (and_left u _ t) (and_right u _ t)
    where
      go : (t u : Option Json) → lookup (ascii "tcp") m ≡ t → lookup (ascii "udp") m ≡ u → may (lookup (ascii "ietf-mud:mud") m) mud_ok ≡ true → may (lookup (ascii "ipv4") m) (ipv4_ok d) ≡ true
          → may t (tcp_beside m) ≡ true → may u (udp_beside m) ≡ true
          → (inside₁ (Some m) && (inside₂ (Some m) && (inside₃ (Some m) && inside₄ (Some m)))) ≡ matches_hold d site url m b c x y z
      go (Some j) u p q g h k l =
          let s = and_right (tcp_ok j) _ (unfold tcp_beside in k) in
          tcp_case m g h j p (absent_none (lookup (ascii "udp") m) (and_left (may (lookup (ascii "udp") m) (obeys Nothing)) _ s)) (and_left (tcp_ok j) _ (unfold tcp_beside in k)) (and_right (may (lookup (ascii "udp") m) (obeys Nothing)) _ s)
      go None (Some j) p q g h k l = udp_case m g h j p q (and_left (ports_ok j) _ (unfold udp_beside in l)) (and_right (ports_ok j) _ (unfold udp_beside in l))
      go None None p q g h k l = other_case m g h p q

  entry_holds_lem : (m : Option Json) → may m (matches_ok d) ≡ true → (inside₁ m && (inside₂ m && (inside₃ m && inside₄ m))) ≡ may m (λ j. matches_hold d site url j b c x y z)
  unfolding protocols openers networks mask_words thing_masks class_mask null_masks host_mask meets transport
  entry_holds_lem None e = ap₂ ◌&&◌ (in_yes 0 255 b (omega arith) hb) (ap₂ ◌&&◌ (in_yes 0 1 c (omega arith) hc) (ap₂ ◌&&◌ (ap₂ ◌&&◌ (in_yes 0 4294967295 x (omega arith) hx) refl) (sides_hold d None y z hy hz refl)))
  entry_holds_lem (Some m) e = matches_hold_lem m e

  names_hold : (m : Option Json) (rest : List ℕ) → in_all (name_limits (network_words site) (at_most_seven (length (mask_words d site url m))) (mask_words d site url m ++ rest)) x ≡ meets site few x (mask_words d site url m)
  names_hold m rest = rw (seven (length (mask_words d site url m)) (masks_few d site url m)) (limits_meet site few x (mask_words d site url m) rest)

  direction_small : (d : Direction) → direction_number d < 4294967296
  direction_small FromDevice = omega arith
  direction_small ToDevice = omega arith

  -- A RULE IN WORDS HOLDS A FLOW EXACTLY WHEN THE ENTRY MATCHES IT, in its direction
  pub rule_holds : (a : ℕ) (e : Json) (rest : List ℕ) → entry_ok d e ≡ true → in_box (box_of (network_words site) (rule_words d site url e ++ rest) 6) (a ∷ (b ∷ (c ∷ (x ∷ (y ∷ (z ∷ [])))))) ≡ (eqb a (direction_number d) && entry_holds d site url e (a ∷ (b ∷ (c ∷ (x ∷ (y ∷ (z ∷ [])))))))
  unfolding in_box box_of limits_of in_all rule_words row_of entry_holds entry_ok
  rule_holds a e rest k =
      let m = lookup (ascii "matches") e in
      let n = direction_number d in
      let zero₁ : in_some (pair_of (span_words (record { low = n; high = n }))) a ≡ eqb a n = span_holds (record { low = n; high = n }) a (direction_small d) ∙ single_holds n a in
      let one : in_some (pair_of (span_words (protocols m))) b ≡ inside₁ m = span_holds (protocols m) b (protocols_small m) in
      let two : in_some (pair_of (span_words (openers m))) c ≡ inside₂ m = span_holds (openers m) c (openers_small m) in
      let three : in_some (pair_of (span_words (networks d m))) x ≡ in_range (networks d m).low (networks d m).high x = span_holds (networks d m) x (networks_small d m) in
      let four = in_some (pair_of (ports_words (port_sides d (transport m)).remote)) y in
      let five = in_some (pair_of (ports_words (port_sides d (transport m)).device)) z in
      ap₂ ◌&&◌ (and-true _ ∙ zero₁)
      (ap₂ ◌&&◌ (and-true _ ∙ one) (ap₂ ◌&&◌ (and-true _ ∙ two) (ap₂ ◌&&◌ (ap₂ ◌&&◌ three (names_hold m rest)) (ap₂ ◌&&◌ (and-true four) (and-true (five && true) ∙ and-true five))))
      ∙ entry_holds_lem m (and_right (must (lookup (ascii "actions") e) Rattle.entries.specs.Sound.actions_ok) _ k))

pub rule_accepts : (d : Direction) (site url : List ℕ) (e : Json) (rest : List ℕ) → accepting (rule_words d site url e ++ rest) ≡ entry_accepts e
unfolding rule_words row_of
rule_accepts d site url e rest = by_test (entry_accepts e) (λ q. rw q) (λ q. rw q)

-- A DEFAULT HOLDS ITS FLOWS, in both directions
pub default_holds : (site class rest : List ℕ) (port a b c x y z : ℕ) → length (lines site 0) ≤ 64 → port ≤ 65535 → a ≤ 1 → c ≤ 1 → x ≤ 4294967295 → z ≤ 65535 → in_box (box_of (network_words site) (default_words site class port ++ rest) 6) (a ∷ (b ∷ (c ∷ (x ∷ (y ∷ (z ∷ [])))))) ≡ (eqb b 17 && (eqb y port && is_class site class x))
unfolding in_box box_of limits_of in_all name_limits
default_holds site class rest port a b c x y z few hp ha hc hx hz =
    let all = one_range 0 65535 in
    let zero₁ : in_some (pair_of (span_words (record { low = 0; high = 1 }))) a ≡ true = span_holds (record { low = 0; high = 1 }) a (omega arith) ∙ in_yes 0 1 a (omega arith) ha in
    let one : in_some (pair_of (span_words (record { low = 17; high = 17 }))) b ≡ eqb b 17 = span_holds (record { low = 17; high = 17 }) b (omega arith) ∙ single_holds 17 b in
    let two : in_some (pair_of (span_words (record { low = 0; high = 1 }))) c ≡ true = span_holds (record { low = 0; high = 1 }) c (omega arith) ∙ in_yes 0 1 c (omega arith) hc in
    let three : in_some (pair_of (span_words (record { low = 0; high = 4294967295 }))) x ≡ true = span_holds (record { low = 0; high = 4294967295 }) x (omega arith) ∙ in_yes 0 4294967295 x (omega arith) hx in
    let named : (in_some (named_by (masked Class (λ n. same_name n class) site) (network_words site)) x && true) ≡ is_class site class x = and-true _ ∙ mask_holds (names Class (λ n. same_name n class) site) site x few in
    let four : in_some (pair_of (ports_words (one_range port port))) y ≡ eqb y port = pair_holds (one_range port port) y (omega arith) (omega arith) ∙ one_holds port port y ∙ single_holds port y in
    let five : in_some (pair_of (ports_words all)) z ≡ true = pair_holds all z (omega arith) (omega arith) ∙ one_holds 0 65535 z ∙ in_yes 0 65535 z (omega arith) hz in
    ap₂ ◌&&◌ (and-true _ ∙ zero₁) (ap₂ ◌&&◌ (and-true _ ∙ one) (ap₂ ◌&&◌ (and-true _ ∙ two) (ap₂ ◌&&◌ (ap₂ ◌&&◌ three named) (ap₂ ◌&&◌ (and-true _ ∙ four) (and-true _ ∙ and-true _ ∙ five)))))
    ∙ ap (λ t. eqb b 17 && t) (ap (λ t. is_class site class x && t) (and-true (eqb y port)) ∙ and_turn (is_class site class x) (eqb y port))

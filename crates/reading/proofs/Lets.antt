-- First match over the rules of a file lets through exactly what the file does.
use Prim.Native.Nat.{ℕ, suc, ◌+◌, ◌≤◌, ◌<◌}
use native.Mathlib.Nat.{add-zero}
use native.Mathlib.Omega.{arith}
use mathlib.Core.Path.{◌≡◌, refl, sym, ap, ◌∙◌, subst}
use mathlib.Core.Bool.{Bool, true, false, cond, ◌&&◌, ◌||◌, and-true}
use mathlib.Core.List.{List, [], ◌∷◌, ◌++◌, map, append-nil}
use lib.Dec.{ltb, eqb}
use lib.ListN.{length}
use borrow.Author.Tests.{ltb-true, ltb-false, le-ltb}
use Rattle.text.specs.Ascii.{ascii}
use Rattle.text.proofs.Tests.{by_test, clash, and_left, and_right, split}
use Rattle.flows.specs.Table.{Point, within}
use Rattle.flows.specs.Flow.{widths, is_flow}
use Rattle.flows.specs.Rules.{Rule, Said, silent, said, in_box, first_match, or_drop, accepts, let_through}
use Rattle.flows.specs.Numbers.{direction_number}
use Rattle.flows.specs.declared.Direction.{Direction}
use Rattle.flows.specs.declared.Direction.TheVariants.{FromDevice, ToDevice}
use Rattle.values.specs.Tree.{Json}
use Rattle.site.specs.Site.{lines}
use Rattle.naming.specs.Named.{is_class}
use Rattle.naming.specs.Masks.{network_words}
use Rattle.builder.specs.Encoding.{box_of, accepting}
use Rattle.lists.specs.Lists.{entries_of}
use Rattle.entries.specs.Known.{entry_known}
use Rattle.entries.specs.Sound.{entry_ok}
use Rattle.rules.specs.Meaning.{entry_holds, entry_accepts, first_entry, by_default, or_else, or_then, url_of, direction_says, lets}
use Rattle.rules.specs.Read.{every, all_known, all_sound, entries_read}
use Rattle.rules.specs.Rows.{rule_words}
use Rattle.rules.specs.Defaults.{default_words, dns_words, ntp_words}
use Rattle.rules.proofs.RowsHold.{rule_holds, rule_accepts, default_holds}
use Rattle.reading.specs.declared.Tally.{Tally}
use Rattle.reading.specs.Walked.{more, see, see_all, rows_of}
use Rattle.reading.specs.Read.{none, tally_of}
use Rattle.reading.specs.Rules.{rows_for, rule_in, rules_for}

-- ## six numbers within the widths
record Six (p : Point) : Type 0 where
  a : ℕ
  b : ℕ
  c : ℕ
  x : ℕ
  y : ℕ
  z : ℕ
  is : p ≡ a ∷ (b ∷ (c ∷ (x ∷ (y ∷ (z ∷ [])))))
  ha : a ≤ 1
  hb : b ≤ 255
  hc : c ≤ 1
  hx : x ≤ 4294967295
  hy : y ≤ 65535
  hz : z ≤ 65535

six : (p : Point) → within widths p ≡ true → Six p
unfolding within
six [] e = clash {b = false} e refl
six (a ∷ []) e = clash {b = false} (and_right (ltb a 2) false e) refl
six (a ∷ (b ∷ [])) e = clash {b = false} (and_right (ltb b 256) false (and_right (ltb a 2) _ e)) refl
six (a ∷ (b ∷ (c ∷ []))) e = clash {b = false} (and_right (ltb c 2) false (and_right (ltb b 256) _ (and_right (ltb a 2) _ e))) refl
six (a ∷ (b ∷ (c ∷ (x ∷ [])))) e = clash {b = false} (and_right (ltb x 4294967296) false (and_right (ltb c 2) _ (and_right (ltb b 256) _ (and_right (ltb a 2) _ e)))) refl
six (a ∷ (b ∷ (c ∷ (x ∷ (y ∷ []))))) e = clash {b = false} (and_right (ltb y 65536) false (and_right (ltb x 4294967296) _ (and_right (ltb c 2) _ (and_right (ltb b 256) _ (and_right (ltb a 2) _ e))))) refl
six (a ∷ (b ∷ (c ∷ (x ∷ (y ∷ (z ∷ [])))))) e =
    let e₁ = and_right (ltb a 2) _ e in
    let e₂ = and_right (ltb b 256) _ e₁ in
    let e₃ = and_right (ltb c 2) _ e₂ in
    let e₄ = and_right (ltb x 4294967296) _ e₃ in
    let e₅ = and_right (ltb y 65536) _ e₄ in
    record {
      a = a;
      b = b;
      c = c;
      x = x;
      y = y;
      z = z;
      is = refl;
      ha = omega (arith, ltb-true a 2 (and_left (ltb a 2) _ e));
      hb = omega (arith, ltb-true b 256 (and_left (ltb b 256) _ e₁));
      hc = omega (arith, ltb-true c 2 (and_left (ltb c 2) _ e₂));
      hx = omega (arith, ltb-true x 4294967296 (and_left (ltb x 4294967296) _ e₃));
      hy = omega (arith, ltb-true y 65536 (and_left (ltb y 65536) _ e₄));
      hz = omega (arith, ltb-true z 65536 (and_left (ltb z 65536) true e₅));
    }
six (a ∷ (b ∷ (c ∷ (x ∷ (y ∷ (z ∷ (u ∷ p))))))) e =
    clash {b = false} (and_right (ltb z 65536) false (and_right (ltb y 65536) _ (and_right (ltb x 4294967296) _ (and_right (ltb c 2) _ (and_right (ltb b 256) _ (and_right (ltb a 2) _ e)))))) refl

-- ## entries
module _ (site : List ℕ) (few : length (lines site 0) ≤ 64) (a b c x y z : ℕ) (ha : a ≤ 1) (hb : b ≤ 255) (hc : c ≤ 1) (hx : x ≤ 4294967295) (hy : y ≤ 65535) (hz : z ≤ 65535) where
  abbrev p : Point
  p = a ∷ (b ∷ (c ∷ (x ∷ (y ∷ (z ∷ [])))))

  abbrev rules_in : List (List ℕ) → List Rule
  rules_in rows = map (rule_in (network_words site)) rows

  module _ (d : Direction) (url : List ℕ) where
    holds : (e : Json) → entry_ok d e ≡ true → in_box (box_of (network_words site) (rule_words d site url e) 6) p ≡ (eqb a (direction_number d) && entry_holds d site url e p)
    holds e k = ap (λ (r : List ℕ). in_box (box_of (network_words site) r 6) p) (sym (append-nil (rule_words d site url e))) ∙ rule_holds d site url few b c x y z hb hc hx hy hz a e [] k

    says : (e : Json) → accepting (rule_words d site url e) ≡ entry_accepts e
    says e = ap accepting (sym (append-nil (rule_words d site url e))) ∙ rule_accepts d site url e []

    entries_match : (es : List Json) (rows : List (List ℕ)) → every (entry_ok d) es ≡ true → first_match (rules_in (rows_of d site url es ++ rows)) p ≡ or_then (cond (eqb a (direction_number d)) (first_entry d site url es p) silent) (first_match (rules_in rows) p)
    unfolding first_match first_entry every
    entries_match [] rows k = by_test (eqb a (direction_number d)) (λ q. rw q) (λ q. rw q)
    entries_match (e ∷ es) rows k =
        let i = entries_match es rows (and_right (entry_ok d e) _ k) in
        rw (holds e (and_left (entry_ok d e) _ k), says e, i)
        (by_test (eqb a (direction_number d)) (λ q. rw q (by_test (entry_holds d site url e p) (λ h. rw h) (λ h. rw h))) (λ q. rw q))

  -- ## defaults
  defaults_match : or_drop (first_match (rules_in (dns_words site ∷ (ntp_words site ∷ []))) p) ≡ by_default site p
  unfolding first_match by_default dns_words ntp_words
  defaults_match =
      rw (one (ascii "urn:ietf:params:mud:dns") 53 (omega arith), one (ascii "urn:ietf:params:mud:ntp") 123 (omega arith))
      (choose (eqb b 17) (eqb y 53 && is_class site (ascii "urn:ietf:params:mud:dns") x) (eqb y 123 && is_class site (ascii "urn:ietf:params:mud:ntp") x))
    where
      one : (class : List ℕ) (port : ℕ) → port ≤ 65535 → in_box (box_of (network_words site) (default_words site class port) 6) p ≡ (eqb b 17 && (eqb y port && is_class site class x))
      one class port h = ap (λ (r : List ℕ). in_box (box_of (network_words site) r 6) p) (sym (append-nil (default_words site class port))) ∙ default_holds site class [] port a b c x y z few h ha hc hx hz

      choose : (u v w : Bool) → or_drop (cond (u && v) (said true) (cond (u && w) (said true) silent)) ≡ (u && (v || w))
      choose false v w = refl
      choose true true w = refl
      choose true false true = refl
      choose true false false = refl

  -- ## both directions, and the defaults beneath
  join : (s t u : Said) (v : Bool) → or_drop u ≡ v → or_drop (or_then s (or_then t u)) ≡ or_else (or_then s t) v
  join silent silent u v e = e
  join silent (said q) u v e = refl
  join (said q) t u v e = refl

  rules_match : (file : Json) → all_sound file ≡ true → accepts (rules_for file site) p ≡ or_else (or_then (direction_says FromDevice site file p) (direction_says ToDevice site file p)) (by_default site p)
  unfolding rules_for rows_for accepts direction_says all_sound
  rules_match file k =
      let from = entries_of FromDevice file in
      let to = entries_of ToDevice file in
      let url = url_of file in
      let last = dns_words site ∷ (ntp_words site ∷ []) in
      let s = split (every (entry_ok FromDevice) from) (every (entry_ok ToDevice) to) k in
      ap or_drop (entries_match FromDevice url from (rows_of ToDevice site url to ++ last) s.0 ∙ ap (or_then (direction_says FromDevice site file p)) (entries_match ToDevice url to last s.1))
      ∙ join (direction_says FromDevice site file p) (direction_says ToDevice site file p) (first_match (rules_in last) p) (by_default site p) defaults_match

-- WHAT A FILE LETS THROUGH IS WHAT FIRST MATCH OVER ITS RULES LETS THROUGH
pub lets_rules : (file : Json) (site : List ℕ) (p : Point) → length (lines site 0) ≤ 64 → all_sound file ≡ true → let_through (rules_for file site) p ≡ lets file site p
unfolding let_through lets
lets_rules file site p few k = by_test (is_flow p) (λ e. rw e (go (six p (unfold is_flow in and_left (within widths p) _ e)))) (λ e. rw e)
  where
    go : Six p → accepts (rules_for file site) p ≡ or_else (or_then (direction_says FromDevice site file p) (direction_says ToDevice site file p)) (by_default site p)
    go s = subst (λ (q : Point). accepts (rules_for file site) q ≡ or_else (or_then (direction_says FromDevice site file q) (direction_says ToDevice site file q)) (by_default site q)) (sym s.is) (rules_match site few s.a s.b s.c s.x s.y s.z s.ha s.hb s.hc s.hx s.hy s.hz file k)

-- ## the tally
every_all : (d : Direction) (told : Tally → Bool) (test : Json → Bool) → ((e : Json) (t : Tally) → told (see d e t) ≡ (told t && test e)) → (es : List Json) (t : Tally) → told (see_all d es t) ≡ (told t && every test es)
unfolding see_all every
every_all d told test step [] t = sym (and-true (told t))
every_all d told test step (e ∷ es) t = every_all d told test step es (see d e t) ∙ (ap (λ q. q && every test es) (step e t) ∙ regroup (told t) (test e) (every test es))
  where
    regroup : (q r s : Bool) → ((q && r) && s) ≡ (q && (r && s))
    regroup true r s = refl
    regroup false r s = refl

known_all : (d : Direction) (es : List Json) (t : Tally) → (see_all d es t).known ≡ (t.known && every entry_known es)
known_all d es t = every_all d (λ t. t.known) entry_known (λ e t. unfold see in refl) es t

sound_all : (d : Direction) (es : List Json) (t : Tally) → (see_all d es t).sound ≡ (t.sound && every (entry_ok d) es)
sound_all d es t = every_all d (λ t. t.sound) (entry_ok d) (λ e t. unfold see in refl) es t

-- the count, as long as it is at most 65
abbrev capped : ℕ → ℕ
capped n = cond (ltb n 65) n 65

count_all : (d : Direction) (es : List Json) (t : Tally) → t.count ≤ 65 → (see_all d es t).count ≡ capped (t.count + length es)
unfolding see_all see more
count_all d [] t h = by_test (ltb t.count 65)
    (λ e. rw (add-zero t.count, e))
    (λ e. let k : t.count ≡ 65 = omega (arith, ltb-false t.count 65 e) in rw (add-zero t.count, e) k)
count_all d (e ∷ es) t h = by_test (ltb t.count 65)
    (λ q. let z : (see d e t).count ≡ t.count + 1 = rw q in
    let l : t.count < 65 = ltb-true t.count 65 q in
    let y : (see d e t).count + length es ≡ t.count + suc (length es) = omega arith in
    count_all d es (see d e t) (omega arith) ∙ ap capped y)
    (λ q. let z : (see d e t).count ≡ 65 = rw q in
    let l : 65 ≤ t.count = ltb-false t.count 65 q in
    count_all d es (see d e t) (omega arith) ∙ rw (le-ltb ((see d e t).count + length es) 65 (omega arith), le-ltb (t.count + suc (length es)) 65 (omega arith)))

-- THE TALLY SAYS NUMBERS 9, 10 AND 11
module _ (file : Json) where
  pub tally_known : (tally_of file).known ≡ all_known file
  unfolding tally_of all_known
  tally_known = known_all ToDevice (entries_of ToDevice file) (see_all FromDevice (entries_of FromDevice file) none) ∙ ap (λ q. q && every entry_known (entries_of ToDevice file)) (known_all FromDevice (entries_of FromDevice file) none)

  pub tally_sound : (tally_of file).sound ≡ all_sound file
  unfolding tally_of all_sound
  tally_sound = sound_all ToDevice (entries_of ToDevice file) (see_all FromDevice (entries_of FromDevice file) none) ∙ ap (λ q. q && every (entry_ok ToDevice) (entries_of ToDevice file)) (sound_all FromDevice (entries_of FromDevice file) none)

  pub tally_count : (tally_of file).count ≡ capped (entries_read file)
  unfolding tally_of entries_read
  tally_count =
      let from = entries_of FromDevice file in
      let to = entries_of ToDevice file in
      let t = see_all FromDevice from none in
      let z : t.count ≡ capped (0 + length from) = count_all FromDevice from none (omega arith) in
      by_test (ltb (length from) 65)
      (λ e. let y : t.count ≡ length from = z ∙ (let q : 0 + length from ≡ length from = omega arith in rw (q, e)) in
      let l : length from < 65 = ltb-true (length from) 65 e in
      count_all ToDevice to t (omega arith) ∙ ap (λ k. capped (k + length to)) y)
      (λ e. let l : 65 ≤ length from = ltb-false (length from) 65 e in
      let y : t.count ≡ 65 = z ∙ (let q : 0 + length from ≡ length from = omega arith in rw (q, e)) in
      count_all ToDevice to t (omega arith) ∙ rw (y, le-ltb (65 + length to) 65 (omega arith), le-ltb (length from + length to) 65 (omega arith)))

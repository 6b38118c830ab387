-- From the caller's rules to the table: the builder's own rules in front, all live, leave the flows that the rules let through.
use Prim.Native.Nat.{ℕ, zero, suc, ◌+◌, ◌-◌, ◌*◌, ◌/◌, ◌%◌, ◌≤◌, ◌<◌}
use native.Mathlib.Omega.{arith}
use mathlib.Core.Path.{◌≡◌, refl, sym, ap, ap₂, ◌∙◌, subst}
use mathlib.Core.Bool.{Bool, true, false, cond, ◌&&◌, ◌||◌, not, and-true}
use mathlib.Core.List.{List, [], ◌∷◌, ◌++◌, append_assoc, append-nil}
use lib.Dec.{eqb, ltb}
use Rattle.std.specs.Prelude.{Option}
use lib.ListN.{length, take, drop, get_or, set}
use lib.Seq.{paste, paste-zero, paste-suc, take-take, take_at, drop_at, drop-drop, length-take-le}
use borrow.Author.Tests.{ltb-true, ltb-false, eqb-true, eqb-false}
use Rattle.flows.specs.Table.{Point, ◌to◌, in_range, within, Table, table_of}
use Rattle.flows.specs.Flow.{widths, flow_numbers, is_flow}
use Rattle.flows.specs.Rules.{Rule, rule, Said, said, in_some, in_all, in_box, first_match, or_drop, accepts, let_through}
use Rattle.flows.specs.Cells.{keep_if}
use Rattle.text.proofs.Tests.{by_test}
use Rattle.flows.proofs.Runs.{in_yes, in_low, in_high}
use Rattle.flows.proofs.Meaning.{same_table}
use Rattle.flows.proofs.FlowRules.{not_tcp_lem, no_ports_lem, three_drops, within_first, within_end}
use Rattle.builder.specs.Encoding.{limits_of, name_limits, box_of, accepting, rules_from, rules_of, flow_words, table_words}
use Rattle.builder.specs.Cells.{top_of, widths_left, accept_mask, picked, chosen, table_left, Cut, Ready}
use Rattle.builder.specs.Promise.{BuiltIn}
use Rattle.builder.specs.Post.{BuiltTo, AllCut}
use Rattle.builder.proofs.Masks.{bit_mod, bit_div}

flow_length : length flow_words ≡ 105
unfolding flow_words
flow_length = refl

-- ---- what they say of a point
none_in : (x : ℕ) → in_range 1 0 x ≡ false
none_in x = by_test (ltb x 1) (λ e. in_low 1 0 x (ltb-true x 1 e)) (λ e. in_high 1 0 x (omega (arith, ltb-false x 1 e)))

full_in : (top x : ℕ) → x ≤ top → in_some (0 to top ∷ (1 to 0 ∷ [])) x ≡ true
unfolding in_some
full_in top x h = rw (in_yes 0 top x (omega arith) h)

some_in : (top x : ℕ) → x ≤ top → in_some (1 to top ∷ (1 to 0 ∷ [])) x ≡ not (eqb x 0)
unfolding in_some
some_in top x h = rw (none_in x) (by_test (eqb x 0)
    (λ e. rw (e, in_low 1 top x (omega (arith, eqb-true x 0 e))))
    (λ e. rw (e, in_yes 1 top x (omega (arith, eqb-false x 0 e)) h)))

or_three : (a b c : Bool) → ((a || (b || false)) || (c || false)) ≡ (a || (b || (c || false)))
or_three true b c = refl
or_three false true c = refl
or_three false false c = refl

portless : (x : ℕ) → x < 256 → (in_some (0 to 5 ∷ (7 to 16 ∷ [])) x || in_some (18 to 255 ∷ (1 to 0 ∷ [])) x) ≡ not (eqb x 6 || eqb x 17)
portless x h = split x ∙ no_ports_lem x h
  where
    split : (x : ℕ) → (in_some (0 to 5 ∷ (7 to 16 ∷ [])) x || in_some (18 to 255 ∷ (1 to 0 ∷ [])) x) ≡ in_some (0 to 5 ∷ (7 to 16 ∷ (18 to 255 ∷ []))) x
    split x = unfold in_some in rw (none_in x) (or_three (in_range 0 5 x) (in_range 7 16 x) (in_range 18 255 x))

five_three : (l h r q : Bool) (v : Said) → cond (l && r) (said false) (cond (l && q) (said false) (cond (h && r) (said false) (cond (h && q) (said false) v))) ≡ cond ((l || h) && r) (said false) (cond ((l || h) && q) (said false) v)
five_three true true true true v = refl
five_three true true true false v = refl
five_three true true false true v = refl
five_three true true false false v = refl
five_three true false true true v = refl
five_three true false true false v = refl
five_three true false false true v = refl
five_three true false false false v = refl
five_three false true true true v = refl
five_three false true true false v = refl
five_three false true false true v = refl
five_three false true false false v = refl
five_three false false r q v = refl

five_first : (n : ℕ) (nets rest : List ℕ) (d x o a r q : ℕ) → d ≤ 1 → x < 256 → o ≤ 1 → a ≤ 4294967295 → r ≤ 65535 → q ≤ 65535
    → accepts (rules_from (suc (suc (suc (suc (suc n))))) nets (flow_words ++ rest)) (d ∷ (x ∷ (o ∷ (a ∷ (r ∷ (q ∷ []))))))
    ≡ (flow_numbers x o r q && accepts (rules_from n nets rest) (d ∷ (x ∷ (o ∷ (a ∷ (r ∷ (q ∷ [])))))))
unfolding accepts first_match rules_from box_of limits_of name_limits in_box in_all flow_words flow_numbers
five_first n nets rest d x o a r q hd hx ho ha hr hq =
    let p = d ∷ (x ∷ (o ∷ (a ∷ (r ∷ (q ∷ []))))) in
    let v = first_match (rules_from n nets rest) p in
    let l = in_some (0 to 5 ∷ (7 to 16 ∷ [])) x in
    let h = in_some (18 to 255 ∷ (1 to 0 ∷ [])) x in
    simp (full_in 1 d hd, not_tcp_lem x hx, full_in 1 o ho, some_in 1 o ho, full_in 4294967295 a ha, full_in 65535 r hr, full_in 65535 q hq, some_in 65535 r hr, some_in 65535 q hq, and-true)
    (ap (λ (s : Said). or_drop (cond (not (eqb x 6) && not (eqb o 0)) (said false) s)) (five_three l h (not (eqb r 0)) (not (eqb q 0)) v)
    ∙ ap (λ (b : Bool). or_drop (cond (not (eqb x 6) && not (eqb o 0)) (said false) (cond (b && not (eqb r 0)) (said false) (cond (b && not (eqb q 0)) (said false) v)))) (portless x hx)
    ∙ three_drops (eqb x 6) (eqb x 17) (eqb o 0) (eqb r 0) (eqb q 0) v)

-- THE BUILDER'S OWN RULES in front leave the flows to the others
flows_left : (n : ℕ) (nets rest : List ℕ) (p : Point) → within widths p ≡ true → accepts (rules_from (suc (suc (suc (suc (suc n))))) nets (flow_words ++ rest)) p ≡ let_through (rules_from n nets rest) p
unfolding let_through is_flow
flows_left n nets rest p h =
    let f1 = within_first 2 _ p h in
    let f2 = within_first 256 _ f1.rest f1.after in
    let f3 = within_first 2 _ f2.rest f2.after in
    let f4 = within_first 4294967296 _ f3.rest f3.after in
    let f5 = within_first 65536 _ f4.rest f4.after in
    let f6 = within_first 65536 [] f5.rest f5.after in
    rw h (rw (f1.is, f2.is, f3.is, f4.is, f5.is, f6.is, within_end f6.rest f6.after)
    (five_first n nets rest f1.x f2.x f3.x f4.x f5.x f6.x (omega (arith, f1.low)) f2.low (omega (arith, f3.low)) (omega (arith, f4.low)) (omega (arith, f5.low)) (omega (arith, f6.low))))

-- ---- all rules live
ones : ℕ → ℕ
ones zero = 0
ones (suc j) = 1 + 2 * ones j

picked_all : (n j : ℕ) (nets r : List ℕ) → n ≤ j → picked 6 n nets r (ones j) ≡ rules_from n nets r
unfolding picked rules_from ones keep_if
picked_all zero j nets r h = refl
picked_all (suc n) zero nets r h = absurd (omega arith)
picked_all (suc n) (suc j) nets r h =
    let m : (1 + 2 * ones j) % 2 ≡ 1 = bit_mod true (ones j) in
    let d : (1 + 2 * ones j) / 2 ≡ ones j = bit_div true (ones j) in
    rw (m, d, keep_if) (ap (λ (rs : List Rule). rule (accepting r) (box_of nets r 6) ∷ rs) (picked_all n j nets (drop 21 r) (omega arith)))

rules_split : (a b : ℕ) (nets r : List ℕ) → rules_from (a + b) nets r ≡ rules_from a nets r ++ rules_from b nets (drop (21 * a) r)
unfolding rules_from
rules_split zero b nets r = let q : 0 + b ≡ b = omega arith in rw q
rules_split (suc a) b nets r =
    let q : suc a + b ≡ suc (a + b) = omega arith in
    let i : 21 + 21 * a ≡ 21 * suc a = omega arith in
    let d : drop (21 * a) (drop 21 r) ≡ drop (21 * suc a) r = drop-drop (21 * a) 21 r ∙ ap (λ (m : ℕ). drop m r) i in
    rw q (ap (λ (rs : List Rule). rule (accepting r) (box_of nets r 6) ∷ rs) (rules_split a b nets (drop 21 r) ∙ ap (λ (l : List ℕ). rules_from a nets (drop 21 r) ++ rules_from b nets l) d))

rules_none : (nets r : List ℕ) → rules_from 0 nets r ≡ []
unfolding rules_from
rules_none nets r = refl

all_chosen : (m : ℕ) (R : List ℕ) → m ≤ 71 → chosen 6 m R 18446744073709551615 18446744073709551615 ≡ rules_from m (take 64 R) (drop 64 R)
unfolding chosen ones
all_chosen m R h =
    ap₂ ◌++◌ (picked_all (m - (m - 64)) 64 (take 64 R) (drop 64 R) (omega arith)) (picked_all (m - 64) 64 (take 64 R) (drop 1408 R) (omega arith))
    ∙ by_test (ltb m 64)
    (λ e. let z : m - 64 ≡ 0 = omega (arith, ltb-true m 64 e) in
    let y : m - 0 ≡ m = omega arith in
    rw (z, y, rules_none (take 64 R) (drop 1408 R)) (append-nil (rules_from m (take 64 R) (drop 64 R))))
    (λ e. let y : m - (m - 64) ≡ 64 = omega (arith, ltb-false m 64 e) in
    let q : 64 + (m - 64) ≡ m = omega (arith, ltb-false m 64 e) in
    ap (λ (k : ℕ). rules_from k (take 64 R) (drop 64 R) ++ rules_from (m - 64) (take 64 R) (drop 1408 R)) y
    ∙ ap (λ (l : List ℕ). rules_from 64 (take 64 R) (drop 64 R) ++ rules_from (m - 64) (take 64 R) l) (sym (drop-drop 1344 64 R))
    ∙ sym (rules_split 64 (m - 64) (take 64 R) (drop 64 R))
    ∙ ap (λ (k : ℕ). rules_from k (take 64 R) (drop 64 R)) q)

-- ---- the front of the buffer with the builder's own rules
module _ (w w1 : List ℕ) (long : 1555 ≤ length w) (e : w1 ≡ (take 64 w ++ flow_words) ++ drop 169 w) where
  nets_long : length (take 64 w) ≡ 64
  nets_long = length-take-le 64 w (omega arith)

  ruled_is : take 1555 w1 ≡ take 64 w ++ (flow_words ++ drop 169 (take 1555 w))
  ruled_is =
      let l : length (take 64 w ++ flow_words) ≡ 169 = lib.ListN.length-append (take 64 w) flow_words ∙ omega (arith, nets_long, flow_length) in
      let d : drop 169 (take 1555 w) ≡ take 1386 (drop 169 w) = ap (λ (x : List ℕ). drop 169 x) (lib.Seq.take-add 169 1386 w) ∙ drop_at (take 169 w) (take 1386 (drop 169 w)) 169 (length-take-le 169 w (omega arith)) in
      ap (λ (x : List ℕ). take 1555 x) e
      ∙ lib.Seq.take-add 169 1386 ((take 64 w ++ flow_words) ++ drop 169 w)
      ∙ ap₂ (λ (x y : List ℕ). x ++ take 1386 y) (take_at (take 64 w ++ flow_words) (drop 169 w) 169 l) (drop_at (take 64 w ++ flow_words) (drop 169 w) 169 l)
      ∙ append_assoc (take 64 w) flow_words (take 1386 (drop 169 w))
      ∙ ap (λ (x : List ℕ). take 64 w ++ (flow_words ++ x)) (sym d)

  nets_are : take 64 (take 1555 w1) ≡ take 64 (take 1555 w)
  nets_are = ap (λ (x : List ℕ). take 64 x) ruled_is ∙ take_at (take 64 w) (flow_words ++ drop 169 (take 1555 w)) 64 nets_long ∙ sym (take-take 64 1555 w (omega arith))

  rules_are : drop 64 (take 1555 w1) ≡ flow_words ++ drop 169 (take 1555 w)
  rules_are = ap (λ (x : List ℕ). drop 64 x) ruled_is ∙ drop_at (take 64 w) (flow_words ++ drop 169 (take 1555 w)) 64 nets_long

  pub whole_is : (n : ℕ) → n ≤ 66 → table_left 6 (n + 5) (take 1555 w1) 18446744073709551615 18446744073709551615 ≡ table_of widths (let_through (rules_of n w))
  unfolding table_left widths_left top_of rules_of
  whole_is n h =
      let q : n + 5 ≡ suc (suc (suc (suc (suc n)))) = omega arith in
      let R = take 1555 w1 in
      let c : chosen 6 (n + 5) R 18446744073709551615 18446744073709551615 ≡ rules_from (suc (suc (suc (suc (suc n))))) (take 64 (take 1555 w)) (flow_words ++ drop 169 (take 1555 w)) =
      all_chosen (n + 5) R (omega arith) ∙ ap (λ (k : ℕ). rules_from k (take 64 R) (drop 64 R)) q ∙ ap₂ (λ (x y : List ℕ). rules_from (suc (suc (suc (suc (suc n))))) x y) nets_are rules_are in
      ap (λ (rs : List Rule). table_of widths (accepts rs)) c
      ∙ same_table widths (accepts (rules_from (suc (suc (suc (suc (suc n))))) (take 64 (take 1555 w)) (flow_words ++ drop 169 (take 1555 w)))) (let_through (rules_from n (take 64 (take 1555 w)) (drop 169 (take 1555 w)))) (flows_left n (take 64 (take 1555 w)) (drop 169 (take 1555 w)))

-- ---- the entry
pub ready_all : (m k ya yb : ℕ) (w1 w2 : List ℕ) → m ≤ 71 → AllCut m w1 w2 → k ≡ m - 64 → ya ≡ accept_mask (m - k) (drop 64 (take 1555 w2)) → yb ≡ accept_mask k (drop 1408 (take 1555 w2)) → Ready m ya yb (take 1555 w2) w2
ready_all m k ya yb w1 w2 h c e f g = record {
  few = h;
  cells = λ d l. subst (λ (R : List ℕ). Cut m d R w2) (sym c.front) (c.cuts d l);
  firsts = f ∙ ap (λ (j : ℕ). accept_mask (m - j) (drop 64 (take 1555 w2))) e;
  others = g ∙ ap (λ (j : ℕ). accept_mask j (drop 1408 (take 1555 w2))) e;
}

pub built_in : (n : ℕ) (w w1 w2 w3 : List ℕ) (r : Option ℕ) → 16290 ≤ length w → length w2 ≡ length w → n ≤ 66 → w1 ≡ (take 64 w ++ flow_words) ++ drop 169 w → AllCut (n + 5) w1 w2
    → BuiltTo (table_left 6 (n + 5) (take 1555 w2) 18446744073709551615 18446744073709551615) 2357 0 w2 w3 r → BuiltIn (table_of widths (let_through (rules_of n w))) w3 r
built_in n w w1 w2 w3 r long long2 h e c b =
    let t = table_left 6 (n + 5) (take 1555 w2) 18446744073709551615 18446744073709551615 in
    let q : t ≡ table_of widths (let_through (rules_of n w)) = ap (λ (R : List ℕ). table_left 6 (n + 5) R 18446744073709551615 18446744073709551615) c.front ∙ whole_is w w1 (omega arith) e n h in
    subst (λ (u : Table). BuiltIn u w3 r) q
    (record {
      answer = b.answer;
      held = λ o.
          let i : 3 * (2357 + length t) ≡ 7071 + 3 * length t = omega arith in
          let f : take 7071 w3 ++ take (3 * length t) (drop 7071 w3) ≡ take 7071 w2 ++ table_words 0 t = sym (lib.Seq.take-add 7071 (3 * length t) w3) ∙ ap (λ (j : ℕ). take j w3) (sym i) ∙ b.held o in
          let l2 = length-take-le 7071 w2 (omega arith) in
          let l3 : length (take 7071 w3) ≡ 7071 = long3 w2 w3 t (omega arith) (b.held o) in
          sym (drop_at (take 7071 w3) (take (3 * length t) (drop 7071 w3)) 7071 l3) ∙ ap (λ (x : List ℕ). drop 7071 x) f ∙ drop_at (take 7071 w2) (table_words 0 t) 7071 l2;
    })
  where
    long3 : (w2 w3 : List ℕ) (t : Table) → 7071 ≤ length w2 → take (3 * (2357 + length t)) w3 ≡ take 7071 w2 ++ table_words 0 t → length (take 7071 w3) ≡ 7071
    long3 w2 w3 t h e = length-take-le 7071 w3 (omega (arith, ap length e ∙ lib.ListN.length-append (take 7071 w2) (table_words 0 t), lib.ListN.length-take (3 * (2357 + length t)) w3, length-take-le 7071 w2 h))

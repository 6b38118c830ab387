-- The rules that drop what is no flow, put in front of others, leave exactly the flows to those.
use Prim.Native.Nat.{ℕ, ◌≤◌, ◌<◌}
use mathlib.Core.Path.{◌≡◌, refl, ◌∙◌}
use mathlib.Core.Bool.{Bool, true, false, ◌&&◌, ◌||◌, not, cond, or-true, and-true}
use mathlib.Core.List.{List, [], ◌∷◌, ◌++◌}
use lib.Dec.{leb, ltb, eqb}
use native.Mathlib.Omega.{arith}
use borrow.Author.Tests.{ltb-true, ltb-false, leb-true, leb-false, eqb-true, eqb-false, ne_eqb}
use Rattle.flows.specs.Table.{Point, ◌to◌, within, table_of}
use Rattle.flows.specs.Flow.{widths, flow_numbers, is_flow}
use Rattle.flows.specs.Rules.{Rule, Said, said, in_some, in_all, in_box, first_match, or_drop, accepts, let_through, flow_rules}
use Rattle.flows.specs.Cells.{cell_table, cuts_of}
use Rattle.text.proofs.Tests.{by_test, and_left, and_right, clash}
use Rattle.flows.proofs.Runs.{in_yes, in_low, in_high}
use Rattle.flows.proofs.Meaning.{same_table}
use Rattle.flows.proofs.Cells.{rules_table}

-- A number that is not 0
pub some_in : (top x : ℕ) → x ≤ top → in_some (1 to top ∷ []) x ≡ not (eqb x 0)
unfolding in_some
some_in top x h =
    by_test (eqb x 0)
    (λ e. rw (e, in_low 1 top x (omega (arith, eqb-true x 0 e))))
    (λ e. rw (e, in_yes 1 top x (omega (arith, eqb-false x 0 e)) h))

-- The protocols but 6, and but 6 and 17
pub not_tcp_lem : (x : ℕ) → x < 256 → in_some (0 to 5 ∷ (7 to 255 ∷ [])) x ≡ not (eqb x 6)
unfolding in_some
not_tcp_lem x h =
    by_test (ltb x 6)
    (λ e. let k : x < 6 = ltb-true x 6 e in rw (in_yes 0 5 x (omega arith) (omega arith), ne_eqb x 6 (omega arith)))
    (λ e. let k : 6 ≤ x = ltb-false x 6 e in rw (in_high 0 5 x k) (by_test (eqb x 6)
    (λ d. let q : x ≡ 6 = eqb-true x 6 d in rw (d, in_low 7 255 x (omega arith)))
    (λ d. let n : 7 ≤ x = omega (arith, eqb-false x 6 d) in rw (d, in_yes 7 255 x n (omega arith)))))

pub no_ports_lem : (x : ℕ) → x < 256 → in_some (0 to 5 ∷ (7 to 16 ∷ (18 to 255 ∷ []))) x ≡ not (eqb x 6 || eqb x 17)
unfolding in_some
no_ports_lem x h =
    by_test (leb x 16)
    (λ e. let k : x ≤ 16 = leb-true x 16 e in
    rw (ne_eqb x 17 (omega arith), in_low 18 255 x (omega arith)) (by_test (ltb x 6)
    (λ e. let j : x < 6 = ltb-true x 6 e in rw (in_yes 0 5 x (omega arith) (omega arith), ne_eqb x 6 (omega arith)))
    (λ e. let j : 6 ≤ x = ltb-false x 6 e in rw (in_high 0 5 x j) (by_test (eqb x 6)
    (λ d. let q : x ≡ 6 = eqb-true x 6 d in rw (d, in_low 7 16 x (omega arith)))
    (λ d. let n : 7 ≤ x = omega (arith, eqb-false x 6 d) in rw (d, in_yes 7 16 x n k))))))
    (λ e. let k : 16 < x = leb-false x 16 e in
    rw (in_high 0 5 x (omega arith), in_high 7 16 x k, ne_eqb x 6 (omega arith)) (by_test (eqb x 17)
    (λ d. let q : x ≡ 17 = eqb-true x 17 d in rw (d, in_low 18 255 x (omega arith)))
    (λ d. let n : 18 ≤ x = omega (arith, eqb-false x 17 d) in rw (d, in_yes 18 255 x n (omega arith)))))

-- The three tests in front, and the rule of flows, over truth values
pub three_drops : (tcp udp o r q : Bool) (v : Said)
    → or_drop (cond (not tcp && not o) (said false) (cond (not (tcp || udp) && not r) (said false) (cond (not (tcp || udp) && not q) (said false) v)))
    ≡ (((o || tcp) && ((r && q) || (tcp || udp))) && or_drop v)
three_drops true udp o r q v = simp or-true
three_drops false true true r q v = simp or-true
three_drops false true false r q v = refl
three_drops false false false r q v = refl
three_drops false false true false q v = refl
three_drops false false true true false v = refl
three_drops false false true true true v = refl

-- A point within the widths has numbers for them
pub within_first : (w : ℕ) (ws : List ℕ) (p : Point) → within (w ∷ ws) p ≡ true → record { x : ℕ; rest : Point; is : p ≡ x ∷ rest; low : x < w; after : within ws rest ≡ true }
unfolding within
within_first w ws [] e = clash e refl
within_first w ws (x ∷ p) e = record { x = x; rest = p; is = refl; low = ltb-true x w (and_left _ _ e); after = and_right (ltb x w) _ e }

pub within_end : (p : Point) → within [] p ≡ true → p ≡ []
unfolding within
within_end [] e = refl
within_end (x ∷ p) e = clash e refl

pub flows_first : (rs : List Rule) (d x o a r q : ℕ) → x < 256 → o ≤ 1 → r ≤ 65535 → q ≤ 65535
    → accepts (flow_rules ++ rs) (d ∷ (x ∷ (o ∷ (a ∷ (r ∷ (q ∷ [])))))) ≡ (flow_numbers x o r q && accepts rs (d ∷ (x ∷ (o ∷ (a ∷ (r ∷ (q ∷ [])))))))
unfolding accepts flow_rules first_match in_box in_all flow_numbers
flows_first rs d x o a r q hx ho hr hq =
    simp (not_tcp_lem x hx, no_ports_lem x hx, some_in 1 o ho, some_in 65535 r hr, some_in 65535 q hq, and-true)
    (three_drops (eqb x 6) (eqb x 17) (eqb o 0) (eqb r 0) (eqb q 0) (first_match rs (d ∷ (x ∷ (o ∷ (a ∷ (r ∷ (q ∷ []))))))))

-- THE FLOW RULES IN FRONT leave the flows to the others
pub flows_only : (rs : List Rule) (p : Point) → within widths p ≡ true → accepts (flow_rules ++ rs) p ≡ let_through rs p
unfolding let_through is_flow
flows_only rs p h =
    let f1 = within_first 2 _ p h in
    let f2 = within_first 256 _ f1.rest f1.after in
    let f3 = within_first 2 _ f2.rest f2.after in
    let f4 = within_first 4294967296 _ f3.rest f3.after in
    let f5 = within_first 65536 _ f4.rest f4.after in
    let f6 = within_first 65536 [] f5.rest f5.after in
    rw h (rw (f1.is, f2.is, f3.is, f4.is, f5.is, f6.is, within_end f6.rest f6.after)
    (flows_first rs f1.x f2.x f3.x f4.x f5.x f6.x f2.low (omega (arith, f3.low)) (omega (arith, f5.low)) (omega (arith, f6.low))))

-- THE TABLE OF THE FLOWS THAT RULES LET THROUGH, by one value for each elementary interval
pub by_elementary_intervals : (rs : List Rule) → cell_table (cuts_of widths (flow_rules ++ rs)) (flow_rules ++ rs) ≡ table_of widths (let_through rs)
by_elementary_intervals rs = rules_table widths (flow_rules ++ rs) ∙ same_table widths (accepts (flow_rules ++ rs)) (let_through rs) (flows_only rs)

-- A port object's ranges hold exactly the ports that it matches.
use Rattle.std.specs.Prelude.{Option, None, Some}
use Prim.Native.Nat.{ℕ, ◌+◌, ◌-◌, ◌≤◌, ◌<◌}
use native.Mathlib.Omega.{arith}
use mathlib.Core.Path.{◌≡◌, refl, sym, ap, ◌∙◌}
use mathlib.Core.List.{List}
use mathlib.Core.Bool.{Bool, true, false, not, ◌&&◌, and-true}
use mathlib.Core.Logic.{◌⊎◌, inl, inr}
use lib.Dec.{leb, ltb, eqb}
use borrow.Author.Tests.{lt-ltb, le-leb, ltb-true, ltb-false, leb-true, eqb-true, eqb-false}
use Rattle.text.specs.Ascii.{ascii}
use Rattle.text.specs.Words.{same_bytes}
use Rattle.text.proofs.Tests.{by_test, and_left, and_right, split, or_split, clash}
use Rattle.flows.specs.Table.{in_range}
use Rattle.flows.specs.Rules.{in_some}
use Rattle.flows.proofs.Runs.{in_yes, in_low, in_high}
use Rattle.values.specs.Tree.{Json, lookup, count_of}
use Rattle.values.specs.Rules.{must, may, within}
use Rattle.header.specs.Asked.{obeys}
use Rattle.header.specs.declared.asked.Asked.TheVariants.{Integer, Spelt, Nothing}
use Rattle.header.specs.declared.asked.Form.TheVariants.{Operator}
use Rattle.entries.specs.Sound.{in_order, ordered, is_range_form, is_operator_form, port_ok}
use Rattle.rules.specs.Meaning.{operator_holds, operator_of, port_holds}
use Rattle.rules.specs.Ports.{port_number, one_range, other_than, by_operator, ports_of, ports_in}
use Rattle.rules.specs.Words.{ranges_of}

-- ## what a rule that holds says
pub record There (m : Option Json) (f : Json → Bool) : Type 0 where
  pub j : Json
  pub is : m ≡ Some j
  pub holds : f j ≡ true

pub must_there : (m : Option Json) (f : Json → Bool) → must m f ≡ true → There m f
must_there None f e = clash {b = false} e refl
must_there (Some j) f e = record { j = j; is = refl; holds = e }

pub absent_none : (m : Option Json) → may m (obeys Nothing) ≡ true → m ≡ None
absent_none None e = refl
absent_none (Some j) e = clash {b = false} e refl

pub record Counted (low high : ℕ) (c : Option ℕ) : Type 0 where
  pub n : ℕ
  pub is : c ≡ Some n
  pub above : low ≤ n
  pub below : n ≤ high

pub counted : (low high : ℕ) (c : Option ℕ) → within low high c ≡ true → Counted low high c
counted low high None e = clash {b = false} e refl
counted low high (Some n) e = record { n = n; is = refl; above = leb-true low n (and_left _ _ e); below = leb-true n high (and_right (leb low n) _ e) }

-- ## ranges
pub one_holds : (a b x : ℕ) → in_some (ranges_of (one_range a b)) x ≡ in_range a b x
unfolding in_some
one_holds a b x = by_test (in_range a b x) (λ e. rw e) (λ e. rw e)

range_is : (a b x : ℕ) → in_range a b x ≡ (leb a x && (leb x b && true))
unfolding in_range
range_is a b x = ap (λ c. leb a x && c) (sym (and-true (leb x b)))

number_is : (n : ℕ) → n ≤ 65535 → port_number (Some n) ≡ n
number_is n h = rw (lt-ltb n 65536 (omega arith))

other_holds : (n x : ℕ) → n ≤ 65535 → x ≤ 65535 → in_some (ranges_of (other_than n)) x ≡ not (eqb x n)
unfolding other_than in_some
other_holds n x h k =
    by_test (eqb n 0)
    (λ e. let z : n ≡ 0 = eqb-true n 0 e in rw e (by_test (eqb x n)
    (λ d. let q : x ≡ n = eqb-true x n d in rw (d, in_low 1 65535 x (omega arith)))
    (λ d. let q : x ≡ n → ⊥ = eqb-false x n d in rw (d, in_yes 1 65535 x (omega arith) k))))
    (λ e. let z : n ≡ 0 → ⊥ = eqb-false n 0 e in rw e (by_test (eqb n 65535)
    (λ f. let y : n ≡ 65535 = eqb-true n 65535 f in rw f (by_test (eqb x n)
    (λ d. let q : x ≡ n = eqb-true x n d in rw (d, in_high 0 65534 x (omega arith)))
    (λ d. let q : x ≡ n → ⊥ = eqb-false x n d in rw (d, in_yes 0 65534 x (omega arith) (omega arith)))))
    (λ f. let y : n ≡ 65535 → ⊥ = eqb-false n 65535 f in rw f (by_test (eqb x n)
    (λ d. let q : x ≡ n = eqb-true x n d in rw (d, in_high 0 (n - 1) x (omega arith), in_low (n + 1) 65535 x (omega arith)))
    (λ d. let q : x ≡ n → ⊥ = eqb-false x n d in rw d (by_test (ltb x n)
    (λ l. let m : x < n = ltb-true x n l in rw (in_yes 0 (n - 1) x (omega arith) (omega arith)))
    (λ l. let m : n ≤ x = ltb-false x n l in rw (in_high 0 (n - 1) x (omega arith), in_yes (n + 1) 65535 x (omega arith) k))))))))

pub single_holds : (n x : ℕ) → in_range n n x ≡ eqb x n
single_holds n x =
    by_test (eqb x n)
    (λ e. let q : x ≡ n = eqb-true x n e in rw (e, in_yes n n x (omega arith) (omega arith)))
    (λ e. let q : x ≡ n → ⊥ = eqb-false x n e in rw e (by_test (ltb x n) (λ l. in_low n n x (ltb-true x n l)) (λ l. let m : n ≤ x = ltb-false x n l in in_high n n x (omega arith))))

upto_holds : (n x : ℕ) → in_range 0 n x ≡ leb x n
unfolding in_range
upto_holds n x = let z : 0 ≤ x = omega arith in rw (le-leb 0 x z)

from_holds : (n x : ℕ) → x ≤ 65535 → in_range n 65535 x ≡ leb n x
unfolding in_range
from_holds n x h = rw (le-leb x 65535 h) (and-true (leb n x))

operator_holds_lem : (o : List ℕ) (n x : ℕ) → n ≤ 65535 → x ≤ 65535 → in_some (ranges_of (by_operator o n)) x ≡ operator_holds o x (Some n)
unfolding by_operator operator_holds
operator_holds_lem o n x h k =
    by_test (same_bytes o (ascii "neq"))
    (λ e. rw e (other_holds n x h k))
    (λ e. rw e (by_test (same_bytes o (ascii "lte"))
    (λ f. rw f (one_holds 0 n x ∙ upto_holds n x))
    (λ f. rw f (by_test (same_bytes o (ascii "gte"))
    (λ g. rw g (one_holds n 65535 x ∙ from_holds n x k))
    (λ g. rw g (one_holds n n x ∙ single_holds n x))))))

-- ## the two forms
range_form : (p : Json) (x : ℕ) → is_range_form p ≡ true → in_some (ranges_of (ports_of p)) x ≡ port_holds x p
unfolding is_range_form ordered in_order
range_form p x e =
    let a = split (ordered p) _ e in
    let b = split _ _ a.1 in
    let l = must_there (lookup (ascii "lower-port") p) _ a.0 in
    let h = must_there (lookup (ascii "upper-port") p) _ l.holds in
    let c = split _ _ h.holds in
    let d = split _ _ c.1 in
    let m = counted 0 65535 (count_of l.j) c.0 in
    let n = counted 0 65535 (count_of h.j) d.0 in
    go l.j h.j l.is h.is (absent_none (lookup (ascii "port") p) b.0) m.n n.n m.is n.is m.below n.below
  where
    go : (l h : Json) → lookup (ascii "lower-port") p ≡ Some l → lookup (ascii "upper-port") p ≡ Some h → lookup (ascii "port") p ≡ None → (a b : ℕ) → count_of l ≡ Some a → count_of h ≡ Some b → a ≤ 65535 → b ≤ 65535 → in_some (ranges_of (ports_of p)) x ≡ port_holds x p
    go l h p1 p2 p3 a b q1 q2 la lb = unfold ports_of port_holds in rw (p1, p2, p3, q1, q2, number_is a la, number_is b lb) (one_holds a b x ∙ range_is a b x)

operator_form : (p : Json) (x : ℕ) → x ≤ 65535 → is_operator_form p ≡ true → in_some (ranges_of (ports_of p)) x ≡ port_holds x p
unfolding is_operator_form
operator_form p x k e =
    let a = split (must (lookup (ascii "port") p) (obeys (Integer 0 65535))) _ e in
    let b = split (may (lookup (ascii "operator") p) (obeys (Spelt Operator))) _ a.1 in
    let c = split _ _ b.1 in
    let n = must_there (lookup (ascii "port") p) _ a.0 in
    let m = counted 0 65535 (count_of n.j) n.holds in
    go n.j n.is (absent_none (lookup (ascii "lower-port") p) c.0) (absent_none (lookup (ascii "upper-port") p) c.1) m.n m.is m.below
  where
    go : (j : Json) → lookup (ascii "port") p ≡ Some j → lookup (ascii "lower-port") p ≡ None → lookup (ascii "upper-port") p ≡ None → (n : ℕ) → count_of j ≡ Some n → n ≤ 65535 → in_some (ranges_of (ports_of p)) x ≡ port_holds x p
    go j p1 p2 p3 n q l = unfold ports_of port_holds in rw (p2, p3, p1, q, number_is n l) (operator_holds_lem (operator_of (lookup (ascii "operator") p)) n x l k)

-- THE RANGES OF A PORT OBJECT HOLD WHAT IT MATCHES
pub port_holds_lem : (p : Json) (x : ℕ) → x ≤ 65535 → port_ok p ≡ true → in_some (ranges_of (ports_of p)) x ≡ port_holds x p
unfolding port_ok
port_holds_lem p x k e = go (or_split (is_range_form p) (is_operator_form p) e)
  where
    go : (is_range_form p ≡ true) ⊎ (is_operator_form p ≡ true) → in_some (ranges_of (ports_of p)) x ≡ port_holds x p
    go (inl h) = range_form p x h
    go (inr h) = operator_form p x k h

pub ports_hold_lem : (m : Option Json) (x : ℕ) → x ≤ 65535 → may m port_ok ≡ true → in_some (ranges_of (ports_in m)) x ≡ may m (port_holds x)
ports_hold_lem None x k e = one_holds 0 65535 x ∙ in_yes 0 65535 x (omega arith) k
ports_hold_lem (Some p) x k e = port_holds_lem p x k e

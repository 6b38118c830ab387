-- Laws of port objects as ranges, and that the ranges hold the ports that the object matches.
use Rattle.std.specs.Prelude.{Option, None, Some}
use Prim.Native.Nat.{ℕ, ◌+◌}
use native.Mathlib.Omega.{arith}
use mathlib.Core.Path.{◌≡◌, refl, sym, ap, ◌∙◌}
use mathlib.Core.List.{List}
use mathlib.Core.Bool.{false}
use lib.ListN.{get_or}
use borrow.Author.Rules.{rules}
use borrow.Author.Tests.{ne_eqb}
use Rattle.text.specs.Ascii.{ascii}
use Rattle.jsontext.proofs.Runs.{past_is}
use Rattle.values.specs.Decode.{bytes_at}
use Rattle.values.specs.Tree.{Json, null, bool, integer, real, string, array, object, tree_at, seen, count_of, is_string}
use Rattle.values.proofs.Trees.{tree_string}
use Rattle.values.proofs.Sorts.{string_kind}
use Rattle.values.specs.Rules.{inside, under}
use Rattle.rules.specs.Meaning.{operator_of}
use Rattle.rules.specs.Ports.{port_number, one_range, by_operator, all_ports, ports_of, ports_in}
use Rattle.rules.specs.declared.ports.Ports.{Ports}

-- ## operators
no_operator : (j : Json) → is_string j ≡ false → operator_of (Some j) ≡ ascii "eq"
no_operator null e = refl
no_operator (bool b) e = refl
no_operator (integer n) e = refl
no_operator real e = refl
no_operator (string b) e = absurd (let z : ◌≡◌ {A = ℕ} 0 1 = cc in omega arith)
no_operator (array es) e = refl
no_operator (object ms) e = refl

equal_operator : (n : ℕ) → one_range n n ≡ by_operator (ascii "eq") n
unfolding by_operator
equal_operator n = refl

module _ (s : List ℕ) (n : ℕ) (f : Option ℕ) {r : Ports} where
  module _ {p : ℕ} (q : f ≡ Some p) {b : ℕ} (g : b ≡ get_or s p 0) where
    pub operator_other : (b ≡ 34 → ⊥) → r ≡ one_range n n → r ≡ by_operator (operator_of (seen (tree_at 6 s) f)) n
    operator_other u h =
        rw q (h ∙ (equal_operator n ∙ ap (λ o. by_operator o n) (sym (no_operator (tree_at 6 s p) (sym (string_kind 6 s p b g) ∙ ne_eqb b 34 u)))))

    pub operator_is : b ≡ 34 → r ≡ by_operator (bytes_at s (p + 1)) n → r ≡ by_operator (operator_of (seen (tree_at 6 s) f)) n
    operator_is u h = rw (q, tree_string 6 s p g u) h

-- ## a port object
pub ports_are : (m : Option Json) → ports_in m ≡
    inside (under (ascii "lower-port") m)
    (λ low. inside (under (ascii "upper-port") m) (λ high. one_range (port_number (count_of low)) (port_number (count_of high))) all_ports)
    (inside (under (ascii "port") m) (λ n. by_operator (operator_of (under (ascii "operator") m)) (port_number (count_of n))) all_ports)
unfolding ports_of
ports_are None = refl
ports_are (Some j) = refl

pub ruleset porting = (rules, past_is, operator_other, operator_is, ports_are)

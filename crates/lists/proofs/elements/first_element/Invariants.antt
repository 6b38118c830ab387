use Rattle.std.proofs.Common.{◌≡◌, ◌-◌, length, ℕ, Bool}
use Rattle.values.specs.Tree.{Json, tree_at, elements_from}
use Rattle.values.specs.Rules.{first_with}
use Rattle.lists.proofs.elements.first_element.Given as goal

abbrev pub invariant-loop-test : goal.invariant-loop-test
invariant-loop-test g l =
    (p : Json → Bool) → ((i : ℕ) (r : Bool) → goal.F-post g l.test i r → r ≡ p (tree_at l.depth l.s i)) → first_with p (elements_from l.depth l.s l.at) ≡ first_with p (elements_from l.depth l.s l.j)

abbrev pub decreases-loop-test : goal.decreases-loop-test
decreases-loop-test g l = length l.s - l.j

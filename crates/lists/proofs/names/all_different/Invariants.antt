use Prim.Native.Nat.{◌-◌}
use lib.ListN.{length}
use Rattle.values.specs.Tree.{items, tree_at, elements_from}
use Rattle.lists.specs.Lists.{all_different, names_of}
use Rattle.lists.proofs.Different.{Different}
use Rattle.lists.proofs.names.all_different.Given as goal

abbrev pub invariant-loop-n : goal.invariant-loop-n
invariant-loop-n l = Different (all_different (names_of (items (tree_at l.depth l.s l.at)))) l.s l.initial.area l.area l.hi (names_of (elements_from l.d l.s l.j))

abbrev pub decreases-loop-n : goal.decreases-loop-n
decreases-loop-n l = length l.s - l.j

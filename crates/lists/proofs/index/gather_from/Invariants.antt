use Prim.Native.Nat.{◌-◌}
use lib.ListN.{length}
use Rattle.values.specs.Tree.{elements_from}
use Rattle.lists.specs.Index.{Gathered}
use Rattle.lists.proofs.index.gather_from.Given as goal

abbrev pub invariant-loop-hi : goal.invariant-loop-hi
invariant-loop-hi l = Gathered l.s (elements_from 13 l.s l.at) l.area l.hi (elements_from 13 l.s l.j)

abbrev pub decreases-loop-hi : goal.decreases-loop-hi
decreases-loop-hi l = length l.s - l.j

use Prim.Native.Nat.{◌+◌, ◌-◌}
use lib.ListN.{length}
use Rattle.values.proofs.Cleaning.{Elementing, Membering}
use Rattle.values.proofs.clean.+checking.Given as goal

abbrev pub decreases-check_array : goal.decreases-check_array
decreases-check_array l = l.depth + l.depth + l.depth + 2

abbrev pub decreases-check_member : goal.decreases-check_member
decreases-check_member l = l.depth + l.depth + l.depth + 1

abbrev pub decreases-check_object : goal.decreases-check_object
decreases-check_object l = l.depth + l.depth + l.depth + 2

abbrev pub decreases-check_value : goal.decreases-check_value
decreases-check_value l = l.depth + l.depth + l.depth

abbrev pub invariant-check_array-loop-e : goal.invariant-check_array-loop-e
invariant-check_array-loop-e l = Elementing l.depth l.s l.at l.initial.area l.area l.lo l.j l.good

abbrev pub decreases-check_array-loop-e : goal.decreases-check_array-loop-e
decreases-check_array-loop-e l = length l.s - l.j

abbrev pub invariant-check_object-loop-v : goal.invariant-check_object-loop-v
invariant-check_object-loop-v l = Membering l.depth l.s l.at l.initial.area l.area l.lo l.j l.hi l.good

abbrev pub decreases-check_object-loop-v : goal.decreases-check_object-loop-v
decreases-check_object-loop-v l = length l.s - l.j

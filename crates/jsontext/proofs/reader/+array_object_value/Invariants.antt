use Prim.Native.Nat.{◌+◌, ◌-◌}
use lib.ListN.{length}
use Rattle.jsontext.specs.Reading.{array_at, object_at, value_at, element_at, member_at}
use Rattle.jsontext.proofs.Runs.{Going}
use Rattle.jsontext.proofs.reader.+array_object_value.Given as goal

abbrev pub decreases-array : goal.decreases-array
decreases-array l = l.depth + l.depth + 1

abbrev pub decreases-object : goal.decreases-object
decreases-object l = l.depth + l.depth + 1

abbrev pub decreases-value : goal.decreases-value
decreases-value l = l.depth + l.depth

abbrev pub invariant-array-loop-e : goal.invariant-array-loop-e
invariant-array-loop-e l = Going (element_at (value_at l.depth l.s) l.s) l.s (array_at (value_at l.depth l.s) l.s l.at) l.j

abbrev pub decreases-array-loop-e : goal.decreases-array-loop-e
decreases-array-loop-e l = length l.s - l.j

abbrev pub invariant-object-loop-v : goal.invariant-object-loop-v
invariant-object-loop-v l = Going (member_at (value_at l.depth l.s) l.s) l.s (object_at (value_at l.depth l.s) l.s l.at) l.j

abbrev pub decreases-object-loop-v : goal.decreases-object-loop-v
decreases-object-loop-v l = length l.s - l.j

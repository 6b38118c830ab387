use Prim.Native.Nat.{◌≤◌}
use Rattle.stored.specs.Line.{ranges}
use Rattle.stored.specs.Groups.{differ_of}
use Rattle.stored.proofs.groups.relate.Given as goal

abbrev pub invariant-loop-d : goal.invariant-loop-d
invariant-loop-d l = l.d ≤ differ_of (ranges l.fn.a) (ranges l.fn.b)

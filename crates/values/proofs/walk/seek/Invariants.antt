use Rattle.values.specs.Tree.{find, members_from}
use lib.ListN.{length}
use Prim.Native.Nat.{◌-◌}
use mathlib.Core.Path.{◌≡◌}
use Rattle.values.proofs.walk.seek.Given as goal

abbrev pub invariant-loop-at : goal.invariant-loop-at
invariant-loop-at l = find l.w (members_from l.depth l.s l.at) ≡ find l.w (members_from l.depth l.s l.j)

abbrev pub decreases-loop-at : goal.decreases-loop-at
decreases-loop-at l = length l.s - l.j

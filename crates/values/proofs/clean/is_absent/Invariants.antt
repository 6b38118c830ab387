use Rattle.values.specs.Clean.{absent}
use Rattle.values.specs.Tree.{name_at, members_after}
use lib.ListN.{length}
use Prim.Native.Nat.{◌-◌}
use mathlib.Core.Path.{◌≡◌}
use Rattle.values.proofs.clean.is_absent.Given as goal

abbrev pub invariant-loop-k : goal.invariant-loop-k
invariant-loop-k l = absent (name_at l.s l.at) (members_after l.depth l.s l.at) ≡ absent (name_at l.s l.at) (members_after l.depth l.s l.j)

abbrev pub decreases-loop-k : goal.decreases-loop-k
decreases-loop-k l = length l.s - l.j

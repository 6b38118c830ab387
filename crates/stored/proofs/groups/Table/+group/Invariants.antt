use Prim.Native.Nat.{◌-◌}
use lib.ListN.{length}
use Rattle.stored.specs.Stored.{lines}
use Rattle.stored.specs.Groups.{row}
use Rattle.stored.proofs.Turning.{Turn}
use Rattle.stored.proofs.groups.Table.+group.Given as goal

-- the dimensions left
abbrev pub decreases-group : goal.decreases-group
decreases-group l = 6 - l.d

abbrev pub invariant-loop-k : goal.invariant-loop-k
invariant-loop-k l = Turn l.d (row (lines l.self.s.now 0) l.at) (lines l.self.s.now 0) l.at l.i

abbrev pub decreases-loop-k : goal.decreases-loop-k
decreases-loop-k l = length (lines l.self.s.now 0) - l.i

use Prim.Native.Nat.{◌-◌}
use lib.ListN.{length}
use Rattle.stored.specs.Stored.{lines}
use Rattle.stored.proofs.Turning.{Pairing}
use Rattle.stored.proofs.groups.Table.same.Given as goal

abbrev pub invariant-loop-a : goal.invariant-loop-a
invariant-loop-a l = Pairing (lines l.self.s.now 0) l.d l.a l.b l.i l.j

abbrev pub decreases-loop-a : goal.decreases-loop-a
decreases-loop-a l = length l.self.marks.now - l.j

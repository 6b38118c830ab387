use Prim.Native.Nat.{◌≤◌}
use mathlib.Core.Path.{◌≡◌}
use lib.ListN.{take}
use Rattle.stored.specs.Marks.{tabs_of}
use Rattle.stored.proofs.groups.tabs_in.Given as goal

abbrev pub invariant-loop-b : goal.invariant-loop-b
invariant-loop-b l = (l.n ≡ tabs_of (take l.b-index l.s)) × (l.n ≤ l.b-index)

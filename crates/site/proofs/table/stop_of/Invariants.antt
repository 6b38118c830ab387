use Prim.Native.Nat.{◌-◌}
use mathlib.Core.Path.{◌≡◌}
use lib.ListN.{length}
use Rattle.site.specs.Site.{stop}
use Rattle.site.proofs.table.stop_of.Given as goal

abbrev pub invariant-loop-l : goal.invariant-loop-l
invariant-loop-l l = stop l.s 0 ≡ stop l.s l.at

abbrev pub decreases-loop-l : goal.decreases-loop-l
decreases-loop-l l = length l.s - l.at

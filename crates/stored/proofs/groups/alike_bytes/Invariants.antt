use mathlib.Core.Path.{◌≡◌}
use mathlib.Core.List.{reverse}
use lib.ListN.{length}
use Rattle.stored.specs.Marks.{same_back}
use Rattle.stored.proofs.groups.alike_bytes.Given as goal

abbrev pub invariant-loop-left : goal.invariant-loop-left
invariant-loop-left l = same_back l.tabs (reverse l.a) (reverse l.b) ≡ same_back l.left (reverse l.xs) (reverse l.ys)

abbrev pub decreases-loop-left : goal.decreases-loop-left
decreases-loop-left l = length l.xs

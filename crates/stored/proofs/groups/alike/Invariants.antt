use mathlib.Core.Path.{◌≡◌}
use mathlib.Core.List.{reverse}
use lib.ListN.{length}
use Rattle.stored.specs.Marks.{same_back}
use Rattle.stored.proofs.groups.alike.Given as goal

abbrev pub invariant-loop-p : goal.invariant-loop-p
invariant-loop-p l = same_back l.tabs (reverse l.a) (reverse l.b) ≡ same_back l.left (reverse l.xs) (reverse l.ys)

abbrev pub decreases-loop-p : goal.decreases-loop-p
decreases-loop-p l = length l.xs

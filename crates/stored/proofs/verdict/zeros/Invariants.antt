use mathlib.Core.Path.{◌≡◌}
use lib.ListN.{length, drop}
use Rattle.stored.specs.Stored.{all_zero}
use Rattle.stored.proofs.verdict.zeros.Given as goal

abbrev pub invariant-loop-block : goal.invariant-loop-block
invariant-loop-block l = all_zero (drop l.at l.s) ≡ all_zero l.left

abbrev pub decreases-loop-block : goal.decreases-loop-block
decreases-loop-block l = length l.left

use Rattle.values.specs.Decode.{bytes_at, before}
use Rattle.values.specs.Clean.{all_bytes}
use lib.ListN.{length}
use mathlib.Core.Path.{◌≡◌}
use Rattle.values.proofs.strings.all_bytes.Given as goal

abbrev pub invariant-loop-a : goal.invariant-loop-a
invariant-loop-a l = all_bytes (bytes_at l.s l.at) ≡ all_bytes (before l.p (bytes_at l.s))

abbrev pub decreases-loop-a : goal.decreases-loop-a
decreases-loop-a l = length (before l.p (bytes_at l.s))

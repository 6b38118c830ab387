use Rattle.values.specs.Decode.{bytes_at, before}
use Rattle.values.specs.Names.{order_of}
use lib.ListN.{length}
use mathlib.Core.Path.{◌≡◌}
use Rattle.values.proofs.strings.order.Given as goal

abbrev pub invariant-loop-p : goal.invariant-loop-p
invariant-loop-p l = order_of (bytes_at l.s l.i) (bytes_at l.s l.j) ≡ order_of (before l.p (bytes_at l.s)) (before l.q (bytes_at l.s))

abbrev pub decreases-loop-p : goal.decreases-loop-p
decreases-loop-p l = length (before l.p (bytes_at l.s))

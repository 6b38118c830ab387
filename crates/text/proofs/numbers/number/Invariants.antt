use Prim.Native.Nat.{◌≤◌}
use mathlib.Core.Path.{◌≡◌}
use lib.ListN.{length, drop}
use Rattle.text.specs.Numbers.{number_at, digits_from}
use Rattle.text.proofs.numbers.number.Given as goal

abbrev pub invariant-loop-i : goal.invariant-loop-i
invariant-loop-i l = (number_at l.max l.s l.at ≡ digits_from l.max l.v (drop l.i l.s) l.i) × (l.i ≤ length l.s)

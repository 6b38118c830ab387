use Rattle.jsontext.specs.Reading.{quote_or_char_at, string_at}
use lib.ListN.{length}
use Prim.Native.Nat.{◌-◌}
use Rattle.jsontext.proofs.Runs.{Going}
use Rattle.jsontext.proofs.strings.string.Given as goal

abbrev pub invariant-loop-at : goal.invariant-loop-at
invariant-loop-at l = Going (quote_or_char_at l.s) l.s (string_at l.s l.at) l.i

abbrev pub decreases-loop-at : goal.decreases-loop-at
decreases-loop-at l = length l.s - l.i

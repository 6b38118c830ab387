use Rattle.values.proofs.Counting.{Counting}
use Rattle.values.proofs.plain.digits_value.Given as goal

abbrev pub invariant-loop-b : goal.invariant-loop-b
invariant-loop-b l = Counting l.digits l.n l.b-index

use Rattle.reply.proofs.Putting.{Putting}
use Rattle.reply.proofs.put_lines.Given as goal

abbrev pub invariant-loop-i : goal.invariant-loop-i
invariant-loop-i l = Putting l.initial.buf l.work l.n l.buf l.at l.i

use Rattle.values.specs.Decode.{bytes_at}
use Rattle.header.proofs.Laws.{Copying}
use Rattle.header.proofs.strings.copy.Given as goal

abbrev pub invariant-loop-n : goal.invariant-loop-n
invariant-loop-n l = Copying (bytes_at l.s l.at) l.fn.buf l.s l.p l.n l.buf

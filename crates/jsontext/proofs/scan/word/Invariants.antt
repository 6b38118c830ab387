use Rattle.std.proofs.Common.{◌≡◌, drop}
use Rattle.jsontext.specs.Reading.{word_at}
use Rattle.jsontext.proofs.scan.word.Given as goal

abbrev pub invariant-loop-b : goal.invariant-loop-b
invariant-loop-b l = word_at l.fn.w l.fn.s l.fn.at ≡ word_at (drop l.b-index l.fn.w) l.fn.s l.i

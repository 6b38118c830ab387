use Rattle.std.proofs.Common.{rules}
use Rattle.jsontext.proofs.Runs.{passed, word_end, word_stop, word_on}
use Rattle.jsontext.proofs.scan.word.Goals as goal

pub returns-in_err-i : goal.returns-in_err-i
returns-in_err-i c = passed c.from_residual.ensures.1 (word_stop c.args.w.now c.args.s.now c.loop-b.b-index c.loop-b.i c.loop-b.invariant (search rules) c.byte.ensures c.in_err-i.was)

pub loop-b-preserved : goal.loop-b-preserved
loop-b-preserved c = word_on c.args.w.now c.args.s.now c.loop-b.b-index c.loop-b.i c.loop-b.invariant (search rules) c.byte.ensures c.in_ok-i.was

pub returns : goal.returns
returns c = word_end c.args.w.now c.args.s.now c.loop-b.b-index c.loop-b.i c.loop-b.invariant (search rules)

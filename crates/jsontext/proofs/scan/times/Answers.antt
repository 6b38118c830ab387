use Rattle.std.proofs.Common.{rules, arith}
use Rattle.jsontext.proofs.Runs.{passed, times_done, times_stop, times_on}
use Rattle.jsontext.proofs.scan.times.Goals as goal

pub loop-init : goal.loop-init
loop-init g c = λ p t. search rules

pub returns-in_err-i : goal.returns-in_err-i
returns-in_err-i g c = λ p t. passed c.from_residual.ensures.1 (times_stop p _ _ _ _ (c.loop.invariant p t) (omega arith) (c.one.ensures p (record { zeroth = t.zeroth; answers = t.answers })) c.in_err-i.was)

pub loop-preserved : goal.loop-preserved
loop-preserved g c = λ p t. times_on p _ _ _ _ (c.loop.invariant p t) (omega arith) (c.one.ensures p (record { zeroth = t.zeroth; answers = t.answers })) c.in_ok-i.was

pub returns : goal.returns
returns g c = λ p t. times_done p _ _ _ _ (c.loop.invariant p t) (omega arith)

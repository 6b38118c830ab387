use Rattle.std.proofs.Common.{rules, arith}
use mathlib.Core.Path.{◌∙◌}
use Rattle.jsontext.proofs.Runs.{span_out, span_not, span_on, span_past}
use Rattle.jsontext.proofs.scan.span.Goals as goal

pub loop-i-init : goal.loop-i-init
loop-i-init g c = (λ h. omega arith, λ p t. search rules)

pub returns-then-not-test : goal.returns-then-not-test
returns-then-not-test g c = λ p t. span_not p _ _ (c.loop-i.invariant.1 p t) c.loop-i-test.true (t.answers _ _ (search rules) c.test.ensures) c.if-not-test.true

pub loop-i-preserved : goal.loop-i-preserved
loop-i-preserved g c = (λ h. omega arith, λ p t. span_on p _ _ (c.loop-i.invariant.1 p t) c.loop-i-test.true (t.answers _ _ (search rules) c.test.ensures) (search rules))

pub returns : goal.returns
returns g c = λ p t. c.max.ensures ∙ span_past _ _ _ (omega arith) (omega arith) c.loop-i.invariant.0 ∙ span_out p _ _ (c.loop-i.invariant.1 p t) (omega arith)

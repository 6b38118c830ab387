use mathlib.Core.Path.{sym, ap, ◌∙◌}
use Rattle.stored.specs.Stored.{all_zero}
use Rattle.stored.proofs.Gathering.{zeros_last, zeros_refused, zeros_on}
use Rattle.stored.proofs.verdict.zeros.Goals as goal

pub returns-then-bits_in-ne0 : goal.returns-then-bits_in-ne0
returns-then-bits_in-ne0 c = zeros_refused c.loop-block.left.now _ 256 c.loop-block.invariant c.in-Some.ensures.cases.0 c.bits_in.ensures c.if-bits_in-ne0.true

pub loop-block-preserved : goal.loop-block-preserved
loop-block-preserved c = zeros_on c.loop-block.left.now _ 256 c.loop-block.invariant c.in-Some.ensures.cases.0 c.bits_in.ensures c.if-bits_in-ne0.false ∙ ap all_zero (sym c.in-Some.ensures.cases.1)

pub returns : goal.returns
returns c = zeros_last c.loop-block.left.now c.loop-block.invariant c.bits_in-2.ensures

use Rattle.std.proofs.Common.{arith}
use Rattle.std.proofs.lemmas.Grind.{common_steps}
use Rattle.header.proofs.Laws.{copying, copying_more, copying_over, copying_wide}
use Rattle.header.proofs.strings.copy.Goals as goal

pub loop-n-init : goal.loop-n-init
loop-n-init c = search copying

pub returns-in_default : goal.returns-in_default
returns-in_default c = search copying

pub returns-in_err-buf : goal.returns-in_err-buf
returns-in_err-buf c =
    rw c.from_residual.ensures (copying_wide _ _ _ _ _ _ c.loop-n.invariant c.first.ensures c.in-Some.is (grind (arith, common_steps)))

pub loop-n-preserved : goal.loop-n-preserved
loop-n-preserved c =
    copying_more _ _ _ _ _ _ c.loop-n.invariant c.first.ensures c.in-Some.is (grind (arith, common_steps)) (omega (arith, c.loop-n-test.true, c.loop-n.invariant.same)) (grind (arith, common_steps)) c.rest-p.ensures

pub returns-then-is_none : goal.returns-then-is_none
returns-then-is_none c = search copying

pub returns-else-is_none : goal.returns-else-is_none
returns-else-is_none c =
    copying_over _ _ _ _ _ _ c.loop-n.invariant c.first-2.ensures (omega (arith, c.loop-n-test.false, c.loop-n.invariant.same)) c.if-is_none.ensures

use Rattle.std.proofs.Common.{arith}
use Rattle.values.proofs.Ordering.{ordering, order_end, order_apart}
use Rattle.values.proofs.strings.order.Goals as goal
use Rattle.values.proofs.strings.order.Goals.{then-is_none-via-then-is_none, then-is_none-via-else-is_none+then-ne}

pub loop-p-init : goal.loop-p-init
loop-p-init c = search ordering

pub returns-then-is_none : goal.returns-then-is_none
returns-then-is_none c =
    elim c.then-is_none.branch [
      | then-is_none-via-then-is_none w ↦ order_end _ _ _ c.loop-p.invariant c.first-a.ensures c.first-b.ensures (grind arith) c.cmp.ensures
      | then-is_none-via-else-is_none+then-ne w ↦ order_apart _ _ _ c.loop-p.invariant c.first-a.ensures c.first-b.ensures (grind arith) c.cmp.ensures
    ]

use Rattle.lists.proofs.Gathering.{gathered_on}
use Rattle.lists.proofs.index.gather_from.Goals as goal

pub loop-hi-preserved : goal.loop-hi-preserved
loop-hi-preserved c = gathered_on _ _ _ c.loop-hi.invariant _ c.add_list.ensures c.in_ok-hi.was c.next_element.ensures c.in-Ok-More.is c.in-Ok-More.field-0-is

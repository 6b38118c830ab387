use Rattle.rules.proofs.RowLaws.{rowing}
use Rattle.rules.proofs.names.put_masks.Goals as goal
use Rattle.rules.proofs.names.put_masks.Goals.{in-Some, in_default}

pub loop-m-preserved : goal.loop-m-preserved
loop-m-preserved c = elim c.match-m.branch [ in-Some w ↦ rw (w.work-is, w.p-is) (search rowing, search rowing) | in_default w ↦ rw (w.work-is, w.p-is) (search rowing, search rowing) ]

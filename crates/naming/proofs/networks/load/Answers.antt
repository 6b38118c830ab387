use Rattle.naming.proofs.Masking.{masking}
use Rattle.naming.proofs.networks.load.Goals as goal
use Rattle.naming.proofs.networks.load.Goals.{in-Some, in-None}

pub loop-i-preserved : goal.loop-i-preserved
loop-i-preserved c = elim c.match-line_at.branch [ in-Some w ↦ rw (w.work-is, w.places-is, w.at-is) (search masking, search masking) | in-None w ↦ rw (w.work-is, w.places-is, w.at-is) (search masking, search masking) ]

use Rattle.naming.proofs.Comparing.{wanting}
use Rattle.naming.proofs.wanted.has_authority.Goals as goal

pub loop-b-preserved : goal.loop-b-preserved
loop-b-preserved c = search wanting

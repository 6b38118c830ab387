use Rattle.stored.proofs.Gathering.{gathering}
use Rattle.stored.proofs.verdict.gather.Goals as goal

pub mark-requires : goal.mark-requires
mark-requires c = search gathering

pub loop-n-preserved : goal.loop-n-preserved
loop-n-preserved c = search gathering

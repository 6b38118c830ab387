use Rattle.values.proofs.Cleaning.{naming}
use Rattle.values.proofs.clean.is_absent.Goals as goal

pub loop-k-preserved : goal.loop-k-preserved
loop-k-preserved c = search naming

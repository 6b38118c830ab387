use Rattle.values.proofs.Comparing.{comparing}
use Rattle.values.proofs.strings.all_bytes.Goals as goal

pub loop-a-preserved : goal.loop-a-preserved
loop-a-preserved c = search comparing

use Rattle.reading.proofs.Finding.{finding}
use Rattle.reading.proofs.read_list.Goals as goal

pub returns-in_default : goal.returns-in_default
returns-in_default c = search finding

pub loop-k-preserved : goal.loop-k-preserved
loop-k-preserved c = search finding

pub returns-in_default-2 : goal.returns-in_default-2
returns-in_default-2 c = search finding

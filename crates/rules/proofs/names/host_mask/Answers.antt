use Rattle.rules.proofs.RowLaws.{rowing}
use Rattle.rules.proofs.names.host_mask.Goals as goal

pub returns : goal.returns
returns c = search rowing

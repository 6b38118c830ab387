use Rattle.rules.proofs.RowLaws.{rowing}
use Rattle.rules.proofs.defaults.put_default.Goals as goal

pub returns : goal.returns
returns c = search rowing

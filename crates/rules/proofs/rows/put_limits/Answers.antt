use Rattle.rules.proofs.RowLaws.{rowing}
use Rattle.rules.proofs.rows.put_limits.Goals as goal

pub returns : goal.returns
returns c = search rowing

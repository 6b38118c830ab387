use Rattle.rules.proofs.RowLaws.{rowing}
use Rattle.rules.proofs.names.put_names.Goals as goal

pub returns-clause-put : goal.returns-clause-put
returns-clause-put c = search rowing

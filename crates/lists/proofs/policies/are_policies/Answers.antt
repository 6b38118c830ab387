use Rattle.lists.proofs.Gathering.{indexing}
use Rattle.lists.proofs.policies.are_policies.Goals as goal

pub returns-in-None-clause-value : goal.returns-in-None-clause-value
returns-in-None-clause-value c = search indexing

pub returns-in-Some-clause-value : goal.returns-in-Some-clause-value
returns-in-Some-clause-value c = search indexing

use Rattle.lists.proofs.Gathering.{indexing}
use Rattle.lists.proofs.named.names_list.Goals as goal

pub returns-clause-indexed : goal.returns-clause-indexed
returns-clause-indexed c = search indexing

use Rattle.lists.proofs.Gathering.{looking}
use Rattle.lists.proofs.named.list_of.Goals as goal

pub find-requires : goal.find-requires
find-requires c = search looking

pub returns-in-Some : goal.returns-in-Some
returns-in-Some c = search looking

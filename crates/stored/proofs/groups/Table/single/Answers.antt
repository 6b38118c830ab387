use Rattle.stored.proofs.Turning.{walking}
use Rattle.stored.proofs.groups.Table.single.Goals as goal

pub returns : goal.returns
returns c = search walking

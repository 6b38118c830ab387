use Rattle.std.proofs.Common.{◌∙◌, ap}
use Rattle.std.specs.Option.{is_some}
use Rattle.header.proofs.Laws.{net_there}
use Rattle.header.proofs.asked.is_network.Goals as goal

pub returns : goal.returns
returns c = c.is_some.ensures ∙ (ap is_some c.network.ensures ∙ net_there _)

use Rattle.rules.proofs.PortLaws.{porting}
use Rattle.rules.proofs.ports.with_operator.Goals as goal

pub returns-in-Some : goal.returns-in-Some
returns-in-Some c = search porting

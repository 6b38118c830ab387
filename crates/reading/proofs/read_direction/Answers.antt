use Rattle.reading.proofs.Finding.{finding}
use Rattle.reading.proofs.read_direction.Goals as goal

pub returns-in-None : goal.returns-in-None
returns-in-None c = search finding

pub returns-in-Some : goal.returns-in-Some
returns-in-Some c = search finding

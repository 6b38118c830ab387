use Rattle.reading.proofs.Finding.{found}
use Rattle.reading.proofs.read_entries.Goals as goal

pub returns-in-None : goal.returns-in-None
returns-in-None c = search found

pub returns-in-Some : goal.returns-in-Some
returns-in-Some c = search found

use Rattle.reading.proofs.Finding.{found}
use Rattle.reading.proofs.read.Goals as goal

pub returns : goal.returns
returns c = search found

use Rattle.reading.proofs.Finding.{finding}
use Rattle.reading.proofs.read_entry.Goals as goal

pub returns : goal.returns
returns c = search finding

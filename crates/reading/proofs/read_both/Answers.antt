use Rattle.reading.proofs.Finding.{found}
use Rattle.reading.proofs.read_both.Goals as goal

pub read_direction-requires : goal.read_direction-requires
read_direction-requires c = search found

use Rattle.reading.proofs.Finding.{found}
use Rattle.reading.proofs.put_defaults.Goals as goal

pub returns-then-n-lt65 : goal.returns-then-n-lt65
returns-then-n-lt65 c = search found

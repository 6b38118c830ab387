use Rattle.values.proofs.Comparing.{sharing}
use Rattle.values.proofs.decode.common.Goals as goal

pub returns : goal.returns
returns c = search sharing

use Rattle.values.proofs.Decoding.{spelling}
use Rattle.values.proofs.decode.escaped.Goals as goal

pub pair-requires : goal.pair-requires
pair-requires c = search spelling

use Rattle.rules.proofs.RowLaws.{rowing}
use Rattle.rules.proofs.names.put_words.Goals as goal

pub loop-k-preserved : goal.loop-k-preserved
loop-k-preserved c = search rowing

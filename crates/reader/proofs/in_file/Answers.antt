use Rattle.values.specs.Tree.{tree_of}
use Rattle.reader.proofs.in_file.Goals as goal

pub returns : goal.returns
unfolding tree_of
returns c = cc

use lib.ListN.{length}
use Rattle.jsonfiles.proofs.run_list.Given as goal

abbrev pub decreases-loop-left : goal.decreases-loop-left
decreases-loop-left g l = length l.left

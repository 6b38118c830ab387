use Rattle.reading.proofs.Walking.{Left}
use Prim.Native.Nat.{◌-◌}
use lib.ListN.{length}
use Rattle.values.specs.Decode.{bytes_at}
use Rattle.values.specs.Tree.{elements_from}
use Rattle.lists.specs.Lists.{to_list}
use Rattle.reading.proofs.read_list.Given as goal

abbrev pub invariant-loop-k : goal.invariant-loop-k
invariant-loop-k l = Left l.to.direction l.to.site.now (bytes_at l.s l.to.url) (to_list (elements_from 10 l.s l.at)) l.initial.t l.initial.work (to_list (elements_from 10 l.s l.j)) l.t l.work

abbrev pub decreases-loop-k : goal.decreases-loop-k
decreases-loop-k l = length l.s - l.j

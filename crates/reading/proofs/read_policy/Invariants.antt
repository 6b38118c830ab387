use Prim.Native.Nat.{◌-◌}
use lib.ListN.{length}
use Rattle.values.specs.Decode.{bytes_at}
use Rattle.values.specs.Tree.{items_from, elements_from}
use Rattle.lists.specs.Lists.{entries_named}
use Rattle.lists.specs.Index.{Indexed}
use Rattle.reading.proofs.Walking.{Left}
use Rattle.reading.proofs.read_policy.Given as goal

abbrev pub invariant-loop-k : goal.invariant-loop-k
invariant-loop-k l = Left l.to.direction l.to.site.now (bytes_at l.s l.to.url) (entries_named (items_from 13 l.s l.lists) (elements_from 11 l.s l.at)) l.initial.t l.initial.work (entries_named (items_from 13 l.s l.lists) (elements_from 11 l.s l.j)) l.t l.work × Indexed l.s (items_from 13 l.s l.lists) l.work l.index

abbrev pub decreases-loop-k : goal.decreases-loop-k
decreases-loop-k l = length l.s - l.j

use Prim.Native.Nat.{◌-◌}
use mathlib.Core.Path.{◌≡◌}
use lib.ListN.{length}
use Rattle.values.specs.Rules.{all}
use Rattle.lists.specs.Lists.{named_ok}
use Rattle.lists.specs.Index.{Indexed}
use Rattle.values.specs.Tree.{items_from, elements_from}
use Rattle.lists.proofs.policies.all_name_lists.Given as goal

abbrev pub invariant-loop-lists : goal.invariant-loop-lists
invariant-loop-lists l = (all (named_ok (items_from 13 l.s l.lists)) (elements_from 11 l.s l.at) ≡ all (named_ok (items_from 13 l.s l.lists)) (elements_from 11 l.s l.j)) × Indexed l.s (items_from 13 l.s l.lists) l.area l.index

abbrev pub decreases-loop-lists : goal.decreases-loop-lists
decreases-loop-lists l = length l.s - l.j

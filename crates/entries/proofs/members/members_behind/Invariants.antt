use Rattle.std.proofs.Common.{◌-◌, map, length}
use Rattle.values.specs.Tree.{members_from}
use Rattle.entries.specs.Members.{Noted}
use Rattle.entries.proofs.members.members_behind.Given as goal

abbrev pub invariant-loop-i : goal.invariant-loop-i
invariant-loop-i g l =
    Noted l.depth l.s (map (λ w. w.now) l.names) (members_from l.depth l.s l.at) (members_from l.depth l.s l.j) l.m.places l.m.listed

abbrev pub decreases-loop-i : goal.decreases-loop-i
decreases-loop-i g l = length l.s - l.j

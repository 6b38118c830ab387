use Rattle.stored.proofs.Turning.{walking, turn_out, turn_next, turn_on}
use Rattle.stored.proofs.groups.Table.+group.Goals as goal

pub loop-k-init : goal.loop-k-init
loop-k-init t c = search walking

pub group-requires : goal.group-requires
group-requires t c = search walking

pub returns-then-not-member : goal.returns-then-not-member
returns-then-not-member t c =
    turn_out _ _ _ _ _ c.loop-k.invariant _ c.group.ensures c.in_ok-k.was _ _ _ c.args.self.now.marked _ c.member.ensures c.if-not-member.true

pub follows-requires : goal.follows-requires
follows-requires t c =
    turn_next _ _ _ _ _ c.loop-k.invariant _ c.group.ensures c.in_ok-k.was _ _ _ c.args.self.now.marked _ c.member.ensures c.if-not-member.false

pub loop-k-preserved : goal.loop-k-preserved
loop-k-preserved t c =
    turn_on _ _ _ _ _ c.loop-k.invariant _ c.group.ensures c.in_ok-k.was _ _ _ c.args.self.now.marked _ c.member.ensures c.if-not-member.false _ c.follows.ensures c.if-not-follows.false

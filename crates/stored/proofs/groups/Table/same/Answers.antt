use mathlib.Core.Path.{◌≡◌}
use mathlib.Core.Bool.{true}
use borrow.Author.Rules.{rules}
use Rattle.stored.proofs.Turning.{pair_start, pair_room, pair_on}
use Rattle.stored.proofs.groups.Table.same.Goals as goal

pub loop-a-init : goal.loop-a-init
loop-a-init c = pair_start _ _ _ _ c.args.self.now.marked c.args.d c.args.a c.args.b c.requires.0 c.requires.1 c.requires.3

pub up_to-requires : goal.up_to-requires
up_to-requires c = (pair_room _ _ _ _ c.args.self.now.marked _ _ _ _ _ c.loop-a.invariant).0

pub up_to-requires-in-loop-a : goal.up_to-requires-in-loop-a
up_to-requires-in-loop-a c = (pair_room _ _ _ _ c.args.self.now.marked _ _ _ _ _ c.loop-a.invariant).1

pub loop-a-preserved : goal.loop-a-preserved
loop-a-preserved c =
    let y : c.member.result ≡ true = search rules in
    pair_on _ _ _ _ c.args.self.now.marked _ _ _ _ _ c.loop-a.invariant _ _ c.up_to.ensures c.up_to-in-loop-a.ensures c.requires.2 c.requires.3 _ c.alike.ensures c.if-not-alike.false _ _ c.member-more.ensures c.member.ensures c.if-not-more.false y

use Rattle.std.proofs.Common.{arith, ◌∙◌, ◌<◌, length, ap, List, ℕ}
use lib.ListN.{set}
use Rattle.values.specs.Decode.{bytes_at}
use Rattle.entries.proofs.MemberLaws.{noted_here, noted_not, among_here, among_not}
use Rattle.entries.proofs.members.note_all.Goals as goal
use Rattle.entries.proofs.members.note_all.Goals.{then-is_named, else-is_named}

pub loop-k-preserved : goal.loop-k-preserved
loop-k-preserved g c =
    let name : List ℕ = bytes_at c.args.s.now c.args.i in
    let k : c.loop-k.k < length c.args.names.now = omega (arith, c.loop-k-test.true, c.requires) in
    elim c.if-is_named.branch [
      | then-is_named w ↦ (
        w.places-is ∙ (ap (λ v. set c.loop-k.places c.loop-k.k v) w.or.ensures
            ∙ noted_here name c.args.p (λ x. x.now) c.args.names.now c.args.m.places c.loop-k.k _ k c.is_named.ensures c.loop-k.invariant.0 w.if-is_named.true),
        w.listed-is ∙ among_here name c.args.p (λ x. x.now) c.args.names.now c.args.m.places c.loop-k.k _ k c.is_named.ensures w.if-is_named.true,
      )
      | else-is_named w ↦ (
        w.places-is ∙ noted_not name c.args.p (λ x. x.now) c.args.names.now c.args.m.places c.loop-k.k _ k c.is_named.ensures c.loop-k.invariant.0 w.if-is_named.false,
        w.listed-is ∙ among_not name c.args.p (λ x. x.now) c.args.names.now c.args.m.places c.loop-k.k _ k c.is_named.ensures c.loop-k.invariant.1 w.if-is_named.false,
      )
    ]

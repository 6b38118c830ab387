use Prim.Native.Nat.{◌-◌}
use mathlib.Core.Path.{◌≡◌, sym, ap, ◌∙◌}
use lib.ListN.{length}
use borrow.Author.Rules.{rules}
use Rattle.stored.specs.Marks.{tabs_of}
use Rattle.stored.proofs.Tails.{chunk_done}
use Rattle.stored.proofs.groups.alike.Goals as goal

pub returns-then-left-n : goal.returns-then-left-n
returns-then-left-n c =
    let xs = c.loop-p.xs.now in
    let ys = c.loop-p.ys.now in
    let x = c.in-Some-Some.ensures.cases.1 in
    let y = c.in-Some-Some.ensures'.cases.1 in
    let e : c.in-Some-Some.x.now ≡ c.in-Some-Some.y.now = search rules in
    chunk_done xs ys _ _ c.loop-p.invariant (length xs - 8) (length ys - 8) _ (c.tabs_in-n.ensures ∙ ap tabs_of x) (sym x ∙ (e ∙ y)) c.if-left-n.true

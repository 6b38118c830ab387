use Prim.Native.Nat.{ℕ}
use native.Mathlib.Omega.{arith}
use mathlib.Core.Path.{◌≡◌, sym, ap, ◌∙◌}
use lib.ListN.{take, get_or}
use lib.Seq.{get_or-take}
use borrow.Author.Rules.{rules}
use Rattle.flows.specs.Table.{in_range}
use Rattle.builder.specs.Encoding.{low_of, high_of}
use Rattle.builder.proofs.Words.{near_is, nets_length}
use Rattle.builder.proofs.encoding.near.Goals as goal

pub returns : goal.returns
returns c =
    let R = take 1555 c.args.work.now in
    let nets = take 64 R in
    let v = c.args.v in
    c.mask.ensures (λ i. in_range (low_of (get_or nets i 0)) (high_of (get_or nets i 0)) v)
    (λ i b h q.
    let e : b ≡ in_range (low_of (get_or R i 0)) (high_of (get_or R i 0)) v = search rules in
    e ∙ ap (λ (x : ℕ). in_range (low_of x) (high_of x) v) (sym (get_or-take 64 R i 0 h)))
    ∙ near_is nets v 64 0 (omega (arith, nets_length c.args.work.now (omega (arith, c.told-work))))

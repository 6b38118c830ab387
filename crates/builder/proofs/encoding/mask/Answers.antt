use Prim.Native.Nat.{ℕ, ◌+◌, ◌*◌, ◌-◌}
use mathlib.Core.Path.{◌≡◌, ap, ◌∙◌}
use native.Mathlib.Omega.{arith}
use mir.Val.{bool_byte}
use Rattle.builder.proofs.Words.{mask_none, mask_small, mask_more, mask_grows}
use Rattle.builder.proofs.encoding.mask.Goals as goal

pub loop-i-init : goal.loop-i-init
loop-i-init g c = record { small = mask_small c.args.n; bits = λ p h. mask_none c.args.n p }

pub loop-i-preserved : goal.loop-i-preserved
loop-i-preserved g c =
    let l = c.loop-i in
    let b = c.passes.result in
    let f : c.from.result ≡ bool_byte b = c.from.ensures in
    record {
      small = omega (arith, f, mask_grows l.i c.args.n l.m b (omega arith) (omega (arith, l.auto.i)) l.invariant.small);
      bits = λ p h. ap (λ (x : ℕ). 2 * l.m + x) f ∙ mask_more l.i c.args.n l.m b p (omega arith) (omega (arith, l.auto.i)) (l.invariant.bits p h) (h (l.i - 1) b (omega (arith, l.auto.i)) c.passes.ensures);
    }

use Prim.Native.Nat.{ℕ, ◌<◌, ◌-◌, ◌^◌}
use mathlib.Core.Path.{◌≡◌}
use mathlib.Core.Bool.{Bool}
use Rattle.builder.specs.Cells.{mask_from}
use Rattle.builder.proofs.encoding.mask.Given as goal

abbrev pub invariant-loop-i : goal.invariant-loop-i
invariant-loop-i g l = record {
  small : l.m < 2 ^ (l.n - l.i);
  bits : (p : ℕ → Bool) → ((i : ℕ) (b : Bool) → i < l.n → goal.P-post g l.passes i b → b ≡ p i) → l.m ≡ mask_from l.i (l.n - l.i) p;
}

use Prim.Native.Nat.{◌≤◌, ◌-◌}
use mathlib.Core.Path.{◌≡◌}
use lib.ListN.{length}
use Rattle.builder.specs.Post.{stamp_n}
use Rattle.builder.proofs.lines.stamp.Given as goal

abbrev pub invariant-loop-i : goal.invariant-loop-i
invariant-loop-i l = (l.i ≤ l.e) × (stamp_n l.c l.x (l.e - l.i) l.i l.work ≡ stamp_n l.c l.x (l.e - l.a) l.a l.initial.work) × (length l.work ≡ length l.initial.work)

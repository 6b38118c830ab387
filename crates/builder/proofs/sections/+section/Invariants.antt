-- The dimensions that are left fall with each call, from six to none.
use Prim.Native.Nat.{◌-◌, ◌*◌}
use mathlib.Core.Path.{◌≡◌}
use lib.ListN.{take}
use Rattle.builder.specs.Cells.{top_of}
use Rattle.builder.proofs.Levels.{Turn}
use Rattle.builder.proofs.sections.+section.Given as goal

abbrev pub decreases-section : goal.decreases-section
decreases-section l = l.left

abbrev pub invariant-loop-run : goal.invariant-loop-run
invariant-loop-run l = record {
  turn : Turn l.n l.at l.left l.live.first l.live.others l.accepting.first l.accepting.others l.initial.work l.work l.x l.run l.kept l.end;
  front : take (3 * l.at) l.initial.work ≡ take (3 * l.at) l.fn.work;
}

abbrev pub decreases-loop-run : goal.decreases-loop-run
decreases-loop-run l = top_of (6 - l.left) - l.run.high

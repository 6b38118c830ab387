use Prim.Native.Nat.{◌-◌}
use Rattle.builder.proofs.Ports.{Scan}
use Rattle.builder.proofs.sections.last_section.Given as goal

abbrev pub invariant-loop-run : goal.invariant-loop-run
invariant-loop-run l = Scan l.n l.at l.live.first l.live.others l.accepting.first l.accepting.others l.initial.work l.work l.x l.run.low l.run.high l.run.ok l.end

abbrev pub decreases-loop-run : goal.decreases-loop-run
decreases-loop-run l = 65535 - l.run.high

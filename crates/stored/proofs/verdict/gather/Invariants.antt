use Rattle.flows.specs.Numbers.{point_of}
use Rattle.stored.specs.Marks.{Gathering}
use Rattle.stored.proofs.verdict.gather.Given as goal

abbrev pub invariant-loop-n : goal.invariant-loop-n
invariant-loop-n l = Gathering l.s (point_of l.f) l.marks l.n l.at l.before l.hit

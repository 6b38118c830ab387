use Rattle.std.proofs.Common.{◌≡◌, ℕ, Bool, ◌-◌}
use Rattle.jsontext.specs.Reading.{Tests, times_at}
use Rattle.jsontext.proofs.scan.times.Given as goal

abbrev pub invariant-loop : goal.invariant-loop
invariant-loop g l = (p : ℕ → Bool) → Tests (goal.F-post g l.fn.test) p → times_at p l.fn.n l.fn.s l.fn.at ≡ times_at p (l.fn.n - l.counter) l.fn.s l.i

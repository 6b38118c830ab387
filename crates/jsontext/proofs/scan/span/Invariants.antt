use Rattle.std.proofs.Common.{◌≡◌, ℕ, Bool, ◌<◌, length}
use Rattle.jsontext.specs.Reading.{Tests, span_at}
use Rattle.jsontext.proofs.scan.span.Given as goal

abbrev pub invariant-loop-i : goal.invariant-loop-i
invariant-loop-i g l =
    (length l.fn.s < l.i → l.i ≡ l.fn.at)
    × ((p : ℕ → Bool) → Tests (goal.F-post g l.fn.test) p → span_at p l.fn.s l.fn.at ≡ span_at p l.fn.s l.i)

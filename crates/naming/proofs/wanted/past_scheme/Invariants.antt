use Rattle.std.proofs.Common.{◌≡◌, drop}
use Rattle.values.specs.Decode.{bytes_at, before}
use Rattle.naming.proofs.wanted.past_scheme.Given as goal

abbrev pub invariant-loop : goal.invariant-loop
invariant-loop l = before l.p (bytes_at l.file) ≡ drop l.counter (bytes_at l.file l.url)

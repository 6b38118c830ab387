use Rattle.text.specs.Words.{same_bytes}
use Rattle.values.specs.Decode.{bytes_at, before}
use lib.ListN.{drop}
use mathlib.Core.Path.{◌≡◌}
use Rattle.values.proofs.strings.string_is.Given as goal

abbrev pub invariant-loop-b : goal.invariant-loop-b
invariant-loop-b l = same_bytes (bytes_at l.s l.at) l.w ≡ same_bytes (before l.p (bytes_at l.s)) (drop l.b-index l.b-items)

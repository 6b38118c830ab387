use Rattle.std.proofs.Common.{rules}
use Rattle.jsontext.proofs.Lexing.{stringing, string_less}
use Rattle.jsontext.proofs.Runs.{passed}
use Rattle.jsontext.proofs.strings.string.Goals as goal

pub loop-at-init : goal.loop-at-init
loop-at-init c = search stringing

pub returns-then-byte_at-eq34 : goal.returns-then-byte_at-eq34
returns-then-byte_at-eq34 c = search stringing

pub returns-in_err-i : goal.returns-in_err-i
returns-in_err-i c = passed c.from_residual.ensures.1 (search (stringing, c.in_err-i.was))

pub loop-at-smaller : goal.loop-at-smaller
loop-at-smaller c = string_less _ _ c.loop-at.invariant c.plain-k.ensures c.byte_at.ensures (search rules) c.character.ensures c.in_ok-i.was

pub loop-at-preserved : goal.loop-at-preserved
loop-at-preserved c = search stringing

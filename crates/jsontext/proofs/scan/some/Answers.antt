use Rattle.std.proofs.Common.{rules}
use Rattle.jsontext.specs.Reading.{some_at}
use Rattle.jsontext.proofs.scan.some.Goals as goal

pub returns-in_err-i : goal.returns-in_err-i
unfolding some_at
returns-in_err-i g c = λ p q t u. let e = c.one.ensures p t in search rules

pub returns : goal.returns
unfolding some_at
returns g c = λ p q t u. let e = c.one.ensures p t in let f = c.span.ensures q u in search rules

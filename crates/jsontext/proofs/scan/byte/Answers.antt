use Rattle.std.proofs.Common.{rules}
use Rattle.jsontext.specs.Reading.{is}
use Rattle.jsontext.proofs.Sound.{is_zero}
use Rattle.jsontext.proofs.scan.byte.Goals as goal

pub returns : goal.returns
returns c = c.one.ensures (is c.args.b) (record { zeroth = is_zero c.args.b; answers = λ b r l h. search rules })

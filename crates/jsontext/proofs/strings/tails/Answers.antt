use mathlib.Core.Path.{refl}
use Rattle.std.proofs.Common.{rules}
use Rattle.text.specs.Bytes.{between}
use Rattle.jsontext.specs.Reading.{tails_at}
use Rattle.jsontext.proofs.strings.tails.Goals as goal

pub returns-in_err-i : goal.returns-in_err-i
unfolding tails_at between
returns-in_err-i c = let e = c.one.ensures (between c.args.low c.args.high) (record { zeroth = search rules; answers = λ b r l h. search rules }) in search rules

pub returns : goal.returns
unfolding tails_at between
returns c =
    let e = c.one.ensures (between c.args.low c.args.high) (record { zeroth = search rules; answers = λ b r l h. search rules }) in
    let f = c.times.ensures (between 0x80 0xBF) (record { zeroth = refl; answers = λ b r l h. search rules }) in
    search rules

use native.Mathlib.Omega.{arith}
use Rattle.text.specs.Numbers.{number_at}
use Rattle.text.proofs.NumberLaws.{reading, digit_room}
use Rattle.text.proofs.numbers.number.Goals as goal

pub loop-i-init : goal.loop-i-init
unfolding number_at
loop-i-init c = search reading

pub returns-else-not-is_digit-2 : goal.returns-else-not-is_digit-2
returns-else-not-is_digit-2 c =
    absurd (omega (arith, digit_room c.args.s.now c.loop-i.i c.byte_at-c.result c.byte_at-c.ensures c.is_digit-in-loop-i.result c.is_digit-in-loop-i.ensures c.if-not-is_digit-2.false))

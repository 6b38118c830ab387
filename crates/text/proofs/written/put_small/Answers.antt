use native.Mathlib.Omega.{arith}
use Rattle.text.proofs.WrittenLaws.{length_some, length_above, writing}
use Rattle.text.proofs.written.put_small.Goals as goal

pub put_digit-requires : goal.put_digit-requires
put_digit-requires c =
    let n = c.args.n in (omega arith, omega (arith, length_some n))

pub returns-then-n-lt10 : goal.returns-then-n-lt10
returns-then-n-lt10 c = search writing

pub put_digit-p-requires : goal.put_digit-p-requires
put_digit-p-requires c =
    let n = c.args.n in (omega arith, omega (arith, length_some n))

pub put_digit-requires-then-n-lt100 : goal.put_digit-requires-then-n-lt100
put_digit-requires-then-n-lt100 c =
    let n = c.args.n in (omega arith, omega (arith, length_above 1 n (omega arith)))

pub returns-then-n-lt100 : goal.returns-then-n-lt100
returns-then-n-lt100 c = search writing

pub put_three-requires : goal.put_three-requires
put_three-requires c =
    let n = c.args.n in (omega arith, omega (arith, length_above 2 n (omega arith)))

pub returns : goal.returns
returns c = search writing

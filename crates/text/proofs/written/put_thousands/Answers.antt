use native.Mathlib.Omega.{arith}
use Rattle.text.proofs.WrittenLaws.{length_thousand, writing}
use Rattle.text.proofs.written.put_thousands.Goals as goal

pub put_small-p-requires : goal.put_small-p-requires
put_small-p-requires c =
    let n = c.args.n in (omega arith, omega (arith, length_thousand n (omega arith)))

pub put_three-requires : goal.put_three-requires
put_three-requires c =
    let n = c.args.n in (omega arith, omega (arith, length_thousand n (omega arith)))

pub returns : goal.returns
returns c = search writing

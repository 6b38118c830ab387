use native.Mathlib.Omega.{arith}
use Prim.Native.Nat.{◌/◌}
use Rattle.text.proofs.WrittenLaws.{length_thousand, put_thousand}
use Rattle.text.proofs.written.put_decimal.Goals as goal

pub put_thousands-p-requires : goal.put_thousands-p-requires
put_thousands-p-requires c =
    let n = c.args.n in (omega arith, omega (arith, length_thousand n (omega arith), length_thousand (n / 1000) (omega arith)))

pub put_three-q-requires : goal.put_three-q-requires
put_three-q-requires c =
    let n = c.args.n in (omega arith, omega (arith, length_thousand n (omega arith), length_thousand (n / 1000) (omega arith)))

pub put_three-requires : goal.put_three-requires
put_three-requires c =
    let n = c.args.n in (omega arith, omega (arith, length_thousand n (omega arith), length_thousand (n / 1000) (omega arith)))

pub returns : goal.returns
returns c =
    let n = c.args.n in put_thousand n (omega arith) (put_thousand (n / 1000) (omega arith) c.put_thousands-p.ensures c.put_three-q.ensures) c.put_three.ensures

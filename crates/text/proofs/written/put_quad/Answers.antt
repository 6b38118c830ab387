use Prim.Native.Nat.{◌/◌, ◌%◌}
use native.Mathlib.Omega.{arith}
use Rattle.text.specs.Written.{quad}
use Rattle.text.proofs.WrittenLaws.{quad_length, length_dotted, then_dot}
use Rattle.text.proofs.written.put_quad.Goals as goal

pub put_dotted-p-requires : goal.put_dotted-p-requires
put_dotted-p-requires c =
    let a = c.args.a in (omega arith, omega (arith, quad_length a))

pub put_dotted-q-requires : goal.put_dotted-q-requires
put_dotted-q-requires c =
    let a = c.args.a in (omega arith, omega (arith, quad_length a, length_dotted (a / 16777216)))

pub put_dotted-r-requires : goal.put_dotted-r-requires
put_dotted-r-requires c =
    let a = c.args.a in (omega arith, omega (arith, quad_length a, length_dotted (a / 16777216), length_dotted (a / 65536 % 256)))

pub put_small-requires : goal.put_small-requires
put_small-requires c =
    let a = c.args.a in (omega arith, omega (arith, quad_length a, length_dotted (a / 16777216), length_dotted (a / 65536 % 256), length_dotted (a / 256 % 256)))

pub returns : goal.returns
unfolding quad
returns c =
    let a = c.args.a in then_dot (a / 16777216) c.put_dotted-p.ensures (then_dot (a / 65536 % 256) c.put_dotted-q.ensures (then_dot (a / 256 % 256) c.put_dotted-r.ensures c.put_small.ensures))

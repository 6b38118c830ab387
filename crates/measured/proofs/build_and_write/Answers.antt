use borrow.Author.Rules.{rules}
use native.Mathlib.Omega.{arith}
use Rattle.reply.proofs.Built.{built_count, built_fit}
use Rattle.measured.proofs.Laws.{over_written, lines_written}
use Rattle.measured.proofs.build_and_write.Goals as goal

pub returns-in_err-k : goal.returns-in_err-k
returns-in_err-k c = rw c.from_residual.ensures (over_written c.build.ensures c.in_err-k.was)

pub write-requires : goal.write-requires
write-requires c =
    let q = built_count _ c.build.ensures c.in_ok-k.was in
    (omega (arith, q.0, q.1), search rules, built_fit _ c.build.ensures c.in_ok-k.was)

pub returns : goal.returns
returns c = lines_written _ c.build.ensures c.in_ok-k.was c.write.ensures

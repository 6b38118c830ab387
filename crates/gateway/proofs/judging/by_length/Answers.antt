use native.Mathlib.Omega.{arith}
use borrow.Author.Rules.{rules}
use Rattle.reply.proofs.Built.{built_count, built_fit}
use Rattle.gateway.proofs.Stages.{over_length, within_length}
use Rattle.gateway.proofs.judging.by_length.Goals as goal

pub write-requires : goal.write-requires
write-requires c =
    let q = built_count _ c.build.ensures c.in-Some.is in
    (omega (arith, q.0, q.1), search rules, built_fit _ c.build.ensures c.in-Some.is)

pub returns-in_default : goal.returns-in_default
returns-in_default c = over_length c.build.ensures c.in_default.is

pub returns : goal.returns
returns c = within_length _ c.build.ensures c.in-Some.is c.write.ensures

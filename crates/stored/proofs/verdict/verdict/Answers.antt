use Rattle.stored.proofs.Gathering.{judging}
use Rattle.stored.proofs.verdict.verdict.Goals.{then-not-zeros-via-then-not-zeros, then-not-zeros-via-else-not-zeros+then-not-is_table}
use Rattle.stored.proofs.verdict.verdict.Goals as goal

pub returns-then-not-zeros : goal.returns-then-not-zeros
returns-then-not-zeros c =
    elim c.then-not-zeros.branch [
      | then-not-zeros-via-then-not-zeros w ↦ search judging
      | then-not-zeros-via-else-not-zeros+then-not-is_table w ↦ search judging
    ]

pub is_table-requires : goal.is_table-requires
is_table-requires c = search judging

pub returns-then-not-is_flow : goal.returns-then-not-is_flow
returns-then-not-is_flow c = search judging

pub returns-then-g : goal.returns-then-g
returns-then-g c = search judging

pub returns-else-g : goal.returns-else-g
returns-else-g c = search judging

use Rattle.text.proofs.NumberLaws.{part_small, number_small}
use Rattle.text.proofs.numbers.quad.Goals as goal

pub joined-requires : goal.joined-requires
joined-requires c = (
  part_small _ _ _ c.closed.ensures c.in_ok-a.was,
  part_small _ _ _ c.closed-2.ensures c.in_ok-b.was,
  part_small _ _ _ c.closed-3.ensures c.in_ok-c.was,
  number_small _ _ _ _ c.number.ensures c.in_ok-d.was,
)

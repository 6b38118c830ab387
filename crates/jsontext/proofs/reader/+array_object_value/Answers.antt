use Rattle.jsontext.proofs.Nesting.{nesting, element_less, member_less}
use Rattle.jsontext.proofs.Runs.{passed}
use Rattle.jsontext.proofs.reader.+array_object_value.Goals as goal

pub array-returns-in_err-e : goal.array-returns-in_err-e
array-returns-in_err-e t c = passed c.from_residual.ensures.1 (search (nesting, c.in_err-e.was))

pub array-returns-in_err-k : goal.array-returns-in_err-k
array-returns-in_err-k t c = passed c.from_residual-in_err-k.ensures.1 (search (nesting, c.in_ok-e.was, c.in_err-k.was))

pub array-returns-in-Done : goal.array-returns-in-Done
array-returns-in-Done t c = search (nesting, c.in_ok-e.was, c.in_ok-k.was)

pub array-loop-e-smaller : goal.array-loop-e-smaller
array-loop-e-smaller t c = element_less _ _ c.loop-e.invariant c.skip.ensures c.value.ensures c.in_ok-e.was c.follow.ensures c.in_ok-k.was c.in-More.is

pub array-loop-e-preserved : goal.array-loop-e-preserved
array-loop-e-preserved t c = search (nesting, c.in_ok-e.was, c.in_ok-k.was)

pub object-returns-in_err-v : goal.object-returns-in_err-v
object-returns-in_err-v t c = passed c.from_residual.ensures.1 (search (nesting, c.in_err-v.was))

pub object-returns-in_err-e : goal.object-returns-in_err-e
object-returns-in_err-e t c = passed c.from_residual-in_err-e.ensures.1 (search (nesting, c.in_ok-v.was, c.in_err-e.was))

pub object-returns-in_err-k : goal.object-returns-in_err-k
object-returns-in_err-k t c = passed c.from_residual-in_err-k.ensures.1 (search (nesting, c.in_ok-v.was, c.in_ok-e.was, c.in_err-k.was))

pub object-returns-in-Done : goal.object-returns-in-Done
object-returns-in-Done t c = search (nesting, c.in_ok-v.was, c.in_ok-e.was, c.in_ok-k.was)

pub object-loop-v-smaller : goal.object-loop-v-smaller
object-loop-v-smaller t c = member_less _ _ c.loop-v.invariant c.key.ensures c.in_ok-v.was c.skip.ensures c.value.ensures c.in_ok-e.was c.follow.ensures c.in_ok-k.was c.in-More.is

pub object-loop-v-preserved : goal.object-loop-v-preserved
object-loop-v-preserved t c = search (nesting, c.in_ok-v.was, c.in_ok-e.was, c.in_ok-k.was)

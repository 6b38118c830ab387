use Rattle.jsontext.proofs.Nesting.{judging, whole_bad}
use Rattle.jsontext.proofs.reader.whole_text.Goals as goal

pub returns-in_err-e : goal.returns-in_err-e
returns-in_err-e c = whole_bad _ _ c.skip-at.ensures c.value.ensures c.in_err-e.was c.from_residual.ensures.1

pub returns-then-k-s : goal.returns-then-k-s
returns-then-k-s c = search (judging, c.in_ok-e.was)

pub returns-else-k-s : goal.returns-else-k-s
returns-else-k-s c = search (judging, c.in_ok-e.was)

use Rattle.values.proofs.Cleaning.{judging}
use Rattle.values.proofs.clean.judge.Goals as goal

pub returns-then-k-s : goal.returns-then-k-s
returns-then-k-s c = search (judging, c.in_ok-e.was)

pub returns-then-c : goal.returns-then-c
returns-then-c c = search (judging, c.in_ok-e.was)

pub returns-else-c : goal.returns-else-c
returns-else-c c = search (judging, c.in_ok-e.was)

use Rattle.gateway.specs.Answer.{by_entries}
use Rattle.gateway.proofs.Stages.{judging, told_known, told_sound, told_many, entries_pass}
use Rattle.gateway.proofs.judging.by_entries.Goals as goal

pub returns-then-not-t : goal.returns-then-not-t
unfolding by_entries
returns-then-not-t c = search (judging, told_known, told_sound, told_many)

pub returns-then-not-t-2 : goal.returns-then-not-t-2
unfolding by_entries
returns-then-not-t-2 c = search (judging, told_known, told_sound, told_many)

pub returns-then-t-gt64 : goal.returns-then-t-gt64
unfolding by_entries
returns-then-t-gt64 c = search (judging, told_known, told_sound, told_many)

pub returns : goal.returns
returns c = search (judging, entries_pass)

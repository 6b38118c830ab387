use Rattle.values.proofs.Patterns.{array_walk}
use Rattle.lists.proofs.policies.all_name_lists.Goals as goal

pub returns-then-not-names_list-clause-value : goal.returns-then-not-names_list-clause-value
returns-then-not-names_list-clause-value c = search array_walk

pub loop-lists-smaller : goal.loop-lists-smaller
loop-lists-smaller c = search array_walk

pub loop-lists-preserved : goal.loop-lists-preserved
loop-lists-preserved c = search array_walk

pub returns-in_default-2-clause-value : goal.returns-in_default-2-clause-value
returns-in_default-2-clause-value c = search array_walk

pub returns-in_default-clause-value : goal.returns-in_default-clause-value
returns-in_default-clause-value c = search array_walk

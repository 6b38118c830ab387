use Rattle.lists.proofs.Laws.{naming}
use Rattle.lists.proofs.names.all_different.Goals as goal

pub returns-in_default-add_name : goal.returns-in_default-add_name
returns-in_default-add_name c = search naming

pub returns-in_default-next_element : goal.returns-in_default-next_element
returns-in_default-next_element c = search naming

pub loop-n-preserved : goal.loop-n-preserved
loop-n-preserved c = search naming

pub returns-in_default-next_element-2 : goal.returns-in_default-next_element-2
returns-in_default-next_element-2 c = search naming

pub loop-n-smaller : goal.loop-n-smaller
loop-n-smaller c = search naming

use Rattle.std.proofs.Common.{rules, ◌∙◌, sym, not}
use Rattle.values.proofs.Patterns.{all_some, array_walk}
use Rattle.values.specs.Tree.{tree_at}
use Rattle.lists.specs.Lists.{has_string_name}
use Rattle.lists.proofs.Laws.{all_walked}
use Rattle.lists.proofs.names.all_have_names.Goals as goal

pub returns-in_default : goal.returns-in_default
returns-in_default c = search array_walk

pub returns : goal.returns
returns c =
    all_walked has_string_name _ _ _ (c.first_element.ensures (λ j. not (has_string_name j)) (λ x r h. search rules)) _ c.is_none.ensures
    ∙ sym (all_some has_string_name (tree_at c.args.depth c.args.s.now c.args.at) _ c.args.s.now _ c.first_item.ensures c.in-Some.is c.inner-d.ensures)

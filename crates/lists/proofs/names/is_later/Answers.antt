use Rattle.std.proofs.Common.{rules, ◌∙◌, sym}
use Rattle.text.specs.Words.{same_bytes}
use Rattle.values.specs.Decode.{bytes_at}
use Rattle.lists.specs.Lists.{name_of}
use Rattle.lists.proofs.Laws.{among_walked}
use Rattle.lists.proofs.names.is_later.Goals as goal

pub returns : goal.returns
returns c =
    c.is_some.ensures
    ∙ sym (among_walked (bytes_at c.args.s.now c.args.i) c.args.depth c.args.s.now c.args.at c.next_element.ensures c.in-Ok-More.is c.in-Ok-More.field-0-is _
    (c.first_element.ensures (λ j. same_bytes (bytes_at c.args.s.now c.args.i) (name_of j)) (λ x r h. search rules)))

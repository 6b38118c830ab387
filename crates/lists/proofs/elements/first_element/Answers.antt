use Rattle.std.proofs.Common.{rules, ◌∙◌}
use Rattle.lists.proofs.Laws.{first_here, first_more, first_done, first_wrong}
use Rattle.lists.proofs.elements.first_element.Goals as goal
use Rattle.lists.proofs.elements.first_element.Goals.{in_default-via-in-Ok+in_default, in_default-via-in_default}

pub returns-then-test : goal.returns-then-test
returns-then-test g c = λ p h. c.loop-test.invariant p h ∙ first_here p _ _ _ c.skip-i.ensures (h _ _ c.test.ensures) c.if-test.true

pub returns-in_default : goal.returns-in_default
returns-in_default g c = λ p h.
    c.loop-test.invariant p h
    ∙ elim c.in_default.branch [
      | in_default-via-in-Ok+in_default w ↦ search (rules, first_done, h _ _ c.test.ensures)
      | in_default-via-in_default w ↦ first_wrong p _ _ _ c.skip-i.ensures (h _ _ c.test.ensures) c.if-test.false c.next_element.ensures w.in_default.is
    ]

pub loop-test-preserved : goal.loop-test-preserved
loop-test-preserved g c = λ p h. c.loop-test.invariant p h ∙ first_more p _ _ _ c.skip-i.ensures (h _ _ c.test.ensures) c.if-test.false c.next_element.ensures c.in-Ok-More.is c.in-Ok-More.field-0-is

use borrow.Author.Tests.{ne_eqb}
use Rattle.builder.proofs.Masks.{rule_plain, rule_named}
use Rattle.builder.proofs.encoding.rule_holds.Goals as goal

pub returns-then-d-ne3 : goal.returns-then-d-ne3
returns-then-d-ne3 c = rw (ne_eqb c.args.d 3 c.if-d-ne3.true) (rule_plain _ _ _ _ _ _ c.one_holds.ensures c.if-one_holds.true c.if-d-ne3.true)

pub returns-else-d-ne3 : goal.returns-else-d-ne3
returns-else-d-ne3 c = rule_named _ _ _ _ _ _ c.one_holds.ensures c.if-one_holds.true c.if-d-ne3.false _ _ _ _ c.requires.2 c.word.ensures c.at_most_seven.ensures c.names_meet.ensures

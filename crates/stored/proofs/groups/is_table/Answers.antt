use mathlib.Core.Path.{◌∙◌}
use borrow.Author.Tests.{eq-eqb}
use Rattle.stored.proofs.Turning.{first_marks, table_none}
use Rattle.stored.proofs.groups.is_table.Goals as goal

pub invariant_of-table : goal.invariant_of-table
invariant_of-table c = record { marked = first_marks _ _ _ _ c.requires }

pub returns-then-n-eq0 : goal.returns-then-n-eq0
returns-then-n-eq0 c = eq-eqb c.args.n 0 c.if-n-eq0.true ∙ table_none _ _ _ _ ∣ c.requires ∣₁ c.if-n-eq0.true

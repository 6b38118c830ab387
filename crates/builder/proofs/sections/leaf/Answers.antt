use native.Mathlib.Omega.{arith}
use Rattle.builder.proofs.Levels.{leaf_one, leaf_none}
use Rattle.builder.proofs.sections.leaf.Goals as goal

pub returns-then-accepts : goal.returns-then-accepts
returns-then-accepts c = leaf_one _ _ _ _ _ _ _ _ _ (omega (arith, c.requires.0, c.told-work)) c.requires.1 c.accepts.ensures c.if-accepts.true c.blank.ensures

pub returns-else-accepts : goal.returns-else-accepts
returns-else-accepts c = leaf_none _ _ _ _ _ _ _ _ c.requires.1 c.accepts.ensures c.if-accepts.false

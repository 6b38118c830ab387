use mathlib.Core.Path.{sym, ◌∙◌}
use borrow.Author.Rules.{rules}
use Rattle.gateway.proofs.Stages.{ends_taken}
use Rattle.gateway.proofs.build.Goals as goal

pub returns-else-is_err : goal.returns-else-is_err
returns-else-is_err c = ends_taken c.judge-answer.ensures (search rules) (sym c.is_err.ensures.value ∙ c.if-is_err.false)

use mathlib.Core.Path.{◌∙◌}
use Rattle.builder.proofs.Laid.{same_is}
use Rattle.builder.proofs.lines.same_lines.Goals as goal

pub returns : goal.returns
returns c = c.eq.ensures ∙ same_is _ _

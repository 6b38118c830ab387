use mathlib.Core.Path.{◌∙◌}
use Rattle.text.proofs.WordLaws.{begins_here}
use Rattle.text.proofs.words.begins.Goals as goal

pub returns : goal.returns
returns c = c.starts_with.ensures.value ∙ begins_here c.args.s.now c.args.at c.args.word.now c.from.ensures

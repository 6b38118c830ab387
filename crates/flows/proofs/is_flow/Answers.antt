use mathlib.Core.Path.{◌∙◌}
use Rattle.flows.proofs.Deciding.{deciding, flow_suits}
use Rattle.flows.proofs.is_flow.Goals.{then-n-le1, else-n-le1}
use Rattle.flows.proofs.is_flow.Goals as goal

pub returns-then-n-le1-2 : goal.returns-then-n-le1-2
returns-then-n-le1-2 c =
    elim c.if-n-le1.branch [
      | then-n-le1 w ↦ c.suits.ensures ∙ flow_suits _ _ _ _ _ _ (search deciding) (search deciding) (search deciding) (search deciding) (search deciding) (search deciding)
      | else-n-le1 w ↦ grind (deciding, w)
    ]

use Rattle.std.proofs.Common.{◌∙◌}
use Rattle.rules.proofs.PartLaws.{parting, opener_other}
use Rattle.rules.proofs.parts.opener_in.Goals as goal
use Rattle.rules.proofs.parts.opener_in.Goals.{then-byte_at-eq34+else-string_is, else-byte_at-eq34}

pub returns-in-Some-2 : goal.returns-in-Some-2
returns-in-Some-2 c =
    elim c.if-byte_at-eq34.branch [ then-byte_at-eq34+else-string_is w ↦ search parting | else-byte_at-eq34 w ↦ c.only-in-Some-2.ensures ∙ opener_other _ _ c.in-Some.is c.byte_at.ensures w.if-byte_at-eq34.false ]

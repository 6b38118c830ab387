use Rattle.std.proofs.Common.{refl}
use Rattle.entries.proofs.MemberLaws.{noting}
use Rattle.entries.proofs.members.members_of.Goals as goal
use Rattle.entries.proofs.members.members_of.Goals.{else-names-via-else-names, else-names-via-then-names+in-None-1, else-names-via-then-names+in-Some+in-None-1}

pub returns : goal.returns
returns g c = record { each = λ e. search noting; none = λ f. absurd (f c.if-names.true) }

pub returns-2 : goal.returns-2
returns-2 g c =
    record {
      each = λ e.
          elim c.else-names.branch [
            | else-names-via-else-names w ↦ absurd (w.if-names.false e)
            | else-names-via-then-names+in-None-1 w ↦ search noting
            | else-names-via-then-names+in-Some+in-None-1 w ↦ search noting
          ];
      none = λ f. (refl, refl);
    }

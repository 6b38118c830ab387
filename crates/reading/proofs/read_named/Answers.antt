use Rattle.reading.proofs.Finding.{finding}
use Rattle.reading.proofs.read_named.Goals as goal

pub returns-in_default : goal.returns-in_default
returns-in_default c = search finding

pub returns-then-not-has_type : goal.returns-then-not-has_type
returns-then-not-has_type c = search finding

pub returns-in-None : goal.returns-in-None
returns-in-None c = search finding

pub returns-in-Some-nested_at : goal.returns-in-Some-nested_at
returns-in-Some-nested_at c = search finding

use Rattle.values.proofs.Patterns.{string_places}
use Rattle.values.proofs.strings.string_place.Goals as goal

pub returns-in_default : goal.returns-in_default
returns-in_default c = search string_places

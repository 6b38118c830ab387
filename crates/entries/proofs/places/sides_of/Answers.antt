use Rattle.entries.proofs.PlaceLaws.{placing}
use Rattle.entries.proofs.places.sides_of.Goals as goal

pub returns-in-FromDevice : goal.returns-in-FromDevice
returns-in-FromDevice c = search placing

pub returns-in-ToDevice : goal.returns-in-ToDevice
returns-in-ToDevice c = search placing

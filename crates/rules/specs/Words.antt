-- What stands in a rule's words.
use Rattle.std.specs.Prelude.{List, [], ◌∷◌}
use Rattle.flows.specs.Table.{Range, ◌to◌}
use Rattle.rules.specs.declared.ports.Ports.{Ports}

-- the two ranges of a port object
abbrev pub ranges_of : Ports → List Range
ranges_of p = p.low to p.high ∷ (p.other_low to p.other_high ∷ [])

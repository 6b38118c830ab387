-- An entry as a rule of the builder, in words (builder, specs/Encoding). `m` is the entry's `matches`, if there is one.
use Rattle.std.specs.Prelude.{ℕ, ◌+◌, ◌*◌, List, [], ◌∷◌, ◌++◌, Bool, cond, length, Option}
use Rattle.text.specs.Ascii.{ascii}
use Rattle.flows.specs.Numbers.{direction_number}
use Rattle.flows.specs.declared.Direction.{Direction}
use Rattle.flows.specs.declared.Direction.TheVariants.{FromDevice, ToDevice}
use Rattle.values.specs.Tree.{Json, lookup}
use Rattle.rules.specs.Meaning.{entry_accepts}
use Rattle.rules.specs.Ports.{ports_in}
use Rattle.rules.specs.Parts.{between, protocols, openers, networks, transport}
use Rattle.values.specs.Rules.{under}
use Rattle.rules.specs.Names.{mask_words}
use Rattle.rules.specs.declared.parts.Between.{Between}
use Rattle.rules.specs.declared.ports.Ports.{Ports}
use Rattle.rules.specs.declared.rows.PortSides.{PortSides}
use Rattle.rules.specs.declared.rows.Row.{Row}

-- "In a from-device list the destination is the remote and the source the device; in a to-device list the reverse."
unfoldable pub port_sides : Direction → Option Json → PortSides
port_sides FromDevice t = record { remote = ports_in (under (ascii "destination-port") t); device = ports_in (under (ascii "source-port") t) }
port_sides ToDevice t = record { remote = ports_in (under (ascii "source-port") t); device = ports_in (under (ascii "destination-port") t) }

abbrev pub direction_span : Direction → Between
direction_span d = between (direction_number d) (direction_number d)

unfoldable pub row_of : Bool → Direction → Option Json → Row
row_of accepts d m =
    record { accepts = accepts; direction = direction_span d; protocols = protocols m; openers = openers m; networks = networks d m; ports = port_sides d (transport m) }

-- a range is one word, low * 2^32 + high; a dimension has two ranges, of which 4294967296, from 1 to 0, is empty
abbrev pub span_words : Between → List ℕ
span_words b = (b.low * 4294967296 + b.high) ∷ (4294967296 ∷ [])

abbrev pub ports_words : Ports → List ℕ
ports_words p = (p.low * 4294967296 + p.high) ∷ ((p.other_low * 4294967296 + p.other_high) ∷ [])

abbrev pub front_words : Row → List ℕ
front_words r = cond r.accepts 1 0 ∷ (span_words r.direction ++ (span_words r.protocols ++ span_words r.openers))

abbrev pub back_words : Row → List ℕ
back_words r = span_words r.networks ++ (ports_words r.ports.remote ++ ports_words r.ports.device)

abbrev pub row_words : Row → List ℕ
row_words r = front_words r ++ back_words r

-- how many names there are, and their masks
abbrev pub limit_words : Direction → List ℕ → List ℕ → Option Json → List ℕ
limit_words d site url m = length (mask_words d site url m) ∷ mask_words d site url m

unfoldable pub rule_words : Direction → List ℕ → List ℕ → Json → List ℕ
rule_words d site url e =
    row_words (row_of (entry_accepts e) d (lookup (ascii "matches") e)) ++ limit_words d site url (lookup (ascii "matches") e)

-- Number 7 (document 01, 'The MUD rules'): "outermost value or header members".
use Rattle.std.specs.Prelude.{Bool, ◌&&◌}
use Rattle.text.specs.Ascii.{ascii}
use Rattle.values.specs.Tree.{Json, lookup}
use Rattle.values.specs.Rules.{must, may}
use Rattle.header.specs.Asked.{obeys}
use Rattle.header.specs.declared.asked.Asked.TheVariants.{Text, Boolean, Integer, Spelt}
use Rattle.header.specs.declared.asked.Form.TheVariants.{Url}

-- "an object with `mud-version` (integer 1), `mud-url` (a MUD URL), `last-update` (a string) and `is-supported` (a boolean).
-- `cache-validity`, if present, is an integer from 1 to 168."
unfoldable pub header_ok : Json → Bool
header_ok mud =
    must (lookup (ascii "mud-version") mud) (obeys (Integer 1 1))
    && (must (lookup (ascii "mud-url") mud) (obeys (Spelt Url))
    && (must (lookup (ascii "last-update") mud) (obeys Text)
    && (must (lookup (ascii "is-supported") mud) (obeys Boolean)
    && may (lookup (ascii "cache-validity") mud) (obeys (Integer 1 168)))))

-- "The outermost object has `ietf-mud:mud`"
unfoldable pub outermost_ok : Json → Bool
outermost_ok file = must (lookup (ascii "ietf-mud:mud") file) header_ok

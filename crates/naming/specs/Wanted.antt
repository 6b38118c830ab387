-- Which lines of the site are wanted: of which kind, and with which names. `text` is the file, and a number the place of the first
-- character of a string in it; of `Named` it is the name itself.
use Rattle.std.specs.Prelude.{ℕ, List, Bool, true}
use Rattle.values.specs.Decode.{bytes_at}
use Rattle.site.specs.Url.{authority_of, same_host, same_authority, same_name}
use Rattle.site.specs.declared.lines.Kind.{Kind}
use Rattle.site.specs.declared.lines.Kind.TheVariants as kind
use Rattle.naming.specs.declared.wanted.Wanted.{Wanted}
use Rattle.naming.specs.declared.wanted.Wanted.TheVariants.{Host, Class, Named, Mine, Local, Model, Maker, Kin}

abbrev pub kind_of : Wanted → Kind
kind_of (Host at) = kind.Host
kind_of (Class at) = kind.Class
kind_of Named = kind.Class
kind_of (Mine url) = kind.Mine
kind_of Local = kind.Local
kind_of (Model at) = kind.Thing
kind_of (Maker at) = kind.Thing
kind_of (Kin url) = kind.Thing

-- "Names, URLs and authorities are compared byte for byte."
abbrev pub test_of : List ℕ → Wanted → List ℕ → Bool
test_of text (Host at) n = same_host n (bytes_at text at)
test_of text (Class at) n = same_name n (bytes_at text at)
test_of text Named n = same_name n text
test_of text (Mine url) n = same_name n (bytes_at text url)
test_of text Local n = true
test_of text (Model at) n = same_name n (bytes_at text at)
test_of text (Maker at) n = same_authority (authority_of n) (bytes_at text at)
test_of text (Kin url) n = same_authority (authority_of n) (authority_of (bytes_at text url))

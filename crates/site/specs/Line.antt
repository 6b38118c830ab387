-- A line of the site table (document 01, 'Site table'): "kind, tab, name, tab, network, LF".
use Rattle.std.specs.Prelude.{Option, Some, None, ℕ, ◌+◌, ◌-◌, List, Bool, true, ◌&&◌, cond, length, take, drop, leb, ltb}
use Rattle.std.specs.List.{prefix_len}
use Rattle.text.specs.Bytes.{between, is_at}
use Rattle.text.specs.Ascii.{ascii}
use Rattle.text.specs.Words.{has_at, same_bytes}
use Rattle.text.specs.Numbers.{then_read}
use Rattle.text.specs.Networks.{network_at}
use Rattle.site.specs.Url.{is_mud_url}
use Rattle.site.specs.declared.lines.Kind.{Kind}
use Rattle.site.specs.declared.lines.SiteLine.{SiteLine}
use Rattle.site.specs.declared.lines.Kind.TheVariants.{Host, Class, Mine, Local, Thing}

-- the word of a kind and the tab after it
unfoldable pub word_at : List ℕ → List ℕ → ℕ → Bool
word_at word s at = has_at s at word && is_at s (at + length word) 0x09

-- the kind of a line, and where its name begins
unfoldable pub kind_at : List ℕ → ℕ → Option (Kind × ℕ)
kind_at s at =
    cond (word_at (ascii "host") s at) (Some (Host, at + 5))
    (cond (word_at (ascii "class") s at) (Some (Class, at + 6))
    (cond (word_at (ascii "mine") s at) (Some (Mine, at + 5))
    (cond (word_at (ascii "local") s at) (Some (Local, at + 6))
    (cond (word_at (ascii "thing") s at) (Some (Thing, at + 6)) None))))

-- "A name that does not suit its kind (a `mine` or `thing` name that is no MUD URL, a `local` name other than `-`) is malformed."
unfoldable pub suits : Kind → List ℕ → Bool
suits Host name = true
suits Class name = true
suits Mine name = is_mud_url name
suits Local name = same_bytes name (ascii "-")
suits Thing name = is_mud_url name

-- how many of the first bytes can stand in a name
abbrev pub name_length : List ℕ → ℕ
name_length bs = prefix_len (between 0x21 0x7E) bs

-- "A name is 1 to 255 bytes from 0x21 to 0x7E"
unfoldable pub name_ok : Kind → List ℕ → Bool
name_ok kind name = ltb 0 (length name) && (leb (length name) 255 && suits kind name)

-- the network of a line, and the LF that ends it
unfoldable pub rest_at : Kind → ℕ → ℕ → List ℕ → Option SiteLine
rest_at kind from end s =
    cond (is_at s end 0x09)
    (then_read (network_at s (end + 1)) (λ net after.
    cond (is_at s after 0x0A) (Some (record { kind = kind; name = from; end = end; low = net.low; high = net.high; after = after + 1 })) None))
    None

-- the bytes from one place to another
abbrev pub part : ℕ → ℕ → List ℕ → List ℕ
part from end s = take (end - from) (drop from s)

unfoldable pub line_at : List ℕ → ℕ → Option SiteLine
line_at s at =
    then_read (kind_at s at) (λ kind from.
    let end = from + name_length (drop from s) in
    cond (name_ok kind (part from end s)) (rest_at kind from end s) None)

-- MUD URLs, and how names are compared (document 01, 'Site table').
use Rattle.std.specs.Prelude.{ℕ, List, [], ◌∷◌, Bool, ◌&&◌, ◌||◌, cond, length, drop, ltb, leb, eqb}
use Rattle.std.specs.List.{list_all}
use Rattle.text.specs.Bytes.{between}
use Rattle.text.specs.Ascii.{ascii}
use Rattle.text.specs.Words.{starts, same_bytes}

-- "bytes from 0x21 to 0x7E"
abbrev pub printable : List ℕ → Bool
printable u = list_all (between 0x21 0x7E) u

-- `/`, `?` or `#`
unfoldable pub ends_authority : ℕ → Bool
ends_authority b = eqb b 0x2F || (eqb b 0x3F || eqb b 0x23)

-- "which runs to the first `/`, `?`, `#` or the end"
unfoldable pub until_end : List ℕ → List ℕ
until_end [] = []
until_end (b ∷ bs) = cond (ends_authority b) [] (b ∷ until_end bs)

-- the authority of a URL that begins with the eight bytes `https://`
unfoldable pub authority_of : List ℕ → List ℕ
authority_of url = until_end (drop 8 url)

-- "A MUD URL has at most 255 bytes from 0x21 to 0x7E, begins with the eight bytes `https://` and has a non-empty authority"
unfoldable pub is_mud_url : List ℕ → Bool
is_mud_url url =
    leb (length url) 255 && (printable url && (starts (ascii "https://") url && ltb 0 (length (authority_of url))))

-- "Names, URLs and authorities are compared byte for byte."
abbrev pub same_host : List ℕ → List ℕ → Bool
same_host a b = same_bytes a b

abbrev pub same_authority : List ℕ → List ℕ → Bool
same_authority a b = same_bytes a b

abbrev pub same_name : List ℕ → List ℕ → Bool
same_name a b = same_bytes a b

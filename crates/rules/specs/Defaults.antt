-- The rules after all entries, in words (document 01, 'The MUD rules': "After them, in both directions: accept protocol 17 with remote port 53 for
-- class `urn:ietf:params:mud:dns`, and 123 for `urn:ietf:params:mud:ntp`.").
use Rattle.std.specs.Prelude.{ℕ, List, [], ◌∷◌, ◌++◌, true}
use Rattle.text.specs.Ascii.{ascii}
use Rattle.site.specs.Url.{same_name}
use Rattle.site.specs.declared.lines.Kind.TheVariants.{Class}
use Rattle.rules.specs.Ports.{one_range, all_ports}
use Rattle.rules.specs.Parts.{between}
use Rattle.rules.specs.Names.{masked}
use Rattle.rules.specs.Rows.{row_words}
use Rattle.rules.specs.declared.rows.Row.{Row}

abbrev pub default_row : ℕ → Row
default_row port =
    record {
      accepts = true;
      direction = between 0 1;
      protocols = between 17 17;
      openers = between 0 1;
      networks = between 0 4294967295;
      ports = record { remote = one_range port port; device = all_ports };
    }

-- one name limits the remote address
abbrev pub default_words : List ℕ → List ℕ → ℕ → List ℕ
default_words site class port = row_words (default_row port) ++ (1 ∷ (masked Class (λ n. same_name n class) site ∷ []))

unfoldable pub dns_words : List ℕ → List ℕ
dns_words site = default_words site (ascii "urn:ietf:params:mud:dns") 53

unfoldable pub ntp_words : List ℕ → List ℕ
ntp_words site = default_words site (ascii "urn:ietf:params:mud:ntp") 123

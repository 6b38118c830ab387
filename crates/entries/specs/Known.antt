-- Number 9 (document 01, 'Answer numbers'): "in an entry read: a member not listed above, in `matches` or in an object that the list gives it".
-- What stands in place of such an object and is none has no members: that is number 10.
use Rattle.std.specs.Prelude.{ℕ, List, [], ◌∷◌, Bool, ◌&&◌}
use Rattle.text.specs.Ascii.{ascii}
use Rattle.values.specs.Tree.{Json, fields, lookup}
use Rattle.values.specs.Rules.{may, all_names}
use Rattle.header.specs.Asked.{is_among}

abbrev pub only : List (List ℕ) → Json → Bool
only names j = all_names (λ n. is_among n names) (fields j)

-- the members that each object may have
abbrev pub match_names : List (List ℕ)
match_names = ascii "ietf-mud:mud" ∷ (ascii "ipv4" ∷ (ascii "tcp" ∷ (ascii "udp" ∷ [])))

abbrev pub mud_names : List (List ℕ)
mud_names =
    ascii "manufacturer" ∷ (ascii "model" ∷ (ascii "controller"
    ∷ (ascii "same-manufacturer" ∷ (ascii "local-networks" ∷ (ascii "my-controller" ∷ [])))))

abbrev pub ipv4_names : List (List ℕ)
ipv4_names =
    ascii "protocol" ∷ (ascii "source-ipv4-network" ∷ (ascii "destination-ipv4-network"
    ∷ (ascii "ietf-acldns:src-dnsname" ∷ (ascii "ietf-acldns:dst-dnsname" ∷ []))))

abbrev pub tcp_names : List (List ℕ)
tcp_names = ascii "source-port" ∷ (ascii "destination-port" ∷ (ascii "ietf-mud:direction-initiated" ∷ []))

abbrev pub udp_names : List (List ℕ)
udp_names = ascii "source-port" ∷ (ascii "destination-port" ∷ [])

abbrev pub port_names : List (List ℕ)
port_names = ascii "lower-port" ∷ (ascii "upper-port" ∷ (ascii "port" ∷ (ascii "operator" ∷ [])))

unfoldable pub ports_known : List (List ℕ) → Json → Bool
ports_known names j =
    only names j
    && (may (lookup (ascii "source-port") j) (only port_names) && may (lookup (ascii "destination-port") j) (only port_names))

abbrev pub inside_known : Json → Bool
inside_known m =
    may (lookup (ascii "ietf-mud:mud") m) (only mud_names)
    && (may (lookup (ascii "ipv4") m) (only ipv4_names)
    && (may (lookup (ascii "tcp") m) (ports_known tcp_names) && may (lookup (ascii "udp") m) (ports_known udp_names)))

unfoldable pub matches_known : Json → Bool
matches_known m = only match_names m && inside_known m

unfoldable pub entry_known : Json → Bool
entry_known e = may (lookup (ascii "matches") e) matches_known

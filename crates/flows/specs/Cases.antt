-- The starred cases of document 01, 'On both sides of the line', as rules and the lines that the document gives; proofs/Cases.antt proves them.
use Rattle.std.specs.Prelude.{ℕ, ◌+◌, ◌*◌, Bool, true, false, List, [], ◌∷◌}
use Rattle.flows.specs.Table.{Range, ◌to◌, Line, Table}
use Rattle.flows.specs.Rules.{Box, Rule, rule}

abbrev any : List (List Range)
any = []

abbrev span : ℕ → ℕ → List (List Range)
span lo hi = (lo to hi ∷ []) ∷ []

abbrev only : ℕ → List (List Range)
only x = span x x

abbrev quad : ℕ → ℕ → ℕ → ℕ → ℕ
quad a b c d = ((a * 256 + b) * 256 + c) * 256 + d

-- direction, protocol, opener, remote address, remote port, device port
abbrev box : (direction protocol opener address remote device : List (List Range)) → Box
box direction protocol opener address remote device = direction ∷ (protocol ∷ (opener ∷ (address ∷ (remote ∷ (device ∷ [])))))

abbrev line : Range → Range → Range → Range → Range → Range → Line
line direction protocol opener address remote device = direction ∷ (protocol ∷ (opener ∷ (address ∷ (remote ∷ (device ∷ [])))))

-- all addresses, all ports
abbrev all_addresses : Range
all_addresses = 0 to 4294967295

abbrev all_ports : Range
all_ports = 0 to 65535

-- an entry of a from-device list about UDP remote ports
abbrev udp : Bool → List (List Range) → Rule
udp accept remote = rule accept (box (only 0) (only 17) any any remote any)

abbrev udp_line : Range → Line
udp_line remote = line (0 to 0) (17 to 17) (0 to 0) all_addresses remote all_ports

-- an entry without `matches`, and its five lines, for the directions given
abbrev everything : List (List Range) → Rule
everything direction = rule true (box direction any any any any any)

abbrev five_lines : Range → Table
five_lines direction =
    line direction (0 to 5) (0 to 0) all_addresses (0 to 0) (0 to 0)
    ∷ (line direction (6 to 6) (0 to 1) all_addresses all_ports all_ports
    ∷ (line direction (7 to 16) (0 to 0) all_addresses (0 to 0) (0 to 0)
    ∷ (line direction (17 to 17) (0 to 0) all_addresses all_ports all_ports
    ∷ (line direction (18 to 255) (0 to 0) all_addresses (0 to 0) (0 to 0) ∷ []))))

-- the program's file (document 01, 'The program'): TCP to the cloud opened by the device, and DNS by default
abbrev cloud : Rule
cloud = rule true (box (only 0) (only 6) (only 0) (span (quad 198 51 100 8) (quad 198 51 100 9)) (only 443) any)

abbrev dns : Rule
dns = rule true (box any (only 17) any (only (quad 192 0 2 53)) (only 53) any)

abbrev cloud_line : Line
cloud_line = line (0 to 0) (6 to 6) (0 to 0) (quad 198 51 100 8 to quad 198 51 100 9) (443 to 443) all_ports

abbrev dns_line : ℕ → Line
dns_line direction = line (direction to direction) (17 to 17) (0 to 0) (quad 192 0 2 53 to quad 192 0 2 53) (53 to 53) all_ports

-- TCP to networks 10.0.0.x
abbrev tcp : ℕ → ℕ → ℕ → Rule
tcp first last remote = rule true (box (only 0) (only 6) any (span (quad 10 0 0 first) (quad 10 0 0 last)) (only remote) any)

abbrev tcp_line : ℕ → ℕ → Range → Line
tcp_line first last remote = line (0 to 0) (6 to 6) (0 to 1) (quad 10 0 0 first to quad 10 0 0 last) remote all_ports

pub data Case : Type 0 where
  gives : List Rule → Table → Case

unfoldable pub cases : List Case
cases =
    gives [] []
    ∷ (gives (everything (only 0) ∷ []) (five_lines (0 to 0))
    ∷ (gives (everything (only 0) ∷ (everything (only 1) ∷ [])) (five_lines (0 to 1))
    ∷ (gives (udp true (span 15000 35000) ∷ (udp true (span 25000 55000) ∷ [])) (udp_line (15000 to 55000) ∷ [])
    ∷ (gives (udp true (span 15000 35000) ∷ (udp true (span 35001 55000) ∷ [])) (udp_line (15000 to 55000) ∷ [])
    ∷ (gives (udp true (span 15000 35000) ∷ (udp true (span 35002 55000) ∷ [])) (udp_line (15000 to 35000) ∷ (udp_line (35002 to 55000) ∷ []))
    ∷ (gives (tcp 0 3 80 ∷ (tcp 2 2 81 ∷ [])) (tcp_line 0 1 (80 to 80) ∷ (tcp_line 2 2 (80 to 81) ∷ (tcp_line 3 3 (80 to 80) ∷ [])))
    ∷ (gives (cloud ∷ (dns ∷ [])) (cloud_line ∷ (dns_line 0 ∷ (dns_line 1 ∷ [])))
    ∷ (gives (cloud ∷ (udp false (only 53) ∷ (dns ∷ []))) (cloud_line ∷ (dns_line 1 ∷ []))
    ∷ (gives (udp true ((1 to 65535 ∷ []) ∷ []) ∷ []) (udp_line (1 to 65535) ∷ [])
    ∷ (gives (udp true (only 0) ∷ []) (udp_line (0 to 0) ∷ []) ∷ []))))))))))

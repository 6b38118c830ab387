-- THE STARRED CASES of document 01, 'On both sides of the line', byte for byte: a file, a site table, the line count and the lines.
-- proofs/Cases.antt proves them.
use Rattle.std.specs.Prelude.{Ok, ℕ, ◌-◌, ◌≡◌, List, [], ◌∷◌, ◌++◌, length, replicate}
use Rattle.text.specs.Ascii.{ascii}
use Rattle.gateway.specs.Answer.{answer_of, reply_after}

-- file, site table, line count, lines
pub data Case : Type 0 where
  takes : List ℕ → List ℕ → ℕ → List ℕ → Case

-- THE STATEMENT: the answer is 0 with that count, and the reply is those lines and then zeros
abbrev pub Hold : List Case → Type 0
Hold [] = Unit {0}
Hold (takes file site count lines ∷ cs) =
    (answer_of file site 36864 16290 ≡ Ok count)
    × (reply_after file site 36864 16290 ≡ lines ++ replicate (36864 - length lines) 0)
    × Hold cs

-- ## files
-- the header, with these policies
abbrev pub mud : List ℕ → List ℕ
mud policies =
    ascii "{\"ietf-mud:mud\":{\"mud-version\":1,\"mud-url\":\"https://a/b\",\"last-update\":\"now\",\"is-supported\":true"
    ++ (policies ++ ascii "}")

abbrev pub from_policy : List ℕ
from_policy = ascii ",\"from-device-policy\":{\"access-lists\":{\"access-list\":[{\"name\":\"from\"}]}}"

abbrev pub to_policy : List ℕ
to_policy = ascii ",\"to-device-policy\":{\"access-lists\":{\"access-list\":[{\"name\":\"to\"}]}}"

-- a list of that name with these entries
abbrev pub list : List ℕ → List ℕ → List ℕ
list name entries = ascii "{\"name\":\"" ++ (name ++ (ascii "\",\"type\":\"ipv4-acl-type\",\"aces\":{\"ace\":[" ++ (entries ++ ascii "]}}")))

abbrev pub lists : List ℕ → List ℕ
lists ls = ascii ",\"ietf-access-control-list:acls\":{\"acl\":[" ++ (ls ++ ascii "]}}")

-- entries
abbrev pub entry : List ℕ → List ℕ → List ℕ → List ℕ
entry name matches forwarding =
    ascii "{\"name\":\"" ++ (name ++ (ascii "\"," ++ (matches ++ (ascii "\"actions\":{\"forwarding\":\"" ++ (forwarding ++ ascii "\"}}")))))

abbrev pub accepting : List ℕ → List ℕ → List ℕ
accepting name matches = entry name matches (ascii "accept")

-- a file with from-device entries only
abbrev pub from_device : List ℕ → List ℕ
from_device entries = mud from_policy ++ lists (list (ascii "from") entries)

-- an entry about UDP destination ports, and two of them
abbrev pub udp : List ℕ → List ℕ
udp port = ascii "\"matches\":{\"udp\":{\"destination-port\":{" ++ (port ++ ascii "}}},")

abbrev pub udp_twice : List ℕ → List ℕ → List ℕ
udp_twice one other = from_device (accepting (ascii "1") (udp one) ++ (ascii "," ++ accepting (ascii "2") (udp other)))

-- an entry about TCP to a network and a port
abbrev pub tcp : List ℕ → List ℕ → List ℕ
tcp network port =
    ascii "\"matches\":{\"ipv4\":{\"destination-ipv4-network\":\"" ++ (network ++ (ascii "\"},\"tcp\":{\"destination-port\":{\"port\":" ++ (port ++ ascii "}}},")))

-- the program's file and its site table (document 01, 'The program')
abbrev pub cloud : List ℕ
cloud =
    ascii "\"matches\":{\"ipv4\":{\"ietf-acldns:dst-dnsname\":\"cloud.example.com\",\"protocol\":6},\"tcp\":{\"ietf-mud:direction-initiated\":\"from-device\",\"destination-port\":{\"port\":443}}},"

abbrev pub cloud_site : List ℕ
cloud_site = ascii "class\turn:ietf:params:mud:dns\t192.0.2.53\nhost\tcloud.example.com\t198.51.100.8/31\n"

-- the files that proofs/ShutOut.antt names as well
abbrev pub no_policies : List ℕ
no_policies = mud [] ++ ascii "}"

abbrev pub everything : List ℕ
everything = from_device (accepting (ascii "1") [])

abbrev pub both_ways : List ℕ
both_ways = mud (from_policy ++ to_policy) ++ lists (list (ascii "from") (accepting (ascii "1") []) ++ (ascii "," ++ list (ascii "to") (accepting (ascii "1") [])))

abbrev pub program : List ℕ
program = from_device (accepting (ascii "1") cloud)

abbrev pub program_with_drop : List ℕ
program_with_drop = from_device (accepting (ascii "1") cloud ++ (ascii "," ++ entry (ascii "2") (udp (ascii "\"port\":53")) (ascii "drop")))

-- ## lines
-- the five lines of an entry without `matches`, for the directions given
abbrev pub five_lines : List ℕ → List ℕ
five_lines direction =
    direction ++ (ascii "\t0-5\t0-0\t0.0.0.0-255.255.255.255\t0-0\t0-0\n"
    ++ (direction ++ (ascii "\t6-6\t0-1\t0.0.0.0-255.255.255.255\t0-65535\t0-65535\n"
    ++ (direction ++ (ascii "\t7-16\t0-0\t0.0.0.0-255.255.255.255\t0-0\t0-0\n"
    ++ (direction ++ (ascii "\t17-17\t0-0\t0.0.0.0-255.255.255.255\t0-65535\t0-65535\n"
    ++ (direction ++ ascii "\t18-255\t0-0\t0.0.0.0-255.255.255.255\t0-0\t0-0\n"))))))))

-- a line of UDP remote ports
abbrev pub udp_line : List ℕ → List ℕ
udp_line ports = ascii "0-0\t17-17\t0-0\t0.0.0.0-255.255.255.255\t" ++ (ports ++ ascii "\t0-65535\n")

unfoldable pub cases : List Case
cases =
    -- "No policies: 0 lines, all zeros."
    takes no_policies [] 0 []
    -- "One entry without `matches`: five lines"
    ∷ (takes everything [] 5 (five_lines (ascii "0-0"))
    -- "With the same entry to-device: five lines, direction 0-1."
    ∷ (takes both_ways [] 5 (five_lines (ascii "0-1"))
    -- "UDP destination ports 15000-35000 and 25000-55000: one line, 15000-55000."
    ∷ (takes (udp_twice (ascii "\"lower-port\":15000,\"upper-port\":35000") (ascii "\"lower-port\":25000,\"upper-port\":55000")) [] 1 (udp_line (ascii "15000-55000"))
    -- "15000-35000 and 35001-55000: the same line."
    ∷ (takes (udp_twice (ascii "\"lower-port\":15000,\"upper-port\":35000") (ascii "\"lower-port\":35001,\"upper-port\":55000")) [] 1 (udp_line (ascii "15000-55000"))
    -- "35002-55000: two lines."
    ∷ (takes (udp_twice (ascii "\"lower-port\":15000,\"upper-port\":35000") (ascii "\"lower-port\":35002,\"upper-port\":55000")) [] 2 (udp_line (ascii "15000-35000") ++ udp_line (ascii "35002-55000"))
    -- "TCP to 10.0.0.0/30 port 80 and to 10.0.0.2/32 port 81: three lines, .0-.1 with 80, .2 with 80-81, .3 with 80."
    ∷ (takes (from_device (accepting (ascii "1") (tcp (ascii "10.0.0.0/30") (ascii "80")) ++ (ascii "," ++ accepting (ascii "2") (tcp (ascii "10.0.0.2/32") (ascii "81"))))) [] 3
    (ascii "0-0\t6-6\t0-1\t10.0.0.0-10.0.0.1\t80-80\t0-65535\n0-0\t6-6\t0-1\t10.0.0.2-10.0.0.2\t80-81\t0-65535\n0-0\t6-6\t0-1\t10.0.0.3-10.0.0.3\t80-80\t0-65535\n")
    -- 'The program', and "A from-device drop of UDP destination port 53 added to the program's file, with its site table: the table's line 2 .. goes."
    ∷ (takes program cloud_site 3
    (ascii "0-0\t6-6\t0-0\t198.51.100.8-198.51.100.9\t443-443\t0-65535\n0-0\t17-17\t0-0\t192.0.2.53-192.0.2.53\t53-53\t0-65535\n1-1\t17-17\t0-0\t192.0.2.53-192.0.2.53\t53-53\t0-65535\n")
    ∷ (takes program_with_drop cloud_site 2
    (ascii "0-0\t6-6\t0-0\t198.51.100.8-198.51.100.9\t443-443\t0-65535\n1-1\t17-17\t0-0\t192.0.2.53-192.0.2.53\t53-53\t0-65535\n")
    -- "`neq` 0: 1-65535."
    ∷ (takes (from_device (accepting (ascii "1") (udp (ascii "\"operator\":\"neq\",\"port\":0")))) [] 1 (udp_line (ascii "1-65535"))
    -- "`lte` 0: 0-0."
    ∷ (takes (from_device (accepting (ascii "1") (udp (ascii "\"operator\":\"lte\",\"port\":0")))) [] 1 (udp_line (ascii "0-0")) ∷ []))))))))))

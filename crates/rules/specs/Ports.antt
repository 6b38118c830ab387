-- The ports of an entry as ranges: a port object is two ranges, of which one must hold the port.
use Rattle.std.specs.Prelude.{ℕ, ◌+◌, ◌-◌, List, cond, eqb, ltb, Option, None, Some}
use Rattle.text.specs.Ascii.{ascii}
use Rattle.text.specs.Words.{same_bytes}
use Rattle.values.specs.Tree.{Json, lookup, count_of}
use Rattle.values.specs.Rules.{inside}
use Rattle.rules.specs.Meaning.{operator_of}
use Rattle.rules.specs.declared.ports.Ports.{Ports}

-- an integer of the file as a port, at most 65535
abbrev pub port_number : Option ℕ → ℕ
port_number None = 0
port_number (Some n) = cond (ltb n 65536) n 65535

abbrev pub ranges : ℕ → ℕ → ℕ → ℕ → Ports
ranges a b c d = record { low = a; high = b; other_low = c; other_high = d }

abbrev pub one_range : ℕ → ℕ → Ports
one_range a b = ranges a b a b

abbrev pub all_ports : Ports
all_ports = one_range 0 65535

-- all but n
unfoldable pub other_than : ℕ → Ports
other_than n = cond (eqb n 0) (one_range 1 65535) (cond (eqb n 65535) (one_range 0 65534) (ranges 0 (n - 1) (n + 1) 65535))

unfoldable pub by_operator : List ℕ → ℕ → Ports
by_operator operator n =
    cond (same_bytes operator (ascii "neq")) (other_than n)
    (cond (same_bytes operator (ascii "lte")) (one_range 0 n)
    (cond (same_bytes operator (ascii "gte")) (one_range n 65535) (one_range n n)))

unfoldable pub ports_of : Json → Ports
ports_of p =
    inside (lookup (ascii "lower-port") p)
    (λ low. inside (lookup (ascii "upper-port") p) (λ high. one_range (port_number (count_of low)) (port_number (count_of high))) all_ports)
    (inside (lookup (ascii "port") p) (λ n. by_operator (operator_of (lookup (ascii "operator") p)) (port_number (count_of n))) all_ports)

-- an absent port object limits nothing
abbrev pub ports_in : Option Json → Ports
ports_in m = inside m ports_of all_ports

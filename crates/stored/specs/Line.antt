-- A line of a stored table, read at a place (document 01, 'The table of a set of flows').
use Rattle.std.specs.Prelude.{ℕ, ◌/◌, ◌%◌, List, [], ◌∷◌, Bool, cond, leb, Option, Some, None}
use Rattle.text.specs.Numbers.{then_read, closed_at, closed_quad_at}
use Rattle.flows.specs.Table.{Line}
use Rattle.flows.specs.Canonical.{flow_ends}
use Rattle.stored.specs.declared.lines.Line as struct
use Rattle.stored.specs.Words.{word_of, range_of}

-- low to high, low not above high, and the place after it
unfoldable pub ends_of : ℕ → ℕ → ℕ → Option (ℕ × ℕ)
ends_of lo hi at = cond (leb lo hi) (Some (word_of lo hi, at)) None

-- `low-high` and the byte that closes it, each end as r reads it with the byte after it at a place
unfoldable pub pair_at : (ℕ → ℕ → Option (ℕ × ℕ)) → ℕ → ℕ → Option (ℕ × ℕ)
pair_at r close at = then_read (r 0x2D at) (λ a i. then_read (r close i) (λ b j. ends_of a b j))

-- of numbers to max
abbrev pub range_at : ℕ → ℕ → List ℕ → ℕ → Option (ℕ × ℕ)
range_at max close s at = pair_at (λ c i. closed_at max c s i) close at

-- of dotted quads
abbrev pub quads_at : ℕ → List ℕ → ℕ → Option (ℕ × ℕ)
quads_at close s at = pair_at (λ c i. closed_quad_at c s i) close at

-- the line at a place, of whatever flows, and the place after it
unfoldable pub fields_at : List ℕ → ℕ → Option (struct.Line × ℕ)
fields_at s at =
    then_read (range_at 1 0x09 s at) (λ a i.
    then_read (range_at 255 0x09 s i) (λ b j.
    then_read (range_at 1 0x09 s j) (λ c k.
    then_read (quads_at 0x09 s k) (λ d m.
    then_read (range_at 65535 0x09 s m) (λ e n.
    then_read (range_at 65535 0x0A s n) (λ f o.
    Some (record { direction = a; protocol = b; opener = c; address = d; remote = e; device = f }, o)))))))

-- a line's flows only
abbrev pub flows_of : struct.Line → Bool
flows_of l = flow_ends (l.protocol / 4294967296) (l.protocol % 4294967296) (l.opener % 4294967296) (l.remote % 4294967296) (l.device % 4294967296)

unfoldable pub keep_flows : struct.Line → ℕ → Option (struct.Line × ℕ)
keep_flows l n = cond (flows_of l) (Some (l, n)) None

-- the line at a place, with flows only
unfoldable pub line_at : List ℕ → ℕ → Option (struct.Line × ℕ)
line_at s at = then_read (fields_at s at) keep_flows

-- a line's words, in the order of the dimensions
abbrev pub words : struct.Line → List ℕ
words l = l.direction ∷ (l.protocol ∷ (l.opener ∷ (l.address ∷ (l.remote ∷ (l.device ∷ [])))))

-- a line's ranges, in the order of the dimensions
unfoldable pub ranges : struct.Line → Line
ranges l = range_of l.direction ∷ (range_of l.protocol ∷ (range_of l.opener ∷ (range_of l.address ∷ (range_of l.remote ∷ (range_of l.device ∷ [])))))

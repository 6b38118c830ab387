-- A table as text (document 01, 'The table of a set of flows': "A line is six ranges in the order above, parted by tabs and ended by
-- LF. A range is always `low-high`, both ends given, decimal without leading zeros; address ends are dotted quads. .. The reply
-- buffer has exactly 36,864 bytes (512 x 72): the lines, then zeros.").
use Rattle.std.specs.Prelude.{ℕ, ◌-◌, List, [], ◌∷◌, ◌++◌, length, get_or, replicate}
use Rattle.text.specs.Written.{decimal, quad}
use Rattle.flows.specs.Table.{Range, ◌to◌, Line, Table}

-- the range of a dimension
unfoldable pub nth : Line → ℕ → Range
nth l d = get_or l d (0 to 0)

-- `low-high`
unfoldable pub range_text : Range → List ℕ
range_text (lo to hi) = decimal lo ++ (0x2D ∷ decimal hi)

unfoldable pub address_text : Range → List ℕ
address_text (lo to hi) = quad lo ++ (0x2D ∷ quad hi)

-- six ranges, parted by tabs and ended by LF
unfoldable pub line_text : Line → List ℕ
line_text l =
    range_text (nth l 0) ++ (0x09 ∷ (range_text (nth l 1) ++ (0x09 ∷ (range_text (nth l 2) ++ (0x09 ∷ (address_text (nth l 3) ++ (0x09
    ∷ (range_text (nth l 4) ++ (0x09 ∷ (range_text (nth l 5) ++ (0x0A ∷ [])))))))))))

unfoldable pub table_text : Table → List ℕ
table_text [] = []
table_text (l ∷ t) = line_text l ++ table_text t

-- the lines, then zeros
unfoldable pub reply_of : Table → List ℕ
reply_of t = table_text t ++ replicate (36864 - length (table_text t)) 0

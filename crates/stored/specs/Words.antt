-- A range as a word: low * 2^32 + high.
use Rattle.std.specs.Prelude.{ℕ, ◌+◌, ◌*◌, ◌/◌, ◌%◌}
use Rattle.flows.specs.Table.{Range, ◌to◌, Table}
use Rattle.flows.specs.Flow.{widths}
use Rattle.flows.specs.Canonical.{LineIn, AllLines}

abbrev pub word_of : ℕ → ℕ → ℕ
word_of lo hi = lo * 4294967296 + hi

abbrev pub range_of : ℕ → Range
range_of x = (x / 4294967296) to (x % 4294967296)

-- each range of each line is one of numbers within the widths, low not above high
abbrev pub Fits : Table → Type 0
Fits t = AllLines (LineIn widths) t

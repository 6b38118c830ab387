-- The lines that `build` left in a work buffer, as a table.
use Rattle.std.specs.Prelude.{ℕ, zero, suc, ◌+◌, List, [], ◌∷◌, get_or}
use Rattle.flows.specs.Table.{Range, Line, Table}
use Rattle.builder.specs.Encoding.{range_in, line_at}

-- The range of dimension d of line i
abbrev pub range_of_line : List ℕ → ℕ → ℕ → Range
range_of_line w i d = range_in d (get_or w (line_at i d) 0)

unfoldable pub line_in : List ℕ → ℕ → Line
line_in w i =
    range_of_line w i 0 ∷ (range_of_line w i 1 ∷ (range_of_line w i 2 ∷ (range_of_line w i 3 ∷ (range_of_line w i 4 ∷ (range_of_line w i 5 ∷ [])))))

-- n lines from line i on
unfoldable pub lines_from : List ℕ → ℕ → ℕ → Table
lines_from w i zero = []
lines_from w i (suc n) = line_in w i ∷ lines_from w (i + 1) n

-- THE FIRST n LINES
abbrev pub lines_in : ℕ → List ℕ → Table
lines_in n w = lines_from w 0 n

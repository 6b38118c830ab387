-- Parts of a line's text, as the functions that write them answer. (Cited by inner functions only.)
use Rattle.std.specs.Prelude.{ℕ, ◌/◌, ◌%◌, List, [], ◌∷◌, ◌++◌}
use Rattle.text.specs.Written.{decimal, quad}

-- `low-high` of the range in a word, and the byte that closes it
abbrev pub range_parts : ℕ → ℕ → List ℕ
range_parts close x = decimal (x / 4294967296) ++ (0x2D ∷ (decimal (x % 4294967296) ++ (close ∷ [])))

-- the same of dotted quads
abbrev pub quad_parts : ℕ → ℕ → List ℕ
quad_parts close x = quad (x / 4294967296) ++ (0x2D ∷ (quad (x % 4294967296) ++ (close ∷ [])))

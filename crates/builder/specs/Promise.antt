-- What the crate promises: the table of the flows that rules let through, or that it has more than 512 lines (document 01, 'Answer numbers', 12).
use Rattle.std.specs.Prelude.{ℕ, ◌*◌, ◌≤◌, ◌≡◌, cond, Option, Some, None, List, leb, length, take, drop}
use Rattle.flows.specs.Table.{Table}
use Rattle.builder.specs.Encoding.{table_words}

-- The answer for a table: its number of lines, or that there are more than 512
abbrev pub answer_of : Table → Option ℕ
answer_of t = cond (leb (length t) 512) (Some (length t)) None

-- What is left of a work buffer: the answer for the table t and, unless it is `None`, its lines from word 7071 on. All other words are scratch.
pub record BuiltIn (t : Table) (w' : List ℕ) (r : Option ℕ) : Type 0 where
  pub answer : r ≡ answer_of t
  pub held : length t ≤ 512 → take (3 * length t) (drop 7071 w') ≡ table_words 0 t

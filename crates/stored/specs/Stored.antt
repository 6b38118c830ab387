-- Stored tables and their verdicts (document 01, 'Answer numbers and their order': "a stored table is 36,864 bytes: the lines, at most
-- 512, of the table of some set of flows, then zeros", "Verdicts give 13, then 14, or accept or drop").
use Rattle.std.specs.Prelude.{ℕ, suc, List, [], ◌∷◌, Bool, true, ◌&&◌, cond, length, drop, leb, eqb, Option, Some, None, Result, Ok, Err}
use Rattle.text.specs.Walk.{items_from, end_from}
use Rattle.flows.specs.Table.{Line, Table, in_table}
use Rattle.flows.specs.Flow.{widths, is_flow}
use Rattle.flows.specs.Canonical.{canonical}
use Rattle.flows.specs.Numbers.{point_of}
use Rattle.flows.specs.declared.Numbers as numbers
use Rattle.stored.specs.declared.lines.Line as struct
use Rattle.stored.specs.Line.{line_at, ranges}
use Rattle.stored.specs.declared.answer.Verdict.{Verdict}
use Rattle.stored.specs.declared.answer.Verdict.TheVariants.{Accept, Drop}
use Rattle.stored.specs.declared.answer.Refusal.{Refusal}
use Rattle.stored.specs.declared.answer.Refusal.TheVariants.{NotTable, NotFlow}

abbrev pub item_of : Option (struct.Line × ℕ) → Option (Line × ℕ)
item_of None = None
item_of (Some (l, n)) = Some (ranges l, n)

-- the lines from a place on, as many as can be read one after the other, and the place after them
unfoldable pub lines : List ℕ → ℕ → Table
lines s at = items_from (λ k. item_of (line_at s k)) (suc (length s)) at

unfoldable pub stop : List ℕ → ℕ → ℕ
stop s at = end_from (λ k. item_of (line_at s k)) (suc (length s)) at

unfoldable pub all_zero : List ℕ → Bool
all_zero [] = true
all_zero (x ∷ xs) = eqb x 0 && all_zero xs

-- each line that is read has flows only, so the lines are the table of a set of flows where they are the table of a set
unfoldable pub stored_of : List ℕ → Bool
stored_of s =
    eqb (length s) 36864 && (canonical widths (lines s 0) && (leb (length (lines s 0)) 512 && all_zero (drop (stop s 0) s)))

unfoldable pub verdict_of : List ℕ → numbers.Numbers → Result Verdict Refusal
verdict_of s f =
    cond (stored_of s) (cond (is_flow (point_of f)) (Ok (cond (in_table (lines s 0) (point_of f)) Accept Drop)) (Err NotFlow)) (Err NotTable)

-- the numbers of the refusals
abbrev pub refusal_number : Refusal → ℕ
refusal_number NotTable = 13
refusal_number NotFlow = 14

-- the answer's number: 13, 14, or 0 where the question is taken and the answer is accept or drop
abbrev pub verdict_number : Result Verdict Refusal → ℕ
verdict_number (Err why) = refusal_number why
verdict_number (Ok v) = 0

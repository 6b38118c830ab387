-- The numbers 4 to 6 of document 01, and 0.
use Rattle.std.specs.Prelude.{ℕ, List, cond, length, ltb, Result, Ok, Err}
use Rattle.jsontext.specs.Reading.{text_of}
use Rattle.values.specs.declared.Fault.{Fault}
use Rattle.values.specs.declared.Fault.TheVariants.{Unclean, Broken}
use Rattle.values.specs.Tree.{tree_of}
use Rattle.values.specs.Clean.{clean, verdict_of}

abbrev pub number_of : Result (Unit {0}) Fault → ℕ
number_of (Ok u) = 0
number_of (Err Unclean) = 6
number_of (Err (Broken p)) = 5

unfoldable pub answer_of : List ℕ → ℕ
answer_of s = cond (ltb 32768 (length s)) 4 (number_of (verdict_of (text_of 16 s) (clean (tree_of 16 s))))

-- The answers of the two public calls as numbers, for C.
use Rattle.std.specs.Prelude.{ℕ, ◌≡◌, List, Result, Ok, Err}
use Rattle.flows.specs.declared.Numbers as numbers
use Rattle.stored.specs.declared.answer.Verdict.{Verdict}
use Rattle.stored.specs.declared.answer.Verdict.TheVariants.{Accept, Drop}
use Rattle.stored.specs.declared.answer.Refusal.{Refusal}
use Rattle.stored.specs.Stored.{refusal_number}
use Rattle.gateway.specs.Answer.{answer_number, line_count, answer_of, reply_after, work_after}

-- the paper's number, the line count, and each byte lent
pub record BuildReturns (file site : List ℕ) (reply work : ℕ) (r : ℕ) (reply' work' : List ℕ) (count' : ℕ) : Type 0 where
  pub number : r ≡ answer_number (answer_of file site reply work)
  pub bytes : reply' ≡ reply_after file site reply work
  pub words : work' ≡ work_after work
  pub count : count' ≡ line_count (answer_of file site reply work)

-- the six numbers of a flow, in their order
abbrev pub asked : (direction protocol opener address remote device : ℕ) → numbers.Numbers
asked direction protocol opener address remote device =
    record {
      direction = direction;
      protocol = record { 0 = protocol };
      opener = opener;
      address = record { 0 = address };
      remote = record { 0 = remote };
      device = record { 0 = device };
    }

-- a verdict as one number
abbrev pub verdict_code : Result Verdict Refusal → ℕ
verdict_code (Err why) = refusal_number why
verdict_code (Ok Accept) = 1
verdict_code (Ok Drop) = 0

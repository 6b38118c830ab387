-- Answers as numbers.
use Rattle.std.specs.Prelude.{Err, Ok, Result}
use Prim.Native.Nat.{ℕ}
use mathlib.Core.Path.{◌≡◌, sym, ap, ◌∙◌}
use mathlib.Core.List.{List}
use borrow.Author.Rules.{rules}
use Rattle.gateway.specs.declared.Reason.{Reason}
use Rattle.gateway.specs.Answer.{reason_number, answer_number, line_count}
use Rattle.gateway.specs.Promise.{BuildPromise}
use Rattle.kernel.specs.Boundary.{BuildReturns}

module _ {file site : List ℕ} {reply work : ℕ} {a : Result ℕ Reason} {bytes words : List ℕ} (p : BuildPromise file site reply work a bytes words) where
  pub taken_returns : {n : ℕ} → a ≡ Ok n → BuildReturns file site reply work 0 bytes words n
  taken_returns e =
      record { number = sym (ap answer_number (sym p.answer ∙ e)); bytes = p.bytes; words = p.words; count = sym (ap line_count (sym p.answer ∙ e)) }

  pub refused_returns : {why : Reason} → a ≡ Err why → {n : ℕ} → n ≡ reason_number why → BuildReturns file site reply work n bytes words 0
  refused_returns e q =
      record { number = q ∙ sym (ap answer_number (sym p.answer ∙ e)); bytes = p.bytes; words = p.words; count = sym (ap line_count (sym p.answer ∙ e)) }

pub ruleset returning = (rules, taken_returns, refused_returns)

-- What a stage of a build answers. (Cited by inner functions only.)
use Rattle.std.specs.Prelude.{Ok, Result, ℕ, ◌≡◌, List}
use Rattle.gateway.specs.declared.Reason.{Reason}
use Rattle.flows.specs.Table.{Table}
use Rattle.stored.specs.Text.{reply_of}

-- r is the answer a; where that is taken, the reply holds the table t. Of a refused build's reply nothing is said: it is cleared at the end.
pub record Answered (a : Result ℕ Reason) (t : Table) (r : Result ℕ Reason) (reply' : List ℕ) : Type 0 where
  pub answer : r ≡ a
  pub held : (n : ℕ) → r ≡ Ok n → reply' ≡ reply_of t

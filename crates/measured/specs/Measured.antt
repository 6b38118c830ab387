-- What the measured functions return, and what they leave in a reply.
use Rattle.std.specs.Prelude.{ℕ, ◌≡◌, Bool, cond, ◌&&◌, Option, unwrap_or, Result, Ok, Err, List, eqb, leb, length}
use Rattle.flows.specs.Table.{Table}
use Rattle.jsontext.specs.declared.Bad.{Bad}
use Rattle.stored.specs.Text.{reply_of}

-- 1 for a text that was read to its end
unfoldable pub text_number : Result ℕ Bad → ℕ
text_number (Ok e) = 1
text_number (Err b) = 0

-- a work buffer of its fixed size, and no more rules than it has room for
unfoldable pub sized : ℕ → ℕ → Bool
sized work n = eqb work 16290 && leb n 66

unfoldable pub all_sized : ℕ → ℕ → ℕ → Bool
all_sized reply work n = eqb reply 36864 && sized work n

-- the number of lines, 513 for more than 512, and 1,000,000 where nothing is built
unfoldable pub capped : Table → ℕ
capped t = cond (leb (length t) 512) (length t) 513

unfoldable pub lines_number : ℕ → ℕ → Table → ℕ
lines_number work n t = cond (sized work n) (capped t) 1000000

-- the reply: the table's lines as text where they are at most 512, else as it was
unfoldable pub written_over : List ℕ → Table → List ℕ
written_over reply t = cond (leb (length t) 512) (reply_of t) reply

pub record Written (t : Table) (reply : List ℕ) (r : Option ℕ) (reply' : List ℕ) : Type 0 where
  pub number : unwrap_or r 513 ≡ capped t
  pub bytes : reply' ≡ written_over reply t

pub record Replied (work n : ℕ) (t : Table) (reply : List ℕ) (r : ℕ) (reply' : List ℕ) : Type 0 where
  pub number : r ≡ cond (all_sized (length reply) work n) (capped t) 1000000
  pub bytes : reply' ≡ cond (all_sized (length reply) work n) (written_over reply t) reply

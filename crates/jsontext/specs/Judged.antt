-- What the answer for a whole text says, by RFC 8259 alone.
use Rattle.std.specs.Prelude.{ℕ, ◌≡◌, List, length, Result, Ok, Err}
use Rattle.jsontext.specs.declared.Bad.{Bad}
use Rattle.jsontext.specs.Reading.{text_of}
use Rattle.jsontext.specs.Rfc8259.{Text, Place}

unfoldable pub Judged : ℕ → List ℕ → Result ℕ Bad → Type 0
Judged d s (Ok e) = (e ≡ length s) × Text d s
Judged d s (Err b) = (Text d s → ⊥) × Place d s b.at

-- what a whole text is answered: what the definition computes, and what that says
pub record Answer (d : ℕ) (s : List ℕ) (r : Result ℕ Bad) : Type 0 where
  pub computed : r ≡ text_of d s
  pub judged : Judged d s r

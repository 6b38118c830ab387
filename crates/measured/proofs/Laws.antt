-- The ways out of the measured functions. Assumes nothing.
use Prim.Native.Nat.{ℕ}
use mathlib.Core.Path.{◌≡◌, refl, sym, ap, ◌∙◌}
use mathlib.Core.Bool.{Bool, true, false, cond}
use mathlib.Core.List.{List}
use Rattle.std.specs.Prelude.{Option, Some, None, unwrap_or, Result, Ok, Err, is_ok}
use lib.Dec.{leb}
use lib.ListN.{length}
use borrow.Author.Rules.{rules}
use borrow.Author.Tests.{le-leb, lt-leb}
use Rattle.text.proofs.Tests.{by_test}
use Rattle.flows.specs.Table.{Set, Table, table_of}
use Rattle.flows.specs.Flow.{widths}
use Rattle.builder.specs.Promise.{BuiltIn}
use Rattle.builder.proofs.Turns.{over_of}
use Rattle.jsontext.specs.declared.Bad.{Bad}
use Rattle.jsontext.specs.Reading.{text_of}
use Rattle.jsontext.specs.Judged.{Answer}
use Rattle.stored.specs.Text.{reply_of}
use Rattle.reply.specs.Lines.{lines_in}
use Rattle.reply.proofs.Built.{built_count, built_are}
use Rattle.measured.specs.Measured.{text_number, sized, all_sized, capped, lines_number, written_over, Written, Replied}

-- ## texts
pub text_told : (s : List ℕ) (r : Result ℕ Bad) → Answer 16 s r → cond (is_ok r) 1 0 ≡ text_number (text_of 16 s)
unfolding text_number
text_told s (Ok e) a = ap text_number a.computed
text_told s (Err b) a = ap text_number a.computed

-- ## the number of lines
pub built_number : {t : Table} {w : List ℕ} {r : Option ℕ} → BuiltIn t w r → unwrap_or r 513 ≡ capped t
unfolding capped
built_number {t} b = by_test (leb (length t) 512) (λ y. rw (b.answer, y) refl) (λ y. rw (b.answer, y) refl)

module _ (work n : ℕ) {b : Bool} (e : b ≡ sized work n) where
  pub sized_number : b ≡ true → {t : Table} {w : List ℕ} {r : Option ℕ} → BuiltIn t w r → unwrap_or r 513 ≡ lines_number work n t
  unfolding lines_number
  sized_number h a = rw (← e, h) (built_number a)

-- ## the reply
pub over_written : {t : Table} {w : List ℕ} {r : Option ℕ} → BuiltIn t w r → r ≡ None → {reply : List ℕ} → Written t reply None reply
unfolding capped written_over
over_written {t} {w} {r} b q = let z = lt-leb (length t) 512 (over_of t r b.answer q) in record { number = rw z; bytes = rw z }

pub lines_written : (S : Set) {w : List ℕ} {r : Option ℕ} {k : ℕ} → BuiltIn (table_of widths S) w r → r ≡ Some k → {reply reply' : List ℕ} → reply' ≡ reply_of (lines_in k w) → Written (table_of widths S) reply (Some k) reply'
unfolding capped written_over
lines_written S b q p =
    let h = built_count S b q in
    let z = le-leb (length (table_of widths S)) 512 h.1 in
    record { number = rw z (sym h.0); bytes = rw z (p ∙ ap reply_of (built_are S b q)) }

-- named by docs/PORT.md: they stand, though no proof cites them now
module _ (work n : ℕ) {b : Bool} (e : b ≡ sized work n) where
  pub unsized_number : (t : Table) → b ≡ false → 1000000 ≡ lines_number work n t
  unfolding lines_number
  unsized_number t h = rw (← e, h)

module _ (work n : ℕ) (t : Table) (reply : List ℕ) {b : Bool} (e : b ≡ all_sized (length reply) work n) where
  pub none_replied : b ≡ false → Replied work n t reply 1000000 reply
  none_replied h = record { number = rw (← e, h); bytes = rw (← e, h) }

  pub replied : b ≡ true → {r : Option ℕ} {reply' : List ℕ} → Written t reply r reply' → Replied work n t reply (unwrap_or r 513) reply'
  replied h w = record { number = rw (← e, h) w.number; bytes = rw (← e, h) w.bytes }

pub ruleset measuring = (rules, text_told)

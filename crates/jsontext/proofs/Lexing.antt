-- Laws of the loop over a string's characters, and of what a byte begins. Assumes nothing.
use Prim.Native.Nat.{ℕ, zero, suc, ◌+◌, ◌-◌, ◌≤◌, ◌<◌}
use mathlib.Core.Path.{◌≡◌, refl, ap, sym}
use mathlib.Core.List.{List}
use mathlib.Core.Bool.{true, cond}
use native.Mathlib.Omega.{arith}
use lib.ListN.{length, get_or}
use borrow.Author.Rules.{rules}
use borrow.Author.Tests.{eq-eqb, ne_eqb}
use Rattle.text.specs.Bytes.{between, is_digit}
use Rattle.text.proofs.Tests.{by_test, clash}
use Rattle.jsontext.specs.declared.Bad.{Bad}
use Rattle.std.specs.Prelude.{Result, Ok, Err}
use Rattle.jsontext.specs.declared.Next.TheVariants.{Done, More}
use Rattle.jsontext.specs.declared.Start.TheVariants.{Number, Nothing}
use Rattle.jsontext.specs.Reading.{start_of, is_plain, span_at, char_at, quote_or_char_at, string_at}
use Rattle.jsontext.proofs.Sound.{char_steps, split}
use Rattle.jsontext.proofs.Complete.{span_from, span_more, span_stop, span_end}
use Rattle.jsontext.proofs.Runs.{NextPast, steps_past, Going, going_from, going_done, going_wrong, going_on}

module _ (s : List ℕ) (at b : ℕ) (e : b ≡ get_or s at 0) where
  char_plain : true ≡ is_plain b → Ok (at + 1) ≡ char_at s at
  unfolding char_at
  char_plain p = rw (← e, ← p)

  pub quote_is : b ≡ 34 → Ok (Done (at + 1)) ≡ quote_or_char_at s at
  unfolding quote_or_char_at
  quote_is q = rw (← e, eq-eqb _ _ q)

  module _ (f : b ≡ 34 → ⊥) {r : Result ℕ Bad} (p : r ≡ char_at s at) where
    pub quote_wrong : {k : Bad} → r ≡ Err k → Err k ≡ quote_or_char_at s at
    unfolding quote_or_char_at
    quote_wrong q = rw (← e, ne_eqb _ _ f, ← p, q)

    pub quote_more : {k : ℕ} → r ≡ Ok k → Ok (More k) ≡ quote_or_char_at s at
    unfolding quote_or_char_at
    quote_more q = rw (← e, ne_eqb _ _ f, ← p, q)

-- a string: plain characters are so many steps
char_past : (s : List ℕ) (i : ℕ) → NextPast s i (quote_or_char_at s i)
char_past s i = steps_past (char_steps s i)

plain_step : (s : List ℕ) (i : ℕ) → is_plain (get_or s i 0) ≡ true → Ok (More (i + 1)) ≡ quote_or_char_at s i
unfolding is_plain between
plain_step s i q = quote_more s i (get_or s i 0) refl (λ z. no (get_or s i 0) q z) (char_plain s i (get_or s i 0) refl (sym q)) refl
  where
    no : (b : ℕ) → is_plain b ≡ true → b ≡ 34 → ⊥
    no b q z = clash q (ap is_plain z)

plain_run : (n : ℕ) (s : List ℕ) (i : ℕ) {w : Result ℕ Bad} → length s - i ≤ n → Going (quote_or_char_at s) s w i → Going (quote_or_char_at s) s w (span_at is_plain s i)
plain_run zero s i l h = rw (span_end is_plain s i (omega arith)) h
plain_run (suc n) s i l h =
    split (length s) i
    (λ m. by_test (is_plain (get_or s i 0))
    (λ q. rw (span_more is_plain s i m q) (plain_run n s (i + 1) (omega arith) (going_on h _ (plain_step s i q) (char_past s) refl refl)))
    (λ q. rw (span_stop is_plain s i q) h))
    (λ m. rw (span_end is_plain s i m) h)

pub string_going : (s : List ℕ) (at : ℕ) → Going (quote_or_char_at s) s (string_at s at) at
unfolding string_at
string_going s at = going_from (quote_or_char_at s) s at (string_at s at) refl

module _ (s : List ℕ) {w : Result ℕ Bad} (i : ℕ) (h : Going (quote_or_char_at s) s w i) {k : ℕ} (p : k ≡ span_at is_plain s i) {b : ℕ} (e : b ≡ get_or s k 0) where
  here : Going (quote_or_char_at s) s w k
  here = rw p (plain_run (length s) s i (omega arith) h)

  pub string_end : b ≡ 34 → Ok (k + 1) ≡ w
  string_end q = going_done here _ (quote_is s k b e q) refl refl

  module _ (f : b ≡ 34 → ⊥) {r : Result ℕ Bad} (g : r ≡ char_at s k) where
    pub string_bad : {m : Bad} → r ≡ Err m → Err m ≡ w
    string_bad q = going_wrong here _ (quote_wrong s k b e f g q) refl

    pub string_on : {m : ℕ} → r ≡ Ok m → Going (quote_or_char_at s) s w m
    string_on q = going_on here _ (quote_more s k b e f g q) (char_past s) refl refl

    pub string_less : {m : ℕ} → r ≡ Ok m → length s - m < length s - i
    string_less {m} q =
        let u : NextPast s k (Ok (More m)) = rw (← (quote_more s k b e f g q)) at (char_past s k) in
        let v : i ≤ k = rw p (span_from is_plain s i) in
        omega arith

-- what a byte begins that is no bracket, quote, letter or minus
pub start_digit : (b : ℕ) → (b ≡ 91 → ⊥) → (b ≡ 123 → ⊥) → (b ≡ 34 → ⊥) → (b ≡ 116 → ⊥) → (b ≡ 102 → ⊥) → (b ≡ 110 → ⊥) → (b ≡ 45 → ⊥) → start_of b ≡ cond (is_digit b) Number Nothing
unfolding start_of
start_digit b f₁ f₂ f₃ f₄ f₅ f₆ f₇ = rw (ne_eqb _ _ f₁, ne_eqb _ _ f₂, ne_eqb _ _ f₃, ne_eqb _ _ f₄, ne_eqb _ _ f₅, ne_eqb _ _ f₆, ne_eqb _ _ f₇)

pub ruleset stringing = (rules, string_going, string_end, string_bad, string_on, string_less)

-- Laws of the answers. Assumes nothing.
use Prim.Native.Nat.{ℕ, ◌≤◌, ◌<◌}
use mathlib.Core.Path.{◌≡◌}
use mathlib.Core.List.{List}
use lib.ListN.{length}
use borrow.Author.Rules.{rules}
use borrow.Author.Tests.{lt-ltb, le-ltb}
use Rattle.jsontext.specs.Reading.{text_of}
use Rattle.std.specs.Prelude.{Result, Ok, Err}
use Rattle.values.specs.declared.Fault.{Fault}
use Rattle.values.specs.declared.Fault.TheVariants.{Unclean, Broken}
use Rattle.values.specs.Tree.{tree_of}
use Rattle.values.specs.Clean.{clean, verdict_of}
use Rattle.jsonfiles.specs.Answers.{answer_of}

pub answer_long : (s : List ℕ) → 32768 < length s → 4 ≡ answer_of s
unfolding answer_of
answer_long s h = rw (lt-ltb _ _ h)

module _ (s : List ℕ) (h : length s ≤ 32768) {r : Result (Unit {0}) Fault} (e : r ≡ verdict_of (text_of 16 s) (clean (tree_of 16 s))) where
  pub answer_broken : {f : Fault} → r ≡ Err f → {p : ℕ} → f ≡ Broken p → 5 ≡ answer_of s
  unfolding answer_of
  answer_broken q p = rw (le-ltb _ _ h, ← e, q, p)

  pub answer_unclean : {f : Fault} → r ≡ Err f → f ≡ Unclean → 6 ≡ answer_of s
  unfolding answer_of
  answer_unclean q p = rw (le-ltb _ _ h, ← e, q, p)

  pub answer_clean : {u : Unit {0}} → r ≡ Ok u → 0 ≡ answer_of s
  unfolding answer_of
  answer_clean q = rw (le-ltb _ _ h, ← e, q)

pub ruleset answering = (rules, answer_long, answer_broken, answer_unclean, answer_clean)

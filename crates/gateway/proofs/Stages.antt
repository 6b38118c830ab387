-- The stages of a build, one law for each way out. Assumes nothing.
use Rattle.std.specs.Prelude.{Err, Ok, Result, ⊤, Option, Some, None, IsErrAnd, is_err}
use Prim.Native.Nat.{ℕ, ◌+◌, ◌≤◌, ◌<◌}
use mathlib.Core.Path.{◌≡◌, refl, sym, ap, ap₂, ◌∙◌}
use mathlib.Core.Bool.{Bool, true, false, cond, not}
use mathlib.Core.List.{List}
use native.Mathlib.Omega.{arith}
use lib.Dec.{ltb}
use lib.ListN.{length, replicate}
use borrow.Author.Rules.{rules}
use borrow.Author.Tests.{not-true, not-false, eqb-true, leb-true, leb-false, ltb-false, lt-ltb, le-ltb, eq-eqb, ne_eqb}
use Rattle.text.proofs.Tests.{by_test, clash}
use Rattle.flows.specs.Table.{Point, Set, Table, table_of}
use Rattle.flows.specs.Flow.{widths}
use Rattle.flows.specs.Rules.{Rule, let_through}
use Rattle.flows.proofs.Meaning.{same_table}
use Rattle.builder.specs.Encoding.{rules_of}
use Rattle.builder.specs.Promise as builder
use Rattle.builder.proofs.Turns.{over_of}
use Rattle.values.specs.Tree.{tree_of}
use Rattle.site.specs.Site.{judged}
use Rattle.naming.proofs.Lines.{lines_few}
use Rattle.reading.specs.declared.Tally.{Tally}
use Rattle.reading.specs.Read.{ReadIn}
use Rattle.reading.specs.Rules.{rules_for}
use Rattle.reading.proofs.Held.{rules_held}
use Rattle.reading.proofs.Lets.{lets_rules, tally_known, tally_sound, tally_count}
use Rattle.rules.specs.Read.{all_known, all_sound, entries_read}
use Rattle.rules.specs.Meaning.{lets}
use Rattle.stored.specs.Text.{reply_of}
use Rattle.reply.specs.Lines.{lines_in}
use Rattle.reply.proofs.Built.{built_count, built_are}
use Rattle.std.proofs.lemmas.Result.{err_from_is_err_and}
use Rattle.gateway.specs.declared.Reason.{Reason}
use Rattle.gateway.specs.declared.Reason.TheVariants.{Buffers, TooManyEntries, TooManyLines}
use Rattle.gateway.specs.Answer.{table_for, by_length, by_entries, site_reason, then_after, by_file, sized, answer_of, reply_after}
use Rattle.gateway.specs.Stages.{Answered}
use Rattle.gateway.specs.Promise.{BuildPromise}

-- a refusal says nothing of the reply
pub refused_as : {a : Result ℕ Reason} {t : Table} {x : Reason} {bytes : List ℕ} → Err x ≡ a → Answered a t (Err x) bytes
refused_as e = record { answer = e; held = λ n q. absurd (let z : ◌≡◌ {A = ℕ} 0 1 = cc in omega arith) }

-- the next stage's answer is this one's
pub goes_on : {a b : Result ℕ Reason} {t : Table} {r : Result ℕ Reason} {bytes : List ℕ} → Answered a t r bytes → a ≡ b → Answered b t r bytes
goes_on h e = record { answer = h.answer ∙ e; held = h.held }

-- ## a test that refuses, or not
module _ {a p : Bool} (e : a ≡ p) where
  pub stops_here : a ≡ false → {r : Reason} (x : Result ℕ Reason) → Err r ≡ cond (not p) (Err r) x
  stops_here n x = rw (← e, n)

  pub passes : a ≡ true → {y x : Result ℕ Reason} (z : Result ℕ Reason) → y ≡ x → y ≡ cond (not p) z x
  passes n z h = rw (← e, n) h

pub ruleset judging = (rules, not-true, not-false, refused_as, goes_on, stops_here, passes)

-- ## 12, or taken
pub over_length : {t : Table} {w : List ℕ} {r : Option ℕ} → builder.BuiltIn t w r → r ≡ None → {bytes : List ℕ} → Answered (by_length t) t (Err TooManyLines) bytes
unfolding by_length
over_length {t} {w} {r} b e = refused_as (rw (lt-ltb 512 (length t) (over_of t r b.answer e)))

pub within_length : (S : Set) {w : List ℕ} {r : Option ℕ} {k : ℕ} {bytes : List ℕ} → builder.BuiltIn (table_of widths S) w r → r ≡ Some k → bytes ≡ reply_of (lines_in k w) → Answered (by_length (table_of widths S)) (table_of widths S) (Ok k) bytes
unfolding by_length
within_length S b e h =
    let q = built_count S b e in
    record { answer = rw (le-ltb 512 (length (table_of widths S)) q.1, q.0); held = λ n x. h ∙ ap reply_of (built_are S b e) }

-- ## 9 to 11: the rules in words let the file's flows through, so that their table is the file's
module _ (file site : List ℕ) {w w' : List ℕ} {t : Tally} (h : ReadIn site (tree_of 16 file) w t w') where
  pub told_known : t.known ≡ all_known (tree_of 16 file)
  told_known = ap (λ (u : Tally). u.known) h.tally ∙ tally_known (tree_of 16 file)

  pub told_sound : t.sound ≡ all_sound (tree_of 16 file)
  told_sound = ap (λ (u : Tally). u.sound) h.tally ∙ tally_sound (tree_of 16 file)

  told_count : t.count ≡ cond (ltb (entries_read (tree_of 16 file)) 65) (entries_read (tree_of 16 file)) 65
  told_count = ap (λ (u : Tally). u.count) h.tally ∙ tally_count (tree_of 16 file)

  pub told_many : 64 < t.count → (x : Result ℕ Reason) → Err TooManyEntries ≡ cond (ltb 64 (entries_read (tree_of 16 file))) (Err TooManyEntries) x
  told_many g x =
      let n = entries_read (tree_of 16 file) in
      by_test (ltb n 65)
      (λ e. let q : t.count ≡ n = told_count ∙ rw e in rw (lt-ltb 64 n (omega arith)))
      (λ e. rw (lt-ltb 64 n (omega (arith, ltb-false n 65 e))))

  few_told : t.count ≤ 64 → t.count ≡ entries_read (tree_of 16 file)
  few_told g =
      let n = entries_read (tree_of 16 file) in
      by_test (ltb n 65) (λ e. told_count ∙ rw e) (λ e. absurd (let q : t.count ≡ 65 = told_count ∙ rw e in omega arith))

  module _ (long : length w ≡ 16290) (site_sound : judged site ≡ Ok tt) where
    told_rules : all_sound (tree_of 16 file) ≡ true → t.count ≤ 64 → (p : Point) → let_through (rules_of (t.count + 2) w') p ≡ lets (tree_of 16 file) site p
    told_rules s g p =
        let z = few_told g in
        let n : entries_read (tree_of 16 file) ≤ 64 = omega arith in
        let q : rules_of (t.count + 2) w' ≡ rules_for (tree_of 16 file) site =
        ap₂ (λ (k : ℕ) (v : List ℕ). rules_of (k + 2) v) z h.words ∙ rules_held (tree_of 16 file) site w n (omega arith) in
        ap (λ (rs : List Rule). let_through rs p) q ∙ lets_rules (tree_of 16 file) site p (lines_few site site_sound) s

    pub entries_pass : t.known ≡ true → t.sound ≡ true → t.count ≤ 64 → {r : Result ℕ Reason} {bytes : List ℕ} → Answered (by_length (table_of widths (let_through (rules_of (t.count + 2) w')))) (table_of widths (let_through (rules_of (t.count + 2) w'))) r bytes → Answered (by_entries (tree_of 16 file) (by_length (table_for file site))) (table_for file site) r bytes
    unfolding by_entries table_for
    entries_pass x y z a =
        let k : all_known (tree_of 16 file) ≡ true = sym told_known ∙ x in
        let s : all_sound (tree_of 16 file) ≡ true = sym told_sound ∙ y in
        let n : entries_read (tree_of 16 file) ≤ 64 = omega (arith, few_told z) in
        let q : table_of widths (let_through (rules_of (t.count + 2) w')) ≡ table_of widths (lets (tree_of 16 file) site) = same_table widths _ _ (λ p i. told_rules s z p) in
        goes_on (rw q at a) (rw (k, s, le-ltb 64 (entries_read (tree_of 16 file)) n))

-- ## what is judged refuses, or not
module _ {F : Type 0} (why : F → Reason) {r p : Result ⊤ F} (e : r ≡ p) (x : Result ℕ Reason) where
  -- the exit of a `?`: the fault is told by its reason
  pub judged_refuses : (t : Table) {f : F} → r ≡ Err f → {b : Result ℕ Reason} {bytes : List ℕ} → IsErrAnd b (λ y. y ≡ why f) → Answered (then_after why p x) t b bytes
  judged_refuses t {f} q {b} h =
      let g = err_from_is_err_and b h in
      let u : then_after why p x ≡ Err (why f) = ap (λ v. then_after why v x) (sym e ∙ q) in
      record { answer = g.1 ∙ (ap Err g.2 ∙ sym u); held = λ n z. absurd (let w : ◌≡◌ {A = Result ℕ Reason} (Err g.0) (Ok n) = sym g.1 ∙ z in let v : ◌≡◌ {A = ℕ} 0 1 = cc in omega arith) }

  pub judged_passes : {u : ⊤} → r ≡ Ok u → then_after why p x ≡ x
  judged_passes q = ap (λ v. then_after why v x) (sym e ∙ q)

-- ## 1
module _ (file site : List ℕ) (reply work : ℕ) where
  pub wrong_reply : (reply ≡ 36864 → ⊥) → Err Buffers ≡ answer_of file site reply work
  unfolding answer_of sized
  wrong_reply n = rw (ne_eqb reply 36864 n)

  pub right_sizes : reply ≡ 36864 → work ≡ 16290 → answer_of file site reply work ≡ then_after site_reason (judged site) (by_file file site)
  unfolding answer_of sized
  right_sizes r w = rw (eq-eqb reply 36864 r, eq-eqb work 16290 w)

-- named by docs/PORT.md: they stand, though no proof cites them now
module _ (reply work : ℕ) {b : Bool} (e : b ≡ sized reply work) where
  pub wrong_sizes : (file site : List ℕ) → b ≡ false → Err Buffers ≡ answer_of file site reply work
  unfolding answer_of
  wrong_sizes file site n = rw (← e, n)

-- ## the buffers at the end
module _ {file site : List ℕ} {reply work : ℕ} {r : Result ℕ Reason} {bytes : List ℕ} (h : Answered (answer_of file site reply work) (table_for file site) r bytes) {words : List ℕ} (w : words ≡ replicate work 0) where
  pub ends_taken : is_err r ≡ false → BuildPromise file site reply work r bytes words
  unfolding reply_after
  ends_taken n = go r refl
    where
      go : (a : Result ℕ Reason) → r ≡ a → BuildPromise file site reply work r bytes words
      go (Ok k) q = record { answer = h.answer; bytes = h.held k q ∙ rw (← h.answer, q); words = w }
      go (Err x) q = clash {b = is_err r} (ap is_err q) n

  pub ends_refused : is_err r ≡ true → {bytes' : List ℕ} → bytes' ≡ replicate reply 0 → BuildPromise file site reply work r bytes' words
  unfolding reply_after
  ends_refused n {bytes'} b = go r refl
    where
      go : (a : Result ℕ Reason) → r ≡ a → BuildPromise file site reply work r bytes' words
      go (Ok k) q = clash {b = is_err r} n (ap is_err q)
      go (Err x) q = record { answer = h.answer; bytes = b ∙ rw (← h.answer, q); words = w }

-- zeros in a buffer as long as it was lent
pub cleared : {m : List ℕ} {k n : ℕ} → m ≡ replicate k 0 → k ≡ n → m ≡ replicate n 0
cleared e q = e ∙ ap (λ k. replicate k 0) q

pub ruleset ending = (rules, cleared, ends_taken, ends_refused)

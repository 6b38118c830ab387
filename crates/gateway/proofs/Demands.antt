-- THE THREE DEMANDS, as theorems over the one definition of the answer (specs/Answer.antt), which `build` and `verdict` are proved to give for every
-- input (specs/Promise.antt). Each stands under the words that it is to meet. Assumes nothing.
use Rattle.std.specs.Prelude.{Err, Ok, Result}
use Prim.Native.Nat.{ℕ, ◌+◌, ◌-◌, ◌≤◌, ◌<◌}
use mathlib.Core.Path.{◌≡◌, refl, sym, ap, ◌∙◌}
use mathlib.Core.Bool.{Bool, true, false, cond, not}
use mathlib.Core.List.{List, [], ◌∷◌, ◌++◌}
use mathlib.Core.Logic.{◌↔◌}
use native.Mathlib.Omega.{arith}
use lib.Dec.{eqb}
use lib.ListN.{length, get_or, replicate, length-replicate}
use borrow.Author.Tests.{ltb-true, ltb-false, eqb-true}
use Rattle.text.proofs.Tests.{by_test, clash, and_left}
use Rattle.flows.specs.Table.{Point, Set, in_table, count, within, table_of}
use Rattle.flows.specs.Flow.{widths, is_flow}
use Rattle.flows.specs.Numbers.{point_of}
use Rattle.flows.specs.declared.Numbers as numbers
use Rattle.flows.proofs.Meaning.{one_line_each, in_table_lem, equal_tables_same_set}
use Rattle.flows.proofs.Stored.{table_lines}
use Rattle.values.specs.Tree.{tree_of}
use Rattle.rules.specs.Meaning.{lets}
use Rattle.stored.specs.Text.{table_text, reply_of}
use Rattle.stored.specs.Stored.{lines, stored_of, verdict_of, verdict_number}
use Rattle.stored.specs.declared.answer.Verdict.{Verdict}
use Rattle.stored.specs.declared.answer.Verdict.TheVariants.{Accept, Drop}
use Rattle.stored.specs.declared.answer.Refusal.{Refusal}
use Rattle.stored.specs.declared.answer.Refusal.TheVariants.{NotTable, NotFlow}
use Rattle.stored.proofs.RoundTrip.{Stores, stored_iff, verdict_of_set, replies_equal}
use Rattle.gateway.specs.declared.Reason.{Reason}
use Rattle.gateway.specs.declared.Reason.TheVariants.{Buffers, SiteTooLong, SiteMalformed, FileTooLong, NotJson, NamesOrSurrogates, Header, Lists, UnknownMember, BadEntry, TooManyEntries, TooManyLines}
use Rattle.gateway.specs.Answer.{reason_number, answer_number, line_count, table_for, answer_of, reply_after}
use Rattle.gateway.specs.Order.{conditions, lowest}
use Rattle.gateway.specs.Promise.{BuildPromise, VerdictPromise, Keeps}
use Rattle.gateway.proofs.Numbering.{lowest_number, none_holds, Lowest, lowest_iff, counts, taken_count}
use Rattle.gateway.proofs.Kept.{lets_flows, inside, kept, kept_answer, row_12, few_lines, many_lines}

no_flow : (s : List ℕ) (f : numbers.Numbers) → stored_of s ≡ true → is_flow (point_of f) ≡ false → verdict_of s f ≡ Err NotFlow
unfolding verdict_of
no_flow s f e y = rw (e, y)

-- ## DEMAND 1: "Every file, site table, buffer, stored table and flow gets an answer: a result, or one numbered refusal in a fixed order, no
-- check left to the caller. A refused build leaves the reply all zeros; an accepted one leaves zeros after the last line."
-- (Neither call has a `requires`.)

-- "one numbered refusal": a number has one reason
reasons : List Reason
reasons =
    Buffers ∷ (SiteTooLong ∷ (SiteMalformed ∷ (FileTooLong ∷ (NotJson ∷ (NamesOrSurrogates ∷ (Header ∷ (Lists ∷ (UnknownMember ∷ (BadEntry ∷ (TooManyEntries ∷ (TooManyLines ∷ [])))))))))))

by_number : (r : Reason) → get_or reasons (reason_number r - 1) Buffers ≡ r
unfolding reasons
by_number Buffers = refl
by_number SiteTooLong = refl
by_number SiteMalformed = refl
by_number FileTooLong = refl
by_number NotJson = refl
by_number NamesOrSurrogates = refl
by_number Header = refl
by_number Lists = refl
by_number UnknownMember = refl
by_number BadEntry = refl
by_number TooManyEntries = refl
by_number TooManyLines = refl

pub one_reason : (r r' : Reason) → reason_number r ≡ reason_number r' → r ≡ r'
one_reason r r' e = sym (by_number r) ∙ (ap (λ n. get_or reasons (n - 1) Buffers) e ∙ by_number r')

-- a build, by its file, its site table and the lengths of the two lent buffers
module _ (file site : List ℕ) (reply work : ℕ) where
  -- "in a fixed order": the number is that of the first row that holds, and 0 where none does
  pub lowest_number_first : answer_number (answer_of file site reply work) ≡ lowest 1 (conditions file site reply work)
  lowest_number_first = lowest_number file site reply work

  -- row k, counted from 0, has number k + 1
  pub number_exactly_when : (k : ℕ) → (answer_number (answer_of file site reply work) ≡ 1 + k) ↔ Lowest (conditions file site reply work) k
  number_exactly_when k =
      let r = lowest_iff 0 (conditions file site reply work) k in
      (λ e. r.0 (sym lowest_number_first ∙ e), λ l. lowest_number_first ∙ r.1 l)

  -- ## DEMAND 2: "A file is taken exactly when it is JSON by RFC 8259, keeps the rules of document 01 and stays within its limits."
  -- `Keeps` cites the grammar of RFC 8259 as relations; the count is that of the table's lines.
  pub taken_exactly_when : (n : ℕ) → (answer_of file site reply work ≡ Ok n) ↔ (Keeps file site reply work × (length (table_for file site) ≤ 512) × (n ≡ length (table_for file site)))
  taken_exactly_when n = (there, back)
    where
      there : answer_of file site reply work ≡ Ok n → Keeps file site reply work × (length (table_for file site) ≤ 512) × (n ≡ length (table_for file site))
      there e =
          let f = none_holds 0 (conditions file site reply work) (sym (lowest_number file site reply work) ∙ ap answer_number e) in
          (kept file site reply work (λ j h. f j), ltb-false 512 (length (table_for file site)) (sym (row_12 file site reply work) ∙ f 11), taken_count (counts file site reply work) e)

      back : Keeps file site reply work × (length (table_for file site) ≤ 512) × (n ≡ length (table_for file site)) → answer_of file site reply work ≡ Ok n
      back r = kept_answer file site reply work r.0 ∙ (few_lines (table_for file site) r.1 ∙ ap Ok (sym r.2))

  -- ## DEMAND 1, the buffers
  -- "A refused build leaves the reply all zeros", with line count 0
  pub refused_leaves_zeros : (r : Reason) → answer_of file site reply work ≡ Err r → (reply_after file site reply work ≡ replicate reply 0) × (line_count (answer_of file site reply work) ≡ 0)
  unfolding reply_after
  refused_leaves_zeros r e = (rw e, rw e)

  taken_stores : (n : ℕ) → answer_of file site reply work ≡ Ok n → Stores (lets (tree_of 16 file) site)
  unfolding table_for
  taken_stores n e = record { flows = lets_flows file site; few = ((taken_exactly_when n).0 e).1 }

  -- "an accepted one leaves zeros after the last line": the lines of the one table, and then zeros
  pub taken_leaves_the_lines : (n : ℕ) → answer_of file site reply work ≡ Ok n → reply_after file site reply work ≡ table_text (table_for file site) ++ replicate (36864 - length (table_text (table_for file site))) 0
  unfolding reply_after reply_of
  taken_leaves_the_lines n e = rw e

  taken_reply : (n : ℕ) → answer_of file site reply work ≡ Ok n → reply_after file site reply work ≡ reply_of (table_of widths (lets (tree_of 16 file) site))
  unfolding reply_after table_for
  taken_reply n e = rw e

  taken_stored : (n : ℕ) → answer_of file site reply work ≡ Ok n → stored_of (reply_after file site reply work) ≡ true
  taken_stored n e = (stored_iff (reply_after file site reply work)).1 (lets (tree_of 16 file) site, taken_stores n e, taken_reply n e)

  -- the reply has 36,864 bytes then, and in every case as many as were lent
  pub taken_reply_length : (n : ℕ) → answer_of file site reply work ≡ Ok n → length (reply_after file site reply work) ≡ 36864
  unfolding stored_of
  taken_reply_length n e = eqb-true _ 36864 (and_left (eqb (length (reply_after file site reply work)) 36864) _ (taken_stored n e))

  pub reply_length : length (reply_after file site reply work) ≡ reply
  reply_length = go (answer_of file site reply work) refl
    where
      go : (a : Result ℕ Reason) → answer_of file site reply work ≡ a → length (reply_after file site reply work) ≡ reply
      go (Ok n) e = taken_reply_length n e ∙ sym ((taken_exactly_when n).0 e).0.reply_size
      go (Err r) e = ap length (refused_leaves_zeros r e).0 ∙ length-replicate {A = ℕ} reply 0

  -- ## DEMAND 2, the flows: "The table holds exactly the flows whose first matching entry accepts, the DNS and NTP defaults after all entries, all else dropped."
  -- `lets` says which flows these are, in the words of document 01.
  pub holds_exactly : (p : Point) → in_table (table_for file site) p ≡ lets (tree_of 16 file) site p
  unfolding table_for
  holds_exactly p = in_table_lem widths (lets (tree_of 16 file) site) p ∙ inside file site p

  -- "Read back, a table gives the same verdicts"
  pub read_back : (n : ℕ) → answer_of file site reply work ≡ Ok n → (f : numbers.Numbers) → verdict_of (reply_after file site reply work) f ≡ cond (is_flow (point_of f)) (Ok (cond (lets (tree_of 16 file) site (point_of f)) Accept Drop)) (Err NotFlow)
  read_back n e f =
      by_test (is_flow (point_of f))
      (λ y. rw (y, taken_reply n e) (verdict_of_set (lets (tree_of 16 file) site) (taken_stores n e) f y))
      (λ y. rw y (no_flow (reply_after file site reply work) f (taken_stored n e) y))

  -- ## DEMAND 3: "No flow stands in two lines." A flow that is let through stands in one, and every other point in none.
  pub lines_of_a_flow : (p : Point) → count (table_for file site) p ≡ cond (lets (tree_of 16 file) site p) 1 0
  unfolding table_for
  lines_of_a_flow p = rw (one_line_each widths (lets (tree_of 16 file) site) p, inside file site p)

  pub no_flow_in_two_lines : (p : Point) → count (table_for file site) p ≤ 1
  no_flow_in_two_lines p = rw (lines_of_a_flow p) (by_test (lets (tree_of 16 file) site p) (λ e. rw e (omega arith)) (λ e. rw e (omega arith)))

  -- "Refused for length exactly when the one table is longer than 512 lines."
  pub refused_12_exactly_when : (answer_of file site reply work ≡ Err TooManyLines) ↔ (Keeps file site reply work × (512 < length (table_for file site)))
  refused_12_exactly_when = (there, back)
    where
      there : answer_of file site reply work ≡ Err TooManyLines → Keeps file site reply work × (512 < length (table_for file site))
      there e =
          let l = (lowest_iff 0 (conditions file site reply work) 11).0 (sym (lowest_number file site reply work) ∙ ap answer_number e) in
          (kept file site reply work l.below, ltb-true 512 (length (table_for file site)) (sym (row_12 file site reply work) ∙ l.holds))

      back : Keeps file site reply work × (512 < length (table_for file site)) → answer_of file site reply work ≡ Err TooManyLines
      back r = kept_answer file site reply work r.0 ∙ many_lines (table_for file site) r.1

-- "Two accepted builds have equal reply buffers exactly when they let the same flows through."
module _ (file site : List ℕ) (reply work : ℕ) (file' site' : List ℕ) (reply' work' : ℕ) where
  pub equal_replies_same_flows : (n n' : ℕ) → answer_of file site reply work ≡ Ok n → answer_of file' site' reply' work' ≡ Ok n' → (reply_after file site reply work ≡ reply_after file' site' reply' work') ↔ ((p : Point) → lets (tree_of 16 file) site p ≡ lets (tree_of 16 file') site' p)
  equal_replies_same_flows n n' e e' =
      let S = lets (tree_of 16 file) site in
      let S' = lets (tree_of 16 file') site' in
      let r = replies_equal (table_of widths S) (table_of widths S') (table_lines widths S) (table_lines widths S') in
      let q = equal_tables_same_set widths S S' in
      let a = taken_reply file site reply work n e in
      let b = taken_reply file' site' reply' work' n' e' in
      (λ x p. everywhere (q.1 (r.0 (sym a ∙ (x ∙ b)))) p, λ x. a ∙ (r.1 (q.0 (λ p w. x p)) ∙ sym b))
    where
      -- beyond the widths neither lets anything through
      everywhere : ((p : Point) → within widths p ≡ true → lets (tree_of 16 file) site p ≡ lets (tree_of 16 file') site' p) → (p : Point) → lets (tree_of 16 file) site p ≡ lets (tree_of 16 file') site' p
      everywhere f p =
          by_test (within widths p) (λ w. f p w)
          (λ w. let a = inside file site p in let b = inside file' site' p in sym (rw w at a) ∙ (rw w at b))

-- ## verdicts
numbered : (a b c : Bool) → verdict_number (cond a (cond b (Ok (cond c Accept Drop)) (Err NotFlow)) (Err NotTable)) ≡ cond (not a) 13 (cond (not b) 14 0)
numbered true true true = refl
numbered true true false = refl
numbered true false c = refl
numbered false b c = refl

-- 13, then 14
pub verdict_order : (s : List ℕ) (f : numbers.Numbers) → verdict_number (verdict_of s f) ≡ lowest 13 (not (stored_of s) ∷ (not (is_flow (point_of f)) ∷ []))
unfolding verdict_of lowest
verdict_order s f = numbered (stored_of s) (is_flow (point_of f)) (in_table (lines s 0) (point_of f))

not_13 : (a b : Bool) → a ≡ true → lowest 13 (not a ∷ (b ∷ [])) ≡ 13 → ⊥
unfolding lowest
not_13 true true e h = omega arith
not_13 true false e h = omega arith
not_13 false b e h = clash e refl

no_table : (s : List ℕ) (f : numbers.Numbers) → stored_of s ≡ false → verdict_of s f ≡ Err NotTable
unfolding verdict_of
no_table s f e = rw e

-- DEMAND 2, last words: "bytes that are the table of no set of flows are refused": 13, exactly then
pub no_table_refused : (s : List ℕ) (f : numbers.Numbers) → (verdict_of s f ≡ Err NotTable) ↔ ¬ ((S : Set) × Stores S × (s ≡ reply_of (table_of widths S)))
no_table_refused s f = (
  λ e r. not_13 (stored_of s) (not (is_flow (point_of f))) ((stored_iff s).1 r) (sym (verdict_order s f) ∙ ap verdict_number e),
  λ n. by_test (stored_of s) (λ y. absurd (n ((stored_iff s).0 y))) (λ y. no_table s f y),
)

-- ## "A work buffer .. is zeros at return, refusals included"
pub work_left_zero : {file site : List ℕ} {reply work : ℕ} {r : Result ℕ Reason} {bytes words : List ℕ} → BuildPromise file site reply work r bytes words → words ≡ replicate work 0
work_left_zero p = p.words

-- ## "It is proved that two outcomes allowed by it coincide" (document 01, 'How much each promise must say')
pub outcomes_coincide : {file site : List ℕ} {reply work : ℕ} {r r' : Result ℕ Reason} {bytes bytes' words words' : List ℕ} → BuildPromise file site reply work r bytes words → BuildPromise file site reply work r' bytes' words' → (r ≡ r') × (bytes ≡ bytes') × (words ≡ words')
outcomes_coincide p q = (cc, cc, cc)

pub verdicts_coincide : {s : List ℕ} {f : numbers.Numbers} {r r' : Result Verdict Refusal} → VerdictPromise s f r → VerdictPromise s f r' → r ≡ r'
verdicts_coincide p q = cc

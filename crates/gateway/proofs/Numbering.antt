-- The answer's number is the lowest row that holds. Assumes nothing.
use Rattle.jsontext.specs.declared.Bad.{Bad}
use Rattle.std.specs.Prelude.{Err, Ok, Result, ⊤, is_ok}
use Prim.Native.Nat.{ℕ, zero, suc, ◌+◌, ◌<◌}
use mathlib.Core.Path.{◌≡◌, refl, ◌∙◌}
use mathlib.Core.Bool.{Bool, true, false, cond, not, ◌||◌}
use mathlib.Core.List.{List, [], ◌∷◌}
use mathlib.Core.Logic.{◌↔◌}
use native.Mathlib.Omega.{arith}
use lib.Dec.{eqb, ltb}
use lib.ListN.{length, get_or}
use Rattle.jsontext.specs.Reading.{text_of}
use Rattle.values.specs.Tree.{tree_of}
use Rattle.values.specs.Clean.{clean, verdict_of}
use Rattle.site.specs.Site.{judged, line_feeds, stop}
use Rattle.site.specs.declared.table.Fault.TheVariants.{TooLong, MalformedAt}
use Rattle.header.specs.Header.{outermost_ok}
use Rattle.lists.specs.Lists.{policies_ok}
use Rattle.rules.specs.Read.{all_known, all_sound, entries_read}
use Rattle.text.proofs.Tests.{clash}
use Rattle.gateway.specs.declared.Reason.{Reason}
use Rattle.gateway.specs.declared.Reason.TheVariants.{Buffers, FileTooLong, Header, Lists, UnknownMember, BadEntry, TooManyEntries, TooManyLines}
use Rattle.gateway.specs.Answer.{answer_number, table_for, by_length, by_entries, by_rules, file_reason, site_reason, then_after, by_file, sized, answer_of}
use Rattle.gateway.specs.Order.{tree_rows, conditions, lowest}

-- ## each stage
site_number : (a b : Bool) (p : ℕ) (x : Result ℕ Reason) → answer_number (then_after site_reason (cond a (Err TooLong) (cond b (Ok tt) (Err (MalformedAt p)))) x) ≡ cond a 2 (cond (not b) 3 (answer_number x))
site_number true b p x = refl
site_number false true p x = refl
site_number false false p x = refl

json_number : (r : Result ℕ Bad) (c : Bool) (x : Result ℕ Reason) → answer_number (then_after file_reason (verdict_of r c) x) ≡ cond (not (is_ok r)) 5 (cond (not c) 6 (answer_number x))
json_number (Err p) c x = refl
json_number (Ok e) true x = refl
json_number (Ok e) false x = refl

refuse : (b : Bool) (r : Reason) (x : Result ℕ Reason) → answer_number (cond b (Err r) x) ≡ cond b (answer_number (Err r)) (answer_number x)
refuse true r x = refl
refuse false r x = refl

accept : (b : Bool) (r : Reason) (x : Result ℕ Reason) → answer_number (cond b x (Err r)) ≡ cond (not b) (answer_number (Err r)) (answer_number x)
accept true r x = refl
accept false r x = refl

taken_number : (b : Bool) (r : Reason) (n : ℕ) → answer_number (cond b (Err r) (Ok n)) ≡ cond b (answer_number (Err r)) 0
taken_number true r n = refl
taken_number false r n = refl

-- THE LOWEST NUMBER THAT HOLDS IS GIVEN
pub lowest_number : (file site : List ℕ) (reply work : ℕ) → answer_number (answer_of file site reply work) ≡ lowest 1 (conditions file site reply work)
unfolding answer_of by_file by_rules by_entries by_length judged conditions tree_rows lowest
lowest_number file site reply work =
    let t = tree_of 16 file in
    rw (
      accept (sized reply work),
      site_number (ltb 8192 (length site) || ltb 64 (line_feeds site)) (eqb (stop site 0) (length site)) (stop site 0),
      refuse (ltb 32768 (length file)),
      json_number (text_of 16 file) (clean t),
      refuse (not (outermost_ok t)),
      refuse (not (policies_ok t)),
      refuse (not (all_known t)),
      refuse (not (all_sound t)),
      refuse (ltb 64 (entries_read t)),
      taken_number (ltb 512 (length (table_for file site))),
    )

-- ## the lowest of any rows
-- no row holds where the number is 0
pub none_holds : (i : ℕ) (bs : List Bool) → lowest (suc i) bs ≡ 0 → (j : ℕ) → get_or bs j false ≡ false
unfolding lowest
none_holds i [] e j = refl
none_holds i (true ∷ bs) e j = absurd (omega arith)
none_holds i (false ∷ bs) e zero = refl
none_holds i (false ∷ bs) e (suc j) = none_holds (suc i) bs e j

-- row k holds, and none before it
pub record Lowest (bs : List Bool) (k : ℕ) : Type 0 where
  pub holds : get_or bs k false ≡ true
  pub below : (j : ℕ) → j < k → get_or bs j false ≡ false

no_lower : (i : ℕ) (bs : List Bool) (n : ℕ) → 0 < n → n < i → lowest i bs ≡ n → ⊥
unfolding lowest
no_lower i [] n h k e = omega arith
no_lower i (true ∷ bs) n h k e = omega arith
no_lower i (false ∷ bs) n h k e = no_lower (suc i) bs n h (omega arith) e

after_false : (bs : List Bool) (k : ℕ) → Lowest bs k ↔ Lowest (false ∷ bs) (suc k)
after_false bs k = (λ l. record { holds = l.holds; below = first l.below }, λ l. record { holds = l.holds; below = λ j h. l.below (suc j) (omega arith) })
  where
    first : ((j : ℕ) → j < k → get_or bs j false ≡ false) → (j : ℕ) → j < suc k → get_or (false ∷ bs) j false ≡ false
    first f zero h = refl
    first f (suc j) h = f j (omega arith)

pub lowest_iff : (i : ℕ) (bs : List Bool) (k : ℕ) → (lowest (suc i) bs ≡ suc i + k) ↔ Lowest bs k
unfolding lowest
lowest_iff i [] k = (λ e. absurd (omega arith), λ l. clash l.holds refl)
lowest_iff i (true ∷ bs) zero = (λ e. record { holds = refl; below = λ j h. absurd (omega arith) }, λ l. omega arith)
lowest_iff i (true ∷ bs) (suc k) = (λ e. absurd (omega arith), λ l. clash {b = true} refl (l.below 0 (omega arith)))
lowest_iff i (false ∷ bs) zero = (λ e. absurd (no_lower (suc (suc i)) bs (suc i + 0) (omega arith) (omega arith) e), λ l. clash l.holds refl)
lowest_iff i (false ∷ bs) (suc k) =
    let r = lowest_iff (suc i) bs k in
    (λ e. (after_false bs k).0 (r.0 (e ∙ omega arith)), λ l. r.1 ((after_false bs k).1 l) ∙ omega arith)

-- ## the count
-- an answer is taken with so many lines, or refused
pub data Counts (n : ℕ) : Result ℕ Reason → Type 0 where
  counted : Counts n (Ok n)
  refused : (r : Reason) → Counts n (Err r)

counts_refuse : {n : ℕ} (b : Bool) (r : Reason) {x : Result ℕ Reason} → Counts n x → Counts n (cond b (Err r) x)
counts_refuse true r c = refused r
counts_refuse false r c = c

counts_accept : {n : ℕ} (b : Bool) (r : Reason) {x : Result ℕ Reason} → Counts n x → Counts n (cond b x (Err r))
counts_accept true r c = c
counts_accept false r c = refused r

counts_after : {n : ℕ} {F : Type 0} (why : F → Reason) (r : Result ⊤ F) {x : Result ℕ Reason} → Counts n x → Counts n (then_after why r x)
counts_after why (Ok u) c = c
counts_after why (Err f) c = refused (why f)

pub counts : (file site : List ℕ) (reply work : ℕ) → Counts (length (table_for file site)) (answer_of file site reply work)
unfolding answer_of by_file by_rules by_entries by_length
counts file site reply work =
    let t = tree_of 16 file in
    counts_accept (sized reply work) Buffers (counts_after site_reason (judged site)
    (counts_refuse (ltb 32768 (length file)) FileTooLong (counts_after file_reason (verdict_of (text_of 16 file) (clean t))
    (counts_refuse (not (outermost_ok t)) Header (counts_refuse (not (policies_ok t)) Lists
    (counts_refuse (not (all_known t)) UnknownMember (counts_refuse (not (all_sound t)) BadEntry
    (counts_refuse (ltb 64 (entries_read t)) TooManyEntries (counts_refuse (ltb 512 (length (table_for file site))) TooManyLines counted)))))))))

-- and then with that count
pub taken_count : {m n : ℕ} {a : Result ℕ Reason} → Counts n a → a ≡ Ok m → m ≡ n
taken_count counted e = cc
taken_count (refused r) e = absurd (let z : ◌≡◌ {A = ℕ} 0 1 = cc in omega arith)

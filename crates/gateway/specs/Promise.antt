-- What the two public calls promise, and when a file is taken.
use Rattle.std.specs.Prelude.{Ok, Result, ℕ, ◌≤◌, ◌≡◌, true, List, length}
use Rattle.gateway.specs.declared.Reason.{Reason}
use Rattle.jsontext.specs.Rfc8259.{Text}
use Rattle.values.specs.Tree.{tree_of}
use Rattle.values.specs.Clean.{clean}
use Rattle.site.specs.Site.{judged}
use Rattle.header.specs.Header.{outermost_ok}
use Rattle.lists.specs.Lists.{policies_ok}
use Rattle.rules.specs.Read.{all_known, all_sound, entries_read}
use Rattle.flows.specs.declared.Numbers as numbers
use Rattle.stored.specs.declared.answer.Verdict.{Verdict}
use Rattle.stored.specs.declared.answer.Refusal.{Refusal}
use Rattle.stored.specs.Stored.{verdict_of}
use Rattle.gateway.specs.Answer.{answer_of, reply_after, work_after}

-- THE PROMISE OF `build`, for every input: the answer and each byte of both lent buffers. `reply` and `work` are the buffers' lengths.
pub record BuildPromise (file site : List ℕ) (reply work : ℕ) (r : Result ℕ Reason) (reply' work' : List ℕ) : Type 0 where
  pub answer : r ≡ answer_of file site reply work
  pub bytes : reply' ≡ reply_after file site reply work
  pub words : work' ≡ work_after work

-- any function of a file, a site table and what the two buffers hold, and that it keeps the promise
pub record Outcome : Type 0 where
  pub answer : Result ℕ Reason
  pub bytes : List ℕ
  pub words : List ℕ

abbrev pub Builder : Type 0
Builder = (file site reply work : List ℕ) → Outcome

abbrev pub Meets : Builder → Type 0
Meets b = (file site reply work : List ℕ) → BuildPromise file site (length reply) (length work) (b file site reply work).answer (b file site reply work).bytes (b file site reply work).words

-- THE PROMISE OF `verdict`, which lends nothing to be written
pub record VerdictPromise (stored : List ℕ) (asked : numbers.Numbers) (r : Result Verdict Refusal) : Type 0 where
  pub verdict : r ≡ verdict_of stored asked

-- the buffers have their sizes, the site table is sound, and the file "is JSON by RFC 8259, keeps the rules of document 01 and stays within its
-- limits", but for the table's length
pub record Keeps (file site : List ℕ) (reply work : ℕ) : Type 0 where
  pub reply_size : reply ≡ 36864
  pub work_size : work ≡ 16290
  pub sound_site : judged site ≡ Ok tt
  pub bytes : length file ≤ 32768
  pub json : Text 16 file
  pub decoded : clean (tree_of 16 file) ≡ true
  pub header : outermost_ok (tree_of 16 file) ≡ true
  pub lists : policies_ok (tree_of 16 file) ≡ true
  pub known : all_known (tree_of 16 file) ≡ true
  pub sound : all_sound (tree_of 16 file) ≡ true
  pub entries : entries_read (tree_of 16 file) ≤ 64

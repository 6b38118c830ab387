-- THE WHOLE ANSWER of a build (document 01, 'Answer numbers and their order'): "The lowest number that holds is given; each is judged only
-- when no lower one holds." Nothing of what the buffers held before is an argument.
use Rattle.std.specs.Prelude.{Err, Ok, Result, ⊤, ℕ, Bool, cond, not, ◌&&◌, List, eqb, ltb, length, replicate}
use Rattle.flows.specs.Table.{Table, table_of}
use Rattle.flows.specs.Flow.{widths}
use Rattle.jsontext.specs.Reading.{text_of}
use Rattle.values.specs.declared.Fault as values
use Rattle.values.specs.declared.Fault.TheVariants.{Unclean, Broken}
use Rattle.values.specs.Tree.{Json, tree_of}
use Rattle.values.specs.Clean.{clean, verdict_of}
use Rattle.site.specs.Site.{judged}
use Rattle.site.specs.declared.table.Fault as site
use Rattle.site.specs.declared.table.Fault.TheVariants.{TooLong, MalformedAt}
use Rattle.header.specs.Header.{outermost_ok}
use Rattle.lists.specs.Lists.{policies_ok}
use Rattle.rules.specs.Read.{all_known, all_sound, entries_read}
use Rattle.rules.specs.Meaning.{lets}
use Rattle.stored.specs.Text.{reply_of}
use Rattle.gateway.specs.declared.Reason.{Reason}
use Rattle.gateway.specs.declared.Reason.TheVariants.{Buffers, SiteTooLong, SiteMalformed, FileTooLong, NotJson, NamesOrSurrogates, Header, Lists, UnknownMember, BadEntry, TooManyEntries, TooManyLines}

-- the paper's number, and the line count
abbrev pub reason_number : Reason → ℕ
reason_number Buffers = 1
reason_number SiteTooLong = 2
reason_number SiteMalformed = 3
reason_number FileTooLong = 4
reason_number NotJson = 5
reason_number NamesOrSurrogates = 6
reason_number Header = 7
reason_number Lists = 8
reason_number UnknownMember = 9
reason_number BadEntry = 10
reason_number TooManyEntries = 11
reason_number TooManyLines = 12

abbrev pub answer_number : Result ℕ Reason → ℕ
answer_number (Ok n) = 0
answer_number (Err r) = reason_number r

abbrev pub line_count : Result ℕ Reason → ℕ
line_count (Ok n) = n
line_count (Err r) = 0

-- THE TABLE of a file and a site table
unfoldable pub table_for : List ℕ → List ℕ → Table
table_for file site = table_of widths (lets (tree_of 16 file) site)

-- 12, or taken
unfoldable pub by_length : Table → Result ℕ Reason
by_length t = cond (ltb 512 (length t)) (Err TooManyLines) (Ok (length t))

-- 9 to 11, over the entries that are read
unfoldable pub by_entries : Json → Result ℕ Reason → Result ℕ Reason
by_entries file after =
    cond (not (all_known file)) (Err UnknownMember)
    (cond (not (all_sound file)) (Err BadEntry)
    (cond (ltb 64 (entries_read file)) (Err TooManyEntries) after))

-- 7 and 8, then those
unfoldable pub by_rules : Json → Result ℕ Reason → Result ℕ Reason
by_rules file after =
    cond (not (outermost_ok file)) (Err Header)
    (cond (not (policies_ok file)) (Err Lists) (by_entries file after))

-- 5 and 6: why a file is refused that is no JSON, or has a name twice or a surrogate without its partner
abbrev pub file_reason : values.Fault → Reason
file_reason (Broken p) = NotJson
file_reason Unclean = NamesOrSurrogates

-- 2 and 3: why a site table is refused
abbrev pub site_reason : site.Fault → Reason
site_reason TooLong = SiteTooLong
site_reason (MalformedAt p) = SiteMalformed

-- what was judged is refused for that reason, or what comes after is the answer
abbrev pub then_after : {F : Type 0} → (F → Reason) → Result ⊤ F → Result ℕ Reason → Result ℕ Reason
then_after why (Err f) after = Err (why f)
then_after why (Ok u) after = after

-- 4 to 12, for a sound site table
unfoldable pub by_file : List ℕ → List ℕ → Result ℕ Reason
by_file file site =
    cond (ltb 32768 (length file)) (Err FileTooLong)
    (then_after file_reason (verdict_of (text_of 16 file) (clean (tree_of 16 file))) (by_rules (tree_of 16 file) (by_length (table_for file site))))

-- 1: "reply buffer not 36,864 bytes, or a lent work buffer not of its fixed size"
unfoldable pub sized : ℕ → ℕ → Bool
sized reply work = eqb reply 36864 && eqb work 16290

-- 1 to 12, or taken with the number of lines; `reply` and `work` are the lengths of the two buffers
unfoldable pub answer_of : List ℕ → List ℕ → ℕ → ℕ → Result ℕ Reason
answer_of file site reply work = cond (sized reply work) (then_after site_reason (judged site) (by_file file site)) (Err Buffers)

-- "every byte of the reply buffer zero, for number 1 too"; taken: the lines, then zeros
abbrev pub bytes_for : Result ℕ Reason → Table → ℕ → List ℕ
bytes_for (Ok n) t reply = reply_of t
bytes_for (Err r) t reply = replicate reply 0

unfoldable pub reply_after : List ℕ → List ℕ → ℕ → ℕ → List ℕ
reply_after file site reply work = bytes_for (answer_of file site reply work) (table_for file site) reply

-- "A work buffer .. is zeros at return, refusals included."
abbrev pub work_after : ℕ → List ℕ
work_after work = replicate work 0

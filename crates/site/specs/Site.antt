-- The site table (document 01, 'Site table').
use Rattle.std.specs.Prelude.{Option, Some, None, Result, Ok, Err, ⊤, count_by, ℕ, suc, List, ◌||◌, cond, length, ltb, eqb}
use Rattle.text.specs.Walk.{items_from, end_from}
use Rattle.site.specs.Line.{line_at}
use Rattle.site.specs.declared.lines.SiteLine.{SiteLine}
use Rattle.site.specs.declared.table.Fault.{Fault}
use Rattle.site.specs.declared.table.Fault.TheVariants.{TooLong, MalformedAt}

-- the line at a place, and the place after it
abbrev pub item_of : Option SiteLine → Option (SiteLine × ℕ)
item_of None = None
item_of (Some l) = Some (l, l.after)

-- the lines from a place on, up to the first malformed one, and where that begins
unfoldable pub lines : List ℕ → ℕ → List SiteLine
lines s at = items_from (λ k. item_of (line_at s k)) (suc (length s)) at

unfoldable pub stop : List ℕ → ℕ → ℕ
stop s at = end_from (λ k. item_of (line_at s k)) (suc (length s)) at

-- how many LF bytes
abbrev pub line_feeds : List ℕ → ℕ
line_feeds s = count_by (λ b. eqb b 0x0A) s

-- number 2: "site table over 8,192 bytes or 64 LF"; number 3: "site table malformed", with the start of the first malformed line
unfoldable pub judged : List ℕ → Result ⊤ Fault
judged s = cond (ltb 8192 (length s) || ltb 64 (line_feeds s)) (Err TooLong) (cond (eqb (stop s 0) (length s)) (Ok tt) (Err (MalformedAt (stop s 0))))

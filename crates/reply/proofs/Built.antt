-- The lines that `build` left are those of the table, and fit. Assumes nothing.
use Prim.Native.Nat.{ℕ, suc, ◌+◌, ◌*◌, ◌≤◌, ◌<◌}
use native.Mathlib.Nat.{zero-add, add-zero}
use native.Mathlib.Omega.{arith}
use mathlib.Core.Path.{◌≡◌, refl, ap, ap₂, sym, ◌∙◌, subst}
use mathlib.Core.List.{List, [], ◌∷◌}
use Rattle.std.specs.Prelude.{Option, Some}
use lib.ListN.{length, take, drop, get_or}
use Rattle.flows.specs.Table.{◌to◌, Line, Table, Set, table_of}
use Rattle.flows.specs.Flow.{widths}
use Rattle.flows.specs.Canonical.{LineIn}
use Rattle.flows.proofs.Stored.{table_lines}
use Rattle.builder.specs.Encoding.{table_words}
use Rattle.builder.specs.Promise.{BuiltIn}
use Rattle.builder.proofs.Reading.{line_read}
use Rattle.builder.proofs.Turns.{lines_of_lem}
use Rattle.stored.specs.Line.{ranges}
use Rattle.stored.specs.Words.{Fits}
use Rattle.stored.proofs.Spelling.{Read-as, as_read}
use Rattle.reply.specs.Lines.{range_of_line, line_in, lines_from, lines_in}

-- a line within the widths, by its six ranges
abbrev six_ranges : Line → Line
six_ranges l = get_or l 0 (0 to 0) ∷ (get_or l 1 (0 to 0) ∷ (get_or l 2 (0 to 0) ∷ (get_or l 3 (0 to 0) ∷ (get_or l 4 (0 to 0) ∷ (get_or l 5 (0 to 0) ∷ [])))))

by_ranges : (l : Line) → LineIn widths l → six_ranges l ≡ l
unfolding ranges
by_ranges l h = let r : Read-as l = as_read l h in subst (λ (m : Line). six_ranges m ≡ m) r.is refl

-- a line whose ranges are read back, and lines
line_is : (w : List ℕ) (i : ℕ) (l : Line) → LineIn widths l → ((d : ℕ) → d < 6 → get_or l d (0 to 0) ≡ range_of_line w i d) → line_in w i ≡ l
unfolding line_in
line_is w i l h r =
    rw (← r 0 (omega arith), ← r 1 (omega arith), ← r 2 (omega arith), ← r 3 (omega arith), ← r 4 (omega arith), ← r 5 (omega arith)) (by_ranges l h)

lines_are : (w : List ℕ) (i : ℕ) (t : Table) → Fits t → ((k d : ℕ) → k < length t → d < 6 → get_or (get_or t k []) d (0 to 0) ≡ range_of_line w (i + k) d) → lines_from w i (length t) ≡ t
unfolding lines_from
lines_are w i [] f r = refl
lines_are w i (l ∷ t) f r =
    ap₂ {C = Table} (λ m u. m ∷ u)
    (line_is w i l f.0 (λ d h. r 0 d (omega arith) h ∙ ap (λ (j : ℕ). range_of_line w j d) (add-zero i)))
    (lines_are w (i + 1) t f.1 (λ k d h m. r (suc k) d (omega arith) m ∙ ap (λ (j : ℕ). range_of_line w j d) (omega arith)))

-- THE LINES THAT `build` LEFT ARE THE TABLE'S; the premise is what its contract says of them
pub built_lines : (S : Set) (w : List ℕ) → take (3 * length (table_of widths S)) (drop 7071 w) ≡ table_words 0 (table_of widths S) → lines_in (length (table_of widths S)) w ≡ table_of widths S
built_lines S w e = lines_are w 0 (table_of widths S) (table_lines widths S) (λ k d h m. line_read S w k d h m e ∙ ap (λ (j : ℕ). range_of_line w j d) (sym (zero-add k)))

pub built_fits : (S : Set) (w : List ℕ) → take (3 * length (table_of widths S)) (drop 7071 w) ≡ table_words 0 (table_of widths S) → Fits (lines_in (length (table_of widths S)) w)
built_fits S w e = subst Fits (sym (built_lines S w e)) (table_lines widths S)

-- the same of what `build` returned, k lines
module _ (S : Set) {w : List ℕ} {r : Option ℕ} {k : ℕ} (b : BuiltIn (table_of widths S) w r) (e : r ≡ Some k) where
  pub built_count : (length (table_of widths S) ≡ k) × (length (table_of widths S) ≤ 512)
  built_count = lines_of_lem (table_of widths S) k r b.answer e

  pub built_are : lines_in k w ≡ table_of widths S
  built_are = let q = built_count in ap (λ (n : ℕ). lines_in n w) (sym q.0) ∙ built_lines S w (b.held q.1)

  pub built_fit : Fits (lines_in k w)
  built_fit = let q = built_count in subst (λ (n : ℕ). Fits (lines_in n w)) q.0 (built_fits S w (b.held q.1))

-- DOCUMENT 01'S TABLE OF NUMBERS, row by row: the condition of each, by itself and without a word of the others.
use Rattle.std.specs.Prelude.{ℕ, suc, Bool, cond, not, ◌||◌, List, [], ◌∷◌, eqb, ltb, length, is_ok}
use Rattle.jsontext.specs.Reading.{text_of}
use Rattle.values.specs.Tree.{Json, tree_of}
use Rattle.values.specs.Clean.{clean}
use Rattle.site.specs.Site.{line_feeds, stop}
use Rattle.header.specs.Header.{outermost_ok}
use Rattle.lists.specs.Lists.{policies_ok}
use Rattle.rules.specs.Read.{all_known, all_sound, entries_read}
use Rattle.gateway.specs.Answer.{table_for, sized}

-- the rows 6 to 11, over the file's tree, before what follows
unfoldable pub tree_rows : Json → List Bool → List Bool
tree_rows file rows =
    not (clean file)
    ∷ (not (outermost_ok file)
    ∷ (not (policies_ok file)
    ∷ (not (all_known file)
    ∷ (not (all_sound file)
    ∷ (ltb 64 (entries_read file) ∷ rows)))))

-- the rows 1 to 12; in row 5 `is_ok`, by `decides` (jsontext), says that the text is JSON by the grammar of RFC 8259
unfoldable pub conditions : List ℕ → List ℕ → ℕ → ℕ → List Bool
conditions file site reply work =
    not (sized reply work)
    ∷ ((ltb 8192 (length site) || ltb 64 (line_feeds site))
    ∷ (not (eqb (stop site 0) (length site))
    ∷ (ltb 32768 (length file)
    ∷ (not (is_ok (text_of 16 file)) ∷ tree_rows (tree_of 16 file) (ltb 512 (length (table_for file site)) ∷ [])))))

-- "The lowest number that holds is given": the rows from number k on; 0 where none holds
unfoldable pub lowest : ℕ → List Bool → ℕ
lowest k [] = 0
lowest k (b ∷ bs) = cond b k (lowest (suc k) bs)

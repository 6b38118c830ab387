-- Inner words of the builder; its promise does not rest on them: what its functions leave in the work buffer.
use Rattle.std.specs.Prelude.{ℕ, zero, suc, ◌+◌, ◌-◌, ◌*◌, ◌≤◌, ◌<◌, ◌≡◌, Bool, true, false, cond, ◌&&◌, Option, List, [], ◌∷◌, ◌++◌, eqb, length, take, drop, get_or, set}
use Rattle.std.specs.Int.Bits.{bit_and}
use Rattle.flows.specs.Table.{Table, ◌to◌, put_before}
use Rattle.builder.specs.declared.live.Run.{Run}
use Rattle.builder.specs.declared.live.Judged.{Judged}
use Rattle.builder.specs.Promise.{answer_of}
use Rattle.builder.specs.Encoding.{low_of, high_of, put_into, table_words}
use Rattle.builder.specs.Cells.{first_or, mask_of, starts_of, cells_at, Cut}

-- The table t, with its dimensions from d on, is built from line `at` on, and what stands before is kept: w before, w' after
pub record BuiltTo (t : Table) (at d : ℕ) (w w' : List ℕ) (r : Option ℕ) : Type 0 where
  pub answer : r ≡ answer_of t
  pub held : length t ≤ 512 → take (3 * (at + length t)) w' ≡ take (3 * at) w ++ table_words d t

unfoldable pub same_words : List ℕ → List ℕ → Bool
same_words [] [] = true
same_words [] (y ∷ b) = false
same_words (x ∷ a) [] = false
same_words (x ∷ a) (y ∷ b) = eqb x y && same_words a b

-- n lines from line a on, with x put into word c
unfoldable pub stamp_n : ℕ → ℕ → ℕ → ℕ → List ℕ → List ℕ
stamp_n c x zero a w = w
stamp_n c x (suc n) a w = stamp_n c x n (a + 1) (put_into (3 * a + c) x w)

-- The lines from a up to e
abbrev pub part : ℕ → ℕ → List ℕ → List ℕ
part a e w = take (3 * e - 3 * a) (drop (3 * a) w)

pub record ClosedTo (a e z c x : ℕ) (w w' : List ℕ) (r : Bool) : Type 0 where
  pub same : r ≡ same_words (part a e w) (part e z w)
  pub left : w' ≡ cond r w (stamp_n c x (e - a) a w)

-- What is read of the cell at place x
pub record CellRead (a b x : ℕ) (w : List ℕ) (r : Run) : Type 0 where
  pub low : r.low ≡ low_of (get_or w x 0)
  pub high : r.high ≡ high_of (get_or w x 0)
  pub first : r.live.first ≡ bit_and a (get_or w (x + 1) 0)
  pub second : r.live.others ≡ bit_and b (get_or w (x + 2) 0)
  pub third : r.also.first ≡ bit_and a (get_or w (x + 1) 0)
  pub fourth : r.also.others ≡ bit_and b (get_or w (x + 2) 0)

-- The verdict of the first rule that two masks and the cell at place x have
abbrev pub ok_at : ℕ → ℕ → ℕ → ℕ → List ℕ → ℕ → Bool
ok_at a b ya yb w x = first_or 64 ya (bit_and a (get_or w (x + 1) 0)) (first_or 64 yb (bit_and b (get_or w (x + 2) 0)) false)

-- What is read of a cell of the last dimension
pub record JudgedRead (a b ya yb x : ℕ) (w : List ℕ) (r : Judged) : Type 0 where
  pub low : r.low ≡ low_of (get_or w x 0)
  pub high : r.high ≡ high_of (get_or w x 0)
  pub verdict : r.ok ≡ ok_at a b ya yb w x

-- The live sets of a run have the table s; f gives the table of two live sets
abbrev pub Have : (ℕ → ℕ → Table) → Table → Run → Type 0
Have f s run = (f run.live.first run.live.others ≡ s) × (f run.also.first run.also.others ≡ s)

-- So has the cell, since its live sets are among them
abbrev pub Known : Run → Run → Type 0
Known run cell = (f : ℕ → ℕ → Table) (s : Table) → Have f s run → f cell.live.first cell.live.others ≡ s

-- A run with one more cell
pub record Longer (run cell r : Run) : Type 0 where
  pub low : r.low ≡ run.low
  pub high : r.high ≡ cell.high
  pub have : (f : ℕ → ℕ → Table) (s : Table) → Have f s run → f cell.live.first cell.live.others ≡ s → Have f s r

-- A run of the last dimension is put down as line `at`, if it is accepted, and what stands before is kept; the next line is r
pub record RunPut (at lo hi : ℕ) (ok : Bool) (w w' : List ℕ) (r : ℕ) : Type 0 where
  pub count : r ≡ at + cond ok 1 0
  pub held : take (3 * r) w' ≡ take (3 * at) w ++ table_words 5 (put_before (lo to hi) (cond ok ([] ∷ []) []))

-- The starts of cells, which stand where the lines will
abbrev pub starts : ℕ → List ℕ → List ℕ
starts c w = take c (drop 7071 w)

-- r starts are xs, and the front is kept
pub record Started (xs w w' : List ℕ) (r : ℕ) : Type 0 where
  pub long : r ≡ length xs
  pub held : starts r w' ≡ xs
  pub front : take 7071 w' ≡ take 7071 w

-- The r starts of dimension d are there
pub record Starting (n d : ℕ) (w w' : List ℕ) (r : ℕ) : Type 0 where
  pub started : Started (starts_of n d (take 1555 w)) w w' r
  pub some : 2 ≤ r
  pub few : r ≤ 414

-- A cell's three words, put at place x
unfoldable pub cell_put : ℕ → ℕ → List ℕ → List ℕ → ℕ → ℕ → ℕ → List ℕ
cell_put n d R w x v e =
    set (set (set w x (v * 4294967296 + e)) (x + 1) (mask_of d (n - (n - 64)) (take 64 R) (drop 64 R) v)) (x + 2) (mask_of d (n - 64) (take 64 R) (drop 1408 R) v)

-- The cells of dimension d are made, and what stands before them is kept
pub record Cutted (n d : ℕ) (w w' : List ℕ) : Type 0 where
  pub cut : Cut n d (take 1555 w) w'
  pub front : take (cells_at d) w' ≡ take (cells_at d) w

-- The cells of all dimensions are made, and the rules kept
pub record AllCut (n : ℕ) (w w' : List ℕ) : Type 0 where
  pub cuts : (d : ℕ) → d < 6 → Cut n d (take 1555 w) w'
  pub front : take 1555 w' ≡ take 1555 w

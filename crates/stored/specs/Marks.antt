-- The lines of a text, each by a mark: what the functions that read and compare them answer. (Cited by inner functions only.)
use Rattle.std.specs.Prelude.{ℕ, suc, ◌-◌, ◌/◌, ◌%◌, ◌≤◌, ◌<◌, ◌≡◌, List, [], ◌∷◌, Bool, true, ◌&&◌, ◌||◌, cond, length, get_or, drop, ltb, leb, eqb, count_by, Some, None}
use Rattle.flows.specs.Table.{Range, Line, Table, Point, in_table}
use Rattle.flows.specs.Canonical.{low_end, high_end}
use Rattle.stored.specs.Text.{nth}
use Rattle.stored.specs.Line.{line_at, ranges}
use Rattle.stored.specs.Stored.{lines, stop}
use Rattle.stored.specs.Words.{Fits}
use Rattle.stored.specs.Groups.{row, differ_of}
use Rattle.stored.specs.declared.lines.Line as struct
use Rattle.stored.specs.declared.verdict.Gathered.{Gathered}

-- how a range stands to the one before it: 0 not above it, 1 next to it, 2 further up
unfoldable pub step_of : Range → Range → ℕ
step_of p q = cond (ltb (high_end p) (low_end q)) (cond (eqb (low_end q) (suc (high_end p))) 1 2) 0

-- the number of two lines one after the other: the first dimension in which they differ, and eight times how the ranges stand there
pub record Related (x y : Line) (r : ℕ) : Type 0 where
  pub dimension : r % 8 ≡ differ_of x y
  pub step : r / 8 ≡ step_of (nth x (differ_of x y)) (nth y (differ_of x y))
  pub small : r < 64

-- a line that ends at a place
pub record EndsAt (s : List ℕ) (e : ℕ) (l : Line) : Type 0 where
  pub from : ℕ
  pub line : struct.Line
  pub read : Some (line, e) ≡ line_at s from
  pub is : ranges line ≡ l

-- the mark of line k: 64 times the place where it ends, and the number of the line before it and this one
pub record Mark (s ms : List ℕ) (t : Table) (k : ℕ) : Type 0 where
  pub ends : EndsAt s (get_or ms k 0 / 64) (row t k)
  pub related : 0 < k → Related (row t (k - 1)) (row t k) (get_or ms k 0 % 64)

-- n marks, one for each line of a table
pub record Marked (s ms : List ℕ) (t : Table) (n : ℕ) : Type 0 where
  pub count : n ≡ length t
  pub room : n ≤ length ms
  pub fits : Fits t
  pub each : (k : ℕ) → k < n → Mark s ms t k

-- a line has a mark, and agrees with the one before it before range d
unfoldable pub marked_in : ℕ → List ℕ → ℕ → ℕ → Bool
marked_in d ms n at = ltb at n && leb d (get_or ms at 0 % 8)

-- two texts, last byte first, are the same up to as many tabs
unfoldable pub same_back : ℕ → List ℕ → List ℕ → Bool
same_back left [] ys = eqb left 0
same_back left (x ∷ xs) [] = eqb left 0
same_back left (x ∷ xs) (y ∷ ys) = cond (eqb left 0) true (eqb x y && same_back (cond (eqb x 0x09) (left - 1) left) xs ys)

-- how many bytes of a text are tabs
abbrev pub tabs_of : List ℕ → ℕ
tabs_of s = count_by (λ b. eqb b 0x09) s

-- the first n lines of a text s have marks, and the others stand from a place on; whether one of the first holds the point
pub record Gathering (s : List ℕ) (p : Point) (ms : List ℕ) (n at : ℕ) (before : struct.Line) (hit : Bool) : Type 0 where
  pub long : length ms ≡ 512
  pub few : n ≤ 512
  pub count : n ≤ length (lines s 0)
  pub each : (k : ℕ) → k < n → Mark s ms (lines s 0) k
  pub latest : 0 < n → ranges before ≡ row (lines s 0) (n - 1)
  pub others : drop n (lines s 0) ≡ lines s at
  pub stops : stop s at ≡ stop s 0
  pub holds : (hit || in_table (lines s at) p) ≡ in_table (lines s 0) p

-- and that the others are none, or the first are 512
pub record AllGathered (s : List ℕ) (p : Point) (ms : List ℕ) (r : Gathered) : Type 0 where
  pub before : struct.Line
  pub part : Gathering s p ms r.count r.stop before r.hit
  pub done : r.count < 512 → None ≡ line_at s r.stop

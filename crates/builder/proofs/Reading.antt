-- Reading the lines back out of their words.
use Prim.Native.Nat.{ℕ, zero, suc, ◌+◌, ◌*◌, ◌/◌, ◌%◌, ◌≤◌, ◌<◌}
use native.Mathlib.Omega.{arith}
use mathlib.Core.Path.{◌≡◌, refl, sym, ap, ap₂, ◌∙◌}
use mathlib.Core.List.{List, [], ◌∷◌, ◌++◌}
use lib.ListN.{length, take, drop, get_or, get_or-append}
use lib.Seq.{get_or-take, get_or-drop, get_or-append-add, get_or-set_other}
use lib.Bits.{bit_or}
use lib.Arith.{digits_div, digits_mod}
use Rattle.flows.specs.Table.{◌to◌, Line, Table, Set, table_of}
use Rattle.flows.specs.Flow.{widths}
use Rattle.builder.specs.Encoding.{column_of, base_of, factor_of, word_of, line_words, table_words, range_of, low_in, high_in, range_in, line_at}
use Rattle.builder.specs.Cells.{top_of, widths_left}
use Rattle.builder.proofs.Laid.{Fit, Fits, fit_most, line_length, put_here, put_sum, room, no_first, base_more, column_most}
use Rattle.builder.proofs.Levels.{fits_table}

-- the range of the two ends, out of the word in column c
pub range_read : (w : List ℕ) (i d c lo hi : ℕ) → c ≡ column_of d → lo ≡ low_in d (get_or w (7071 + 3 * i + c) 0) → hi ≡ high_in d (get_or w (7071 + 3 * i + c) 0) → hi < 4294967296
    → range_of (lo * 4294967296 + hi) ≡ range_in d (get_or w (line_at i d) 0)
range_read w i d c lo hi e p q h =
    ap₂ (λ (x y : ℕ). x to y) (digits_div lo h ∙ p) (digits_mod lo h ∙ q) ∙ ap (λ (y : ℕ). range_in d (get_or w (7071 + 3 * i + y) 0)) e

-- ---- a line's word has each range at its place: what stands above it is a multiple, what stands below it is smaller
record Placed (d lo hi w : ℕ) : Type 0 where
  above : ℕ
  under : ℕ
  small : under < factor_of d
  is : w ≡ ((above * base_of d + lo) * base_of d + hi) * factor_of d + under

placed_low : (d lo hi w : ℕ) → lo < base_of d → hi < base_of d → Placed d lo hi w → low_in d w ≡ lo
unfolding low_in
placed_low d lo hi w h k p =
    ap (λ (x : ℕ). x / base_of d % base_of d) (ap (λ (x : ℕ). x / factor_of d) p.is ∙ digits_div ((p.above * base_of d + lo) * base_of d + hi) p.small)
    ∙ ap (λ (x : ℕ). x % base_of d) (digits_div (p.above * base_of d + lo) k) ∙ digits_mod p.above h

placed_high : (d lo hi w : ℕ) → lo < base_of d → hi < base_of d → Placed d lo hi w → high_in d w ≡ hi
unfolding high_in
placed_high d lo hi w h k p =
    ap (λ (x : ℕ). x % base_of d) (ap (λ (x : ℕ). x / factor_of d) p.is ∙ digits_div ((p.above * base_of d + lo) * base_of d + hi) p.small)
    ∙ digits_mod (p.above * base_of d + lo) k

-- a range is added to its own word, and leaves the others
put_add : (d lo hi : ℕ) (l : Line) → d < 6 → Fit (suc d) l → get_or (line_words d (lo to hi ∷ l)) (column_of d) 0 ≡ word_of d lo hi + get_or (line_words (suc d) l) (column_of d) 0
put_add d lo hi l h f = put_here d lo hi l ∙ put_sum d lo hi (get_or (line_words (suc d) l) (column_of d) 0) (room d l h f)

put_skip : (d lo hi c : ℕ) (l : Line) → (c ≡ column_of d → ⊥) → get_or (line_words d (lo to hi ∷ l)) c 0 ≡ get_or (line_words (suc d) l) c 0
unfolding line_words
put_skip d lo hi c l n = get_or-set_other (line_words (suc d) l) (column_of d) c (bit_or (get_or (line_words (suc d) l) (column_of d) 0) (word_of d lo hi)) 0 n

-- the word of a whole line that has dimension d tells its range
module _ (l0 h0 l1 h1 l2 h2 l3 h3 l4 h4 l5 h5 : ℕ) (f : Fit 0 (l0 to h0 ∷ (l1 to h1 ∷ (l2 to h2 ∷ (l3 to h3 ∷ (l4 to h4 ∷ (l5 to h5 ∷ []))))))) where
  abbrev line3 : Line
  line3 = l3 to h3 ∷ (l4 to h4 ∷ (l5 to h5 ∷ []))

  abbrev whole : Line
  whole = l0 to h0 ∷ (l1 to h1 ∷ (l2 to h2 ∷ line3))

  word2 : get_or (line_words 2 (l2 to h2 ∷ line3)) 0 0 ≡ l2 * 256 + h2
  unfolding column_of word_of base_of factor_of
  word2 = omega (arith, put_add 2 l2 h2 line3 (omega arith) f.2.2.2, no_first 3 line3 (omega arith))

  word1 : get_or (line_words 1 (l1 to h1 ∷ (l2 to h2 ∷ line3))) 0 0 ≡ (l1 * 256 + h1) * 65536 + (l2 * 256 + h2)
  unfolding column_of word_of base_of factor_of
  word1 = omega (arith, put_add 1 l1 h1 (l2 to h2 ∷ line3) (omega arith) f.2.2, word2)

  word0 : get_or (line_words 0 whole) 0 0 ≡ (l0 * 256 + h0) * 4294967296 + ((l1 * 256 + h1) * 65536 + (l2 * 256 + h2))
  unfolding column_of word_of base_of factor_of
  word0 = omega (arith, put_add 0 l0 h0 (l1 to h1 ∷ (l2 to h2 ∷ line3)) (omega arith) f.2, word1)

  past : (c : ℕ) → (c ≡ 0 → ⊥) → get_or (line_words 0 whole) c 0 ≡ get_or (line_words 3 line3) c 0
  unfolding column_of
  past c n = put_skip 0 l0 h0 c (l1 to h1 ∷ (l2 to h2 ∷ line3)) n ∙ put_skip 1 l1 h1 c (l2 to h2 ∷ line3) n ∙ put_skip 2 l2 h2 c line3 n

  word3 : get_or (line_words 0 whole) 1 0 ≡ l3 * 4294967296 + h3
  unfolding column_of word_of base_of factor_of
  word3 = past 1 (λ e. omega arith) ∙ omega (arith, put_add 3 l3 h3 (l4 to h4 ∷ (l5 to h5 ∷ [])) (omega arith) f.2.2.2.2, room 3 (l4 to h4 ∷ (l5 to h5 ∷ [])) (omega arith) f.2.2.2.2)

  word5 : get_or (line_words 5 (l5 to h5 ∷ [])) 2 0 ≡ l5 * 65536 + h5
  unfolding column_of word_of base_of factor_of
  word5 = omega (arith, put_add 5 l5 h5 [] (omega arith) refl, room 5 [] (omega arith) refl)

  word4 : get_or (line_words 0 whole) 2 0 ≡ (l4 * 65536 + h4) * 4294967296 + (l5 * 65536 + h5)
  unfolding column_of word_of base_of factor_of
  word4 = past 2 (λ e. omega arith) ∙ put_skip 3 l3 h3 2 (l4 to h4 ∷ (l5 to h5 ∷ [])) (λ e. omega arith) ∙ omega (arith, put_add 4 l4 h4 (l5 to h5 ∷ []) (omega arith) f.2.2.2.2.2, word5)

  placed0 : Placed 0 l0 h0 (get_or (line_words 0 whole) (column_of 0) 0)
  unfolding column_of base_of factor_of top_of
  placed0 = record { above = 0; under = (l1 * 256 + h1) * 65536 + (l2 * 256 + h2); small = omega (arith, f.2.0, f.2.1, f.2.2.0, f.2.2.1); is = word0 ∙ omega arith }

  placed1 : Placed 1 l1 h1 (get_or (line_words 0 whole) (column_of 1) 0)
  unfolding column_of base_of factor_of top_of
  placed1 = record { above = l0 * 256 + h0; under = l2 * 256 + h2; small = omega (arith, f.2.2.0, f.2.2.1); is = word0 ∙ omega arith }

  placed2 : Placed 2 l2 h2 (get_or (line_words 0 whole) (column_of 2) 0)
  unfolding column_of base_of factor_of
  placed2 = record { above = (l0 * 256 + h0) * 65536 + (l1 * 256 + h1); under = 0; small = omega arith; is = word0 ∙ omega arith }

  placed3 : Placed 3 l3 h3 (get_or (line_words 0 whole) (column_of 3) 0)
  unfolding column_of base_of factor_of
  placed3 = record { above = 0; under = 0; small = omega arith; is = word3 ∙ omega arith }

  placed4 : Placed 4 l4 h4 (get_or (line_words 0 whole) (column_of 4) 0)
  unfolding column_of base_of factor_of top_of
  placed4 = record { above = 0; under = l5 * 65536 + h5; small = omega (arith, f.2.2.2.2.2.0, f.2.2.2.2.2.1); is = word4 ∙ omega arith }

  placed5 : Placed 5 l5 h5 (get_or (line_words 0 whole) (column_of 5) 0)
  unfolding column_of base_of factor_of
  placed5 = record { above = l4 * 65536 + h4; under = 0; small = omega arith; is = word4 ∙ omega arith }

  ends : (d lo hi : ℕ) → d < 6 → lo ≤ top_of d → hi ≤ top_of d → Placed d lo hi (get_or (line_words 0 whole) (column_of d) 0) → (lo to hi) ≡ range_in d (get_or (line_words 0 whole) (column_of d) 0)
  ends d lo hi h a b p =
      let w = get_or (line_words 0 whole) (column_of d) 0 in
      let m = base_more d h in
      ap₂ (λ (x y : ℕ). x to y) (sym (placed_low d lo hi w (omega arith) (omega arith) p)) (sym (placed_high d lo hi w (omega arith) (omega arith) p))

  told : (d : ℕ) → d < 6 → get_or whole d (0 to 0) ≡ range_in d (get_or (line_words 0 whole) (column_of d) 0)
  told zero h = ends 0 l0 h0 h f.0 f.1 placed0
  told (suc zero) h = ends 1 l1 h1 h f.2.0 f.2.1 placed1
  told (suc (suc zero)) h = ends 2 l2 h2 h f.2.2.0 f.2.2.1 placed2
  told (suc (suc (suc zero))) h = ends 3 l3 h3 h f.2.2.2.0 f.2.2.2.1 placed3
  told (suc (suc (suc (suc zero)))) h = ends 4 l4 h4 h f.2.2.2.2.0 f.2.2.2.2.1 placed4
  told (suc (suc (suc (suc (suc zero))))) h = ends 5 l5 h5 h f.2.2.2.2.2.0 f.2.2.2.2.2.1 placed5
  told (suc (suc (suc (suc (suc (suc d)))))) h = absurd (omega arith)

line_ends : (l : Line) (d : ℕ) → Fit 0 l → d < 6 → get_or l d (0 to 0) ≡ range_in d (get_or (line_words 0 l) (column_of d) 0)
line_ends [] d f h = absurd (omega arith)
line_ends (l0 to h0 ∷ []) d f h = absurd (omega (arith, f.2))
line_ends (l0 to h0 ∷ (l1 to h1 ∷ [])) d f h = absurd (omega (arith, f.2.2))
line_ends (l0 to h0 ∷ (l1 to h1 ∷ (l2 to h2 ∷ []))) d f h = absurd (omega (arith, f.2.2.2))
line_ends (l0 to h0 ∷ (l1 to h1 ∷ (l2 to h2 ∷ (l3 to h3 ∷ [])))) d f h = absurd (omega (arith, f.2.2.2.2))
line_ends (l0 to h0 ∷ (l1 to h1 ∷ (l2 to h2 ∷ (l3 to h3 ∷ (l4 to h4 ∷ []))))) d f h = absurd (omega (arith, f.2.2.2.2.2))
line_ends (l0 to h0 ∷ (l1 to h1 ∷ (l2 to h2 ∷ (l3 to h3 ∷ (l4 to h4 ∷ (l5 to h5 ∷ [])))))) d f h = told l0 h0 l1 h1 l2 h2 l3 h3 l4 h4 l5 h5 f d h
line_ends (l0 to h0 ∷ (l1 to h1 ∷ (l2 to h2 ∷ (l3 to h3 ∷ (l4 to h4 ∷ (l5 to h5 ∷ (l6 to h6 ∷ l))))))) d f h = absurd (omega (arith, fit_most 7 l f.2.2.2.2.2.2.2))

-- ---- line i of a table
word_in : (t : Table) (i c : ℕ) → i < length t → c < 3 → get_or (table_words 0 t) (3 * i + c) 0 ≡ get_or (line_words 0 (get_or t i [])) c 0
unfolding table_words
word_in [] i c h k = absurd (omega arith)
word_in (l ∷ t) zero c h k =
    let q : 3 * 0 + c ≡ c = omega arith in
    rw q (get_or-append (line_words 0 l) (table_words 0 t) 0 c (omega (arith, line_length 0 l)))
word_in (l ∷ t) (suc i) c h k =
    let q : 3 * suc i + c ≡ length (line_words 0 l) + (3 * i + c) = omega (arith, line_length 0 l) in
    ap (λ (j : ℕ). get_or (line_words 0 l ++ table_words 0 t) j 0) q ∙ get_or-append-add (line_words 0 l) (table_words 0 t) (3 * i + c) 0 ∙ word_in t i c (omega arith) k

fit_in : (t : Table) (i : ℕ) → Fits 0 t → i < length t → Fit 0 (get_or t i [])
fit_in [] i f h = absurd (omega arith)
fit_in (l ∷ t) zero f h = f.0
fit_in (l ∷ t) (suc i) f h = fit_in t i f.1 (omega arith)

-- THE LINES THAT `build` LEAVES, READ BACK: dimension d of line i of the table of a set
pub line_read : (S : Set) (w : List ℕ) (i d : ℕ) → i < length (table_of widths S) → d < 6 → take (3 * length (table_of widths S)) (drop 7071 w) ≡ table_words 0 (table_of widths S)
    → get_or (get_or (table_of widths S) i []) d (0 to 0) ≡ range_in d (get_or w (line_at i d) 0)
line_read S w i d h k e =
    let t = table_of widths S in
    let c = column_of d in
    let m = column_most d in
    let a : 7071 + 3 * i + c ≡ 7071 + (3 * i + c) = omega arith in
    let g : get_or w (line_at i d) 0 ≡ get_or (line_words 0 (get_or t i [])) c 0 =
    ap (λ (j : ℕ). get_or w j 0) a ∙ sym (get_or-drop 7071 w (3 * i + c) 0) ∙ sym (get_or-take (3 * length t) (drop 7071 w) (3 * i + c) 0 (omega arith)) ∙ ap (λ (l : List ℕ). get_or l (3 * i + c) 0) e ∙ word_in t i c h (omega arith) in
    line_ends (get_or t i []) d (fit_in t i (all_fit S) h) k ∙ ap (range_in d) (sym g)
  where
    all_fit : (S : Set) → Fits 0 (table_of widths S)
    all_fit S = unfold widths_left top_of in fits_table 6 S (omega arith)

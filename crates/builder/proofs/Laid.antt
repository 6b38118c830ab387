-- Lines as words: the words of a table tell its lines, and putting a run into them is putting it before the lines.
use Prim.Native.Nat.{ℕ, zero, suc, ◌+◌, ◌-◌, ◌*◌, ◌/◌, ◌%◌, ◌^◌, ◌≤◌, ◌<◌}
use native.Mathlib.Omega.{arith}
use mathlib.Core.Path.{◌≡◌, refl, sym, ap, ap₂, ◌∙◌, subst}
use mathlib.Core.Bool.{Bool, true, false, cond, ◌&&◌}
use mathlib.Core.List.{List, [], ◌∷◌, ◌++◌, append_assoc}
use Rattle.std.specs.Cmp.Lexicographic.{pointwise}
use lib.Dec.{eqb, ltb}
use lib.ListN.{length, take, drop, get_or, set, length-append, length-set, get_or-append}
use lib.Seq.{take_at, drop_at, set-append_left, get_or-set_same, get_or-set_other, ext_get_or}
use lib.Bits.{bit_or, or_shifted_r}
use lib.Arith.{digits_div, digits_mod}
use borrow.Author.Rules.{rules}
use borrow.Author.Tests.{lt-ltb, le-ltb, eq-eqb, ne_eqb, eqb-true, eqb-false}
use Rattle.flows.specs.Table.{Range, ◌to◌, Line, Table, put_before}
use Rattle.text.proofs.Tests.{by_test, and_left, and_right, clash}
use Rattle.builder.specs.Encoding.{column_of, base_of, factor_of, word_of, put_into, line_words, table_words}
use Rattle.builder.specs.Cells.{top_of}
use Rattle.builder.proofs.Words.{top_most}
use Rattle.builder.specs.Post.{same_words, stamp_n, ClosedTo, part}

-- ---- a run's word
pub top_small : (d : ℕ) → d < 3 → top_of d ≤ 255
unfolding top_of
top_small d h = rw (ne_eqb d 3 (omega arith), le-ltb 3 d (omega arith)) (by_test (eqb d 1) (λ g. rw g (omega arith)) (λ g. rw g (omega arith)))

pub top_ports : (d : ℕ) → 3 < d → top_of d ≤ 65535
unfolding top_of
top_ports d h = rw (ne_eqb d 3 (omega arith), lt-ltb 3 d h) (omega arith)

pub ruleset tops = (top_most, top_small, top_ports)

-- ---- comparing
pub same_is : (a b : List ℕ) → pointwise eqb a b ≡ same_words a b
unfolding same_words
same_is [] [] = refl
same_is [] (y ∷ b) = refl
same_is (x ∷ a) [] = refl
same_is (x ∷ a) (y ∷ b) = ap (λ (t : Bool). eqb x y && t) (same_is a b)

pub same_eq : (a b : List ℕ) → same_words a b ≡ true → a ≡ b
unfolding same_words
same_eq [] [] e = refl
same_eq [] (y ∷ b) e = clash e refl
same_eq (x ∷ a) [] e = clash e refl
same_eq (x ∷ a) (y ∷ b) e = ap₂ (λ (z : ℕ) (c : List ℕ). z ∷ c) (eqb-true x y (and_left (eqb x y) (same_words a b) e)) (same_eq a b (and_right (eqb x y) (same_words a b) e))

pub same_refl : (a : List ℕ) → same_words a a ≡ true
unfolding same_words
same_refl [] = refl
same_refl (x ∷ a) = rw (eq-eqb x x refl) (same_refl a)

-- ---- stamping, step by step
pub stamp_more : (c x e a i : ℕ) (w w₀ : List ℕ) → i < e → stamp_n c x (e - i) i w ≡ stamp_n c x (e - a) a w₀ → stamp_n c x (e - (i + 1)) (i + 1) (set w (3 * i + c) (bit_or (get_or w (3 * i + c) 0) x)) ≡ stamp_n c x (e - a) a w₀
unfolding stamp_n
stamp_more c x e a i w w₀ h s =
    let q : e - i ≡ suc (e - (i + 1)) = omega arith in
    (rw q at s)

pub stamp_end : (c x e a i : ℕ) (w w₀ : List ℕ) → e ≤ i → stamp_n c x (e - i) i w ≡ stamp_n c x (e - a) a w₀ → w ≡ stamp_n c x (e - a) a w₀
unfolding stamp_n
stamp_end c x e a i w w₀ h s =
    let q : e - i ≡ 0 = omega arith in
    (rw q at s)

pub closed_same : (a e z c x : ℕ) (w : List ℕ) (r : Bool) → r ≡ same_words (part a e w) (part e z w) → r ≡ true → ClosedTo a e z c x w w true
closed_same a e z c x w r s t = record { same = sym t ∙ s; left = refl }

pub closed_not : (a e z c x : ℕ) (w w' : List ℕ) (r : Bool) → r ≡ same_words (part a e w) (part e z w) → r ≡ false → w' ≡ stamp_n c x (e - a) a w → ClosedTo a e z c x w w' false
closed_not a e z c x w w' r s t l = record { same = sym t ∙ s; left = l }

pub close_is : (d lo hi n a c x : ℕ) (w w' : List ℕ) → c ≡ column_of d → x ≡ word_of d lo hi → w' ≡ stamp_n c x n a w → w' ≡ stamp_n (column_of d) (word_of d lo hi) n a w
close_is d lo hi n a c x w w' e f g = g ∙ ap₂ (λ (y z : ℕ). stamp_n y z n a w) e f

pub ruleset stamping = (rules, stamp_more, stamp_end, close_is, closed_same, closed_not)

-- ---- the words of lines
pub line_length : (d : ℕ) (l : Line) → length (line_words d l) ≡ 3
unfolding line_words
line_length d [] = refl
line_length d (lo to hi ∷ l) = length-set (line_words (suc d) l) (column_of d) (bit_or (get_or (line_words (suc d) l) (column_of d) 0) (word_of d lo hi)) ∙ line_length (suc d) l

pub table_length : (d : ℕ) (t : Table) → length (table_words d t) ≡ 3 * length t
unfolding table_words
table_length d [] = refl
table_length d (l ∷ t) = length-append (line_words d l) (table_words d t) ∙ omega (arith, line_length d l, table_length d t)

pub table_append : (d : ℕ) (t u : Table) → table_words d (t ++ u) ≡ table_words d t ++ table_words d u
unfolding table_words
table_append d [] u = refl
table_append d (l ∷ t) u = ap (λ (x : List ℕ). line_words d l ++ x) (table_append d t u) ∙ sym (append_assoc (line_words d l) (table_words d t) (table_words d u))

pub column_most : (d : ℕ) → column_of d ≤ 2
unfolding column_of
column_most d = by_test (ltb d 3) (λ e. rw e (omega arith)) (λ e. rw e (by_test (eqb d 3) (λ f. rw f (omega arith)) (λ f. rw f (omega arith))))

-- putting x into a word of the middle part
put_mid : (pre l post : List ℕ) (c x : ℕ) → c < length l → put_into (length pre + c) x (pre ++ (l ++ post)) ≡ pre ++ (put_into c x l ++ post)
put_mid [] l post c x h =
    let q : length {A = ℕ} [] + c ≡ c = omega arith in
    rw (q, get_or-append l post 0 c h) (set-append_left l post c (bit_or (get_or l c 0) x) h)
put_mid (y ∷ pre) l post c x h =
    let q : suc (length pre) + c ≡ suc (length pre + c) = omega arith in
    rw q (ap (λ (z : List ℕ). y ∷ z) (put_mid pre l post c x h))

pub stamp_table : (d lo hi a : ℕ) (t : Table) (pre post : List ℕ) → length pre ≡ 3 * a
    → stamp_n (column_of d) (word_of d lo hi) (length t) a (pre ++ (table_words (suc d) t ++ post)) ≡ pre ++ (table_words d (put_before (lo to hi) t) ++ post)
unfolding table_words stamp_n put_before line_words
stamp_table d lo hi a [] pre post h = refl
stamp_table d lo hi a (l ∷ t) pre post h =
    let c = column_of d in
    let x = word_of d lo hi in
    let q0 : pre ++ ((line_words (suc d) l ++ table_words (suc d) t) ++ post) ≡ pre ++ (line_words (suc d) l ++ (table_words (suc d) t ++ post)) = ap (λ (z : List ℕ). pre ++ z) (append_assoc (line_words (suc d) l) (table_words (suc d) t) post) in
    let q1 : put_into (3 * a + c) x (pre ++ (line_words (suc d) l ++ (table_words (suc d) t ++ post))) ≡ (pre ++ put_into c x (line_words (suc d) l)) ++ (table_words (suc d) t ++ post) =
    ap (λ (z : ℕ). put_into (z + c) x (pre ++ (line_words (suc d) l ++ (table_words (suc d) t ++ post)))) (sym h)
    ∙ put_mid pre (line_words (suc d) l) (table_words (suc d) t ++ post) c x (omega (arith, line_length (suc d) l, column_most d))
    ∙ sym (append_assoc pre (put_into c x (line_words (suc d) l)) (table_words (suc d) t ++ post)) in
    let ln : length (pre ++ put_into c x (line_words (suc d) l)) ≡ 3 * (a + 1) = length-append pre (put_into c x (line_words (suc d) l)) ∙ omega (arith, h, length-set (line_words (suc d) l) c (bit_or (get_or (line_words (suc d) l) c 0) x), line_length (suc d) l) in
    ap (λ (z : List ℕ). stamp_n c x (length t) (a + 1) (put_into (3 * a + c) x z)) q0
    ∙ ap (λ (z : List ℕ). stamp_n c x (length t) (a + 1) z) q1
    ∙ stamp_table d lo hi (a + 1) t (pre ++ put_into c x (line_words (suc d) l)) post ln
    ∙ append_assoc pre (put_into c x (line_words (suc d) l)) (table_words d (put_before (lo to hi) t) ++ post)
    ∙ ap (λ (z : List ℕ). pre ++ z) (sym (append_assoc (put_into c x (line_words (suc d) l)) (table_words d (put_before (lo to hi) t)) post))

-- ---- lines that fit: the ranges of the dimensions from d on, within their values
abbrev pub Fit : ℕ → Line → Type 0
Fit d [] = d ≡ 6
Fit d (lo to hi ∷ l) = (lo ≤ top_of d) × (hi ≤ top_of d) × Fit (suc d) l

abbrev pub Fits : ℕ → Table → Type 0
Fits d [] = Unit {0}
Fits d (l ∷ t) = Fit d l × Fits d t

pub fit_most : (d : ℕ) (l : Line) → Fit d l → d ≤ 6
fit_most d [] f = omega arith
fit_most d (lo to hi ∷ l) f = omega (arith, fit_most (suc d) l f.2)

-- dimensions after the third do not touch the first word, those after the fourth not the second
pub no_first : (d : ℕ) (l : Line) → 3 ≤ d → get_or (line_words d l) 0 0 ≡ 0
unfolding line_words column_of
no_first d [] h = refl
no_first d (lo to hi ∷ l) h =
    let q : (0 ≡ column_of d) → ⊥ = λ e. by_test (eqb d 3) (λ g. let z : column_of d ≡ 1 = rw (le-ltb d 3 h, g) in omega (arith, z)) (λ g. let z : column_of d ≡ 2 = rw (le-ltb d 3 h, g) in omega (arith, z)) in
    get_or-set_other (line_words (suc d) l) (column_of d) 0 (bit_or (get_or (line_words (suc d) l) (column_of d) 0) (word_of d lo hi)) 0 q ∙ no_first (suc d) l (omega arith)

no_second : (d : ℕ) (l : Line) → 4 ≤ d → get_or (line_words d l) 1 0 ≡ 0
unfolding line_words column_of
no_second d [] h = refl
no_second d (lo to hi ∷ l) h =
    let q : (1 ≡ column_of d) → ⊥ = λ e. let z : column_of d ≡ 2 = rw (le-ltb d 3 (omega arith), ne_eqb d 3 (omega arith)) in omega (arith, z) in
    get_or-set_other (line_words (suc d) l) (column_of d) 1 (bit_or (get_or (line_words (suc d) l) (column_of d) 0) (word_of d lo hi)) 0 q ∙ no_second (suc d) l (omega arith)

-- a factor is a power of two
abbrev shift_of : ℕ → ℕ
shift_of d = cond (eqb d 0) 32 (cond (eqb d 1) 16 (cond (eqb d 4) 32 0))

factor_is : (d : ℕ) → factor_of d ≡ 2 ^ shift_of d
unfolding factor_of
factor_is d = by_test (eqb d 0) (λ e. rw e) (λ e. rw e (by_test (eqb d 1) (λ f. rw f) (λ f. rw f (by_test (eqb d 4) (λ g. rw g) (λ g. rw g)))))

-- a run put into a word that has room for it is added
pub put_sum : (d lo hi g : ℕ) → g < factor_of d → bit_or g (word_of d lo hi) ≡ word_of d lo hi + g
unfolding word_of
put_sum d lo hi g h =
    let q = factor_is d in
    rw q (or_shifted_r (lo * base_of d + hi) (shift_of d) g (subst (λ (x : ℕ). g < x) q h))

pub put_here : (d lo hi : ℕ) (l : Line) → get_or (line_words d (lo to hi ∷ l)) (column_of d) 0 ≡ bit_or (get_or (line_words (suc d) l) (column_of d) 0) (word_of d lo hi)
unfolding line_words
put_here d lo hi l = get_or-set_same (line_words (suc d) l) (column_of d) (bit_or (get_or (line_words (suc d) l) (column_of d) 0) (word_of d lo hi)) 0 (omega (arith, line_length (suc d) l, column_most d))

-- what the later dimensions put into the word of dimension d stays below its factor
room_opener : (l : Line) → get_or (line_words 3 l) 0 0 < 1
room_opener l = omega (arith, no_first 3 l (omega arith))

room_protocol : (l : Line) → Fit 2 l → get_or (line_words 2 l) 0 0 < 65536
unfolding top_of
room_protocol [] f = absurd (omega arith)
room_protocol (lo to hi ∷ l) f =
    let q : get_or (line_words 2 (lo to hi ∷ l)) 0 0 ≡ word_of 2 lo hi + get_or (line_words 3 l) 0 0 = unfold column_of factor_of in put_here 2 lo hi l ∙ put_sum 2 lo hi (get_or (line_words 3 l) 0 0) (room_opener l) in
    let w : word_of 2 lo hi ≡ lo * 256 + hi = unfold word_of base_of factor_of in (omega arith) in
    omega (arith, f.0, f.1, room_opener l)

room_direction : (l : Line) → Fit 1 l → get_or (line_words 1 l) 0 0 < 4294967296
unfolding top_of
room_direction [] f = absurd (omega arith)
room_direction (lo to hi ∷ l) f =
    let q : get_or (line_words 1 (lo to hi ∷ l)) 0 0 ≡ word_of 1 lo hi + get_or (line_words 2 l) 0 0 = unfold column_of factor_of in put_here 1 lo hi l ∙ put_sum 1 lo hi (get_or (line_words 2 l) 0 0) (room_protocol l f.2) in
    let w : word_of 1 lo hi ≡ (lo * 256 + hi) * 65536 = unfold word_of base_of factor_of in (omega arith) in
    omega (arith, f.0, f.1, room_protocol l f.2)

room_address : (l : Line) → get_or (line_words 4 l) 1 0 < 1
room_address l = omega (arith, no_second 4 l (omega arith))

room_device : (l : Line) → Fit 6 l → get_or (line_words 6 l) 2 0 < 1
unfolding line_words
room_device [] f = omega arith
room_device (lo to hi ∷ l) f = absurd (omega (arith, fit_most 7 l f.2))

room_remote : (l : Line) → Fit 5 l → get_or (line_words 5 l) 2 0 < 4294967296
unfolding top_of
room_remote [] f = absurd (omega arith)
room_remote (lo to hi ∷ l) f =
    let q : get_or (line_words 5 (lo to hi ∷ l)) 2 0 ≡ word_of 5 lo hi + get_or (line_words 6 l) 2 0 = unfold column_of factor_of in put_here 5 lo hi l ∙ put_sum 5 lo hi (get_or (line_words 6 l) 2 0) (room_device l f.2) in
    let w : word_of 5 lo hi ≡ lo * 65536 + hi = unfold word_of base_of factor_of in (omega arith) in
    omega (arith, f.0, f.1, room_device l f.2)

pub room : (d : ℕ) (l : Line) → d < 6 → Fit (suc d) l → get_or (line_words (suc d) l) (column_of d) 0 < factor_of d
unfolding column_of factor_of
room zero l h f = room_direction l f
room (suc zero) l h f = room_protocol l f
room (suc (suc zero)) l h f = room_opener l
room (suc (suc (suc zero))) l h f = room_address l
room (suc (suc (suc (suc zero)))) l h f = room_remote l f
room (suc (suc (suc (suc (suc zero))))) l h f = room_device l f
room (suc (suc (suc (suc (suc (suc d)))))) l h f = absurd (omega arith)

-- ends below the base are told by their word
pub base_more : (d : ℕ) → d < 6 → top_of d < base_of d
unfolding top_of base_of
base_more zero h = omega arith
base_more (suc zero) h = omega arith
base_more (suc (suc zero)) h = omega arith
base_more (suc (suc (suc zero))) h = omega arith
base_more (suc (suc (suc (suc zero)))) h = omega arith
base_more (suc (suc (suc (suc (suc zero))))) h = omega arith
base_more (suc (suc (suc (suc (suc (suc d)))))) h = absurd (omega arith)

digits_both : (m a b r s : ℕ) → r < m → s < m → a * m + r ≡ b * m + s → (a ≡ b) × (r ≡ s)
digits_both m a b r s h k e = (sym (digits_div a h) ∙ ap (λ (x : ℕ). x / m) e ∙ digits_div b k, sym (digits_mod a h) ∙ ap (λ (x : ℕ). x % m) e ∙ digits_mod b k)

-- THE WORDS OF A LINE TELL IT
put_back : (a b : List ℕ) (c x y : ℕ) → length a ≡ 3 → length b ≡ 3 → set a c x ≡ set b c y → get_or a c 0 ≡ get_or b c 0 → a ≡ b
put_back a b c x y la lb e g = ext_get_or 0 a b (la ∙ sym lb) (λ i h. by_test (eqb i c)
    (λ q. let z = eqb-true i c q in rw z g)
    (λ q. sym (get_or-set_other a c i x 0 (eqb-false i c q)) ∙ ap (λ (l : List ℕ). get_or l i 0) e ∙ get_or-set_other b c i y 0 (eqb-false i c q)))

pub line_told : (d : ℕ) (l m : Line) → Fit d l → Fit d m → line_words d l ≡ line_words d m → l ≡ m
unfolding line_words word_of
line_told d [] [] f g e = refl
line_told d [] (lo to hi ∷ m) f g e = absurd (omega (arith, fit_most (suc d) m g.2))
line_told d (lo to hi ∷ l) [] f g e = absurd (omega (arith, fit_most (suc d) l f.2))
line_told d (lo to hi ∷ l) (lo' to hi' ∷ m) f g e =
    let h : d < 6 = omega (arith, fit_most (suc d) l f.2) in
    let a = line_words (suc d) l in
    let b = line_words (suc d) m in
    let c = column_of d in
    let ra = room d l h f.2 in
    let rb = room d m h g.2 in
    let w : word_of d lo hi + get_or a c 0 ≡ word_of d lo' hi' + get_or b c 0 =
    sym (put_here d lo hi l ∙ put_sum d lo hi (get_or a c 0) ra) ∙ ap (λ (x : List ℕ). get_or x c 0) e ∙ put_here d lo' hi' m ∙ put_sum d lo' hi' (get_or b c 0) rb in
    let two = digits_both (factor_of d) (lo * base_of d + hi) (lo' * base_of d + hi') (get_or a c 0) (get_or b c 0) ra rb w in
    let bm = base_more d h in
    let ends = digits_both (base_of d) lo lo' hi hi' (omega (arith, f.1)) (omega (arith, g.1)) two.0 in
    let t : l ≡ m = line_told (suc d) l m f.2 g.2 (put_back a b c (bit_or (get_or a c 0) (word_of d lo hi)) (bit_or (get_or b c 0) (word_of d lo' hi')) (line_length (suc d) l) (line_length (suc d) m) e two.1) in
    ap₂ (λ (r : Range) (x : Line). r ∷ x) (ap₂ (λ (x y : ℕ). x to y) ends.0 ends.1) t

pub table_told : (d : ℕ) (t u : Table) → Fits d t → Fits d u → table_words d t ≡ table_words d u → t ≡ u
unfolding table_words
table_told d [] [] f g e = refl
table_told d [] (m ∷ u) f g e = absurd (omega (arith, ap length e, table_length d (m ∷ u)))
table_told d (l ∷ t) [] f g e = absurd (omega (arith, ap length e, table_length d (l ∷ t)))
table_told d (l ∷ t) (m ∷ u) f g e =
    let p : line_words d l ≡ line_words d m = sym (take_at (line_words d l) (table_words d t) 3 (line_length d l)) ∙ ap (λ (x : List ℕ). take 3 x) e ∙ take_at (line_words d m) (table_words d u) 3 (line_length d m) in
    let q : table_words d t ≡ table_words d u = sym (drop_at (line_words d l) (table_words d t) 3 (line_length d l)) ∙ ap (λ (x : List ℕ). drop 3 x) e ∙ drop_at (line_words d m) (table_words d u) 3 (line_length d m) in
    ap₂ (λ (x : Line) (y : Table). x ∷ y) (line_told d l m f.0 g.0 p) (table_told d t u f.1 g.1 q)

-- The rules of two masks: narrowing them at a value, and what their first rule says.
use Prim.Native.Nat.{ℕ, zero, suc, ◌+◌, ◌-◌, ◌*◌, ◌/◌, ◌%◌, ◌^◌, ◌≤◌, ◌<◌, min}
use native.Mathlib.Nat.{mod-lt, zero-lt-suc, pow-succ', div-one, div-div-eq-div-mul}
use native.Mathlib.Omega.{arith}
use mathlib.Core.Path.{◌≡◌, refl, sym, ap, ap₂, ◌∙◌}
use mathlib.Core.Bool.{Bool, true, false, cond, ◌&&◌}
use mathlib.Core.List.{List, [], ◌∷◌, ◌++◌, append-nil}
use lib.Dec.{eqb}
use lib.ListN.{take, drop}
use lib.Bits.{bit_and}
use lib.Count.{count_trailing_zeros, under}
use borrow.Author.Rules.{rules}
use Rattle.flows.specs.Table.{Point, Set, Table, section, lines_of, table_of}
use Rattle.flows.specs.Rules.{Box, Rule, rule, in_all, in_box, first_match, or_drop, accepts}
use Rattle.flows.specs.Cells.{keep_if, live}
use Rattle.text.proofs.Tests.{by_test}
use Rattle.flows.proofs.Runs.{runs_gap, runs_none}
use Rattle.flows.proofs.Meaning.{same_table}
use Rattle.flows.proofs.Cells.{live_match}
use Rattle.builder.specs.Encoding.{limits_of, box_of, accepting}
use Rattle.builder.specs.Cells.{widths_left, bit_of, mask_of, accept_mask, picked, chosen, table_left, first_or, Ready}
use Rattle.builder.proofs.Masks.{bit_mod, bit_div, bit_is, and_bits, and_div, and_has}

-- ---- narrowing
live_keep : (q : Bool) (v : ℕ) (a : Bool) (ls : List (List Rattle.flows.specs.Table.Range)) (b : Box) (rs : List Rule) → live v (keep_if q (rule a (ls ∷ b)) rs) ≡ keep_if (q && in_all ls v) (rule a b) (live v rs)
unfolding live keep_if
live_keep true v a ls b rs = refl
live_keep false v a ls b rs = refl

live_append : (v : ℕ) (xs ys : List Rule) → live v (xs ++ ys) ≡ live v xs ++ live v ys
unfolding live keep_if
live_append v [] ys = refl
live_append v (rule a [] ∷ xs) ys = live_append v xs ys
live_append v (rule a (ls ∷ b) ∷ xs) ys = by_test (in_all ls v)
    (λ e. rw (e, keep_if) (ap (λ (z : List Rule). rule a b ∷ z) (live_append v xs ys)))
    (λ e. rw (e, keep_if) (live_append v xs ys))

live_picked : (k n : ℕ) (nets r : List ℕ) (m v : ℕ) → live v (picked (suc k) n nets r m) ≡ picked k n nets r (bit_and m (mask_of (5 - k) n nets r v))
unfolding picked mask_of box_of live
live_picked k zero nets r m v = refl
live_picked k (suc n) nets r m v =
    live_keep (eqb (m % 2) 1) v (accepting r) (limits_of nets r (5 - k)) (box_of nets r k) (picked (suc k) n nets (drop 21 r) (m / 2))
    ∙ ap₂ (λ (q : Bool) (rs : List Rule). keep_if q (rule (accepting r) (box_of nets r k)) rs)
    (sym (and_has m (in_all (limits_of nets r (5 - k)) v) (mask_of (5 - k) n nets (drop 21 r) v)))
    (live_picked k n nets (drop 21 r) (m / 2) v ∙ ap (λ (x : ℕ). picked k n nets (drop 21 r) x) (sym (and_div m (in_all (limits_of nets r (5 - k)) v) (mask_of (5 - k) n nets (drop 21 r) v))))

live_chosen : (k n : ℕ) (R : List ℕ) (a b v : ℕ) → live v (chosen (suc k) n R a b)
    ≡ chosen k n R (bit_and a (mask_of (5 - k) (n - (n - 64)) (take 64 R) (drop 64 R) v)) (bit_and b (mask_of (5 - k) (n - 64) (take 64 R) (drop 1408 R) v))
unfolding chosen
live_chosen k n R a b v =
    live_append v (picked (suc k) (n - (n - 64)) (take 64 R) (drop 64 R) a) (picked (suc k) (n - 64) (take 64 R) (drop 1408 R) b)
    ∙ ap₂ ◌++◌ (live_picked k (n - (n - 64)) (take 64 R) (drop 64 R) a v) (live_picked k (n - 64) (take 64 R) (drop 1408 R) b v)

-- The section of the set that rules of two masks accept, at a value of a cell with these masks
pub section_left : (k n : ℕ) (R : List ℕ) (a b x y v : ℕ) → x ≡ mask_of (5 - k) (n - (n - 64)) (take 64 R) (drop 64 R) v → y ≡ mask_of (5 - k) (n - 64) (take 64 R) (drop 1408 R) v
    → table_of (widths_left k) (section (accepts (chosen (suc k) n R a b)) v) ≡ table_left k n R (bit_and a x) (bit_and b y)
unfolding table_left section accepts
section_left k n R a b x y v e f =
    same_table (widths_left k) (section (accepts (chosen (suc k) n R a b)) v) (accepts (chosen k n R (bit_and a x) (bit_and b y)))
    (λ p h. ap or_drop (live_match (chosen (suc k) n R a b) v p ∙ ap (λ (rs : List Rule). first_match rs p) (live_chosen k n R a b v ∙ ap₂ (λ (s t : ℕ). chosen k n R (bit_and a s) (bit_and b t)) (sym e) (sym f))))

-- ---- no accepting rule
abbrev AllDrop : List Rule → Type 0
AllDrop [] = Unit {0}
AllDrop (rule a b ∷ rs) = (a ≡ false) × AllDrop rs

drop_none : (rs : List Rule) (p : Point) → AllDrop rs → accepts rs p ≡ false
unfolding accepts first_match
drop_none [] p d = refl
drop_none (rule a b ∷ rs) p d = by_test (in_box b p) (λ e. rw e d.0) (λ e. rw e (drop_none rs p d.1))

drop_append : (xs ys : List Rule) → AllDrop xs → AllDrop ys → AllDrop (xs ++ ys)
drop_append [] ys d e = e
drop_append (rule a b ∷ xs) ys d e = (d.0, drop_append xs ys d.1 e)

drop_keep : (x : ℕ) (t : Bool) (b : Box) (rs : List Rule) → x < 2 → min x (bit_of t) ≡ 0 → AllDrop rs → AllDrop (keep_if (eqb x 1) (rule t b) rs)
unfolding keep_if
drop_keep zero t b rs h e d = d
drop_keep (suc zero) true b rs h e d = absurd (omega arith)
drop_keep (suc zero) false b rs h e d = (refl, d)
drop_keep (suc (suc x)) t b rs h e d = absurd (omega arith)

drop_picked : (k n : ℕ) (nets r : List ℕ) (m : ℕ) → bit_and m (accept_mask n r) ≡ 0 → AllDrop (picked k n nets r m)
unfolding picked accept_mask
drop_picked k zero nets r m e = tt
drop_picked k (suc n) nets r m e =
    let q : bit_and (m / 2) (accept_mask n (drop 21 r)) * 2 + min (m % 2) (bit_of (accepting r)) ≡ 0 = sym (and_bits m (accepting r) (accept_mask n (drop 21 r))) ∙ e in
    drop_keep (m % 2) (accepting r) (box_of nets r k) (picked k n nets (drop 21 r) (m / 2)) (mod-lt m (zero-lt-suc 1)) (omega arith) (drop_picked k n nets (drop 21 r) (m / 2) (omega arith))

table_none : (ws : List ℕ) (S : Set) → ((p : Point) → S p ≡ false) → table_of ws S ≡ []
unfolding table_of section lines_of
table_none [] S h = rw (h [])
table_none (w ∷ ws) S h =
    ap lines_of (runs_gap w 0 0 w w (λ v. table_of ws (section S v)) (omega arith) (omega arith) (λ x a b. table_none ws (section S x) (λ p. h (x ∷ p))) ∙ runs_none w (λ v. table_of ws (section S v)))

pub none_left : (k n a b ya yb : ℕ) (R s : List ℕ) → Ready n ya yb R s → bit_and a ya ≡ 0 → bit_and b yb ≡ 0 → table_left k n R a b ≡ []
unfolding table_left chosen
none_left k n a b ya yb R s y e f =
    table_none (widths_left k) (accepts (chosen k n R a b))
    (λ p. drop_none (chosen k n R a b) p (drop_append (picked k (n - (n - 64)) (take 64 R) (drop 64 R) a) (picked k (n - 64) (take 64 R) (drop 1408 R) b)
    (drop_picked k (n - (n - 64)) (take 64 R) (drop 64 R) a (ap (λ (x : ℕ). bit_and a x) (sym y.firsts) ∙ e))
    (drop_picked k (n - 64) (take 64 R) (drop 1408 R) b (ap (λ (x : ℕ). bit_and b x) (sym y.others) ∙ f))))

-- ---- no dimension left: the first rule decides
first_empty : (n m : ℕ) → first_or n 0 m false ≡ false
unfolding first_or
first_empty zero m = refl
first_empty (suc n) m = by_test (eqb (m % 2) 1) (λ e. rw e) (λ e. rw e (first_empty n (m / 2)))

first_picked : (N n : ℕ) (nets r : List ℕ) (m : ℕ) (zs : List Rule) → n ≤ N → (n < N → zs ≡ []) → or_drop (first_match (picked 0 n nets r m ++ zs) []) ≡ first_or N (accept_mask n r) m (or_drop (first_match zs []))
unfolding picked accept_mask first_or first_match keep_if in_box box_of
first_picked zero zero nets r m zs h z = refl
first_picked (suc N) zero nets r m zs h z = rw (z (omega arith), first_match) (sym (first_empty (suc N) m))
first_picked zero (suc n) nets r m zs h z = absurd (omega arith)
first_picked (suc N) (suc n) nets r m zs h z = by_test (eqb (m % 2) 1)
    (λ e. rw (e, keep_if) (sym (ap (λ (x : ℕ). eqb x 1) (bit_mod (accepting r) (accept_mask n (drop 21 r))) ∙ bit_is (accepting r))))
    (λ e. rw (e, keep_if) (first_picked N n nets (drop 21 r) (m / 2) zs (omega arith) (λ q. z (omega arith)) ∙ ap (λ (x : ℕ). first_or N x (m / 2) (or_drop (first_match zs []))) (sym (bit_div (accepting r) (accept_mask n (drop 21 r))))))

none_more : (n : ℕ) (nets r : List ℕ) (b : ℕ) → n - (n - 64) < 64 → picked 0 (n - 64) nets r b ≡ []
unfolding picked
none_more n nets r b e = let q : n - 64 ≡ 0 = omega arith in rw q

pub leaf_left : (n a b ya yb : ℕ) (R s : List ℕ) → Ready n ya yb R s → table_left 0 n R a b ≡ cond (first_or 64 ya a (first_or 64 yb b false)) ([] ∷ []) []
unfolding table_left chosen widths_left table_of accepts first_or first_match
leaf_left n a b ya yb R s y =
    let zs = picked 0 (n - 64) (take 64 R) (drop 1408 R) b in
    let q : first_or 64 yb b false ≡ or_drop (first_match zs []) =
    ap (λ (x : ℕ). first_or 64 x b false) y.others ∙ sym (first_picked 64 (n - 64) (take 64 R) (drop 1408 R) b [] (omega (arith, y.few)) (λ e. refl)) ∙ ap (λ (rs : List Rule). or_drop (first_match rs [])) (append-nil zs) in
    let p : first_or 64 ya a (first_or 64 yb b false) ≡ or_drop (first_match (picked 0 (n - (n - 64)) (take 64 R) (drop 64 R) a ++ zs) []) =
    ap₂ (λ (x : ℕ) (z : Bool). first_or 64 x a z) y.firsts q ∙ sym (first_picked 64 (n - (n - 64)) (take 64 R) (drop 64 R) a zs (omega arith) (λ e. none_more n (take 64 R) (drop 1408 R) b e)) in
    ap (λ (t : Bool). cond t ([] ∷ []) []) (sym p)

-- ---- the first rule, by the number of zeros below the lowest bit
shift : (a t : ℕ) → a / 2 ^ suc t ≡ a / 2 / 2 ^ t
shift a t = ap (λ (x : ℕ). a / x) (pow-succ' 2 t) ∙ sym (div-div-eq-div-mul a 2 (2 ^ t))

is_digit : (n ok m d t : ℕ) (z : Bool) → d < 2 → (t < n → first_or n (ok / 2) (m / 2) z ≡ eqb (ok / 2 / 2 ^ t % 2) 1) → under d t < suc n
    → cond (eqb d 1) (eqb (ok % 2) 1) (first_or n (ok / 2) (m / 2) z) ≡ eqb (ok / 2 ^ under d t % 2) 1
is_digit n ok m zero t z l ih h = ih (omega arith) ∙ ap (λ (x : ℕ). eqb (x % 2) 1) (sym (shift ok t))
is_digit n ok m (suc zero) t z l ih h = ap (λ (x : ℕ). eqb (x % 2) 1) (sym (div-one ok))
is_digit n ok m (suc (suc d)) t z l ih h = absurd (omega arith)

pub first_is : (n ok m : ℕ) (z : Bool) → count_trailing_zeros n m < n → eqb (ok / 2 ^ count_trailing_zeros n m % 2) 1 ≡ first_or n ok m z
unfolding first_or count_trailing_zeros
first_is zero ok m z h = absurd (omega arith)
first_is (suc n) ok m z h = sym (is_digit n ok m (m % 2) (count_trailing_zeros n (m / 2)) z (mod-lt m (zero-lt-suc 1)) (λ l. sym (first_is n (ok / 2) (m / 2) z l)) h)

not_digit : (n ok m d t : ℕ) (z : Bool) → (n ≤ t → first_or n (ok / 2) (m / 2) z ≡ z) → suc n ≤ under d t → cond (eqb d 1) (eqb (ok % 2) 1) (first_or n (ok / 2) (m / 2) z) ≡ z
not_digit n ok m zero t z ih h = ih (omega arith)
not_digit n ok m (suc d) t z ih h = absurd (omega arith)

pub first_not : (n ok m : ℕ) (z : Bool) → n ≤ count_trailing_zeros n m → z ≡ first_or n ok m z
unfolding first_or count_trailing_zeros
first_not zero ok m z h = refl
first_not (suc n) ok m z h = sym (not_digit n ok m (m % 2) (count_trailing_zeros n (m / 2)) z (λ l. sym (first_not n (ok / 2) (m / 2) z l)) h)

-- one of the first 64 rules is live, or none
pub of_first : (ya a yb b : ℕ) (r : Bool) → count_trailing_zeros 64 a < 64 → r ≡ first_or 64 ya a false → r ≡ first_or 64 ya a (first_or 64 yb b false)
of_first ya a yb b r h e = e ∙ sym (first_is 64 ya a false h) ∙ first_is 64 ya a (first_or 64 yb b false) h

pub of_others : (ya a yb b : ℕ) (r : Bool) → 64 ≤ count_trailing_zeros 64 a → r ≡ first_or 64 yb b false → r ≡ first_or 64 ya a (first_or 64 yb b false)
of_others ya a yb b r h e = e ∙ first_not 64 ya a (first_or 64 yb b false) h

pub ruleset firsts = (rules, first_is, first_not, of_first, of_others)

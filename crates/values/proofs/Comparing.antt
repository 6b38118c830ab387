-- Laws of comparing strings while they are decoded: `t` is the whole's answer. Assumes nothing.
use Rattle.std.specs.List.{prefix_len}
use Rattle.std.specs.Prelude.{zip, Option, None, Some}
use Prim.Native.Nat.{ℕ, zero, suc, ◌+◌, ◌-◌, ◌^◌, ◌≤◌, ◌<◌}
use mathlib.Core.Path.{◌≡◌, refl, ap, sym, subst, ◌∙◌}
use mathlib.Core.List.{List, [], ◌∷◌, ◌++◌}
use mathlib.Core.Bool.{Bool, true, false, ◌&&◌, ◌||◌}
use native.Mathlib.Numerals.{add-one}
use native.Mathlib.Omega.{arith}
use lib.Dec.{eqb}
use lib.ListN.{length, get_or, drop, take, drop_of_length-le, length-drop}
use Rattle.std.proofs.lemmas.List.{take_all}
use lib.Seq.{drop-cons}
use mir.Syntax.{w64}
use mir.Val.{Fits}
use borrow.Author.Rules.{rules}
use borrow.Author.Tests.{eqb-true, eq-eqb, ne_eqb, lt-ltb, le-ltb}
use Rattle.text.specs.Words.{same_bytes}
use Rattle.text.proofs.Tests.{by_test, and_left, and_right}
use Rattle.text.proofs.ByteLaws.{between_low, between_high}
use Rattle.jsontext.specs.Reading.{span_at}
use Rattle.jsontext.proofs.Complete.{span_more, span_stop, span_end}
use Rattle.values.specs.declared.Piece.{Piece}
use Rattle.values.specs.declared.Piece.TheVariants.{Stop, One, Two, Three, Four}
use Rattle.values.specs.Decode.{piece_at, before, bytes_at, first_of, rest_of, is_raw, Common, Begun}
use Rattle.values.specs.Clean.{all_bytes}
use native.Mathlib.Nat.{add-zero}
use Rattle.jsontext.proofs.Sound.{split}
use Rattle.values.specs.Names.{Later, raw_in_both}
use Rattle.values.proofs.Decoding.{string_turn, piece_plain}

-- bytes that stand for themselves
or_cases : {P : Type 0} (x y : Bool) → (x || y) ≡ true → (x ≡ true → P) → (y ≡ true → P) → P
or_cases true y e f g = f refl
or_cases false y e f g = g e

raw_in : (b : ℕ) → is_raw b ≡ true → (32 ≤ b) × (b < 256) × (b ≡ 34 → ⊥) × (b ≡ 92 → ⊥)
unfolding is_raw
raw_in b e =
    or_cases _ _ e (λ q. let l = between_low 0x20 0x21 b q in let m = between_high 0x20 0x21 b q in omega arith)
    (λ f. or_cases _ _ f (λ q. let l = between_low 0x23 0x5B b q in let m = between_high 0x23 0x5B b q in omega arith)
    (λ q. let l = between_low 0x5D 0xFF b q in let m = between_high 0x5D 0xFF b q in omega arith))

raw_turn : (s : List ℕ) (i : ℕ) → is_raw (get_or s i 0) ≡ true → bytes_at s i ≡ get_or s i 0 ∷ bytes_at s (i + 1)
raw_turn s i q =
    let r = raw_in (get_or s i 0) q in
    string_turn s i ∙ ap (λ (p : Piece). before p (bytes_at s)) (sym (piece_plain s i (get_or s i 0) refl r.0 r.2 r.3 refl))

-- a text from a place on, by its first byte
drop_first : (s : List ℕ) (i x : ℕ) (xs : List ℕ) → drop i s ≡ x ∷ xs → (i < length s) × (get_or s i 0 ≡ x) × (drop (i + 1) s ≡ xs)
drop_first [] zero x xs e = absurd (let z : ◌≡◌ {A = ℕ} 0 1 = cc in omega arith)
drop_first [] (suc i) x xs e = absurd (let z : ◌≡◌ {A = ℕ} 0 1 = cc in omega arith)
drop_first (y ∷ s) zero x xs e = (omega arith, cc, cc)
drop_first (y ∷ s) (suc i) x xs e = let r = drop_first s i x xs e in let k : suc i + 1 ≡ suc (i + 1) = omega arith in (omega (arith, r.0), r.1, ap (λ (m : ℕ). drop m (y ∷ s)) k ∙ r.2)

-- what two strings, or a string and bytes, begin with in common
common_none : (s : List ℕ) (i j : ℕ) → Fits w64 i → Fits w64 j → Common s i j 0
common_none s i j f g = record { front = []; first = ap (bytes_at s) (sym (add-zero i)); second = ap (bytes_at s) (sym (add-zero j)); fits = omega arith }

begun_none : (s : List ℕ) (i : ℕ) (w : List ℕ) → Fits w64 i → Begun s i w 0
begun_none s i w f = record { first = ap (bytes_at s) (sym (add-zero i)); fits = omega arith }

raw_first : (s : List ℕ) (i x : ℕ) → get_or s i 0 ≡ x → is_raw x ≡ true → bytes_at s i ≡ x ∷ bytes_at s (i + 1)
raw_first s i x e q = raw_turn s i (ap is_raw e ∙ q) ∙ ap (λ (k : ℕ). k ∷ bytes_at s (i + 1)) e

common_on : (s : List ℕ) (i j x n : ℕ) → get_or s i 0 ≡ x → get_or s j 0 ≡ x → is_raw x ≡ true → Common s (i + 1) (j + 1) n → Common s i j (1 + n)
common_on s i j x n a b q h =
    let k : i + (1 + n) ≡ i + 1 + n = omega arith in
    let o : j + (1 + n) ≡ j + 1 + n = omega arith in
    record {
      front = x ∷ h.front;
      first = raw_first s i x a q ∙ ap (λ (z : List ℕ). x ∷ z) h.first ∙ rw k;
      second = raw_first s j x b q ∙ ap (λ (z : List ℕ). x ∷ z) h.second ∙ rw o;
      fits = omega (arith, h.fits);
    }

begun_on : (s : List ℕ) (i x y : ℕ) (w : List ℕ) (n : ℕ) → get_or s i 0 ≡ x → x ≡ y → is_raw x ≡ true → Begun s (i + 1) w n → Begun s i (y ∷ w) (1 + n)
begun_on s i x y w n a e q h =
    let k : i + (1 + n) ≡ i + 1 + n = omega arith in
    let z : 1 + n ≡ suc n = omega arith in
    record {
      first = raw_first s i x a q ∙ ap (λ (z : List ℕ). x ∷ z) h.first ∙ rw (k, z, e);
      fits = omega (arith, h.fits);
    }

prefix_on : (z : ℕ × ℕ) (zs : List (ℕ × ℕ)) → (is_raw z.0 && eqb z.0 z.1) ≡ true → prefix_len raw_in_both (z ∷ zs) ≡ 1 + prefix_len raw_in_both zs
prefix_on z zs q = rw q

prefix_off : (z : ℕ × ℕ) (zs : List (ℕ × ℕ)) → (is_raw z.0 && eqb z.0 z.1) ≡ false → prefix_len raw_in_both (z ∷ zs) ≡ 0
prefix_off z zs q = rw q

module _ (s : List ℕ) (l : length s < 2 ^ 64) where
  common_go : (xs ys : List ℕ) (i j : ℕ) → drop i s ≡ xs → drop j s ≡ ys → Fits w64 i → Fits w64 j → Common s i j (prefix_len raw_in_both (zip xs ys))
  common_go [] ys i j e f m n = common_none s i j m n
  common_go (x ∷ xs) [] i j e f m n = common_none s i j m n
  common_go (x ∷ xs) (y ∷ ys) i j e f m n =
      let a = drop_first s i x xs e in
      let b = drop_first s j y ys f in
      by_test (is_raw x && eqb x y)
      (λ q. let u : x ≡ y = eqb-true x y (and_right (is_raw x) _ q) in
      let h = common_go xs ys (i + 1) (j + 1) a.2 b.2 (omega (arith, a.0)) (omega (arith, b.0)) in
      subst (Common s i j) (sym (prefix_on (x, y) (zip xs ys) q)) (common_on s i j x _ a.1 (b.1 ∙ sym u) (and_left _ _ q) h))
      (λ q. subst (Common s i j) (sym (prefix_off (x, y) (zip xs ys) q)) (common_none s i j m n))

  begun_go : (xs w : List ℕ) (i : ℕ) → drop i s ≡ xs → Fits w64 i → Begun s i w (prefix_len raw_in_both (zip xs w))
  begun_go [] w i e m = begun_none s i w m
  begun_go (x ∷ xs) [] i e m = begun_none s i [] m
  begun_go (x ∷ xs) (y ∷ w) i e m =
      let a = drop_first s i x xs e in
      by_test (is_raw x && eqb x y)
      (λ q. let h = begun_go xs w (i + 1) a.2 (omega (arith, a.0)) in
      subst (Begun s i (y ∷ w)) (sym (prefix_on (x, y) (zip xs w) q)) (begun_on s i x y w _ a.1 (eqb-true x y (and_right (is_raw x) _ q)) (and_left _ _ q) h))
      (λ q. subst (Begun s i (y ∷ w)) (sym (prefix_off (x, y) (zip xs w) q)) (begun_none s i (y ∷ w) m))

  pub common_is : (i j : ℕ) → Fits w64 i → Fits w64 j → {a b : List ℕ} → a ≡ drop i s → b ≡ drop j s → {n : ℕ} → n ≡ prefix_len raw_in_both (zip a b) → Common s i j n
  common_is i j m n {a} {b} e f q = rw q (common_go a b i j (sym e) (sym f) m n)

  pub begun_is : (i : ℕ) (w : List ℕ) → Fits w64 i → {a : List ℕ} → a ≡ drop i s → {n : ℕ} → n ≡ prefix_len raw_in_both (zip a w) → Begun s i w n
  begun_is i w m {a} e q = rw q (begun_go a w i (sym e) m)

pub ruleset sharing = (rules, common_is, begun_is)

-- what is left of a string, byte by byte
pub first_nil : (s : List ℕ) (p : Piece) → first_of p ≡ None → before p (bytes_at s) ≡ []
first_nil s Stop e = refl
first_nil s (One a n) e = absurd (let z : ◌≡◌ {A = ℕ} 0 1 = cc in omega arith)
first_nil s (Two a b n) e = absurd (let z : ◌≡◌ {A = ℕ} 0 1 = cc in omega arith)
first_nil s (Three a b c n) e = absurd (let z : ◌≡◌ {A = ℕ} 0 1 = cc in omega arith)
first_nil s (Four a b c d n) e = absurd (let z : ◌≡◌ {A = ℕ} 0 1 = cc in omega arith)

pub first_is : (s : List ℕ) (p : Piece) (a : ℕ) → first_of p ≡ Some a → before p (bytes_at s) ≡ a ∷ before (rest_of s p) (bytes_at s)
first_is s Stop a e = absurd (let z : ◌≡◌ {A = ℕ} 0 1 = cc in omega arith)
first_is s (One x n) a e = cc (string_turn s n)
first_is s (Two x b n) a e = cc
first_is s (Three x b c n) a e = cc
first_is s (Four x b c d n) a e = cc

same_cons : (x y : ℕ) (xs ys : List ℕ) → x ≡ y → same_bytes (x ∷ xs) (y ∷ ys) ≡ same_bytes xs ys
same_cons x y xs ys e = rw (eq-eqb _ _ e)

same_not : (x y : ℕ) (xs ys : List ℕ) → (x ≡ y → ⊥) → same_bytes (x ∷ xs) (y ∷ ys) ≡ false
same_not x y xs ys f = rw (ne_eqb _ _ f)

-- a string against bytes: t is the whole's answer
same_take : (n : ℕ) (w l : List ℕ) → n ≤ length w → same_bytes (take n w ++ l) w ≡ same_bytes l (drop n w)
same_take zero w l h = refl
same_take (suc n) [] l h = absurd (omega arith)
same_take (suc n) (x ∷ w) l h = rw (eq-eqb x x refl) (same_take n w l (omega arith))

pub string_from : (s w : List ℕ) (at n : ℕ) → Begun s at w n → (p : Piece) → p ≡ piece_at s (at + n) → same_bytes (bytes_at s at) w ≡ same_bytes (before p (bytes_at s)) (take (length w - n) (drop n w))
string_from s w at n h p e =
    let l : length (drop n w) ≤ length w - n = omega (arith, length-drop n w) in
    rw (h.first, take_all (length w - n) (drop n w) l) (same_take n w (bytes_at s (at + n)) h.fits.0 ∙ rw (string_turn s (at + n), ← e))

module _ (s w : List ℕ) (p : Piece) (n : ℕ) {t : Bool} (inv : t ≡ same_bytes (before p (bytes_at s)) (drop n w)) {h : Option ℕ} (e : h ≡ first_of p) where
  pub string_short : n < length w → h ≡ None → false ≡ t
  string_short l q = sym (rw (first_nil s p (sym e ∙ q), drop-cons w n 0 l) at inv)

  pub string_end : length w ≤ n → h ≡ None → true ≡ t
  string_end l q = sym (rw (first_nil s p (sym e ∙ q), drop_of_length-le w l) at inv)

  module _ {a : ℕ} (q : h ≡ Some a) where
    pub string_long : length w ≤ n → false ≡ t
    string_long l = sym (rw (first_is s p a (sym e ∙ q), drop_of_length-le w l) at inv)

    pub string_not : n < length w → {x : ℕ} → x ≡ get_or w n 0 → (a ≡ x → ⊥) → false ≡ t
    string_not l u f = sym (rw (first_is s p a (sym e ∙ q), drop-cons w n 0 l, same_not a (get_or w n 0) _ _ (λ z. f (z ∙ sym u))) at inv)

    pub string_more : n < length w → {x : ℕ} → x ≡ get_or w n 0 → a ≡ x → {r : Piece} → r ≡ rest_of s p → t ≡ same_bytes (before r (bytes_at s)) (drop (n + 1) w)
    string_more l u v y = rw (y, add-one) (rw (first_is s p a (sym e ∙ q), drop-cons w n 0 l, same_cons a (get_or w n 0) _ _ (v ∙ u)) at inv)

pub both_less : (s : List ℕ) (p : Piece) {h : Option ℕ} → h ≡ first_of p → {a : ℕ} → h ≡ Some a → {x : Piece} → x ≡ rest_of s p → length (before x (bytes_at s)) < length (before p (bytes_at s))
both_less s p e {a} u m = rw (m, first_is s p a (sym e ∙ u)) (omega arith)

raw_run : (n : ℕ) (s : List ℕ) (i : ℕ) → length s - i ≤ n → (all_bytes (bytes_at s i) ≡ all_bytes (bytes_at s (span_at is_raw s i))) × (length (bytes_at s (span_at is_raw s i)) ≤ length (bytes_at s i))
unfolding all_bytes
raw_run zero s i l = rw (span_end is_raw s i (omega arith)) (refl, omega arith)
raw_run (suc n) s i l =
    split (length s) i
    (λ m. by_test (is_raw (get_or s i 0))
    (λ q. let r = raw_in (get_or s i 0) q in let h = raw_run n s (i + 1) (omega arith) in rw (span_more is_raw s i m q, raw_turn s i q, all_bytes, lt-ltb _ _ r.1) (h.0, omega (arith, h.1)))
    (λ q. rw (span_stop is_raw s i q) (refl, omega arith)))
    (λ m. rw (span_end is_raw s i m) (refl, omega arith))

-- every number of a string is a byte
pub all_from : (s : List ℕ) (at : ℕ) {k : ℕ} → k ≡ span_at is_raw s at → (p : Piece) → p ≡ piece_at s k → all_bytes (bytes_at s at) ≡ all_bytes (before p (bytes_at s))
all_from s at {k} f p e = (raw_run (length s) s at (omega arith)).0 ∙ rw (← f) (ap all_bytes (string_turn s k) ∙ rw (← e))

pub later_one : (s : List ℕ) (p : Piece) {a n : ℕ} → p ≡ One a n → {k : ℕ} → k ≡ span_at is_raw s n → {r : Piece} → r ≡ piece_at s k → Later s (rest_of s p) r
later_one s p {a} {n} q {k} f {r} e =
    let h = raw_run (length s) s n (omega arith) in
    let u : bytes_at s (span_at is_raw s n) ≡ before r (bytes_at s) = rw (← f) (string_turn s k ∙ rw (← e)) in
    let v : bytes_at s n ≡ before (rest_of s p) (bytes_at s) = rw q (string_turn s n) in
    record { same = ap all_bytes (sym v) ∙ h.0 ∙ ap all_bytes u; less = subst (λ (x : List ℕ). length (before r (bytes_at s)) ≤ length x) v (subst (λ (x : List ℕ). length x ≤ length (bytes_at s n)) u h.1) }

pub later_rest : (s : List ℕ) (p r : Piece) → r ≡ rest_of s p → Later s (rest_of s p) r
later_rest s p r e = record { same = rw e; less = rw e (omega arith) }

module _ (s : List ℕ) (p : Piece) {t : Bool} (inv : t ≡ all_bytes (before p (bytes_at s))) {h : Option ℕ} (e : h ≡ first_of p) where
  pub all_end : h ≡ None → true ≡ t
  unfolding all_bytes
  all_end u = sym (rw (first_nil s p (sym e ∙ u)) at inv)

  module _ {a : ℕ} (u : h ≡ Some a) where
    pub all_not : 256 ≤ a → false ≡ t
    unfolding all_bytes
    all_not l = sym (rw (first_is s p a (sym e ∙ u), all_bytes, le-ltb _ _ l) at inv)

    pub all_more : a < 256 → {x : Piece} → Later s (rest_of s p) x → t ≡ all_bytes (before x (bytes_at s))
    unfolding all_bytes
    all_more l m = rw (first_is s p a (sym e ∙ u), all_bytes, lt-ltb _ _ l) at inv ∙ m.same

pub all_less : (s : List ℕ) (p : Piece) {h : Option ℕ} → h ≡ first_of p → {a : ℕ} → h ≡ Some a → {x : Piece} → Later s (rest_of s p) x → length (before x (bytes_at s)) < length (before p (bytes_at s))
all_less s p e {a} u m = let l = m.less in rw (first_is s p a (sym e ∙ u)) (omega arith)

pub ruleset comparing = (rules, all_from, later_one, later_rest, all_end, all_not, all_more, all_less, string_from, string_short, string_end, string_long, string_not, string_more)

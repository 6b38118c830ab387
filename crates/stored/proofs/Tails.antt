-- The last fields of two lines, compared as text from the end: the same exactly where the ranges are. Assumes nothing.
use Prim.Native.Nat.{ℕ, zero, suc, ◌+◌, ◌-◌, ◌/◌, ◌%◌, ◌≤◌, ◌<◌}
use native.Mathlib.Omega.{arith}
use mathlib.Core.Path.{◌≡◌, refl, ap, ap₂, sym, ◌∙◌, subst}
use mathlib.Core.List.{List, [], ◌∷◌, ◌++◌, reverse, reverse_aux, reverse_aux-append, reverse_aux-eq, reverse-append, reverse-reverse}
use mathlib.Core.Bool.{Bool, true, false, ◌&&◌, cond, and-true, and_assoc, and_comm}
use lib.ListN.{length, take, drop, length-append, length-drop}
use lib.Seq.{take-add, take-append_seam}
use lib.Dec.{eqb, leb, ltb}
use borrow.Author.Rules.{rules}
use borrow.Author.Tests.{eq-eqb, ne_eqb, eqb-true, leb-true, leb-false, le-leb, lt-leb}
use Rattle.std.proofs.lemmas.List.{take-append-drop, nil_from_length}
use Rattle.std.proofs.lemmas.List.Sums.{sum_by-cons}
use Rattle.std.proofs.lemmas.Option.{some_pair_parts}
use Rattle.text.specs.Bytes.{between}
use Rattle.text.specs.Words.{same_bytes}
use Rattle.text.specs.Written.{decimal_by, decimal, quad}
use Rattle.text.proofs.Tests.{by_test, clash, cond_cases}
use Rattle.text.proofs.WordLaws.{same_iff}
use Rattle.flows.specs.Table.{Range, ◌to◌, Line, eq_range, eq_line}
use Rattle.flows.specs.Flow.{widths}
use Rattle.flows.specs.Canonical.{LineIn}
use Rattle.flows.proofs.Equal.{eq_range_eq, eq_range_refl}
use Rattle.stored.specs.declared.lines.Line as struct
use Rattle.stored.specs.Line.{range_at, quads_at, ranges}
use Rattle.stored.specs.Words.{range_of}
use Rattle.stored.specs.Text.{nth, range_text, address_text, line_text}
use Rattle.stored.specs.Marks.{EndsAt, same_back, tabs_of}
use Rattle.stored.proofs.ReadLines.{SoundLine, got_sound, Within}
use Rattle.stored.proofs.Spelling.{line_spelt, ReadsEnds, range_read, quads_read}

-- ## the steps of the function
no_more : (xs ys : List ℕ) → same_back 0 xs ys ≡ true
unfolding same_back
no_more [] ys = refl
no_more (x ∷ xs) [] = refl
no_more (x ∷ xs) (y ∷ ys) = refl

-- what is taken off the end of a text comes first in its reverse
parts_back : (xs p x : List ℕ) → xs ≡ p ++ x → reverse xs ≡ reverse x ++ reverse p
parts_back xs p x e = ap reverse e ∙ reverse-append p x

-- byte by byte
module _ (xs ys : List ℕ) (left : ℕ) (v : Bool) (e : v ≡ same_back left (reverse xs) (reverse ys)) where
  pub alike_end : left ≤ 0 → true ≡ v
  alike_end h = let z : left ≡ 0 = omega arith in sym (e ∙ rw z (no_more (reverse xs) (reverse ys)))

  module _ (h : 0 < left) where
    some : eqb left 0 ≡ false
    some = ne_eqb left 0 (λ q. omega arith)

    pub alike_first : length xs ≡ 0 → false ≡ v
    unfolding same_back
    alike_first q = let z : xs ≡ [] = nil_from_length xs q in sym (e ∙ rw (z, some))

    pub alike_second : length ys ≡ 0 → false ≡ v
    unfolding same_back
    alike_second q = let z : ys ≡ [] = nil_from_length ys q in go (reverse xs) (e ∙ ap (λ (t : List ℕ). same_back left (reverse xs) (reverse t)) z)
      where
        go : (us : List ℕ) → v ≡ same_back left us [] → false ≡ v
        go [] k = sym (k ∙ some)
        go (u ∷ us) k = sym (k ∙ some)

    module _ (x y : ℕ) (p q : List ℕ) (a : xs ≡ p ++ (x ∷ [])) (b : ys ≡ q ++ (y ∷ [])) where
      pub alike_other : (x ≡ y → ⊥) → false ≡ v
      unfolding same_back
      alike_other f = sym (e ∙ rw (parts_back xs p (x ∷ []) a, parts_back ys q (y ∷ []) b, some, ne_eqb x y f))

      pub alike_on : x ≡ y → (k : ℕ) → k ≡ cond (eqb x 0x09) (left - 1) left → v ≡ same_back k (reverse p) (reverse q)
      unfolding same_back
      alike_on g k u = e ∙ rw (parts_back xs p (x ∷ []) a, parts_back ys q (y ∷ []) b, some, eq-eqb x y g, ← u)

-- eight bytes at once
tabs_cons : (x : ℕ) (xs : List ℕ) → tabs_of (x ∷ xs) ≡ cond (eqb x 0x09) 1 0 + tabs_of xs
tabs_cons x xs = sum_by-cons (λ b. cond (eqb b 0x09) 1 0) x xs

tabs_back : (xs r : List ℕ) → tabs_of (reverse_aux xs r) ≡ tabs_of xs + tabs_of r
tabs_back [] r = omega arith
tabs_back (x ∷ xs) r = tabs_back xs (x ∷ r) ∙ omega (arith, tabs_cons x xs, tabs_cons x r)

chunk : (us xs ys : List ℕ) (left n : ℕ) → n ≡ tabs_of us → same_back left (us ++ xs) (us ++ ys) ≡ cond (leb left n) true (same_back (left - n) xs ys)
unfolding same_back
chunk [] xs ys left n h =
    by_test (leb left n)
    (λ e. let z : left ≡ 0 = omega (arith, h, leb-true left n e) in rw e (rw z (no_more xs ys)))
    (λ e. let z : left - n ≡ left = omega (arith, h) in rw (e, z))
chunk (u ∷ us) xs ys left n h =
    let k : n ≡ cond (eqb u 0x09) 1 0 + tabs_of us = h ∙ tabs_cons u us in
    by_test (eqb left 0)
    (λ e. let z : left ≡ 0 = eqb-true left 0 e in rw (e, le-leb left n (omega arith)))
    (λ e. by_test (eqb u 0x09)
    (λ f. let j : n ≡ 1 + tabs_of us = rw f at k in
    let a : leb (left - 1) (tabs_of us) ≡ leb left n = leb_less left (tabs_of us) n j (λ z. clash (eq-eqb left 0 z) e) in
    let b : left - 1 - tabs_of us ≡ left - n = omega arith in
    rw (e, eq-eqb u u refl, f) (chunk us xs ys (left - 1) (tabs_of us) refl ∙ rw (a, b)))
    (λ f. let j : n ≡ 0 + tabs_of us = rw f at k in rw (e, eq-eqb u u refl, f) (chunk us xs ys left n (omega arith))))
  where
    leb_less : (l m n : ℕ) → n ≡ 1 + m → (l ≡ 0 → ⊥) → leb (l - 1) m ≡ leb l n
    leb_less l m n h f =
        by_test (leb l n)
        (λ e. le-leb (l - 1) m (omega (arith, leb-true l n e)) ∙ sym e)
        (λ e. lt-leb (l - 1) m (omega (arith, leb-false l n e, f)) ∙ sym e)

module _ (xs ys : List ℕ) (left : ℕ) (v : Bool) (e : v ≡ same_back left (reverse xs) (reverse ys)) (k m : ℕ) (n : ℕ) (u : n ≡ tabs_of (drop k xs)) (q : drop k xs ≡ drop m ys) where
  both : v ≡ cond (leb left n) true (same_back (left - n) (reverse (take k xs)) (reverse (take m ys)))
  both =
      let a : reverse ys ≡ reverse (drop k xs) ++ reverse (take m ys) = parts_back ys (take m ys) (drop k xs) (sym (take-append-drop m ys) ∙ ap (λ (t : List ℕ). take m ys ++ t) (sym q)) in
      let b : n ≡ tabs_of (reverse (drop k xs)) = u ∙ (omega (arith, tabs_back (drop k xs) [])) in
      e ∙ (ap₂ (same_back left) (parts_back xs (take k xs) (drop k xs) (sym (take-append-drop k xs))) a ∙ chunk (reverse (drop k xs)) (reverse (take k xs)) (reverse (take m ys)) left n b)

  pub chunk_done : left ≤ n → true ≡ v
  chunk_done l = sym (both ∙ rw (le-leb left n l))

  pub chunk_on : n < left → v ≡ same_back (left - n) (reverse (take k xs)) (reverse (take m ys))
  chunk_on l = both ∙ rw (lt-leb left n l)

pub ruleset comparing = (rules, chunk_done, chunk_on, alike_end, alike_first, alike_second, alike_other, alike_on)

-- ## texts without tabs
abbrev NoTab : List ℕ → Type 0
NoTab [] = Unit {0}
NoTab (x ∷ xs) = (x ≡ 0x09 → ⊥) × NoTab xs

no_tab_append : (xs ys : List ℕ) → NoTab xs → NoTab ys → NoTab (xs ++ ys)
no_tab_append [] ys a b = b
no_tab_append (x ∷ xs) ys a b = (a.0, no_tab_append xs ys a.1 b)

no_tab_back : (xs r : List ℕ) → NoTab xs → NoTab r → NoTab (reverse_aux xs r)
no_tab_back [] r a b = b
no_tab_back (x ∷ xs) r a b = no_tab_back xs (x ∷ r) a.1 (a.0, b)

no_tab_digits : (f n : ℕ) → NoTab (decimal_by f n)
unfolding decimal_by
no_tab_digits zero n = tt
no_tab_digits (suc f) n =
    cond_cases NoTab (ltb n 10)
    (λ e. (λ q. omega arith, tt))
    (λ e. no_tab_append (decimal_by f (n / 10)) ((0x30 + n % 10) ∷ []) (no_tab_digits f (n / 10)) (λ q. omega arith, tt))

no_tab_decimal : (n : ℕ) → NoTab (decimal n)
unfolding decimal
no_tab_decimal n = no_tab_digits (suc n) n

no_tab_parts : (c : ℕ) (xs ys : List ℕ) → (c ≡ 0x09 → ⊥) → NoTab xs → NoTab ys → NoTab (xs ++ (c ∷ ys))
no_tab_parts c xs ys f a b = no_tab_append xs (c ∷ ys) a (f, b)

no_tab_quad : (a : ℕ) → NoTab (quad a)
unfolding quad
no_tab_quad a =
    no_tab_parts 0x2E (decimal (a / 16777216)) _ (λ q. omega arith) (no_tab_decimal (a / 16777216))
    (no_tab_parts 0x2E (decimal (a / 65536 % 256)) _ (λ q. omega arith) (no_tab_decimal (a / 65536 % 256))
    (no_tab_parts 0x2E (decimal (a / 256 % 256)) (decimal (a % 256)) (λ q. omega arith) (no_tab_decimal (a / 256 % 256)) (no_tab_decimal (a % 256))))

no_tab_range : (r : Range) → NoTab (range_text r)
unfolding range_text
no_tab_range (lo to hi) = no_tab_parts 0x2D (decimal lo) (decimal hi) (λ q. omega arith) (no_tab_decimal lo) (no_tab_decimal hi)

no_tab_address : (r : Range) → NoTab (address_text r)
unfolding address_text
no_tab_address (lo to hi) = no_tab_parts 0x2D (quad lo) (quad hi) (λ q. omega arith) (no_tab_quad lo) (no_tab_quad hi)

-- ## field by field, from the last on
more : (c : ℕ) → eqb (suc c) 0 ≡ false
more c = ne_eqb (suc c) 0 (λ q. omega arith)

field_step : (c : ℕ) (us bs xs ys : List ℕ) → NoTab us → NoTab bs → same_back (suc c) (us ++ (0x09 ∷ xs)) (bs ++ (0x09 ∷ ys)) ≡ (same_bytes us bs && same_back c xs ys)
unfolding same_back
field_step c [] [] xs ys u v = let p : suc c - 1 ≡ c = omega arith in rw (more c, p)
field_step c [] (b ∷ bs) xs ys u v = rw (more c, ne_eqb 0x09 b (λ q. v.0 (sym q)))
field_step c (a ∷ us) [] xs ys u v = rw (more c, ne_eqb a 0x09 u.0)
field_step c (a ∷ us) (b ∷ bs) xs ys u v = rw (more c, ne_eqb a 0x09 u.0, field_step c us bs xs ys u.1 v.1) (sym (and_assoc (eqb a b) (same_bytes us bs) (same_back c xs ys)))

module _ (f : Range → List ℕ) (none : (r : Range) → NoTab (f r)) (p q : Range) (told : f p ≡ f q → p ≡ q) where
  bytes_range : same_bytes (reverse (f p)) (reverse (f q)) ≡ eq_range p q
  bytes_range =
      by_test (eq_range p q)
      (λ e. let d : p ≡ q = eq_range_eq p q e in (same_iff (reverse (f p)) (reverse (f q))).1 (ap (λ (r : Range). reverse (f r)) d) ∙ sym e)
      (λ e. by_test (same_bytes (reverse (f p)) (reverse (f q)))
      (λ g. let h : reverse (f p) ≡ reverse (f q) = (same_iff (reverse (f p)) (reverse (f q))).0 g in
      let d : p ≡ q = told (sym (reverse-reverse (f p)) ∙ (ap reverse h ∙ reverse-reverse (f q))) in
      clash (subst (λ (r : Range). eq_range p r ≡ true) d (eq_range_refl p)) e)
      (λ g. g ∙ sym e))

  field : (c : ℕ) (xs ys : List ℕ) → same_back (suc c) (reverse_aux (f p) (0x09 ∷ xs)) (reverse_aux (f q) (0x09 ∷ ys)) ≡ (eq_range p q && same_back c xs ys)
  field c xs ys =
      rw (reverse_aux-eq (f p) (0x09 ∷ xs), reverse_aux-eq (f q) (0x09 ∷ ys), ← bytes_range)
      (field_step c (reverse (f p)) (reverse (f q)) xs ys (no_tab_back (f p) [] (none p) tt) (no_tab_back (f q) [] (none q) tt))

-- a range is told by its text
range_told : (max x y : ℕ) → Within max x → Within max y → range_text (range_of x) ≡ range_text (range_of y) → range_of x ≡ range_of y
unfolding between
range_told max x y h k e =
    let s : List ℕ = range_text (range_of x) ++ (0x09 ∷ []) in
    let a : ReadsEnds (range_at max 0x09 s 0) x s [] = range_read max 0x09 s 0 x [] refl h.0 h.1 refl in
    let b : ReadsEnds (range_at max 0x09 s 0) y s [] = range_read max 0x09 s 0 y [] refl k.0 k.1 (ap {B = List ℕ} (λ t. t ++ (0x09 ∷ [])) e) in
    ap range_of (some_pair_parts x y a.n b.n (sym a.is ∙ b.is)).0

address_told : (x y : ℕ) → x / 4294967296 ≤ x % 4294967296 → y / 4294967296 ≤ y % 4294967296 → address_text (range_of x) ≡ address_text (range_of y) → range_of x ≡ range_of y
unfolding between
address_told x y h k e =
    let s : List ℕ = address_text (range_of x) ++ (0x09 ∷ []) in
    let a : ReadsEnds (quads_at 0x09 s 0) x s [] = quads_read 0x09 s 0 x [] refl h refl in
    let b : ReadsEnds (quads_at 0x09 s 0) y s [] = quads_read 0x09 s 0 y [] refl k (ap {B = List ℕ} (λ t. t ++ (0x09 ∷ [])) e) in
    ap range_of (some_pair_parts x y a.n b.n (sym a.is ∙ b.is)).0

-- ## tests in the other order
abbrev and_all : List Bool → Bool
and_all [] = true
and_all (b ∷ bs) = b && and_all bs

and_back : (xs r : List Bool) → and_all (reverse_aux xs r) ≡ (and_all xs && and_all r)
and_back [] r = refl
and_back (x ∷ xs) r = and_back xs (x ∷ r) ∙ (sym (and_assoc (and_all xs) x (and_all r)) ∙ ap (λ (b : Bool). b && and_all r) (and_comm (and_all xs) x))

in_order : (xs : List Bool) → and_all (reverse xs) ≡ and_all xs
in_order xs = and_back xs [] ∙ and-true (and_all xs)

-- ## two lines
-- what stands before a line's fields, last byte first: before protocol, opener, address, remote port, device port, and the end
abbrev before1 : struct.Line → List ℕ → List ℕ
before1 l r = reverse_aux (range_text (range_of l.direction)) r

abbrev before2 : struct.Line → List ℕ → List ℕ
before2 l r = reverse_aux (range_text (range_of l.protocol)) (0x09 ∷ before1 l r)

abbrev before3 : struct.Line → List ℕ → List ℕ
before3 l r = reverse_aux (range_text (range_of l.opener)) (0x09 ∷ before2 l r)

abbrev before4 : struct.Line → List ℕ → List ℕ
before4 l r = reverse_aux (address_text (range_of l.address)) (0x09 ∷ before3 l r)

abbrev before5 : struct.Line → List ℕ → List ℕ
before5 l r = reverse_aux (range_text (range_of l.remote)) (0x09 ∷ before4 l r)

abbrev before6 : struct.Line → List ℕ → List ℕ
before6 l r = reverse_aux (range_text (range_of l.device)) (0x09 ∷ before5 l r)

line_back : (l : struct.Line) (r : List ℕ) → reverse_aux (line_text (ranges l)) r ≡ 0x0A ∷ before6 l r
unfolding line_text ranges nth
line_back l r = simp reverse_aux-append

end_step : (c : ℕ) (xs ys : List ℕ) → same_back (suc c) (0x0A ∷ xs) (0x0A ∷ ys) ≡ same_back (suc c) xs ys
unfolding same_back
end_step c xs ys = rw (more c)

module _ (x y : struct.Line) (zs ws : List ℕ) (h : LineIn widths (ranges x)) (k : LineIn widths (ranges y)) where
  device : (c : ℕ) → same_back (suc c) (before6 x zs) (before6 y ws) ≡ (eq_range (range_of x.device) (range_of y.device) && same_back c (before5 x zs) (before5 y ws))
  unfolding ranges
  device c = field range_text no_tab_range (range_of x.device) (range_of y.device) (range_told 65535 x.device y.device (h.2.2.2.2.2.0, omega (arith, h.2.2.2.2.2.1)) (k.2.2.2.2.2.0, omega (arith, k.2.2.2.2.2.1))) c (before5 x zs) (before5 y ws)

  remote : (c : ℕ) → same_back (suc c) (before5 x zs) (before5 y ws) ≡ (eq_range (range_of x.remote) (range_of y.remote) && same_back c (before4 x zs) (before4 y ws))
  unfolding ranges
  remote c = field range_text no_tab_range (range_of x.remote) (range_of y.remote) (range_told 65535 x.remote y.remote (h.2.2.2.2.0, omega (arith, h.2.2.2.2.1)) (k.2.2.2.2.0, omega (arith, k.2.2.2.2.1))) c (before4 x zs) (before4 y ws)

  address : (c : ℕ) → same_back (suc c) (before4 x zs) (before4 y ws) ≡ (eq_range (range_of x.address) (range_of y.address) && same_back c (before3 x zs) (before3 y ws))
  unfolding ranges
  address c = field address_text no_tab_address (range_of x.address) (range_of y.address) (address_told x.address y.address h.2.2.2.0 k.2.2.2.0) c (before3 x zs) (before3 y ws)

  opener : (c : ℕ) → same_back (suc c) (before3 x zs) (before3 y ws) ≡ (eq_range (range_of x.opener) (range_of y.opener) && same_back c (before2 x zs) (before2 y ws))
  unfolding ranges
  opener c = field range_text no_tab_range (range_of x.opener) (range_of y.opener) (range_told 1 x.opener y.opener (h.2.2.0, omega (arith, h.2.2.1)) (k.2.2.0, omega (arith, k.2.2.1))) c (before2 x zs) (before2 y ws)

  protocol : (c : ℕ) → same_back (suc c) (before2 x zs) (before2 y ws) ≡ (eq_range (range_of x.protocol) (range_of y.protocol) && same_back c (before1 x zs) (before1 y ws))
  unfolding ranges
  protocol c = field range_text no_tab_range (range_of x.protocol) (range_of y.protocol) (range_told 255 x.protocol y.protocol (h.2.0, omega (arith, h.2.1)) (k.2.0, omega (arith, k.2.1))) c (before1 x zs) (before1 y ws)

  lines_tails : (d : ℕ) → 0 < d → d ≤ 6 → same_back (6 - d) (0x0A ∷ before6 x zs) (0x0A ∷ before6 y ws) ≡ eq_line (drop d (ranges x)) (drop d (ranges y))
  unfolding ranges eq_line
  lines_tails zero o l = absurd (omega arith)
  lines_tails (suc zero) o l = rw (end_step, device, remote, address, opener, protocol, no_more) (in_order (eq_range (range_of x.protocol) (range_of y.protocol) ∷ (eq_range (range_of x.opener) (range_of y.opener) ∷ (eq_range (range_of x.address) (range_of y.address) ∷ (eq_range (range_of x.remote) (range_of y.remote) ∷ (eq_range (range_of x.device) (range_of y.device) ∷ []))))))
  lines_tails (suc (suc zero)) o l = rw (end_step, device, remote, address, opener, no_more) (in_order (eq_range (range_of x.opener) (range_of y.opener) ∷ (eq_range (range_of x.address) (range_of y.address) ∷ (eq_range (range_of x.remote) (range_of y.remote) ∷ (eq_range (range_of x.device) (range_of y.device) ∷ [])))))
  lines_tails (suc (suc (suc zero))) o l = rw (end_step, device, remote, address, no_more) (in_order (eq_range (range_of x.address) (range_of y.address) ∷ (eq_range (range_of x.remote) (range_of y.remote) ∷ (eq_range (range_of x.device) (range_of y.device) ∷ []))))
  lines_tails (suc (suc (suc (suc zero)))) o l = rw (end_step, device, remote, no_more) (in_order (eq_range (range_of x.remote) (range_of y.remote) ∷ (eq_range (range_of x.device) (range_of y.device) ∷ [])))
  lines_tails (suc (suc (suc (suc (suc zero))))) o l = rw (end_step, device, no_more)
  lines_tails (suc (suc (suc (suc (suc (suc zero)))))) o l = no_more (0x0A ∷ before6 x zs) (0x0A ∷ before6 y ws)
  lines_tails (suc (suc (suc (suc (suc (suc (suc d))))))) o l = absurd (omega arith)

-- the text before the end of a line, last byte first
back_of : (s : List ℕ) (e : ℕ) (l : Line) (a : EndsAt s e l) → reverse (take e s) ≡ 0x0A ∷ before6 a.line (reverse (take a.from s))
back_of s e l a =
    let t : List ℕ = line_text (ranges a.line) in
    let p : drop a.from s ≡ t ++ drop e s = line_spelt s a.from a.line e a.read in
    let m : SoundLine s a.from a.line e = got_sound s a.from a.read in
    let n : e ≡ a.from + length t = omega (arith, ap length p, length-drop a.from s, length-append t (drop e s), length-drop e s, m.within, m.further) in
    let q : take e s ≡ take a.from s ++ t =
    ap (λ (j : ℕ). take j s) n ∙ (take-add a.from (length t) s ∙ ap (λ (u : List ℕ). take a.from s ++ u) (ap (take (length t)) p ∙ take-append_seam t (drop e s))) in
    ap reverse q ∙ (reverse_aux-append (take a.from s) t [] ∙ line_back a.line (reverse (take a.from s)))

-- THE LAST FIELDS OF TWO LINES ARE THE SAME EXACTLY WHERE THEIR RANGES ARE
pub tails_same : (s : List ℕ) (d : ℕ) (l m : Line) (e f : ℕ) → 0 < d → d ≤ 6 → EndsAt s e l → EndsAt s f m → same_back (6 - d) (reverse (take e s)) (reverse (take f s)) ≡ eq_line (drop d l) (drop d m)
tails_same s d l m e f o h a b =
    rw (back_of s e l a, back_of s f m b, ← a.is, ← b.is)
    (lines_tails a.line b.line (reverse (take a.from s)) (reverse (take b.from s)) (got_sound s a.from a.read).inside (got_sound s b.from b.read).inside d o h)

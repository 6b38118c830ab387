-- Laws of the lines of a text gathered by their marks, and of the verdict. Assumes nothing.
use Prim.Native.Nat.{ℕ, zero, suc, ◌+◌, ◌-◌, ◌/◌, ◌%◌, ◌≤◌, ◌<◌}
use native.Mathlib.Numerals.{add-one}
use native.Mathlib.Omega.{arith}
use mathlib.Core.Path.{◌≡◌, refl, ap, sym, ◌∙◌}
use mathlib.Core.List.{List, [], ◌∷◌}
use mathlib.Core.Bool.{Bool, true, false, ◌&&◌, ◌||◌, or_assoc, or-false, and-true, and_assoc}
use lib.ListN.{length, get_or, take, drop, set, length-set, length-drop, drop_of_length-le}
use lib.Seq.{drop-cons, get_or-set_same, get_or-set_other}
use lib.Dec.{eqb, leb, ltb}
use borrow.Author.Rules.{rules}
use borrow.Author.Tests.{eq-eqb, ne_eqb, eqb-true, le-leb, lt-leb, ltb-true, ltb-false}
use Rattle.std.specs.Prelude.{Option, Some, None, Ok, Err}
use Rattle.std.specs.Int.Bits.{bit_or, or_zero_l}
use Rattle.std.specs.List.{fold}
use Rattle.std.proofs.lemmas.List.{take_all}
use Rattle.std.proofs.lemmas.Nat.{le_or_l, le_or_r}
use Rattle.text.specs.Bytes.{byte_at, between}
use Rattle.text.specs.Numbers.{number_at, closed_by}
use Rattle.text.proofs.Tests.{by_test, clash, and-false, and_left}
use Rattle.flows.specs.Table.{Point, Table, in_range, in_line, in_table}
use Rattle.flows.specs.Flow.{widths, is_flow}
use Rattle.flows.specs.Canonical.{canonical}
use Rattle.flows.specs.Numbers.{point_of}
use Rattle.flows.specs.declared.Numbers as numbers
use Rattle.stored.specs.declared.lines.Line as struct
use Rattle.stored.specs.declared.verdict.Gathered.{Gathered}
use Rattle.stored.specs.declared.answer.Verdict.TheVariants.{Accept, Drop}
use Rattle.stored.specs.declared.answer.Refusal.TheVariants.{NotTable, NotFlow}
use Rattle.stored.specs.Line.{pair_at, fields_at, line_at, ranges}
use Rattle.stored.specs.Stored.{lines, stop, all_zero, stored_of, verdict_of}
use Rattle.stored.specs.Words.{Fits}
use Rattle.stored.specs.Groups.{row}
use Rattle.stored.specs.Marks.{Related, Mark, Marked, Gathering, AllGathered}
use Rattle.stored.proofs.ReadLines.{SoundLine, got_sound, lines_none, lines_got, stop_none, stop_got}

-- ## gathering
-- the lines that can be read from a place on are within the widths
lines_fit : (k : ℕ) (s : List ℕ) (at : ℕ) → length s - at < k → Fits (lines s at)
lines_fit zero s at h = absurd (omega arith)
lines_fit (suc k) s at h = go (line_at s at) refl (λ n m. lines_fit k s n m)
  where
    go : (r : Option (struct.Line × ℕ)) → r ≡ line_at s at → ((n : ℕ) → length s - n < k → Fits (lines s n)) → Fits (lines s at)
    go None e f = rw (lines_none s at e) tt
    go (Some (l, n)) e f = let m : SoundLine s at l n = got_sound s at e in rw (lines_got s at e) (m.inside, f n (omega (arith, m.further, m.within)))

pub gather_start : (s : List ℕ) (p : Point) (ms : List ℕ) (x : struct.Line) → length ms ≡ 512 → Gathering s p ms 0 0 x false
gather_start s p ms x h = record {
  long = h;
  few = omega arith;
  count = omega arith;
  each = λ k l. absurd (omega arith);
  latest = λ l. absurd (omega arith);
  others = refl;
  stops = refl;
  holds = refl;
}

-- what marks before a place say stays so
mark_stays : (s ms : List ℕ) (t : Table) (n v k : ℕ) → k < n → Mark s ms t k → Mark s (set ms n v) t k
mark_stays s ms t n v k h m =
    let e : get_or (set ms n v) k 0 ≡ get_or ms k 0 = get_or-set_other ms n k v 0 (λ q. omega arith) in
    record { ends = rw e m.ends; related = rw e m.related }

module _ (s : List ℕ) (p : Point) (ms : List ℕ) (n at : ℕ) (before : struct.Line) (hit : Bool) (g : Gathering s p ms n at before hit) where
  pub gather_room : n < 512 → n < length ms
  gather_room h = omega (arith, g.long)

  pub gather_full : 512 ≤ n → AllGathered s p ms (record { count = n; stop = at; hit = hit })
  gather_full h = record { before = before; part = g; done = λ k. absurd (omega arith) }

  module _ (r : Option (struct.Line × ℕ)) (e : r ≡ line_at s at) where
    pub gather_none : r ≡ None → AllGathered s p ms (record { count = n; stop = at; hit = hit })
    gather_none q = record { before = before; part = g; done = λ k. sym q ∙ e }

    module _ {l : struct.Line} {next : ℕ} (q : r ≡ Some (l, next)) where
      got : Some (l, next) ≡ line_at s at
      got = sym q ∙ e

      pub gather_place : length s ≡ 36864 → next ≤ 36864
      gather_place h = omega (arith, (got_sound s at got).within)

      here : drop n (lines s 0) ≡ ranges l ∷ lines s next
      here = g.others ∙ lines_got s at got

      more : n < length (lines s 0)
      more = omega (arith, ap length here, length-drop n (lines s 0))

      parts : get_or (lines s 0) n [] ∷ drop (suc n) (lines s 0) ≡ ranges l ∷ lines s next
      parts = sym (drop-cons (lines s 0) n [] more) ∙ here

      this : row (lines s 0) n ≡ ranges l
      this = cc parts

      after : drop (suc n) (lines s 0) ≡ lines s next
      after = cc parts

      module _ (h : n < 512) (v : ℕ) (w : (v / 64 ≡ next) × Related (ranges before) (ranges l) (v % 64)) where
        same : get_or (set ms n v) n 0 ≡ v
        same = get_or-set_same ms n v 0 (gather_room h)

        marked : (k : ℕ) → k < n + 1 → Mark s (set ms n v) (lines s 0) k
        marked k o =
            by_test (ltb k n)
            (λ u. mark_stays s ms (lines s 0) n v k (ltb-true k n u) (g.each k (ltb-true k n u)))
            (λ u. let z : k ≡ n = omega (arith, ltb-false k n u) in
            rw z (record {
              ends = rw (same, w.0) (record { from = at; line = l; read = got; is = sym this });
              related = λ y. rw (same, this, ← g.latest y) w.1;
            }))

        pub gather_more : (z : Bool) → z ≡ in_line (ranges l) p → (y : Bool) → y ≡ (hit || z) → Gathering s p (set ms n v) (n + 1) next l y
        unfolding in_table
        gather_more z i y j =
            let o : n + 1 - 1 ≡ n = omega arith in
            record {
              long = length-set ms n v ∙ g.long;
              few = omega arith;
              count = omega (arith, more);
              each = marked;
              latest = λ u. rw o (sym this);
              others = rw (add-one n) after;
              stops = sym (stop_got s at got) ∙ g.stops;
              holds = rw (j, i) (or_assoc hit _ _ ∙ (ap {B = Bool} (λ t. hit || in_table t p) (sym (lines_got s at got)) ∙ g.holds));
            }

pub ruleset gathering = (rules, gather_start, gather_full, gather_none, gather_place, gather_more)

-- ## a flow in a line
-- named by docs/PORT.md: they stand, though no proof cites them now
module _ (l : struct.Line) (f : numbers.Numbers) (z₀ : Bool) (e₀ : z₀ ≡ in_range (l.direction / 4294967296) (l.direction % 4294967296) f.direction) where
  pub holds_0 : z₀ ≡ false → false ≡ in_line (ranges l) (point_of f)
  unfolding ranges in_line
  holds_0 u = rw (← e₀, u)

  module _ (u₀ : z₀ ≡ true) (z₁ : Bool) (e₁ : z₁ ≡ in_range (l.protocol / 4294967296) (l.protocol % 4294967296) f.protocol.0) where
    pub holds_1 : z₁ ≡ false → false ≡ in_line (ranges l) (point_of f)
    unfolding ranges in_line
    holds_1 u = rw (← e₀, u₀, ← e₁, u)

    module _ (u₁ : z₁ ≡ true) (z₂ : Bool) (e₂ : z₂ ≡ in_range (l.opener / 4294967296) (l.opener % 4294967296) f.opener) where
      pub holds_2 : z₂ ≡ false → false ≡ in_line (ranges l) (point_of f)
      unfolding ranges in_line
      holds_2 u = rw (← e₀, u₀, ← e₁, u₁, ← e₂, u)

      module _ (u₂ : z₂ ≡ true) (z₃ : Bool) (e₃ : z₃ ≡ in_range (l.address / 4294967296) (l.address % 4294967296) f.address.0) where
        pub holds_3 : z₃ ≡ false → false ≡ in_line (ranges l) (point_of f)
        unfolding ranges in_line
        holds_3 u = rw (← e₀, u₀, ← e₁, u₁, ← e₂, u₂, ← e₃, u)

        module _ (u₃ : z₃ ≡ true) (z₄ : Bool) (e₄ : z₄ ≡ in_range (l.remote / 4294967296) (l.remote % 4294967296) f.remote.0) where
          pub holds_4 : z₄ ≡ false → false ≡ in_line (ranges l) (point_of f)
          unfolding ranges in_line
          holds_4 u = rw (← e₀, u₀, ← e₁, u₁, ← e₂, u₂, ← e₃, u₃, ← e₄, u)

          module _ (u₄ : z₄ ≡ true) (z₅ : Bool) (e₅ : z₅ ≡ in_range (l.device / 4294967296) (l.device % 4294967296) f.device.0) where
            pub holds_5 : z₅ ≡ in_line (ranges l) (point_of f)
            unfolding ranges in_line
            holds_5 = rw (← e₀, u₀, ← e₁, u₁, ← e₂, u₂, ← e₃, u₃, ← e₄, u₄, ← e₅) (sym (and-true z₅))

-- ## zeros
or_zero : (a b : ℕ) → eqb (bit_or a b) 0 ≡ (eqb a 0 && eqb b 0)
or_zero a b =
    by_test (eqb (bit_or a b) 0)
    (λ e. let q : bit_or a b ≡ 0 = eqb-true (bit_or a b) 0 e in
    rw (e, eq-eqb a 0 (omega (arith, q, le_or_l a b)), eq-eqb b 0 (omega (arith, q, le_or_r a b))))
    (λ e. by_test (eqb a 0)
    (λ f. by_test (eqb b 0)
    (λ g. clash (eq-eqb (bit_or a b) 0 (rw (eqb-true a 0 f, eqb-true b 0 g, or_zero_l 0))) e)
    (λ g. rw (e, f, g)))
    (λ f. rw (e, f)))

fold_zero : (a : ℕ) (xs : List ℕ) → eqb (fold bit_or a xs) 0 ≡ (eqb a 0 && all_zero xs)
unfolding all_zero
fold_zero a [] = sym (and-true (eqb a 0))
fold_zero a (x ∷ xs) = fold_zero (bit_or a x) xs ∙ (ap (λ (b : Bool). b && all_zero xs) (or_zero a x) ∙ and_assoc (eqb a 0) (eqb x 0) (all_zero xs))

pub zeros_are : (s : List ℕ) (at r : ℕ) → r ≡ fold bit_or 0 (take (length s - at) (drop at s)) → eqb r 0 ≡ all_zero (drop at s)
zeros_are s at r e =
    let p : take (length s - at) (drop at s) ≡ drop at s = take_all (length s - at) (drop at s) (omega (arith, length-drop at s)) in
    rw (e, p) (fold_zero 0 (drop at s))

-- a block at a time: what is left of a text
zeros_apart : (n : ℕ) (xs : List ℕ) → all_zero xs ≡ (all_zero (take n xs) && all_zero (drop n xs))
unfolding all_zero
zeros_apart zero xs = refl
zeros_apart (suc n) [] = refl
zeros_apart (suc n) (x ∷ xs) = ap (λ (b : Bool). eqb x 0 && b) (zeros_apart n xs) ∙ sym (and_assoc (eqb x 0) (all_zero (take n xs)) (all_zero (drop n xs)))

pub zeros_last : {whole : Bool} (xs : List ℕ) → whole ≡ all_zero xs → {r : ℕ} → r ≡ fold bit_or 0 xs → eqb r 0 ≡ whole
zeros_last xs inv e = rw e (fold_zero 0 xs) ∙ sym inv

module _ {whole : Bool} (xs block : List ℕ) (n : ℕ) (inv : whole ≡ all_zero xs) (b : block ≡ take n xs) {r : ℕ} (e : r ≡ fold bit_or 0 block) where
  front : eqb r 0 ≡ all_zero (take n xs)
  front = rw (e, b) (fold_zero 0 (take n xs))

  pub zeros_refused : (r ≡ 0 → ⊥) → false ≡ whole
  zeros_refused k = sym (inv ∙ zeros_apart n xs ∙ ap (λ (t : Bool). t && all_zero (drop n xs)) (sym front ∙ ne_eqb r 0 k))

  pub zeros_on : r ≡ 0 → whole ≡ all_zero (drop n xs)
  zeros_on k = inv ∙ zeros_apart n xs ∙ ap (λ (t : Bool). t && all_zero (drop n xs)) (sym front ∙ eq-eqb r 0 k)

pub zeros_end : (s : List ℕ) (i : ℕ) → length s ≤ i → true ≡ all_zero (drop i s)
unfolding all_zero
zeros_end s i l = rw (drop_of_length-le s l)

-- the byte at a place of zeros is 0
pub zero_byte : (s : List ℕ) (at : ℕ) → all_zero (drop at s) ≡ true → byte_at s at ≡ 0
unfolding all_zero
zero_byte [] zero e = refl
zero_byte [] (suc at) e = refl
zero_byte (x ∷ s) zero e = eqb-true x 0 (and_left _ _ e)
zero_byte (x ∷ s) (suc at) e = zero_byte s at e

-- ## the verdict
pub zero_line : (s : List ℕ) (at : ℕ) → all_zero (drop at s) ≡ true → None ≡ line_at s at
unfolding line_at fields_at pair_at closed_by number_at between
zero_line s at e = rw (zero_byte s at e)

pub verdict_long : (s : List ℕ) (f : numbers.Numbers) → (length s ≡ 36864 → ⊥) → Err NotTable ≡ verdict_of s f
unfolding verdict_of stored_of
verdict_long s f q = rw (ne_eqb (length s) 36864 q)

module _ (s : List ℕ) (f : numbers.Numbers) (l : length s ≡ 36864) (w : List ℕ) (g : Gathered) (h : AllGathered s (point_of f) w g) where
  -- no line stands after those that have marks
  count_all : lines s g.stop ≡ [] → g.count ≡ length (lines s 0)
  count_all e = omega (arith, h.part.count, ap length (h.part.others ∙ e), length-drop g.count (lines s 0))

  module _ (z : Bool) (e : z ≡ all_zero (drop g.stop s)) where
    more_lines : (r : Option (struct.Line × ℕ)) → r ≡ line_at s g.stop → z ≡ false → stored_of s ≡ false
    unfolding stored_of
    more_lines None q u =
        let k : all_zero (drop (stop s 0) s) ≡ false = ap {B = Bool} (λ k. all_zero (drop k s)) (sym h.part.stops ∙ stop_none s g.stop q) ∙ (sym e ∙ u) in
        sym (and-false (eqb (length s) 36864) (and-false (canonical widths (lines s 0)) (and-false (leb (length (lines s 0)) 512) (sym k))))
    more_lines (Some (m, n)) q u =
        let a : g.count ≡ 512 = by_test (ltb g.count 512)
        (λ k. absurd (let y : None ≡ Some (m, n) = h.done (ltb-true g.count 512 k) ∙ sym q in let x : ◌≡◌ {A = ℕ} 0 1 = cc in omega arith))
        (λ k. omega (arith, h.part.few, ltb-false g.count 512 k)) in
        let b : length (drop g.count (lines s 0)) ≡ suc (length (lines s n)) = ap length (h.part.others ∙ lines_got s g.stop q) in
        let k : leb (length (lines s 0)) 512 ≡ false = lt-leb (length (lines s 0)) 512 (omega (arith, length-drop g.count (lines s 0))) in
        sym (and-false (eqb (length s) 36864) (and-false (canonical widths (lines s 0)) (rw k refl)))

    pub verdict_rest : z ≡ false → Err NotTable ≡ verdict_of s f
    unfolding verdict_of
    verdict_rest u = rw (more_lines (line_at s g.stop) refl (u))

    module _ (u : z ≡ true) where
      zeros : all_zero (drop g.stop s) ≡ true
      zeros = sym e ∙ u

      last : None ≡ line_at s g.stop
      last = zero_line s g.stop zeros

      end_none : lines s g.stop ≡ []
      end_none = lines_none s g.stop last

      pub verdict_marked : Marked s w (lines s 0) g.count
      verdict_marked = record {
        count = count_all end_none;
        room = omega (arith, h.part.few, h.part.long);
        fits = lines_fit (suc (length s)) s 0 (omega arith);
        each = h.part.each;
      }

      few : leb (length (lines s 0)) 512 ≡ true
      few = le-leb (length (lines s 0)) 512 (omega (arith, count_all end_none, h.part.few))

      ends : all_zero (drop (stop s 0) s) ≡ true
      ends = ap {B = Bool} (λ k. all_zero (drop k s)) (sym h.part.stops ∙ stop_none s g.stop last) ∙ zeros

      found : g.hit ≡ in_table (lines s 0) (point_of f)
      unfolding in_table
      found = sym (or-false g.hit) ∙ (ap {B = Bool} (λ t. g.hit || in_table t (point_of f)) (sym end_none) ∙ h.part.holds)

      module _ (c : Bool) (i : c ≡ canonical widths (lines s 0)) where
        pub verdict_order : c ≡ false → Err NotTable ≡ verdict_of s f
        unfolding verdict_of stored_of
        verdict_order v = rw (eq-eqb (length s) 36864 l, ← i, v)

        module _ (v : c ≡ true) (a : Bool) (b : a ≡ is_flow (point_of f)) where
          stored : stored_of s ≡ true
          unfolding stored_of
          stored = rw (eq-eqb (length s) 36864 l, ← i, v, few, ends)

          pub verdict_flow : a ≡ false → Err NotFlow ≡ verdict_of s f
          unfolding verdict_of
          verdict_flow y = rw (stored, ← b, y)

          pub verdict_accept : a ≡ true → g.hit ≡ true → Ok Accept ≡ verdict_of s f
          unfolding verdict_of
          verdict_accept y x = rw (stored, ← b, y, ← found, x)

          pub verdict_drop : a ≡ true → g.hit ≡ false → Ok Drop ≡ verdict_of s f
          unfolding verdict_of
          verdict_drop y x = rw (stored, ← b, y, ← found, x)

pub ruleset judging = (rules, zeros_are, zeros_end, verdict_long, verdict_marked, verdict_rest, verdict_order, verdict_flow, verdict_accept, verdict_drop)

-- Laws of the walk over the groups of a table's lines, by their marks. Assumes nothing.
use Prim.Native.Nat.{ℕ, zero, suc, ◌+◌, ◌-◌, ◌/◌, ◌%◌, ◌≤◌, ◌<◌}
use mathlib.Core.Path.{◌≡◌, refl, ap, sym, ◌∙◌, subst}
use mathlib.Core.List.{List, [], ◌∷◌, reverse}
use mathlib.Core.Bool.{Bool, true, false, ◌&&◌, not, and-false}
use mathlib.Core.Logic.{∥∥₁_elim}
use native.Mathlib.Numerals.{add-one}
use native.Mathlib.Omega.{arith}
use lib.ListN.{length, get_or, take, drop, drop_of_length-le}
use lib.Seq.{drop-cons, length-take-le}
use Rattle.std.proofs.lemmas.List.{get_or-take}
use lib.Dec.{eqb, leb, ltb}
use borrow.Author.Rules.{rules}
use borrow.Author.Tests.{ltb-true, ltb-false, leb-true, leb-false, lt-ltb, le-ltb, le-leb, lt-leb, not-true, not-false}
use Rattle.std.proofs.Props.{props}
use Rattle.std.specs.Prelude.{Option, Some, None, is_some}
use Rattle.std.proofs.lemmas.Option.{same_Some, none-some}
use Rattle.text.proofs.Tests.{by_test, split}
use Rattle.flows.specs.Table.{Range, ◌to◌, run, Line, Table, eq_line, eq_table}
use Rattle.flows.specs.Flow.{widths}
use Rattle.flows.specs.Canonical.{canonical, headed, rising, apart, filled, group, LineIn, AllLines, low_end, high_end}
use Rattle.stored.specs.Text.{nth}
use Rattle.stored.specs.Line.{ranges}
use Rattle.stored.specs.Words.{Fits}
use Rattle.stored.specs.Groups.{row, rows, differ_of, under, past, member_at, follow, follow_at, Next, Ended, Grouped}
use Rattle.stored.specs.Marks.{step_of, Related, Marked, marked_in, same_back}
use Rattle.stored.proofs.ReadLines.{got_sound}
use Rattle.stored.proofs.Spelling.{Read-as, as_read}
use Rattle.stored.proofs.Tails.{tails_same}
use Rattle.stored.proofs.GroupLaws.{Six, differ_self, differ_sym, alike_trans, alike_swap, nth_same, under_in, under_out, past_in, past_out, past_head, group_under, past_past}

-- ## the lines from a place on
rows_none : (w : Table) (at : ℕ) → length w ≤ at → rows w at ≡ []
rows_none w at h = drop_of_length-le w h

rows_got : (w : Table) (at : ℕ) → at < length w → rows w at ≡ row w at ∷ rows w (at + 1)
rows_got w at h = rw (add-one at) (drop-cons w at [] h)

line_six : (l : Line) → LineIn widths l → Six l
unfolding ranges
line_six l h = let r : Read-as l = as_read l h in subst Six r.is refl

all_row : (P : Line → Type 0) (w : Table) → AllLines P w → (at : ℕ) → at < length w → P (row w at)
all_row P [] a at h = absurd (omega arith)
all_row P (l ∷ w) a zero h = a.0
all_row P (l ∷ w) a (suc at) h = all_row P w a.1 at (omega arith)

all_rows : (P : Line → Type 0) (w : Table) → AllLines P w → (at : ℕ) → AllLines P (rows w at)
all_rows P w a zero = a
all_rows P [] a (suc at) = tt
all_rows P (l ∷ w) a (suc at) = all_rows P w a.1 at

six : (w : Table) → Fits w → (at : ℕ) → at < length w → Six (row w at)
six w f at h = line_six (row w at) (all_row (LineIn widths) w f at h)

sixes : (w : Table) → Fits w → (at : ℕ) → AllLines Six (rows w at)
sixes w f at = all_rows Six w (all_six w f) at
  where
    all_six : (w : Table) → Fits w → AllLines Six w
    all_six [] f = tt
    all_six (l ∷ w) f = (line_six l f.0, all_six w f.1)

self : (w : Table) → Fits w → (at d : ℕ) → at < length w → d ≤ 6 → d ≤ differ_of (row w at) (row w at)
self w f at d l h = omega (arith, differ_self (row w at), six w f at l)

-- ## the members of a group, one after the other
module _ (d : ℕ) (x : Line) (w : Table) (at : ℕ) (b : Bool) (e : b ≡ member_at d x w at) where
  member_yes : b ≡ true → (at < length w) × (d ≤ differ_of x (row w at))
  unfolding member_at
  member_yes q = let s = split (ltb at (length w)) _ (sym e ∙ q) in (ltb-true _ _ s.0, leb-true _ _ s.1)

  members_none : b ≡ false → under d x (rows w at) ≡ []
  unfolding member_at under
  members_none q =
      by_test (ltb at (length w))
      (λ l. let k : leb d (differ_of x (row w at)) ≡ false = (rw l at (sym e)) ∙ q in
      rw (rows_got w at (ltb-true _ _ l)) (under_out d x (row w at) (rows w (at + 1)) (leb-false _ _ k)))
      (λ l. rw (rows_none w at (ltb-false _ _ l)))

  past_none : b ≡ false → past d x (rows w at) ≡ rows w at
  unfolding member_at past
  past_none q =
      by_test (ltb at (length w))
      (λ l. let k : leb d (differ_of x (row w at)) ≡ false = (rw l at (sym e)) ∙ q in
      rw (rows_got w at (ltb-true _ _ l)) (past_out d x (row w at) (rows w (at + 1)) (leb-false _ _ k)))
      (λ l. rw (rows_none w at (ltb-false _ _ l)))

  members_cons : b ≡ true → under d x (rows w at) ≡ drop d (row w at) ∷ under d x (rows w (at + 1))
  members_cons q = rw (rows_got w at (member_yes q).0) (under_in d x (row w at) (rows w (at + 1)) (member_yes q).1)

-- ## what the marks tell
line_prop : (ws : List ℕ) (l : Line) → IsProp (LineIn ws l)
line_prop [] [] = hlevel props
line_prop [] (r ∷ l) = hlevel props
line_prop (w ∷ ws) [] = hlevel props
line_prop (w ∷ ws) (lo to hi ∷ l) = hlevel (props, line_prop ws l)

fits_prop : (w : Table) → IsProp (Fits w)
fits_prop [] = hlevel props
fits_prop (l ∷ w) = hlevel (props, line_prop widths l, fits_prop w)

module _ {s ms : List ℕ} {w : Table} {n : ℕ} (m : ∥ Marked s ms w n ∥₁) where
  pub count_of : n ≡ length w
  count_of = ∥∥₁_elim m (hlevel props) (λ x. x.count)

  fits_of : Fits w
  fits_of = ∥∥₁_elim m (fits_prop w) (λ x. x.fits)

  related_of : (k : ℕ) → k < n → 0 < k → Related (row w (k - 1)) (row w k) (get_or ms k 0 % 64)
  related_of k l o = ∥∥₁_elim m (hlevel props) (λ x. (x.each k l).related o)

  pub place_of : (k : ℕ) → k < n → get_or ms k 0 / 64 ≤ length s
  place_of k l = ∥∥₁_elim m (hlevel props) (λ x. let e = (x.each k l).ends in (got_sound s e.from e.read).within)

  tails_of : (d i j : ℕ) → 0 < d → d ≤ 6 → i < n → j < n → same_back (6 - d) (reverse (take (get_or ms i 0 / 64) s)) (reverse (take (get_or ms j 0 / 64) s)) ≡ eq_line (drop d (row w i)) (drop d (row w j))
  tails_of d i j o l a b = ∥∥₁_elim m (hlevel props) (λ x. tails_same s d (row w i) (row w j) (get_or ms i 0 / 64) (get_or ms j 0 / 64) o l (x.each i a).ends (x.each j b).ends)

module _ (s ms : List ℕ) (w : Table) (n : ℕ) (m : ∥ Marked s ms w n ∥₁) where
  by_marks : (d : ℕ) (x : Line) (at : ℕ) → 0 < at → d ≤ differ_of x (row w (at - 1)) → marked_in d ms n at ≡ member_at d x w at
  unfolding marked_in member_at
  by_marks d x at o h =
      by_test (ltb at n)
      (λ l. let k : at < n = ltb-true at n l in
      let r : Related (row w (at - 1)) (row w at) (get_or ms at 0 % 64) = related_of m at k o in
      let q : get_or ms at 0 % 8 ≡ differ_of (row w (at - 1)) (row w at) = omega (arith, r.dimension) in
      rw (l, lt-ltb at (length w) (omega (arith, count_of m)), q) (alike_swap d x (row w (at - 1)) (row w at) h))
      (λ l. rw (l, le-ltb at (length w) (omega (arith, count_of m, ltb-false at n l))))

-- ## two groups, line by line
pub record Pairing (w : Table) (d a b i j : ℕ) : Type 0 where
  pub order : i < j
  pub within : j < length w
  pub first : d ≤ differ_of (row w a) (row w i)
  pub second : d ≤ differ_of (row w b) (row w j)
  pub test : eq_table (under d (row w a) (rows w a)) (under d (row w b) (rows w b)) ≡ eq_table (under d (row w a) (rows w i)) (under d (row w b) (rows w j))

module _ (s ms : List ℕ) (w : Table) (n : ℕ) (m : ∥ Marked s ms w n ∥₁) (d a b : ℕ) where
  pub pair_start : a < b → b < n → d ≤ 6 → Pairing w d a b a b
  pair_start h k l = record {
    order = h;
    within = omega (arith, count_of m);
    first = self w (fits_of m) a d (omega (arith, count_of m)) l;
    second = self w (fits_of m) b d (omega (arith, count_of m)) l;
    test = refl;
  }

  module _ (i j : ℕ) (p : Pairing w d a b i j) where
    pub pair_room : (i < n) × (j < n)
    pair_room = (omega (arith, p.order, p.within, count_of m), omega (arith, p.within, count_of m))

    -- named by docs/PORT.md: they stand, though no proof cites them now
    pub pair_place_first : (x : ℕ) → x ≡ get_or ms i 0 / 64 → x ≤ length s
    pair_place_first x e = omega (arith, e, place_of m i pair_room.0)

    pub pair_place_second : (y : ℕ) → y ≡ get_or ms j 0 / 64 → y ≤ length s
    pair_place_second y e = omega (arith, e, place_of m j pair_room.1)

    module _ (x y : List ℕ) (ex : x ≡ take (get_or ms i 0 / 64) s) (ey : y ≡ take (get_or ms j 0 / 64) s) (o : 0 < d) (l : d ≤ 6) (z : Bool) (ez : z ≡ same_back (6 - d) (reverse x) (reverse y)) where
      tails : z ≡ eq_line (drop d (row w i)) (drop d (row w j))
      tails = ez ∙ rw (ex, ey) (tails_of m d i j o l (omega (arith, p.order, p.within, count_of m)) (omega (arith, p.within, count_of m)))

      both_cons : eq_table (under d (row w a) (rows w a)) (under d (row w b) (rows w b)) ≡ (z && eq_table (under d (row w a) (rows w (i + 1))) (under d (row w b) (rows w (j + 1))))
      unfolding eq_table
      both_cons =
          p.test
          ∙ rw (rows_got w i (omega (arith, p.order, p.within)), under_in d (row w a) (row w i) (rows w (i + 1)) p.first, rows_got w j p.within, under_in d (row w b) (row w j) (rows w (j + 1)) p.second, tails)

      pub pair_other : z ≡ false → false ≡ eq_table (under d (row w a) (rows w a)) (under d (row w b) (rows w b))
      pair_other q = sym (both_cons ∙ rw (q))

      module _ (q : z ≡ true) (u v : Bool) (eu : u ≡ marked_in d ms n (i + 1)) (ev : v ≡ marked_in d ms n (j + 1)) where
        on : eq_table (under d (row w a) (rows w a)) (under d (row w b) (rows w b)) ≡ eq_table (under d (row w a) (rows w (i + 1))) (under d (row w b) (rows w (j + 1)))
        on = both_cons ∙ rw (q)

        one_back : (k : ℕ) → k + 1 - 1 ≡ k
        one_back k = omega arith

        mu : u ≡ member_at d (row w a) w (i + 1)
        mu = eu ∙ by_marks s ms w n m d (row w a) (i + 1) (omega arith) (rw (one_back i) p.first)

        mv : v ≡ member_at d (row w b) w (j + 1)
        mv = ev ∙ by_marks s ms w n m d (row w b) (j + 1) (omega arith) (rw (one_back j) p.second)

        pub pair_none : u ≡ false → v ≡ false → true ≡ eq_table (under d (row w a) (rows w a)) (under d (row w b) (rows w b))
        unfolding eq_table
        pair_none g h = sym (on ∙ rw (members_none d (row w a) w (i + 1) u mu (g), members_none d (row w b) w (j + 1) v mv h))

        pub pair_short : u ≡ false → v ≡ true → false ≡ eq_table (under d (row w a) (rows w a)) (under d (row w b) (rows w b))
        unfolding eq_table
        pair_short g h = sym (on ∙ rw (members_none d (row w a) w (i + 1) u mu (g), members_cons d (row w b) w (j + 1) v mv h))

        pub pair_long : u ≡ true → v ≡ false → false ≡ eq_table (under d (row w a) (rows w a)) (under d (row w b) (rows w b))
        unfolding eq_table
        pair_long g h = sym (on ∙ rw (members_cons d (row w a) w (i + 1) u mu (g), members_none d (row w b) w (j + 1) v mv (h)))

        pub pair_on : u ≡ true → v ≡ true → Pairing w d a b (i + 1) (j + 1)
        pair_on g h = record {
          order = omega (arith, p.order);
          within = (member_yes d (row w b) w (j + 1) v mv (h)).0;
          first = (member_yes d (row w a) w (i + 1) u mu (g)).1;
          second = (member_yes d (row w b) w (j + 1) v mv (h)).1;
          test = on;
        }

pub ruleset pairing = (rules, pair_start, pair_room, pair_other, pair_none, pair_short, pair_long, pair_on)

-- ## one run after another
by_step : ℕ → Bool → Bool
by_step zero z = false
by_step (suc zero) z = not z
by_step (suc (suc k)) z = true

steps : (p q : Range) (z : Bool) → follow p q z ≡ by_step (step_of p q) z
unfolding follow step_of by_step
steps p q z =
    by_test (ltb (high_end p) (low_end q))
    (λ e. by_test (eqb (low_end q) (suc (high_end p))) (λ f. rw (e, f)) (λ f. rw (e, f)))
    (λ e. rw e)

far : (v : ℕ) (z : Bool) → (v ≡ 0 → ⊥) → (v ≡ 1 → ⊥) → by_step v z ≡ true
unfolding by_step
far zero z f g = absurd (f refl)
far (suc zero) z f g = absurd (g refl)
far (suc (suc v)) z f g = refl

module _ (s ms : List ℕ) (w : Table) (n : ℕ) (m : ∥ Marked s ms w n ∥₁) (d i k : ℕ) (x : Next d w i k) where
  how : get_or ms k 0 / 8 % 8 ≡ step_of (nth (row w i) d) (nth (row w k) d)
  how =
      let r : Related (row w (k - 1)) (row w k) (get_or ms k 0 % 64) = related_of m k (omega (arith, x.within, count_of m)) (omega (arith, x.onward)) in
      let e : differ_of (row w (k - 1)) (row w k) ≡ d = omega (arith, x.alike, x.ended) in
      let a : get_or ms k 0 / 8 % 8 ≡ get_or ms k 0 % 64 / 8 = omega arith in
      let b : nth (row w i) d ≡ nth (row w (k - 1)) d = nth_same d (row w i) (row w (k - 1)) (omega (arith, six w (fits_of m) i (omega (arith, x.onward, x.within)), x.below)) (omega (arith, six w (fits_of m) (k - 1) (omega (arith, x.onward, x.within)), x.below)) x.run in
      a ∙ (r.step ∙ rw (e, b))

  follow_is : (z : Bool) → z ≡ eq_table (under (d + 1) (row w i) (rows w i)) (under (d + 1) (row w k) (rows w k)) → follow_at d w i k ≡ by_step (get_or ms k 0 / 8 % 8) z
  unfolding follow_at
  follow_is z e = rw (how, ← add-one d, ← e) (steps (nth (row w i) d) (nth (row w k) d) z)

  pub follow_low : get_or ms k 0 / 8 % 8 ≡ 0 → false ≡ follow_at d w i k
  unfolding by_step
  follow_low q = sym (follow_is _ refl ∙ rw q)

  pub follow_apart : (get_or ms k 0 / 8 % 8 ≡ 0 → ⊥) → (get_or ms k 0 / 8 % 8 ≡ 1 → ⊥) → true ≡ follow_at d w i k
  follow_apart f g = sym (follow_is _ refl ∙ far (get_or ms k 0 / 8 % 8) _ f g)

  module _ (q : get_or ms k 0 / 8 % 8 ≡ 1) (z : Bool) (e : z ≡ eq_table (under (d + 1) (row w i) (rows w i)) (under (d + 1) (row w k) (rows w k))) where
    pub follow_same : z ≡ true → false ≡ follow_at d w i k
    unfolding by_step
    follow_same u = sym (follow_is z e ∙ rw (q, u))

    pub follow_other : z ≡ false → true ≡ follow_at d w i k
    unfolding by_step
    follow_other u = sym (follow_is z e ∙ rw (q, u))

pub ruleset following = (rules, follow_low, follow_apart, follow_same, follow_other)

-- ## what a group tells
module _ (d : ℕ) (x : Line) (w : Table) (at : ℕ) where
  ends_there : (e : ℕ) → true ≡ canonical (drop d widths) (under d x (rows w at)) → Ended d x w at e → Grouped d x w at (Some e)
  ends_there e p q = record { test = p; ended = λ k r. subst (Ended d x w at) (same_Some e k r) q }

  no_end : false ≡ canonical (drop d widths) (under d x (rows w at)) → Grouped d x w at None
  no_end p = record { test = p; ended = λ k r. absurd (none-some k r) }

-- ## a group of one line
module _ (s ms : List ℕ) (w : Table) (n : ℕ) (m : ∥ Marked s ms w n ∥₁) (at : ℕ) (h : at < n) (b : Bool) (q : b ≡ marked_in 6 ms n (at + 1)) where
  here : at < length w
  here = omega (arith, count_of m)

  none_left : drop 6 (row w at) ≡ []
  none_left = let l : length (row w at) ≤ 6 = omega (arith, six w (fits_of m) at here) in drop_of_length-le (row w at) l

  alone : 6 ≤ differ_of (row w at) (row w at)
  alone = self w (fits_of m) at 6 here (omega arith)

  back_one : at + 1 - 1 ≡ at
  back_one = omega arith

  e : b ≡ member_at 6 (row w at) w (at + 1)
  e = q ∙ by_marks s ms w n m 6 (row w at) (at + 1) (omega arith) (rw back_one alone)

  under_6 : under 6 (row w at) (rows w at) ≡ [] ∷ under 6 (row w at) (rows w (at + 1))
  under_6 = rw (rows_got w at here, under_in 6 (row w at) (row w at) (rows w (at + 1)) alone, none_left)

  pub single_alone : b ≡ false → Grouped 6 (row w at) w at (Some (at + 1))
  unfolding canonical
  single_alone u =
      ends_there 6 (row w at) w at (at + 1) (rw (under_6, members_none 6 (row w at) w (at + 1) b e u)) (record {
        rest = sym (rw (rows_got w at here, past_in 6 (row w at) (row w at) (rows w (at + 1)) alone) (past_none 6 (row w at) w (at + 1) b e u));
        further = omega arith;
        within = omega (arith, here);
        last = rw back_one alone;
      })

  pub single_twice : b ≡ true → Grouped 6 (row w at) w at None
  unfolding canonical
  single_twice u = no_end 6 (row w at) w at (rw (under_6, members_cons 6 (row w at) w (at + 1) b e u))

-- ## the runs of a group
in_nth : (ws : List ℕ) (l : Line) (d : ℕ) → LineIn ws l → d < length ws → (low_end (nth l d) ≤ high_end (nth l d)) × (high_end (nth l d) < get_or ws d 0)
unfolding nth
in_nth [] l d h k = absurd (omega arith)
in_nth (w ∷ ws) [] d h k = absurd h
in_nth (w ∷ ws) (a to b ∷ l) zero h k = (h.0, h.1)
in_nth (w ∷ ws) (a to b ∷ l) (suc d) h k = in_nth ws l d h.2 (omega arith)

-- the test of the runs from a place on
unfoldable pub runs_of : ℕ → Line → Table → ℕ → Bool
runs_of d x w i = rising (canonical (drop (suc d) widths)) (get_or widths d 0) 0 (group (under d x (rows w i)))

headed_under : (d : ℕ) (x : Line) (t : Table) → d < 6 → AllLines Six t → headed (under d x t) ≡ true
unfolding headed under
headed_under d x [] n a = refl
headed_under d x (l ∷ t) n a =
    by_test (leb d (differ_of x l))
    (λ e. rw (e, under, drop-cons l d (0 to 0) (omega (arith, a.0)), headed) (headed_under d x t n a.1))
    (λ e. rw (e, under))

canonical_runs : (d : ℕ) (x : Line) (w : Table) → Fits w → (i : ℕ) → d < 6 → canonical (drop d widths) (under d x (rows w i)) ≡ runs_of d x w i
unfolding canonical runs_of
canonical_runs d x w f i n = rw (drop-cons widths d 0 n, canonical, headed_under d x (rows w i) n (sixes w f i))

-- where the walk over the runs of a group stands: at the start of a run, with nothing wrong so far
pub record Turn (d : ℕ) (x : Line) (w : Table) (at i : ℕ) : Type 0 where
  pub line : i < length w
  pub alike : d ≤ differ_of x (row w i)
  pub test : runs_of d x w at ≡ runs_of d x w i
  pub rest : past d x (rows w at) ≡ past d x (rows w i)
  pub onward : at ≤ i
  pub below : d < 6
  pub fits : Fits w

pub turn_start : (s ms : List ℕ) (w : Table) (n : ℕ) → ∥ Marked s ms w n ∥₁ → (d at : ℕ) → d ≤ 6 → (d ≡ 6 → ⊥) → at < n → Turn d (row w at) w at at
turn_start s ms w n m d at l u h = record {
  line = omega (arith, count_of m);
  alike = self w (fits_of m) at d (omega (arith, count_of m)) l;
  test = refl;
  rest = refl;
  onward = omega arith;
  below = omega arith;
  fits = (fits_of m);
}

pub turn_room : {s ms : List ℕ} {w : Table} {n : ℕ} → ∥ Marked s ms w n ∥₁ → {d : ℕ} {x : Line} {at i : ℕ} → Turn d x w at i → i < n
turn_room m t = omega (arith, t.line, count_of m)

-- the first run from such a place
module _ (d : ℕ) (x : Line) (w : Table) (f : Fits w) (i : ℕ) (n : d < 6) (h : i < length w) (a : d ≤ differ_of x (row w i)) where
  deep : suc d ≤ differ_of (row w i) (row w i)
  deep = self w f i (suc d) h n

  own : under (suc d) (row w i) (rows w i) ≡ drop (suc d) (row w i) ∷ under (suc d) (row w i) (rows w (i + 1))
  own = rw (rows_got w i h) (under_in (suc d) (row w i) (row w i) (rows w (i + 1)) deep)

  first_run : group (under d x (rows w i)) ≡ run (low_end (nth (row w i) d)) (high_end (nth (row w i) d)) (under (suc d) (row w i) (rows w i)) ∷ group (under d x (past (suc d) (row w i) (rows w i)))
  first_run =
      rw (own, rows_got w i h, past_in (suc d) (row w i) (row w i) (rows w (i + 1)) deep)
      (group_under d x (row w i) n a (six w f i h) (row w i) (rows w (i + 1)) (six w f i h) (sixes w f (i + 1)) deep)

  rising_from : (c : Table → Bool) (m k : ℕ) → k ≤ low_end (nth (row w i) d) → rising c m k (group (under d x (rows w i))) ≡ rising c m 0 (group (under d x (rows w i)))
  unfolding rising
  rising_from c m k l = rw (first_run, le-leb k (low_end (nth (row w i) d)) l, le-leb 0 (low_end (nth (row w i) d)) (omega arith))

  rising_low : (c : Table → Bool) (m k : ℕ) → low_end (nth (row w i) d) < k → rising c m k (group (under d x (rows w i))) ≡ false
  unfolding rising
  rising_low c m k l = rw (first_run, lt-leb k (low_end (nth (row w i) d)) l)

  apart_first : (hi : ℕ) (t : Table) → apart hi t (group (under d x (rows w i))) ≡ not (eqb (low_end (nth (row w i) d)) (suc hi) && eq_table t (under (suc d) (row w i) (rows w i)))
  unfolding apart
  apart_first hi t = rw first_run

  runs_first : runs_of d x w i ≡ (canonical (drop (suc d) widths) (under (suc d) (row w i) (rows w i)) && (apart (high_end (nth (row w i) d)) (under (suc d) (row w i) (rows w i)) (group (under d x (past (suc d) (row w i) (rows w i)))) && rising (canonical (drop (suc d) widths)) (get_or widths d 0) (suc (high_end (nth (row w i) d))) (group (under d x (past (suc d) (row w i) (rows w i))))))
  unfolding runs_of rising
  runs_first =
      let r = in_nth widths (row w i) d (all_row (LineIn widths) w f i h) n in
      let g : filled (under (suc d) (row w i) (rows w i)) ≡ true = unfold filled in rw own in
      rw (first_run, le-leb 0 (low_end (nth (row w i) d)) (omega arith), le-leb (low_end (nth (row w i) d)) (high_end (nth (row w i) d)) r.0, lt-ltb (high_end (nth (row w i) d)) (get_or widths d 0) r.1, g)

module _ (d : ℕ) (x : Line) (w : Table) (at i : ℕ) (t : Turn d x w at i) (g : Option ℕ) (h : Grouped (d + 1) (row w i) w i g) where
  inner : is_some g ≡ canonical (drop (suc d) widths) (under (suc d) (row w i) (rows w i))
  inner = subst (λ j. is_some g ≡ canonical (drop j widths) (under j (row w i) (rows w i))) (add-one d) h.test

  whole : canonical (drop d widths) (under d x (rows w at)) ≡ runs_of d x w i
  whole = canonical_runs d x w t.fits at t.below ∙ t.test

  pub turn_bad : g ≡ None → Grouped d x w at None
  turn_bad u = no_end d x w at (sym (whole ∙ (runs_first d x w t.fits i t.below t.line t.alike ∙ rw (← inner, u))))

  module _ {e : ℕ} (u : g ≡ Some e) where
    run_end : Ended (d + 1) (row w i) w i e
    run_end = h.ended e u

    places : rows w e ≡ past (suc d) (row w i) (rows w i)
    places = rw (← add-one d) run_end.rest

    behind : past d x (rows w at) ≡ past d x (rows w e)
    behind = t.rest ∙ (past_past d x (row w i) t.below t.alike (six w t.fits i t.line) (rows w i) ∙ ap (past d x) (sym places))

    pub turn_further : i < e
    turn_further = run_end.further

    pub turn_within : e ≤ length w
    turn_within = run_end.within

    runs_next : runs_of d x w i ≡ (apart (high_end (nth (row w i) d)) (under (suc d) (row w i) (rows w i)) (group (under d x (rows w e))) && rising (canonical (drop (suc d) widths)) (get_or widths d 0) (suc (high_end (nth (row w i) d))) (group (under d x (rows w e))))
    runs_next = runs_first d x w t.fits i t.below t.line t.alike ∙ rw (← inner, u, places)

    pub turn_less : length w - e < length w - i
    turn_less = omega (arith, turn_further, turn_within)

    lastly : suc d ≤ differ_of (row w i) (row w (e - 1))
    lastly = omega (arith, run_end.last)

    joined : d ≤ differ_of x (row w (e - 1))
    joined = alike_trans d x (row w i) (row w (e - 1)) t.alike (omega (arith, lastly))

    module _ (s ms : List ℕ) (n : ℕ) (k : ∥ Marked s ms w n ∥₁) (b : Bool) (o : b ≡ marked_in d ms n e) where
      m : b ≡ member_at d x w e
      m = o ∙ by_marks s ms w n k d x e (omega (arith, turn_further)) joined

      pub turn_out : b ≡ false → Grouped d x w at (Some e)
      unfolding group apart rising
      turn_out v =
          ends_there d x w at e (sym (whole ∙ (runs_next ∙ rw (members_none d x w e b m v)))) (record {
            rest = sym (behind ∙ past_none d x w e b m v);
            further = omega (arith, turn_further, t.onward);
            within = turn_within;
            last = joined;
          })

      module _ (v : b ≡ true) where
        room : e < length w
        room = (member_yes d x w e b m (v)).0

        high : d ≤ differ_of x (row w e)
        high = (member_yes d x w e b m (v)).1

        apart_from : differ_of (row w i) (row w e) < suc d
        apart_from = past_head (suc d) (row w i) (row w e) (rows w i) (rows w (e + 1)) (sym places ∙ rows_got w e room)

        pub turn_next : Next d w i e
        turn_next = record {
          below = t.below;
          onward = turn_further;
          within = room;
          run = lastly;
          alike = alike_trans d (row w (e - 1)) x (row w e) (rw (differ_sym (row w (e - 1)) x) joined) high;
          ended = by_test (leb (suc d) (differ_of (row w (e - 1)) (row w e)))
              (λ q. absurd (omega (arith, apart_from, alike_trans (suc d) (row w i) (row w (e - 1)) (row w e) lastly (leb-true _ _ q))))
              (λ q. omega (arith, leb-false (suc d) (differ_of (row w (e - 1)) (row w e)) q));
        }

        module _ (z : Bool) (q : z ≡ follow_at d w i e) where
          parts : z ≡ (ltb (high_end (nth (row w i) d)) (low_end (nth (row w e) d)) && apart (high_end (nth (row w i) d)) (under (suc d) (row w i) (rows w i)) (group (under d x (rows w e))))
          unfolding follow_at follow
          parts = q ∙ rw (apart_first d x w t.fits e t.below room high (high_end (nth (row w i) d)) (under (suc d) (row w i) (rows w i)))

          pub turn_wrong : z ≡ false → Grouped d x w at None
          turn_wrong y =
              no_end d x w at (sym (whole ∙ (runs_next ∙ by_test (ltb (high_end (nth (row w i) d)) (low_end (nth (row w e) d)))
              (λ p. let r : apart (high_end (nth (row w i) d)) (under (suc d) (row w i) (rows w i)) (group (under d x (rows w e))) ≡ false = (rw p at (sym parts)) ∙ y in rw r)
              (λ p. rw (rising_low d x w t.fits e t.below room high (canonical (drop (suc d) widths)) (get_or widths d 0) (suc (high_end (nth (row w i) d))) (omega (arith, ltb-false (high_end (nth (row w i) d)) (low_end (nth (row w e) d)) p))) (and-false (apart (high_end (nth (row w i) d)) (under (suc d) (row w i) (rows w i)) (group (under d x (rows w e)))))))))

          pub turn_on : z ≡ true → Turn d x w at e
          unfolding runs_of
          turn_on y =
              let p = split (ltb (high_end (nth (row w i) d)) (low_end (nth (row w e) d))) (apart (high_end (nth (row w i) d)) (under (suc d) (row w i) (rows w i)) (group (under d x (rows w e)))) (sym parts ∙ y) in
              record {
                line = room;
                alike = high;
                test = t.test ∙ (runs_next ∙ rw p.1 (rising_from d x w t.fits e t.below room high (canonical (drop (suc d) widths)) (get_or widths d 0) (suc (high_end (nth (row w i) d))) (omega (arith, ltb-true (high_end (nth (row w i) d)) (low_end (nth (row w e) d)) p.0))));
                rest = behind;
                onward = omega (arith, turn_further, t.onward);
                below = t.below;
                fits = t.fits;
              }

pub grouped_six : (d : ℕ) (x : Line) (w : Table) (at : ℕ) (r : Option ℕ) → Grouped 6 x w at r → d ≡ 6 → Grouped d x w at r
grouped_six d x w at r h q = rw q h

-- ## the whole
-- the first marks are a table's own
pub first_marks : (s ms : List ℕ) (w : Table) (n : ℕ) → Marked s ms w n → ∥ Marked s (take n ms) w (length (take n ms)) ∥₁
first_marks s ms w n m =
    let l : length (take n ms) ≡ n = length-take-le n ms m.room in
    ∣ record {
      count = l ∙ m.count;
      room = omega arith;
      fits = m.fits;
      each = λ k h.
          let x = m.each k (omega (arith, l)) in
          let g : get_or (take n ms) k 0 ≡ get_or ms k 0 = get_or-take n ms k 0 (omega (arith, l)) in
          record { ends = rw g x.ends; related = rw g x.related };
    } ∣₁

under_all : (x : Line) (t : Table) → under 0 x t ≡ t
unfolding under
under_all x [] = refl
under_all x (l ∷ t) = rw (under, le-leb 0 (differ_of x l) (omega arith), under_all x t)

pub table_none : (s ms : List ℕ) (w : Table) (n : ℕ) → ∥ Marked s ms w n ∥₁ → n ≡ 0 → true ≡ canonical widths w
unfolding canonical headed rising group
table_none s ms w n m h = sym (ap (canonical widths) (rows_none w 0 (omega (arith, count_of m))))

pub table_is : (w : Table) (g : Option ℕ) → Grouped 0 (row w 0) w 0 g → is_some g ≡ canonical widths w
table_is w g h = h.test ∙ ap (canonical widths) (under_all (row w 0) w)

pub ruleset walking = (rules, not-true, not-false, grouped_six, single_alone, single_twice, turn_start, turn_bad, turn_out, turn_next, turn_wrong, turn_on, turn_less, turn_room, first_marks, table_none, table_is)

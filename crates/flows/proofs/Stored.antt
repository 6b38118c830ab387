-- Which lists of lines are tables of sets of flows: a test of the whole and a test of each line.
use Prim.Native.Nat.{ℕ, suc, ◌≤◌, ◌<◌}
use native.Mathlib.Nat.{zero-add}
use mathlib.Core.Path.{◌≡◌, refl, sym, ◌∙◌, subst}
use mathlib.Core.Bool.{Bool, true, ◌&&◌, ◌||◌, or-true}
use mathlib.Core.List.{List, [], ◌∷◌, ◌++◌}
use mathlib.Core.Logic.{◌↔◌, ◌⊎◌, inl, inr}
use lib.Dec.{ltb, eqb}
use native.Mathlib.Omega.{arith}
use borrow.Author.Tests.{eqb-true, lt-ltb, eq-eqb}
use Rattle.flows.specs.Table.{Point, Set, ◌to◌, Run, run, Line, Table, in_range, in_line, in_table, within, section, runs_from, put_before, lines_of, table_of}
use Rattle.flows.specs.Flow.{widths, flow_numbers, is_flow}
use Rattle.flows.specs.Canonical.{canonical, flow_ends, LineIn, AllLines, flow_line, all_lines, table_of_flows}
use Rattle.text.proofs.Tests.{by_test, and_left, and_right, both, clash, split, or_split, or_left, or_right, or_map, or_else}
use Rattle.flows.proofs.Runs.{Good, runs_good, in_lo, in_hi, in_yes}
use Rattle.flows.proofs.Meaning.{in_table_lem}
use Rattle.flows.proofs.Canonical.{canonical_own, canonical_table, All, runs_all}

-- Each range of a table's lines is one of values below its width
pub put_lines : (w : ℕ) (ws : List ℕ) (lo hi : ℕ) (t u : Table) → lo ≤ hi → hi < w → AllLines (LineIn ws) t → AllLines (LineIn (w ∷ ws)) u → AllLines (LineIn (w ∷ ws)) (put_before (lo to hi) t ++ u)
unfolding put_before
put_lines w ws lo hi [] u h k a b = b
put_lines w ws lo hi (l ∷ t) u h k a b = ((h, k, a.0), put_lines w ws lo hi t u h k a.1 b)

pub lines_in_lem : (w n : ℕ) (ws : List ℕ) (rs : List Run) → Good w n rs → All (AllLines (LineIn ws)) rs → AllLines (LineIn (w ∷ ws)) (lines_of rs)
unfolding lines_of
lines_in_lem w n ws [] g a = tt
lines_in_lem w n ws (run lo hi t ∷ rs) g a = put_lines w ws lo hi t (lines_of rs) g.1 g.2 a.0 (lines_in_lem w (suc hi) ws rs g.5 a.1)

pub table_lines : (ws : List ℕ) (S : Set) → AllLines (LineIn ws) (table_of ws S)
unfolding table_of
table_lines [] S = by_test (S []) (λ e. rw e (tt, tt)) (λ e. rw e tt)
table_lines (w ∷ ws) S =
    lines_in_lem w 0 ws (runs_from w 0 (λ v. table_of ws (section S v))) (runs_good w 0 w (λ v. table_of ws (section S v)) (zero-add w))
    (runs_all (AllLines (LineIn ws)) w 0 (λ v. table_of ws (section S v)) (λ x. table_lines ws (section S x)))

pub line_within : (ws : List ℕ) (l : Line) (p : Point) → LineIn ws l → in_line l p ≡ true → within ws p ≡ true
unfolding in_line within
line_within [] [] [] h e = refl
line_within [] [] (x ∷ p) h e = e
line_within [] (r ∷ l) p h e = absurd h
line_within (w ∷ ws) [] p h e = absurd h
line_within (w ∷ ws) (lo to hi ∷ l) [] h e = e
line_within (w ∷ ws) (lo to hi ∷ l) (x ∷ p) h e =
    let s = split (in_range lo hi x) (in_line l p) e in
    both (ltb x w) (within ws p) (lt-ltb x w (omega (arith, in_hi lo hi x s.0, h.1))) (line_within ws l p h.2 s.1)

-- the set F, and a test of lines that tells whether a line stays in it
module _ (ws : List ℕ) (F : Set) (ok : Line → Bool)
    (sound : (l : Line) (p : Point) → LineIn ws l → ok l ≡ true → in_line l p ≡ true → F p ≡ true)
    (complete : (l : Line) → LineIn ws l → ((p : Point) → in_line l p ≡ true → F p ≡ true) → ok l ≡ true) where
  pub all_sound : (t : Table) (p : Point) → AllLines (LineIn ws) t → all_lines ok t ≡ true → in_table t p ≡ true → F p ≡ true
  unfolding all_lines in_table
  all_sound [] p i a e = clash e refl
  all_sound (l ∷ t) p i a e = go (all_sound t p i.1 (and_right (ok l) _ a)) (or_split (in_line l p) (in_table t p) e)
    where
      go : (in_table t p ≡ true → F p ≡ true) → (in_line l p ≡ true) ⊎ (in_table t p ≡ true) → F p ≡ true
      go r (inl h) = sound l p i.0 (and_left _ _ a) h
      go r (inr h) = r h

  pub all_complete : (t : Table) → AllLines (LineIn ws) t → ((p : Point) → in_table t p ≡ true → F p ≡ true) → all_lines ok t ≡ true
  unfolding all_lines in_table
  all_complete [] a h = refl
  all_complete (l ∷ t) a h =
      both (ok l) (all_lines ok t)
      (complete l a.0 (λ p e. h p (rw e)))
      (all_complete t a.1 (λ p e. h p (rw (e, or-true))))

  -- The lines are the table of a set inside F exactly where they are a table and each line stays in F
  pub inside_iff : (t : Table) → ((canonical ws t && all_lines ok t) ≡ true) ↔ ((S : Set) × ((p : Point) → S p ≡ true → F p ≡ true) × (t ≡ table_of ws S))
  inside_iff t = (
    λ e. let own : table_of ws (in_table t) ≡ t = canonical_own ws t (and_left _ _ e) in
        (in_table t, λ p h. all_sound t p (subst (AllLines (LineIn ws)) own (table_lines ws (in_table t))) (and_right (canonical ws t) _ e) h, sym own),
    λ r. subst (λ u. (canonical ws u && all_lines ok u) ≡ true) (sym r.2)
        (both _ _ (canonical_table ws r.0) (all_complete (table_of ws r.0) (table_lines ws r.0) (λ p e.
        r.1 p (and_right (within ws p) (r.0 p) (sym (in_table_lem ws r.0 p) ∙ e))))),
  )

zero_to : (o x : ℕ) → x ≤ o → eqb o 0 ≡ true → eqb x 0 ≡ true
zero_to o x h e = eq-eqb x 0 (omega (arith, eqb-true o 0 e))

only : (k p0 p1 x : ℕ) → p0 ≤ x → x ≤ p1 → (eqb p0 k && eqb p1 k) ≡ true → eqb x k ≡ true
only k p0 p1 x h i e = eq-eqb x k (omega (arith, eqb-true p0 k (and_left _ _ e), eqb-true p1 k (and_right (eqb p0 k) _ e)))

pub ends_sound : (p0 p1 o1 r1 q1 pr o r q : ℕ) → p0 ≤ pr → pr ≤ p1 → o ≤ o1 → r ≤ r1 → q ≤ q1 → flow_ends p0 p1 o1 r1 q1 ≡ true → flow_numbers pr o r q ≡ true
unfolding flow_ends flow_numbers
ends_sound p0 p1 o1 r1 q1 pr o r q a b c d f e =
    both _ _
    (or_map (zero_to o1 o c) (only 6 p0 p1 pr a b) (and_left _ _ e))
    (or_map (λ z. both _ _ (zero_to r1 r d (and_left _ _ z)) (zero_to q1 q f (and_right (eqb r1 0) _ z))) (or_map (only 6 p0 p1 pr a b) (only 17 p0 p1 pr a b)) (and_right (eqb o1 0 || (eqb p0 6 && eqb p1 6)) _ e))

six_or : (a b : ℕ) → a ≤ b → (eqb a 6 || eqb a 17) ≡ true → (eqb b 6 || eqb b 17) ≡ true → (a ≤ 7 → 7 ≤ b → (eqb 7 6 || eqb 7 17) ≡ true) → ((eqb a 6 && eqb b 6) || (eqb a 17 && eqb b 17)) ≡ true
six_or a b h e f g = go (or_split _ _ e) (or_split _ _ f)
  where
    go : (eqb a 6 ≡ true) ⊎ (eqb a 17 ≡ true) → (eqb b 6 ≡ true) ⊎ (eqb b 17 ≡ true) → ((eqb a 6 && eqb b 6) || (eqb a 17 && eqb b 17)) ≡ true
    go (inl i) (inl j) = or_left (eqb a 6 && eqb b 6) (eqb a 17 && eqb b 17) (both _ _ i j)
    go (inl i) (inr j) = clash (g (omega (arith, eqb-true a 6 i)) (omega (arith, eqb-true b 17 j))) refl
    go (inr i) (inl j) = absurd (omega (arith, eqb-true a 17 i, eqb-true b 6 j))
    go (inr i) (inr j) = or_right (eqb a 6 && eqb b 6) (eqb a 17 && eqb b 17) (both _ _ i j)

pub ends_complete : (p0 p1 o1 r1 q1 : ℕ) → p0 ≤ p1 → ((pr : ℕ) → p0 ≤ pr → pr ≤ p1 → flow_numbers pr o1 r1 q1 ≡ true) → flow_ends p0 p1 o1 r1 q1 ≡ true
unfolding flow_ends flow_numbers
ends_complete p0 p1 o1 r1 q1 h f =
    let a = f p0 (omega arith) h in
    let b = f p1 h (omega arith) in
    let A : (eqb o1 0 || (eqb p0 6 && eqb p1 6)) ≡ true = by_test (eqb o1 0) (λ e. or_left (eqb o1 0) _ e) (λ e. or_right (eqb o1 0) _ (both _ _ (or_else (eqb o1 0) _ (and_left _ _ a) e) (or_else (eqb o1 0) _ (and_left _ _ b) e))) in
    let B : ((eqb r1 0 && eqb q1 0) || ((eqb p0 6 && eqb p1 6) || (eqb p0 17 && eqb p1 17))) ≡ true =
    by_test (eqb r1 0 && eqb q1 0) (λ e. or_left (eqb r1 0 && eqb q1 0) _ e) (λ e. or_right (eqb r1 0 && eqb q1 0) _ (six_or p0 p1 h
    (or_else (eqb r1 0 && eqb q1 0) _ (and_right (eqb o1 0 || eqb p0 6) _ a) e)
    (or_else (eqb r1 0 && eqb q1 0) _ (and_right (eqb o1 0 || eqb p1 6) _ b) e)
    (λ i j. or_else (eqb r1 0 && eqb q1 0) _ (and_right (eqb o1 0 || eqb 7 6) _ (f 7 i j)) e))) in
    both _ _ A B

-- what a line with a first range says of a point
pub first_number : (lo hi : ℕ) (l : Line) (p : Point) → in_line (lo to hi ∷ l) p ≡ true → record { x : ℕ; rest : Point; is : p ≡ x ∷ rest; low : lo ≤ x; high : x ≤ hi; after : in_line l rest ≡ true }
unfolding in_line
first_number lo hi l [] e = clash e refl
first_number lo hi l (x ∷ p) e = record { x = x; rest = p; is = refl; low = in_lo lo hi x (and_left _ _ e); high = in_hi lo hi x (and_left _ _ e); after = and_right (in_range lo hi x) _ e }

pub no_number : (p : Point) → in_line [] p ≡ true → p ≡ []
unfolding in_line
no_number [] e = refl
no_number (x ∷ p) e = clash e refl

pub next_number : (lo hi x : ℕ) (l : Line) (p : Point) → lo ≤ x → x ≤ hi → in_line l p ≡ true → in_line (lo to hi ∷ l) (x ∷ p) ≡ true
unfolding in_line
next_number lo hi x l p h k e = both _ _ (in_yes lo hi x h k) e

pub line_sound : (l : Line) (p : Point) → LineIn widths l → flow_line l ≡ true → in_line l p ≡ true → is_flow p ≡ true
unfolding flow_line is_flow
line_sound [] p i e h = absurd i
line_sound (d0 to d1 ∷ []) p i e h = absurd i.2
line_sound (d0 to d1 ∷ (p0 to p1 ∷ [])) p i e h = absurd i.2.2
line_sound (d0 to d1 ∷ (p0 to p1 ∷ (o0 to o1 ∷ []))) p i e h = absurd i.2.2.2
line_sound (d0 to d1 ∷ (p0 to p1 ∷ (o0 to o1 ∷ (a0 to a1 ∷ [])))) p i e h = absurd i.2.2.2.2
line_sound (d0 to d1 ∷ (p0 to p1 ∷ (o0 to o1 ∷ (a0 to a1 ∷ (r0 to r1 ∷ []))))) p i e h = absurd i.2.2.2.2.2
line_sound (d0 to d1 ∷ (p0 to p1 ∷ (o0 to o1 ∷ (a0 to a1 ∷ (r0 to r1 ∷ (q0 to q1 ∷ [])))))) p i e h =
    let f1 = first_number d0 d1 _ p h in
    let f2 = first_number p0 p1 _ f1.rest f1.after in
    let f3 = first_number o0 o1 _ f2.rest f2.after in
    let f4 = first_number a0 a1 _ f3.rest f3.after in
    let f5 = first_number r0 r1 _ f4.rest f4.after in
    let f6 = first_number q0 q1 [] f5.rest f5.after in
    both _ _ (line_within widths (d0 to d1 ∷ (p0 to p1 ∷ (o0 to o1 ∷ (a0 to a1 ∷ (r0 to r1 ∷ (q0 to q1 ∷ [])))))) p i h)
    (rw (f1.is, f2.is, f3.is, f4.is, f5.is, f6.is, no_number f6.rest f6.after)
    (ends_sound p0 p1 o1 r1 q1 f2.x f3.x f5.x f6.x f2.low f2.high f3.high f5.high f6.high e))
line_sound (d0 to d1 ∷ (p0 to p1 ∷ (o0 to o1 ∷ (a0 to a1 ∷ (r0 to r1 ∷ (q0 to q1 ∷ ((x ∷ l)))))))) p i e h = absurd i.2.2.2.2.2.2

pub line_complete : (l : Line) → LineIn widths l → ((p : Point) → in_line l p ≡ true → is_flow p ≡ true) → flow_line l ≡ true
unfolding flow_line is_flow
line_complete [] h f = absurd h
line_complete (d0 to d1 ∷ []) h f = absurd h.2
line_complete (d0 to d1 ∷ (p0 to p1 ∷ [])) h f = absurd h.2.2
line_complete (d0 to d1 ∷ (p0 to p1 ∷ (o0 to o1 ∷ []))) h f = absurd h.2.2.2
line_complete (d0 to d1 ∷ (p0 to p1 ∷ (o0 to o1 ∷ (a0 to a1 ∷ [])))) h f = absurd h.2.2.2.2
line_complete (d0 to d1 ∷ (p0 to p1 ∷ (o0 to o1 ∷ (a0 to a1 ∷ (r0 to r1 ∷ []))))) h f = absurd h.2.2.2.2.2
line_complete (d0 to d1 ∷ (p0 to p1 ∷ (o0 to o1 ∷ (a0 to a1 ∷ (r0 to r1 ∷ (q0 to q1 ∷ [])))))) h f =
    ends_complete p0 p1 o1 r1 q1 h.2.0 (λ pr i j. and_right (within widths (d0 ∷ (pr ∷ (o1 ∷ (a0 ∷ (r1 ∷ (q1 ∷ []))))))) _ (f (d0 ∷ (pr ∷ (o1 ∷ (a0 ∷ (r1 ∷ (q1 ∷ []))))))
    (next_number d0 d1 d0 _ _ (omega arith) h.0
    (next_number p0 p1 pr _ _ i j
    (next_number o0 o1 o1 _ _ h.2.2.0 (omega arith)
    (next_number a0 a1 a0 _ _ (omega arith) h.2.2.2.0
    (next_number r0 r1 r1 _ _ h.2.2.2.2.0 (omega arith)
    (next_number q0 q1 q1 _ _ h.2.2.2.2.2.0 (omega arith) nothing))))))))
  where
    nothing : in_line [] [] ≡ true
    nothing = unfold in_line in refl
line_complete (d0 to d1 ∷ (p0 to p1 ∷ (o0 to o1 ∷ (a0 to a1 ∷ (r0 to r1 ∷ (q0 to q1 ∷ ((x ∷ l)))))))) h f = absurd h.2.2.2.2.2.2

-- THE TEST TELLS TABLES OF FLOWS: it holds exactly of the lines that are the table of some set of flows
pub table_of_some_flows : (t : Table) → (table_of_flows t ≡ true) ↔ ((S : Set) × ((p : Point) → S p ≡ true → is_flow p ≡ true) × (t ≡ table_of widths S))
unfolding table_of_flows
table_of_some_flows t = inside_iff widths is_flow flow_line line_sound line_complete t

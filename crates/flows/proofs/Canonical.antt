-- Which lists of lines are tables: the test tells them.
use Prim.Native.Nat.{ℕ, zero, suc, ◌≤◌}
use native.Mathlib.Nat.{zero-add}
use mathlib.Core.Path.{◌≡◌, refl, sym, ap, ◌∙◌, subst}
use mathlib.Core.Bool.{Bool, true, false, ◌&&◌}
use mathlib.Core.List.{List, [], ◌∷◌, ◌++◌, cons≢nil}
use mathlib.Core.Logic.{◌↔◌}
use lib.Dec.{ltb, eqb}
use native.Mathlib.Omega.{arith}
use borrow.Author.Tests.{ltb-true, leb-true, eqb-true, lt-ltb, le-leb, eq-eqb, ne_eqb, not-true}
use Rattle.flows.specs.Table.{Point, Set, ◌to◌, Range, Run, run, Line, Table, in_range, in_line, in_table, eq_table, section, runs_from, put_before, lines_of, table_of}
use Rattle.flows.specs.Words.{Same}
use Rattle.flows.specs.Canonical.{push, group, headed, filled, apart, rising, canonical}
use Rattle.text.proofs.Tests.{by_test, and_left, and_right, both, clash, split}
use Rattle.flows.proofs.Equal.{eq_table_eq, eq_table_refl}
use Rattle.flows.proofs.Runs.{Apart, Step, skip, join, fresh, step, look, NonEmpty, Good, runs_good, runs_unique}
use Rattle.flows.proofs.Meaning.{in_count, count_lines, same_table}

abbrev pub All : (Table → Type 0) → List Run → Type 0
All P [] = Unit {0}
All P (run lo hi t ∷ rs) = P t × All P rs

pub filled_yes : (t : Table) → filled t ≡ true → NonEmpty t
unfolding filled
filled_yes [] e q = clash e refl
filled_yes (l ∷ t) e q = cons≢nil q

pub yes_filled : (t : Table) → NonEmpty t → filled t ≡ true
unfolding filled
yes_filled [] n = absurd (n refl)
yes_filled (l ∷ t) n = refl

pub apart_yes : (hi : ℕ) (t : Table) (rs : List Run) → apart hi t rs ≡ true → Apart hi t rs
unfolding apart
apart_yes hi t [] e = tt
apart_yes hi t (run a b u ∷ rs) e = λ p q. clash (both _ _ (eq-eqb a (suc hi) p) (subst (λ v. eq_table t v ≡ true) q (eq_table_refl t))) (not-true _ e)

pub yes_apart : (hi : ℕ) (t : Table) (rs : List Run) → Apart hi t rs → apart hi t rs ≡ true
unfolding apart
yes_apart hi t [] h = refl
yes_apart hi t (run a b u ∷ rs) h =
    by_test (eqb a (suc hi) && eq_table t u)
    (λ e. absurd (h (eqb-true a (suc hi) (and_left _ _ e)) (eq_table_eq t u (and_right (eqb a (suc hi)) _ e))))
    (λ e. rw e)

pub rising_yes : (c : Table → Bool) (w n : ℕ) (rs : List Run) → rising c w n rs ≡ true → Good w n rs × All (λ t. c t ≡ true) rs
unfolding rising
rising_yes c w n [] e = (tt, tt)
rising_yes c w n (run lo hi t ∷ rs) e0 =
    let e1 = split _ _ e0 in
    let e2 = split _ _ e1.1 in
    let e3 = split _ _ e2.1 in
    let e4 = split _ _ e3.1 in
    let e5 = split _ _ e4.1 in
    let e6 = split _ _ e5.1 in
    let r = rising_yes c w (suc hi) rs e6.1 in
    ((leb-true n lo e1.0, leb-true lo hi e2.0, ltb-true hi w e3.0, filled_yes t e4.0, apart_yes hi t rs e6.0, r.0), (e5.0, r.1))

pub yes_rising : (c : Table → Bool) (w n : ℕ) (rs : List Run) → Good w n rs → All (λ t. c t ≡ true) rs → rising c w n rs ≡ true
unfolding rising
yes_rising c w n [] g a = refl
yes_rising c w n (run lo hi t ∷ rs) g a =
    rw (le-leb n lo g.0, le-leb lo hi g.1, lt-ltb hi w g.2, yes_filled t g.3, a.0, yes_apart hi t rs g.4, yes_rising c w (suc hi) rs g.5 a.1)

pub lines_push : (a b : ℕ) (l : Line) (rs : List Run) → lines_of (push a b l rs) ≡ (a to b ∷ l) ∷ lines_of rs
unfolding lines_of push put_before
lines_push a b l [] = refl
lines_push a b l (run c d t ∷ rs) =
    by_test (eqb a c && eqb b d)
    (λ e. let p : a ≡ c = eqb-true a c (and_left _ _ e) in let q : b ≡ d = eqb-true b d (and_right (eqb a c) _ e) in rw (e, push, p, q))
    (λ e. rw (e, push))

pub lines_group : (t : Table) → headed t ≡ true → lines_of (group t) ≡ t
unfolding lines_of group headed
lines_group [] e = refl
lines_group ([] ∷ t) e = clash e refl
lines_group ((a to b ∷ l) ∷ t) e = lines_push a b l (group t) ∙ ap {B = Table} (λ u. (a to b ∷ l) ∷ u) (lines_group t e)

pub group_put : (w lo hi : ℕ) (l : Line) (t u : Table) (rs : List Run) → lo ≤ hi → Good w (suc hi) rs → group u ≡ rs → group (put_before (lo to hi) (l ∷ t) ++ u) ≡ run lo hi (l ∷ t) ∷ rs
unfolding group push put_before
group_put w lo hi l [] u [] h g q = rw q
group_put w lo hi l [] u (run c d v ∷ rs) h g q =
    let n : (eqb lo c && eqb hi d) ≡ false = rw (ne_eqb lo c (omega arith)) in rw (q, push, n)
group_put w lo hi l (m ∷ t) u rs h g q =
    rw (group_put w lo hi m t u rs h g q, push, both (eqb lo lo) (eqb hi hi) (eq-eqb lo lo refl) (eq-eqb hi hi refl))

pub group_lines : (w n : ℕ) (rs : List Run) → Good w n rs → group (lines_of rs) ≡ rs
unfolding group lines_of
group_lines w n [] g = refl
group_lines w n (run lo hi [] ∷ rs) g = absurd (g.3 refl)
group_lines w n (run lo hi (l ∷ t) ∷ rs) g = group_put w lo hi l t (lines_of rs) rs g.1 g.5 (group_lines w (suc hi) rs g.5)

pub headed_put : (r : Range) (t u : Table) → headed u ≡ true → headed (put_before r t ++ u) ≡ true
unfolding headed put_before
headed_put r [] u e = e
headed_put r (l ∷ t) u e = headed_put r t u e

pub headed_lines : (rs : List Run) → headed (lines_of rs) ≡ true
unfolding headed lines_of
headed_lines [] = refl
headed_lines (run lo hi t ∷ rs) = headed_put (lo to hi) t (lines_of rs) (headed_lines rs)

pub in_lines : (w n : ℕ) (rs : List Run) (x : ℕ) (p : Point) → Good w n rs → in_table (lines_of rs) (x ∷ p) ≡ in_table (look rs x) p
in_lines w n rs x p g = in_count (lines_of rs) (x ∷ p) ∙ (ap (λ k. ltb 0 k) (count_lines w n rs x p g) ∙ sym (in_count (look rs x) p))

pub step_all : {lo hi : ℕ} {t : Table} {rs rs' : List Run} (P : Table → Type 0) → Step lo hi t rs rs' → P t → All P rs → All P rs'
step_all P skip p a = a
step_all P (join e f) p a = a
step_all P (fresh c) p a = (p, a)

pub runs_all : (P : Table → Type 0) (k v : ℕ) (f : ℕ → Table) → ((x : ℕ) → P (f x)) → All P (runs_from k v f)
unfolding runs_from
runs_all P zero v f h = tt
runs_all P (suc k) v f h = step_all P (step v v (f v) (runs_from k (suc v) f)) (h v) (runs_all P k (suc v) f h)

pub look_all : (P : Table → Type 0) (rs : List Run) (x : ℕ) → P [] → All P rs → P (look rs x)
unfolding look
look_all P [] x z a = z
look_all P (run lo hi t ∷ rs) x z a = by_test (in_range lo hi x) (λ e. rw e a.0) (λ e. rw e (look_all P rs x z a.1))

pub canonical_none : (ws : List ℕ) → canonical ws [] ≡ true
unfolding canonical headed rising group
canonical_none [] = refl
canonical_none (w ∷ ws) = refl

pub canonical_table : (ws : List ℕ) (S : Set) → canonical ws (table_of ws S) ≡ true
unfolding canonical table_of
canonical_table [] S = by_test (S []) (λ e. rw e) (λ e. rw e)
canonical_table (w ∷ ws) S =
    let f : ℕ → Table = λ v. table_of ws (section S v) in
    let g : Good w 0 (runs_from w 0 f) = runs_good w 0 w f (zero-add w) in
    both _ _ (headed_lines (runs_from w 0 f))
    (rw (group_lines w 0 (runs_from w 0 f) g) (yes_rising (canonical ws) w 0 (runs_from w 0 f) g (runs_all (λ t. canonical ws t ≡ true) w 0 f (λ x. canonical_table ws (section S x)))))

pub own_sect : (w n : ℕ) (ws : List ℕ) (t : Table) (rs : List Run) (x : ℕ) → lines_of rs ≡ t → Good w n rs → Same ws (section (in_table t) x) (in_table (look rs x))
unfolding section
own_sect w n ws t rs x q g p k = ap (λ u. in_table u (x ∷ p)) (sym q) ∙ in_lines w n rs x p g

pub canonical_own : (ws : List ℕ) (t : Table) → canonical ws t ≡ true → table_of ws (in_table t) ≡ t
unfolding canonical table_of in_table in_line
canonical_own [] [] e = refl
canonical_own [] ([] ∷ []) e = refl
canonical_own [] ([] ∷ (l ∷ t)) e = clash e refl
canonical_own [] ((r ∷ l) ∷ t) e = clash e refl
canonical_own (w ∷ ws) t e =
    let h = split _ _ e in
    let g = rising_yes (canonical ws) w 0 (group t) h.1 in
    let q : lines_of (group t) ≡ t = lines_group t h.0 in
    ap lines_of (runs_unique (group t) w 0 w (λ v. table_of ws (section (in_table t) v)) (zero-add w) g.0
    (λ x a b. same_table ws (section (in_table t) x) (in_table (look (group t) x)) (own_sect w 0 ws t (group t) x q g.0)
    ∙ canonical_own ws (look (group t) x) (look_all (λ u. canonical ws u ≡ true) (group t) x (canonical_none ws) g.1))) ∙ q

-- THE TEST TELLS TABLES: it holds of t exactly where t is the table of the set of its own points
pub table_of_some_set : (ws : List ℕ) (t : Table) → (canonical ws t ≡ true) ↔ (t ≡ table_of ws (in_table t))
table_of_some_set ws t = (λ e. sym (canonical_own ws t e), λ q. subst (λ u. canonical ws u ≡ true) (sym q) (canonical_table ws (in_table t)))

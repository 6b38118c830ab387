-- One value for each elementary interval is enough: the table of what rules accept, by any cuts that the rules do not tell finer.
use Prim.Native.Nat.{ℕ, zero, suc, ◌+◌, ◌-◌, ◌≤◌, ◌<◌}
use native.Mathlib.Nat.{zero-add}
use mathlib.Core.Path.{◌≡◌, refl, sym, ap, ap₂, ◌∙◌}
use mathlib.Core.Bool.{Bool, ◌&&◌, ◌||◌, cond}
use mathlib.Core.List.{List, [], ◌∷◌, head-eq_of_cons-eq, tail-eq_of_cons-eq}
use lib.Dec.{leb, ltb, eqb, leb-zero}
use native.Mathlib.Omega.{arith}
use borrow.Author.Tests.{ltb-true, ltb-false, eqb-true, eqb-false, le-leb, lt-leb}
use Rattle.flows.specs.Table.{Point, Range, ◌to◌, Table, in_range, section, runs_from, lines_of, table_of}
use Rattle.flows.specs.Rules.{Rule, rule, said, in_some, in_all, in_box, first_match, or_drop, accepts}
use Rattle.flows.specs.Cells.{runs_at, keep_if, live, cell_table, insert_end, insert_start, insert_ranges, insert_limits, last_of, ends_of, rest, cuts_of}
use Rattle.text.proofs.Tests.{by_test}
use Rattle.flows.proofs.Runs.{runs_run, runs_same}
use Rattle.flows.proofs.Meaning.{same_table}

-- The ends of intervals that cover the values from v to below w
abbrev pub Covers : ℕ → ℕ → List ℕ → Type 0
Covers v w [] = v ≡ w
Covers v w (e ∷ es) = (v ≤ e) × Covers (suc e) w es

pub covers_le : (v w : ℕ) (es : List ℕ) → Covers v w es → v ≤ w
covers_le v w [] c = omega arith
covers_le v w (e ∷ es) c = omega (arith, covers_le (suc e) w es c.1, c.0)

abbrev pub Steady : {A : Type 0} → (ℕ → A) → ℕ → List ℕ → Type 0
Steady f v [] = Unit {0}
Steady f v (e ∷ es) = ((x : ℕ) → v ≤ x → x ≤ e → f x ≡ f v) × Steady f (suc e) es

pub runs_at_lem : (es : List ℕ) (k v w : ℕ) (f : ℕ → Table) → v + k ≡ w → Covers v w es → Steady f v es → runs_at v es f ≡ runs_from k v f
unfolding runs_at runs_from
runs_at_lem [] k v w f q c s =
    let z : k ≡ 0 = omega arith in rw z
runs_at_lem (e ∷ es) k v w f q c s =
    let h : suc e ≤ w = covers_le (suc e) w es c.1 in
    let g : v ≤ e = c.0 in
    rw (runs_run (e - v) (w - suc e) v e k f (omega arith) (omega arith) s.0, runs_at_lem es (w - suc e) (suc e) w f (omega arith) c.1 s.1)

pub insert_covers : (c v w : ℕ) (es : List ℕ) → v ≤ c → Covers v w es → Covers v w (insert_end c es)
unfolding insert_end
insert_covers c v w [] h k = k
insert_covers c v w (e ∷ es) h k =
    by_test (ltb c e)
    (λ t. rw (t, insert_end) (h, (ltb-true c e t, k.1)))
    (λ t. let a : e ≤ c = ltb-false c e t in by_test (eqb c e)
    (λ u. rw (t, insert_end) (rw (u) k))
    (λ u. let b : e < c = omega (arith, eqb-false c e u) in rw (t, insert_end) (rw (u) (k.0, insert_covers c (suc e) w es b k.1))))

pub insert_steady : {A : Type 0} (f : ℕ → A) (c v : ℕ) (es : List ℕ) → v ≤ c → Steady f v es → Steady f v (insert_end c es)
unfolding insert_end
insert_steady f c v [] h k = k
insert_steady f c v (e ∷ es) h k =
    by_test (ltb c e)
    (λ t. let d : c < e = ltb-true c e t in
    rw (t, insert_end) (λ x a b. k.0 x a (omega arith), (λ x a b. k.0 x (omega arith) b ∙ sym (k.0 (suc c) (omega arith) d), k.1)))
    (λ t. let a : e ≤ c = ltb-false c e t in by_test (eqb c e)
    (λ u. rw (t, insert_end) (rw (u) k))
    (λ u. let b : e < c = omega (arith, eqb-false c e u) in rw (t, insert_end) (rw (u) (k.0, insert_steady f c (suc e) es b k.1))))

pub steady_after : {A : Type 0} (f : ℕ → A) (c v w : ℕ) (es : List ℕ) → ((x y : ℕ) → c < x → c < y → f x ≡ f y) → c < v → Covers v w es → Steady f v es
steady_after f c v w [] g h k = tt
steady_after f c v w (e ∷ es) g h k = (λ x a b. g x v (omega arith) h, steady_after f c (suc e) w es g (omega arith) k.1)

-- What is the same up to c and the same past c is steady once c is an end
pub insert_two : {A : Type 0} (f : ℕ → A) (c v w : ℕ) (es : List ℕ) → ((x y : ℕ) → x ≤ c → y ≤ c → f x ≡ f y) → ((x y : ℕ) → c < x → c < y → f x ≡ f y) → v ≤ c → Covers v w es → Steady f v (insert_end c es)
unfolding insert_end
insert_two f c v w [] lo hi h k = tt
insert_two f c v w (e ∷ es) lo hi h k =
    by_test (ltb c e)
    (λ t. let d : c < e = ltb-true c e t in
    rw (t, insert_end) (λ x a b. lo x v b h, (λ x a b. hi x (suc c) (omega arith) (omega arith), steady_after f c (suc e) w es hi (omega arith) k.1)))
    (λ t. let a : e ≤ c = ltb-false c e t in by_test (eqb c e)
    (λ u. let q : c ≡ e = eqb-true c e u in rw (t, insert_end) (rw (u) (λ x i j. lo x v (omega arith) h, steady_after f c (suc e) w es hi (omega arith) k.1)))
    (λ u. let b : e < c = omega (arith, eqb-false c e u) in rw (t, insert_end) (rw (u) (λ x i j. lo x v (omega arith) h, insert_two f c (suc e) w es lo hi b k.1))))

pub steady_pair : {A B C : Type 0} (m : A → B → C) (f : ℕ → A) (g : ℕ → B) (v : ℕ) (es : List ℕ) → Steady f v es → Steady g v es → Steady (λ x. m (f x) (g x)) v es
steady_pair m f g v [] h k = tt
steady_pair m f g v (e ∷ es) h k = (λ x a b. ap₂ m (h.0 x a b) (k.0 x a b), steady_pair m f g (suc e) es h.1 k.1)

pub steady_all : {A : Type 0} (f : ℕ → A) (v : ℕ) (es : List ℕ) → ((x y : ℕ) → f x ≡ f y) → Steady f v es
steady_all f v [] h = tt
steady_all f v (e ∷ es) h = (λ x i j. h x v, steady_all f (suc e) es h)

pub start_covers : (c w : ℕ) (es : List ℕ) → Covers 0 w es → Covers 0 w (insert_start c es)
unfolding insert_start
start_covers zero w es k = k
start_covers (suc c) w es k = insert_covers c 0 w es (omega arith) k

pub start_steady : {A : Type 0} (f : ℕ → A) (c : ℕ) (es : List ℕ) → Steady f 0 es → Steady f 0 (insert_start c es)
unfolding insert_start
start_steady f zero es k = k
start_steady f (suc c) es k = insert_steady f c 0 es (omega arith) k

pub leb_up : (c x y : ℕ) → x ≤ c → y ≤ c → leb x c ≡ leb y c
leb_up c x y h k = le-leb x c h ∙ sym (le-leb y c k)

pub leb_past : (c x y : ℕ) → c < x → c < y → leb x c ≡ leb y c
leb_past c x y h k = lt-leb x c h ∙ sym (lt-leb y c k)

pub start_leb : (c w : ℕ) (es : List ℕ) → Covers 0 w es → Steady (leb c) 0 (insert_start c es)
unfolding insert_start
start_leb zero w es k = steady_all (leb zero) 0 es (λ x y. leb-zero x ∙ sym (leb-zero y))
start_leb (suc c) w es k = insert_two (leb (suc c)) c 0 w es (λ x y a b. lt-leb (suc c) x (omega arith) ∙ sym (lt-leb (suc c) y (omega arith))) (λ x y a b. le-leb (suc c) x a ∙ sym (le-leb (suc c) y b)) (omega arith) k

-- ## the ends of ranges, and of limits
pub ranges_covers : (rs : List Range) (w : ℕ) (es : List ℕ) → Covers 0 w es → Covers 0 w (insert_ranges rs es)
unfolding insert_ranges
ranges_covers [] w es k = k
ranges_covers (lo to hi ∷ rs) w es k =
    start_covers lo w (insert_end hi (insert_ranges rs es)) (insert_covers hi 0 w (insert_ranges rs es) (omega arith) (ranges_covers rs w es k))

pub ranges_keep : {A : Type 0} (f : ℕ → A) (rs : List Range) (es : List ℕ) → Steady f 0 es → Steady f 0 (insert_ranges rs es)
unfolding insert_ranges
ranges_keep f [] es s = s
ranges_keep f (lo to hi ∷ rs) es s =
    start_steady f lo (insert_end hi (insert_ranges rs es)) (insert_steady f hi 0 (insert_ranges rs es) (omega arith) (ranges_keep f rs es s))

pub ranges_steady : (rs : List Range) (w : ℕ) (es : List ℕ) → Covers 0 w es → Steady (in_some rs) 0 (insert_ranges rs es)
unfolding insert_ranges in_some in_range
ranges_steady [] w es k = steady_all (in_some []) 0 es (λ x y. refl)
ranges_steady (lo to hi ∷ rs) w es k =
    let ms : List ℕ = insert_ranges rs es in
    let c : Covers 0 w ms = ranges_covers rs w es k in
    let d : Covers 0 w (insert_end hi ms) = insert_covers hi 0 w ms (omega arith) c in
    steady_pair ◌||◌ (λ x. leb lo x && leb x hi) (in_some rs) 0 (insert_start lo (insert_end hi ms))
    (steady_pair ◌&&◌ (leb lo) (λ x. leb x hi) 0 (insert_start lo (insert_end hi ms))
    (start_leb lo w (insert_end hi ms) d)
    (start_steady (λ x. leb x hi) lo (insert_end hi ms) (insert_two (λ x. leb x hi) hi 0 w ms (leb_up hi) (leb_past hi) (omega arith) c)))
    (start_steady (in_some rs) lo (insert_end hi ms) (insert_steady (in_some rs) hi 0 ms (omega arith) (ranges_steady rs w es k)))

pub limits_covers : (ls : List (List Range)) (w : ℕ) (es : List ℕ) → Covers 0 w es → Covers 0 w (insert_limits ls es)
unfolding insert_limits
limits_covers [] w es k = k
limits_covers (rs ∷ ls) w es k = ranges_covers rs w (insert_limits ls es) (limits_covers ls w es k)

pub limits_keep : {A : Type 0} (f : ℕ → A) (ls : List (List Range)) (es : List ℕ) → Steady f 0 es → Steady f 0 (insert_limits ls es)
unfolding insert_limits
limits_keep f [] es s = s
limits_keep f (rs ∷ ls) es s = ranges_keep f rs (insert_limits ls es) (limits_keep f ls es s)

pub limits_steady : (ls : List (List Range)) (w : ℕ) (es : List ℕ) → Covers 0 w es → Steady (in_all ls) 0 (insert_limits ls es)
unfolding insert_limits in_all
limits_steady [] w es k = steady_all (in_all []) 0 es (λ x y. refl)
limits_steady (rs ∷ ls) w es k =
    steady_pair ◌&&◌ (in_some rs) (in_all ls) 0 (insert_ranges rs (insert_limits ls es))
    (ranges_steady rs w (insert_limits ls es) (limits_covers ls w es k))
    (ranges_keep (in_all ls) rs (insert_limits ls es) (limits_steady ls w es k))

-- ## rules
-- Which rules' limits in the first dimension hold x
unfoldable pub bits : List Rule → ℕ → List Bool
bits [] x = []
bits (rule a [] ∷ rs) x = bits rs x
bits (rule a (ls ∷ b) ∷ rs) x = in_all ls x ∷ bits rs x

-- The intervals of each dimension cover its width, and no rule tells the values of one apart
abbrev pub Fits : List ℕ → List (List ℕ) → List Rule → Type 0
Fits [] [] rs = Unit {0}
Fits [] (es ∷ ess) rs = ⊥
Fits (w ∷ ws) [] rs = ⊥
Fits (w ∷ ws) (es ∷ ess) rs = Covers 0 w es × Steady (bits rs) 0 es × Fits ws ess (rest rs)

pub ends_covers : (w : ℕ) (rs : List Rule) → Covers 0 w (ends_of w rs)
unfolding ends_of last_of
ends_covers zero [] = refl
ends_covers (suc n) [] = (omega arith, refl)
ends_covers w (rule a [] ∷ rs) = ends_covers w rs
ends_covers w (rule a (ls ∷ b) ∷ rs) = limits_covers ls w (ends_of w rs) (ends_covers w rs)

pub ends_steady : (w : ℕ) (rs : List Rule) → Steady (bits rs) 0 (ends_of w rs)
unfolding ends_of bits
ends_steady w [] = steady_all (bits []) 0 (last_of w) (λ x y. refl)
ends_steady w (rule a [] ∷ rs) = ends_steady w rs
ends_steady w (rule a (ls ∷ b) ∷ rs) =
    steady_pair {C = List Bool} (λ c cs. c ∷ cs) (in_all ls) (bits rs) 0 (insert_limits ls (ends_of w rs))
    (limits_steady ls w (ends_of w rs) (ends_covers w rs))
    (limits_keep (bits rs) ls (ends_of w rs) (ends_steady w rs))

pub cuts_fit : (ws : List ℕ) (rs : List Rule) → Fits ws (cuts_of ws rs) rs
unfolding cuts_of
cuts_fit [] rs = tt
cuts_fit (w ∷ ws) rs = (ends_covers w rs, ends_steady w rs, cuts_fit ws (rest rs))

-- Some of the rules, in their order
pub data Part : List Rule → List Rule → Type 0 where
  nil : Part [] []
  kept : {r : Rule} {qs rs : List Rule} → Part qs rs → Part (r ∷ qs) (r ∷ rs)
  left : {r : Rule} {qs rs : List Rule} → Part qs rs → Part qs (r ∷ rs)

pub part_bits : {qs rs : List Rule} (x v : ℕ) → Part qs rs → bits rs x ≡ bits rs v → bits qs x ≡ bits qs v
unfolding bits
part_bits x v nil e = refl
part_bits x v (kept {r = rule a []} p) e = part_bits x v p e
part_bits x v (kept {r = rule a (ls ∷ b)} p) e = ap₂ {C = List Bool} (λ c cs. c ∷ cs) (head-eq_of_cons-eq e) (part_bits x v p (tail-eq_of_cons-eq e))
part_bits x v (left {r = rule a []} p) e = part_bits x v p e
part_bits x v (left {r = rule a (ls ∷ b)} p) e = part_bits x v p (tail-eq_of_cons-eq e)

pub part_rest : {qs rs : List Rule} → Part qs rs → Part (rest qs) (rest rs)
unfolding rest
part_rest nil = nil
part_rest (kept {r = rule a []} p) = part_rest p
part_rest (kept {r = rule a (ls ∷ b)} p) = kept (part_rest p)
part_rest (left {r = rule a []} p) = part_rest p
part_rest (left {r = rule a (ls ∷ b)} p) = left (part_rest p)

pub live_part : (v : ℕ) (rs : List Rule) → Part (live v rs) (rest rs)
unfolding live rest keep_if
live_part v [] = nil
live_part v (rule a [] ∷ rs) = live_part v rs
live_part v (rule a (ls ∷ b) ∷ rs) = by_test (in_all ls v) (λ e. rw (e, keep_if) (kept (live_part v rs))) (λ e. rw (e, keep_if) (left (live_part v rs)))

pub steady_map : {A B : Type 0} (f : ℕ → A) (g : ℕ → B) (v : ℕ) (es : List ℕ) → ((x y : ℕ) → f x ≡ f y → g x ≡ g y) → Steady f v es → Steady g v es
steady_map f g v [] m s = tt
steady_map f g v (e ∷ es) m s = (λ x a b. m x v (s.0 x a b), steady_map f g (suc e) es m s.1)

pub part_fits : (ws : List ℕ) (ess : List (List ℕ)) {qs rs : List Rule} → Part qs rs → Fits ws ess rs → Fits ws ess qs
part_fits [] [] p f = tt
part_fits [] (es ∷ ess) p f = f
part_fits (w ∷ ws) [] p f = f
part_fits (w ∷ ws) (es ∷ ess) {qs} {rs} p f =
    (f.0, steady_map (bits rs) (bits qs) 0 es (λ x y e. part_bits x y p e) f.1, part_fits ws ess (part_rest p) f.2)

pub live_same : (rs : List Rule) (x v : ℕ) → bits rs x ≡ bits rs v → live x rs ≡ live v rs
unfolding bits live
live_same [] x v e = refl
live_same (rule a [] ∷ rs) x v e = live_same rs x v e
live_same (rule a (ls ∷ b) ∷ rs) x v e = ap₂ (λ c qs. keep_if c (rule a b) qs) (head-eq_of_cons-eq e) (live_same rs x v (tail-eq_of_cons-eq e))

-- Of the points with first number v the live rules say what all rules say
pub live_match : (rs : List Rule) (v : ℕ) (p : Point) → first_match rs (v ∷ p) ≡ first_match (live v rs) p
unfolding first_match live in_box keep_if
live_match [] v p = refl
live_match (rule a [] ∷ rs) v p = live_match rs v p
live_match (rule a (ls ∷ b) ∷ rs) v p =
    by_test (in_all ls v)
    (λ e. rw (e, first_match) (ap (cond (in_box b p) (said a)) (live_match rs v p)))
    (λ e. rw (e, first_match) (live_match rs v p))

-- THE CELLS' TABLE IS THE TABLE OF WHAT THE RULES ACCEPT, for all cuts that fit
pub cell_table_lem : (ws : List ℕ) (ess : List (List ℕ)) (rs : List Rule) → Fits ws ess rs → cell_table ess rs ≡ table_of ws (accepts rs)
unfolding cell_table table_of
cell_table_lem [] [] rs f = refl
cell_table_lem [] (es ∷ ess) rs f = absurd f
cell_table_lem (w ∷ ws) [] rs f = absurd f
cell_table_lem (w ∷ ws) (es ∷ ess) rs f =
    let g : ℕ → Table = λ v. cell_table ess (live v rs) in
    ap lines_of (runs_at_lem es w 0 w g (zero-add w) f.0 (steady_map (bits rs) g 0 es (λ x y e. ap (cell_table ess) (live_same rs x y e)) f.1)
    ∙ runs_same w 0 g (λ v. table_of ws (section (accepts rs) v)) (λ x a b.
    cell_table_lem ws ess (live x rs) (part_fits ws ess (live_part x rs) f.2)
    ∙ same_table ws (accepts (live x rs)) (section (accepts rs) x) (λ p h. unfold section accepts in ap or_drop (sym (live_match rs x p)))))

-- .. and so for the cuts that the rules themselves give
pub rules_table : (ws : List ℕ) (rs : List Rule) → cell_table (cuts_of ws rs) rs ≡ table_of ws (accepts rs)
rules_table ws rs = cell_table_lem ws (cuts_of ws rs) rs (cuts_fit ws rs)

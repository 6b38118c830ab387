-- The table in the document's words is `table_of`: each set has one table.
use Prim.Native.Nat.{ℕ, suc, ◌≤◌, ◌<◌}
use native.Mathlib.Nat.{zero-add}
use mathlib.Core.Path.{◌≡◌, refl, sym, ap, ◌∙◌, subst}
use mathlib.Core.Bool.{false}
use mathlib.Core.List.{List, [], ◌∷◌, cons≢nil}
use mathlib.Core.Logic.{◌↔◌, ◌⊎◌, inl, inr}
use lib.Dec.{leb, eqb}
use native.Mathlib.Omega.{arith}
use borrow.Author.Tests.{leb-true, leb-false, eqb-true, eqb-false}
use Rattle.flows.specs.Table.{Set, Run, run, Table, in_range, section, runs_from, lines_of, table_of}
use Rattle.flows.specs.Words.{Same, none, Longest, Rising, Each, Held, IsTable}
use Rattle.text.proofs.Tests.{by_test, clash}
use Rattle.flows.proofs.Runs.{Apart, in_yes, in_lo, in_hi, in_low, in_high, look, look_low, look_runs, NonEmpty, Good, runs_good, runs_unique}
use Rattle.flows.proofs.Meaning.{same_table, table_same}

pub table_none : (ws : List ℕ) → table_of ws none ≡ []
unfolding table_of section
table_none [] = refl
table_none (w ∷ ws) = ap lines_of (runs_unique [] w 0 w (λ v. table_of ws none) (zero-add w) tt (λ x a b. table_none ws ∙ unfold look in refl)) ∙ unfold lines_of in refl

pub some_table : (ws : List ℕ) (S : Set) → ¬ Same ws S none → NonEmpty (table_of ws S)
some_table ws S h q = h (table_same ws S none (q ∙ sym (table_none ws)))

pub table_some : (ws : List ℕ) (S : Set) → NonEmpty (table_of ws S) → ¬ Same ws S none
table_some ws S h q = h (same_table ws S none q ∙ table_none ws)

-- ## from the words to `table_of`
-- Runs whose tables are known
abbrev pub Known : ℕ → List ℕ → Set → List Run → Type 0
Known w ws S rs = Each (λ lo hi u. Longest w ws S lo hi × (u ≡ table_of ws (section S lo))) rs

pub known_apart : (w : ℕ) (ws : List ℕ) (S : Set) (lo hi : ℕ) (t : Table) (rs : List Run) → Longest w ws S lo hi → t ≡ table_of ws (section S lo) → Known w ws S rs → Apart hi t rs
known_apart w ws S lo hi t [] g e k = tt
known_apart w ws S lo hi t (run a b u ∷ rs) g e k = λ p q.
    let r : b < w = k.0.0.inside in
    let s : a ≤ b = k.0.0.rises in
    g.no_further (omega arith) (table_same ws (section S lo) (section S (suc hi)) (sym e ∙ (q ∙ (k.0.1 ∙ ap (λ m. table_of ws (section S m)) p))))

pub known_good : (w n : ℕ) (ws : List ℕ) (S : Set) (rs : List Run) → Rising n rs → Known w ws S rs → Good w n rs
known_good w n ws S [] r k = tt
known_good w n ws S (run lo hi t ∷ rs) r k =
    (r.0, k.0.0.rises, k.0.0.inside, λ q. some_table ws (section S lo) k.0.0.some (sym k.0.1 ∙ q), known_apart w ws S lo hi t rs k.0.0 k.0.1 k.1, known_good w (suc hi) ws S rs r.1 k.1)

-- a value of a run has the run's table; one of none has none
pub known_look : (w : ℕ) (ws : List ℕ) (S : Set) (rs : List Run) (x : ℕ) → Known w ws S rs → (table_of ws (section S x) ≡ look rs x) ⊎ ((look rs x ≡ []) × (Held x rs → ⊥))
unfolding look
known_look w ws S [] x k = inr (refl, λ h. h)
known_look w ws S (run lo hi t ∷ rs) x k =
    by_test (in_range lo hi x)
    (λ e. rw e (inl (sym (k.0.1 ∙ same_table ws (section S lo) (section S x) (k.0.0.alike x (in_lo lo hi x e) (in_hi lo hi x e))))))
    (λ e. rw e (step (known_look w ws S rs x k.1) e))
  where
    step : (table_of ws (section S x) ≡ look rs x) ⊎ ((look rs x ≡ []) × (Held x rs → ⊥)) → in_range lo hi x ≡ false → (table_of ws (section S x) ≡ look rs x) ⊎ ((look rs x ≡ []) × (Held x (run lo hi t ∷ rs) → ⊥))
    step (inl q) e = inl q
    step (inr r) e = inr (r.0, elim [ inl h ↦ clash (in_yes lo hi x h.0 h.1) e | inr h ↦ r.1 h ])

empty_or : (t : Table) → (t ≡ []) ⊎ NonEmpty t
empty_or [] = inl refl
empty_or (l ∷ t) = inr (λ q. cons≢nil q)

pub known_value : (w : ℕ) (ws : List ℕ) (S : Set) (rs : List Run) (x : ℕ) → x < w → Known w ws S rs → ((x : ℕ) → x < w → ¬ Same ws (section S x) none → Held x rs) → table_of ws (section S x) ≡ look rs x
known_value w ws S rs x b k h = go (known_look w ws S rs x k) (empty_or (table_of ws (section S x)))
  where
    go : (table_of ws (section S x) ≡ look rs x) ⊎ ((look rs x ≡ []) × (Held x rs → ⊥)) → (table_of ws (section S x) ≡ []) ⊎ NonEmpty (table_of ws (section S x)) → table_of ws (section S x) ≡ look rs x
    go (inl q) e = q
    go (inr r) (inl e) = e ∙ sym r.0
    go (inr r) (inr e) = absurd (r.1 (h x b (table_some ws (section S x) e)))

pub each_map : (P Q : ℕ → ℕ → Table → Type 0) (rs : List Run) → ((lo hi : ℕ) (t : Table) → P lo hi t → Q lo hi t) → Each P rs → Each Q rs
each_map P Q [] f e = tt
each_map P Q (run lo hi t ∷ rs) f e = (f lo hi t e.0, each_map P Q rs f e.1)

pub words_table : (ws : List ℕ) (S : Set) (t : Table) → IsTable ws S t → t ≡ table_of ws S
unfolding table_of
words_table [] S t h = h
words_table (w ∷ ws) S t h =
    let rs : List Run = h.0 in
    let k : Known w ws S rs = each_map _ _ rs (λ lo hi u c. (c.0, words_table ws (section S lo) u c.1)) h.3 in
    h.1 ∙ ap lines_of (sym (runs_unique rs w 0 w (λ v. table_of ws (section S v)) (zero-add w) (known_good w 0 ws S rs h.2 k) (λ x a b. known_value w ws S rs x b k h.4)))

-- ## from `table_of` to the words
pub good_rising : (w n : ℕ) (rs : List Run) → Good w n rs → Rising n rs
good_rising w n [] g = tt
good_rising w n (run lo hi t ∷ rs) g = (g.0, good_rising w (suc hi) rs g.5)

pub look_held : (rs : List Run) (x : ℕ) → NonEmpty (look rs x) → Held x rs
unfolding look
look_held [] x n = n refl
look_held (run lo hi t ∷ rs) x n =
    by_test (in_range lo hi x)
    (λ e. inl (in_lo lo hi x e, in_hi lo hi x e))
    (λ e. inr (look_held rs x (rw e at n)))

-- the value right after a run is another
pub look_next : (w hi : ℕ) (t : Table) (rs : List Run) → NonEmpty t → Apart hi t rs → Good w (suc hi) rs → look rs (suc hi) ≡ t → ⊥
unfolding look
look_next w hi t [] n a g q = n (sym q)
look_next w hi t (run c d u ∷ rs) n a g q =
    by_test (eqb c (suc hi))
    (λ e. let p : c ≡ suc hi = eqb-true c (suc hi) e in a p (sym (rw (in_yes c d (suc hi) (omega arith) (omega arith)) at q)))
    (λ e. let p : suc hi < c = omega (arith, eqb-false c (suc hi) e) in
    n (sym (rw (in_low c d (suc hi) p) at q) ∙ look_low w (suc d) (suc hi) rs g.5 (omega arith)))

module _ (w : ℕ) (ws : List ℕ) (S : Set) where
  pub longest_each : (n : ℕ) (rs : List Run) → Good w n rs → ((x : ℕ) → n ≤ x → x < w → table_of ws (section S x) ≡ look rs x) → ((u : ℕ) → suc u ≡ n → Apart u (table_of ws (section S u)) rs) → Known w ws S rs
  longest_each n [] g h k = tt
  longest_each n (run lo hi t ∷ rs) g h k = (
    (
      record {
        rises = g.1;
        inside = g.2;
        alike = λ x a b. table_same ws (section S lo) (section S x) (here lo (omega arith) g.1 ∙ sym (here x a b));
        some = λ q. g.3 (sym (here lo (omega arith) g.1) ∙ (same_table ws (section S lo) none q ∙ table_none ws));
        no_further = λ b q. look_next w hi t rs g.3 g.4 g.5 (sym (past (suc hi) (omega arith) b) ∙ (sym (same_table ws (section S lo) (section S (suc hi)) q) ∙ here lo (omega arith) g.1));
        no_earlier = λ u e q. before u e (same_table ws (section S u) (section S lo) q ∙ here lo (omega arith) g.1);
      },
      sym (here lo (omega arith) g.1),
    ),
    longest_each (suc hi) rs g.5 past (λ u e. let d : u ≡ hi = omega arith in rw (d, here hi g.1 (omega arith)) g.4),
  )
    where
      here : (x : ℕ) → lo ≤ x → x ≤ hi → table_of ws (section S x) ≡ t
      here x a b = h x (omega arith) (omega arith) ∙ unfold look in rw (in_yes lo hi x a b)

      past : (x : ℕ) → suc hi ≤ x → x < w → table_of ws (section S x) ≡ look rs x
      past x a b = h x (omega arith) b ∙ unfold look in rw (in_high lo hi x a)

      before : (u : ℕ) → suc u ≡ lo → table_of ws (section S u) ≡ t → ⊥
      before u e q =
          by_test (leb n u)
          (λ m. g.3 (sym q ∙ (h u (leb-true n u m) (omega arith) ∙ look_low w lo u (run lo hi t ∷ rs) (omega arith, g.1, g.2, g.3, g.4, g.5) (omega arith))))
          (λ m. k u (omega (arith, leb-false n u m)) (sym e) q)

pub table_words_lem : (ws : List ℕ) (S : Set) → IsTable ws S (table_of ws S)
unfolding table_of
table_words_lem [] S = refl
table_words_lem (w ∷ ws) S =
    let f : ℕ → Table = λ v. table_of ws (section S v) in
    let g : Good w 0 (runs_from w 0 f) = runs_good w 0 w f (zero-add w) in
    let h : (x : ℕ) → 0 ≤ x → x < w → f x ≡ look (runs_from w 0 f) x = λ x a b. sym (look_runs w 0 w x f (zero-add w) a b) in (
      runs_from w 0 f,
      refl,
      good_rising w 0 (runs_from w 0 f) g,
      each_map _ _ (runs_from w 0 f) (λ lo hi u c. (c.0, subst (IsTable ws (section S lo)) (sym c.1) (table_words_lem ws (section S lo)))) (longest_each w ws S 0 (runs_from w 0 f) g h (λ u e. absurd (omega arith))),
      λ x b n. look_held (runs_from w 0 f) x (λ q. some_table ws (section S x) n (h x (omega arith) b ∙ q)),
    )

-- EACH SET HAS ONE TABLE, and it is `table_of`
pub the_documents_words : (ws : List ℕ) (S : Set) (t : Table) → IsTable ws S t ↔ (t ≡ table_of ws S)
the_documents_words ws S t = (words_table ws S t, λ q. subst (IsTable ws S) (sym q) (table_words_lem ws S))

-- One level of the recursion: the cells of a dimension, the sections behind them, and what `section` leaves.
use Prim.Native.Nat.{ℕ, zero, suc, ◌+◌, ◌-◌, ◌*◌, ◌≤◌, ◌<◌}
use native.Mathlib.Nat.{add-zero}
use native.Mathlib.Omega.{arith}
use mathlib.Core.Path.{◌≡◌, refl, sym, ap, ap₂, ◌∙◌, subst}
use mathlib.Core.Bool.{Bool, true, false, cond}
use mathlib.Core.List.{List, [], ◌∷◌, ◌++◌, append-nil}
use Rattle.std.specs.Prelude.{Option, Some, None}
use lib.ListN.{length, take, drop, get_or, length-append, length-take}
use lib.Seq.{take-take, take_at, get_or-take, length-take-le}
use lib.Bits.{bit_and}
use Rattle.flows.specs.Table.{◌to◌, Table, Set, section, runs_from, put_before, lines_of, table_of}
use Rattle.flows.specs.Table as flows
use Rattle.flows.specs.Rules.{accepts}
use Rattle.text.proofs.Tests.{by_test}
use Rattle.flows.proofs.Runs.{Step, skip, join, fresh, step}
use Rattle.builder.specs.declared.live.Run.{Run}
use Rattle.builder.specs.Encoding.{low_of, high_of, column_of, word_of, table_words, line_words}
use Rattle.builder.specs.Cells.{top_of, widths_left, mask_of, chosen, table_left, first_or, cells_at, Cell, Chain, Ready}
use Rattle.builder.specs.Post.{BuiltTo, CellRead, Have, Known, Longer, same_words, stamp_n, part, ClosedTo}
use Rattle.builder.proofs.Chosen.{section_left, none_left, leaf_left}
use Rattle.builder.proofs.Laid.{Fits, table_length}
use Rattle.builder.proofs.Cutting.{cells_between, chain_same}
use Rattle.builder.proofs.Turns.{State, lines_of_lem, over_of, is_over, before_kept, start, state_front, pass, keep, told_same, over_sec, over_new, new, finish}

-- ---- the table with `left` dimensions left, by its sections
abbrev pub sec_of : ℕ → ℕ → List ℕ → ℕ → ℕ → ℕ → Table
sec_of left n R a b v = table_of (widths_left (left - 1)) (section (accepts (chosen left n R a b)) v)

pub left_whole : (left n : ℕ) (R : List ℕ) (a b : ℕ) → 0 < left → table_left left n R a b ≡ lines_of (runs_from (suc (top_of (6 - left))) 0 (sec_of left n R a b))
unfolding table_left widths_left table_of
left_whole zero n R a b h = absurd (omega arith)
left_whole (suc k) n R a b h =
    let p : 5 - k ≡ 6 - suc k = omega arith in
    let q : k ≡ suc k - 1 = omega arith in
    ap₂ (λ (d j : ℕ). lines_of (runs_from (suc (top_of d)) 0 (λ v. table_of (widths_left j) (section (accepts (chosen (suc k) n R a b)) v)))) p q

pub sec_at : (left n : ℕ) (R : List ℕ) (a b x y v : ℕ) → 0 < left → x ≡ mask_of (6 - left) (n - (n - 64)) (take 64 R) (drop 64 R) v → y ≡ mask_of (6 - left) (n - 64) (take 64 R) (drop 1408 R) v
    → sec_of left n R a b v ≡ table_left (left - 1) n R (bit_and a x) (bit_and b y)
sec_at zero n R a b x y v h e f = absurd (omega arith)
sec_at (suc k) n R a b x y v h e f =
    let p : 6 - suc k ≡ 5 - k = omega arith in
    let q : k ≡ suc k - 1 = omega arith in
    subst (λ (j : ℕ). table_of (widths_left j) (section (accepts (chosen (suc k) n R a b)) v) ≡ table_left j n R (bit_and a x) (bit_and b y)) q
    (section_left k n R a b x y v (e ∙ ap (λ (d : ℕ). mask_of d (n - (n - 64)) (take 64 R) (drop 64 R) v) p) (f ∙ ap (λ (d : ℕ). mask_of d (n - 64) (take 64 R) (drop 1408 R) v) p))

-- ---- a table's lines fit
abbrev RunsFit : ℕ → List flows.Run → Type 0
RunsFit d [] = Unit {0}
RunsFit d (flows.run lo hi t ∷ rs) = (lo ≤ top_of d) × (hi ≤ top_of d) × Fits (suc d) t × RunsFit d rs

fits_step : {lo hi : ℕ} {t : Table} {rs rs' : List flows.Run} (d : ℕ) → Step lo hi t rs rs' → lo ≤ top_of d → hi ≤ top_of d → Fits (suc d) t → RunsFit d rs → RunsFit d rs'
fits_step d skip h k f g = g
fits_step d (join p q) h k f g = (h, g.1, g.2, g.3)
fits_step d (fresh c) h k f g = (h, k, f, g)

fits_runs : (d k v : ℕ) (f : ℕ → Table) → v + k ≤ suc (top_of d) → ((x : ℕ) → Fits (suc d) (f x)) → RunsFit d (runs_from k v f)
unfolding runs_from
fits_runs d zero v f h g = tt
fits_runs d (suc k) v f h g = fits_step d (step v v (f v) (runs_from k (suc v) f)) (omega arith) (omega arith) (g v) (fits_runs d k (suc v) f (omega arith) g)

fits_append : (d : ℕ) (t u : Table) → Fits d t → Fits d u → Fits d (t ++ u)
fits_append d [] u f g = g
fits_append d (l ∷ t) u f g = (f.0, fits_append d t u f.1 g)

fits_put : (d lo hi : ℕ) (t : Table) → lo ≤ top_of d → hi ≤ top_of d → Fits (suc d) t → Fits d (put_before (lo to hi) t)
unfolding put_before
fits_put d lo hi [] h k f = tt
fits_put d lo hi (l ∷ t) h k f = ((h, k, f.0), fits_put d lo hi t h k f.1)

fits_lines : (d : ℕ) (rs : List flows.Run) → RunsFit d rs → Fits d (lines_of rs)
unfolding lines_of
fits_lines d [] f = tt
fits_lines d (flows.run lo hi t ∷ rs) f = fits_append d (put_before (lo to hi) t) (lines_of rs) (fits_put d lo hi t f.0 f.1 f.2) (fits_lines d rs f.3)

pub fits_table : (k : ℕ) (S : Set) → k ≤ 6 → Fits (6 - k) (table_of (widths_left k) S)
unfolding widths_left table_of
fits_table zero S h = by_test (S []) (λ e. rw e (refl, tt)) (λ e. rw e tt)
fits_table (suc k) S h =
    let p : 5 - k ≡ 6 - suc k = omega arith in
    let q : 6 - k ≡ suc (5 - k) = omega arith in
    subst (λ (d : ℕ). Fits d (lines_of (runs_from (suc (top_of (5 - k))) 0 (λ v. table_of (widths_left k) (section S v))))) p
    (fits_lines (5 - k) (runs_from (suc (top_of (5 - k))) 0 (λ v. table_of (widths_left k) (section S v)))
    (fits_runs (5 - k) (suc (top_of (5 - k))) 0 (λ v. table_of (widths_left k) (section S v)) (omega arith)
    (λ x. subst (λ (d : ℕ). Fits d (table_of (widths_left k) (section S x))) q (fits_table k (section S x) (omega arith)))))

fits_left : (left n : ℕ) (R : List ℕ) (a b : ℕ) → 0 < left → left ≤ 6 → Fits (suc (6 - left)) (table_left (left - 1) n R a b)
unfolding table_left
fits_left left n R a b h k =
    let q : 6 - (left - 1) ≡ suc (6 - left) = omega arith in
    subst (λ (d : ℕ). Fits d (table_of (widths_left (left - 1)) (accepts (chosen (left - 1) n R a b)))) q (fits_table (left - 1) (accepts (chosen (left - 1) n R a b)) (omega arith))

-- ---- buffers with the same front
pub same_at : (at : ℕ) (w w' : List ℕ) (q : ℕ) → q < 3 * at → take (3 * at) w' ≡ take (3 * at) w → get_or w' q 0 ≡ get_or w q 0
same_at at w w' q h e = sym (get_or-take (3 * at) w' q 0 h) ∙ ap (λ (l : List ℕ). get_or l q 0) e ∙ get_or-take (3 * at) w q 0 h

same_rules : (at : ℕ) (w w' : List ℕ) → 2357 ≤ at → take (3 * at) w' ≡ take (3 * at) w → take 1555 w' ≡ take 1555 w
same_rules at w w' h e = sym (take-take 1555 (3 * at) w' (omega arith)) ∙ ap (λ (l : List ℕ). take 1555 l) e ∙ take-take 1555 (3 * at) w (omega arith)

ready_same : (n ya yb at : ℕ) (R w w' : List ℕ) → 2357 ≤ at → take (3 * at) w' ≡ take (3 * at) w → Ready n ya yb R w → Ready n ya yb R w'
ready_same n ya yb at R w w' h e r = record {
  few = r.few;
  cells = λ d l. let c = r.cells d l in
      record { count = c.count; chain = chain_same c.count n d R w w' (cells_at (d + 1)) 0 (cells_at d) (λ q a b. same_at at w w' q (omega (arith, cells_between d l)) e) c.chain };
  firsts = r.firsts;
  others = r.others;
}

pub ready_now : {n ya yb : ℕ} (at : ℕ) (w w' : List ℕ) → 2357 ≤ at → take (3 * at) w' ≡ take (3 * at) w → Ready n ya yb (take 1555 w) w → Ready n ya yb (take 1555 w') w'
ready_now {n} {ya} {yb} at w w' h e r = subst (λ (Q : List ℕ). Ready n ya yb Q w') (sym (same_rules at w w' h e)) (ready_same n ya yb at (take 1555 w) w w' h e r)

-- ---- a chain's first cell and the rest of it
pub record Link (n d : ℕ) (R s : List ℕ) (z v p : ℕ) : Type 0 where
  pub count : ℕ
  pub cell : Cell n d R s z v p
  pub rest : high_of (get_or s p 0) < top_of d → Chain count n d R s z (high_of (get_or s p 0) + 1) (p + 3)

pub link_of : (c n d : ℕ) (R s : List ℕ) (z v p : ℕ) → Chain c n d R s z v p → Link n d R s z v p
unfolding Chain
link_of zero n d R s z v p k = absurd k
link_of (suc c) n d R s z v p k = record { count = c; cell = k.0; rest = k.1 }

-- a cell's two live sets, and again the same two
cell_have : {a b x : ℕ} {w : List ℕ} (f : ℕ → ℕ → Table) (cell : Run) → CellRead a b x w cell → Have f (f cell.live.first cell.live.others) cell
cell_have f cell r = (refl, ap₂ f (r.third ∙ sym r.first) (r.fourth ∙ sym r.second))

-- ---- the state of the loop over the cells
pub record Turn (n at left a b ya yb : ℕ) (w₀ work : List ℕ) (x : ℕ) (run : Run) (kept end : ℕ) : Type 0 where
  pub ready : Ready n ya yb (take 1555 w₀) w₀
  pub pend : Table
  pub have : Have (table_left (left - 1) n (take 1555 w₀)) pend run
  pub state : State (sec_of left n (take 1555 w₀) a b) (suc (top_of (6 - left))) (table_left left n (take 1555 w₀) a b) (6 - left) at w₀ work kept end run.low run.high pend
  pub count : ℕ
  pub chain : run.high < top_of (6 - left) → Chain count n (6 - left) (take 1555 w₀) w₀ (cells_at (6 - left + 1)) (run.high + 1) (x + 3)
  pub some : 0 < left
  pub most : left ≤ 6
  pub base : 2357 ≤ at
  pub fits : 3 * (at + 512 * left) + 3 ≤ 16290
  pub whole : length w₀ ≡ 16290
  pub from_at : at ≤ kept
  pub to_end : kept ≤ end
  pub room : end ≤ at + 512
  pub low : run.low ≤ top_of (6 - left)
  pub high : run.high ≤ top_of (6 - left)
  pub long : length work ≡ length w₀
  pub place : x ≤ 7069

module _ {n at left a b ya yb : ℕ} {w₀ work : List ℕ} {x : ℕ} {run : Run} {kept end : ℕ} (t : Turn n at left a b ya yb w₀ work x run kept end) where
  abbrev R : List ℕ
  R = take 1555 w₀

  d6 : 6 - left < 6
  d6 = omega (arith, t.some, t.most)

  at_fits : 3 * at ≤ length w₀
  at_fits = omega (arith, t.fits, t.whole)

  turn_front : take (3 * at) work ≡ take (3 * at) w₀
  turn_front = state_front (sec_of left n R a b) (suc (top_of (6 - left))) (table_left left n R a b) (6 - left) at w₀ at_fits work kept end run.low run.high t.pend t.state

  pub turn_ready : Ready n ya yb (take 1555 work) work
  turn_ready = ready_now at w₀ work t.base turn_front t.ready

  -- the state at another place of the buffer
  turned : (x' : ℕ) (run' : Run) (pend' : Table) (kept' end' c : ℕ) (w' : List ℕ) → Have (table_left (left - 1) n R) pend' run'
      → State (sec_of left n R a b) (suc (top_of (6 - left))) (table_left left n R a b) (6 - left) at w₀ w' kept' end' run'.low run'.high pend'
      → (run'.high < top_of (6 - left) → Chain c n (6 - left) R w₀ (cells_at (6 - left + 1)) (run'.high + 1) (x' + 3)) → x' ≤ 7069 → Turn n at left a b ya yb w₀ w' x' run' kept' end'
  turned x' run' pend' kept' end' c w' h s k p = record {
    ready = t.ready;
    pend = pend';
    have = h;
    state = s;
    count = c;
    chain = k;
    some = t.some;
    most = t.most;
    base = t.base;
    fits = t.fits;
    whole = t.whole;
    from_at = omega (arith, s.at_kept);
    to_end = omega (arith, s.at_end);
    room = s.room;
    low = omega (arith, s.pending.rises, s.pending.within);
    high = omega (arith, s.pending.within);
    long = s.long;
    place = p;
  }

  -- the loop is over
  pub turn_done : {we w' : List ℕ} → take (3 * at) w₀ ≡ take (3 * at) we → top_of (6 - left) ≤ run.high → w' ≡ stamp_n (column_of (6 - left)) (word_of (6 - left) run.low run.high) (end - kept) kept work → BuiltTo (table_left left n (take 1555 we) a b) at (6 - left) we w' (Some (end - at))
  turn_done {we} {w'} fe h e =
      let f = finish (sec_of left n R a b) (suc (top_of (6 - left))) (table_left left n R a b) (6 - left) at w₀ at_fits work kept end run.low run.high t.pend t.state (omega arith) in
      let r : take 1555 w₀ ≡ take 1555 we = same_rules at we w₀ t.base fe in
      subst (λ (Q : List ℕ). BuiltTo (table_left left n Q a b) at (6 - left) we w' (Some (end - at))) r
      (record { answer = f.answer; held = λ o. ap (λ (l : List ℕ). take (3 * (at + length (table_left left n R a b))) l) e ∙ f.held o ∙ ap (λ (l : List ℕ). l ++ table_words (6 - left) (table_left left n R a b)) fe })

  pub turn_over : {we w' : List ℕ} → take (3 * at) w₀ ≡ take (3 * at) we → 512 < length (table_left left n R a b) → BuiltTo (table_left left n (take 1555 we) a b) at (6 - left) we w' None
  turn_over {we} {w'} fe h = subst (λ (Q : List ℕ). BuiltTo (table_left left n Q a b) at (6 - left) we w' None) (same_rules at we w₀ t.base fe) (is_over (table_left left n R a b) at (6 - left) we w' h)

  -- the next cell
  module _ {last : ℕ} (is_last : last ≡ top_of (6 - left)) (below : run.high < last) where
    more : run.high < top_of (6 - left)
    more = omega arith

    next_chain : Link n (6 - left) R w₀ (cells_at (6 - left + 1)) (run.high + 1) (x + 3)
    next_chain = link_of t.count n (6 - left) R w₀ (cells_at (6 - left + 1)) (run.high + 1) (x + 3) (t.chain more)

    pub next_inside : x + 3 + 3 ≤ 7069
    next_inside = omega (arith, next_chain.cell.inside, cells_between (6 - left) d6)

    next_same : (q : ℕ) → q < 7069 → get_or work q 0 ≡ get_or w₀ q 0
    next_same q h = same_at at w₀ work q (omega (arith, t.base)) turn_front

    -- what is read of it
    module _ {cell : Run} (read : CellRead a b (x + 3) work cell) where
      up_is : cell.high ≡ high_of (get_or w₀ (x + 3) 0)
      up_is = read.high ∙ ap high_of (next_same (x + 3) (omega (arith, next_inside)))

      up_more : (run.high < cell.high) × (cell.high ≤ top_of (6 - left))
      up_more = omega (arith, next_chain.cell.rises, next_chain.cell.below, up_is)

      sec : Table
      sec = table_left (left - 1) n R cell.live.first cell.live.others

      next_sec : (y : ℕ) → run.high < y → y ≤ cell.high → sec_of left n R a b y ≡ sec
      unfolding sec
      next_sec y h l =
          let c = next_chain.cell in
          sec_at left n R a b (get_or w₀ (x + 3 + 1) 0) (get_or w₀ (x + 3 + 2) 0) y t.some (c.first y (omega arith) (omega (arith, up_is))) (c.second y (omega arith) (omega (arith, up_is)))
          ∙ ap₂ (table_left (left - 1) n R)
          (ap (bit_and a) (sym (next_same (x + 3 + 1) (omega (arith, next_inside)))) ∙ sym read.first)
          (ap (bit_and b) (sym (next_same (x + 3 + 2) (omega (arith, next_inside)))) ∙ sym read.second)

      next_chained : (up : ℕ) → up ≡ cell.high → up < top_of (6 - left) → Chain next_chain.count n (6 - left) R w₀ (cells_at (6 - left + 1)) (up + 1) (x + 3 + 3)
      next_chained up e l = subst (λ (y : ℕ). Chain next_chain.count n (6 - left) R w₀ (cells_at (6 - left + 1)) (y + 1) (x + 3 + 3)) (sym (e ∙ up_is)) (next_chain.rest (omega (arith, e, up_is)))

      pub next_less : top_of (6 - left) - cell.high < top_of (6 - left) - run.high
      next_less = omega (arith, up_more)

      pub less_on : {longer : Run} → Longer run cell longer → top_of (6 - left) - longer.high < top_of (6 - left) - run.high
      less_on {longer} l = omega (arith, up_more, l.high)

      -- its section is the pending one, and the run goes on
      module _ (w' : List ℕ) (longer : Run) (l : Longer run cell longer) (e : sec ≡ t.pend)
          (s : State (sec_of left n R a b) (suc (top_of (6 - left))) (table_left left n R a b) (6 - left) at w₀ w' kept end run.low cell.high t.pend) where
        turn_on : Turn n at left a b ya yb w₀ w' (x + 3) longer kept end
        unfolding sec
        turn_on =
            turned (x + 3) longer t.pend kept end next_chain.count w' (l.have (table_left (left - 1) n R) t.pend t.have e)
            (subst (λ (v : ℕ). State (sec_of left n R a b) (suc (top_of (6 - left))) (table_left left n R a b) (6 - left) at w₀ w' kept end v longer.high t.pend) (sym l.low)
            (subst (λ (v : ℕ). State (sec_of left n R a b) (suc (top_of (6 - left))) (table_left left n R a b) (6 - left) at w₀ w' kept end run.low v t.pend) (sym l.high) s))
            (next_chained longer.high l.high) (omega (arith, next_inside))

      -- it is known to be the pending one
      pub turn_pass : {ok : Bool} → (ok ≡ true → Known run cell) → ok ≡ true → {longer : Run} → Longer run cell longer → Turn n at left a b ya yb w₀ work (x + 3) longer kept end
      unfolding sec
      turn_pass {ok} g y {longer} l =
          let e : sec ≡ t.pend = g y (table_left (left - 1) n R) t.pend t.have in
          turn_on work longer l e
          (pass (sec_of left n R a b) (suc (top_of (6 - left))) (table_left left n R a b) (6 - left) at w₀ at_fits work kept end run.low run.high t.pend t.state cell.high sec up_more.0 (omega (arith, up_more)) next_sec (sym e))

      -- it is built behind the pending run
      module _ {w' : List ℕ} {r : Option ℕ} (bt : BuiltTo (table_left (left - 1) n (take 1555 work) cell.live.first cell.live.others) end (6 - (left - 1)) work w' r) (all : length w' ≡ 16290) where
        same_long : length w' ≡ length work
        same_long = all ∙ sym (t.long ∙ t.whole)

        built : BuiltTo sec end (suc (6 - left)) work w' r
        unfolding sec
        built =
            let q : 6 - (left - 1) ≡ suc (6 - left) = omega (arith, t.some, t.most) in
            subst (λ (d : ℕ). BuiltTo (table_left (left - 1) n R cell.live.first cell.live.others) end d work w' r) q
            (subst (λ (Q : List ℕ). BuiltTo (table_left (left - 1) n Q cell.live.first cell.live.others) end (6 - (left - 1)) work w' r) (same_rules at w₀ work t.base turn_front) bt)

        fit_s : Fits (suc (6 - left)) sec
        unfolding sec
        fit_s = fits_left left n R cell.live.first cell.live.others t.some t.most

        pub turn_over_sec : r ≡ None → 512 < length (table_left left n R a b)
        turn_over_sec o = over_sec (sec_of left n R a b) (suc (top_of (6 - left))) (table_left left n R a b) (6 - left) at w₀ at_fits work kept end run.low run.high t.pend t.state cell.high sec up_more.0 (omega (arith, up_more)) next_sec fit_s w' r built same_long o

        module _ {m : ℕ} (l : r ≡ Some m) where
          pub turn_few : m ≤ 512
          turn_few = let q = lines_of_lem sec m r built.answer l in omega (arith, q.0, q.1)

          pub turn_inside : 3 * (end + m) ≤ length w'
          turn_inside =
              let q = lines_of_lem sec m r built.answer l in
              let h : length (take (3 * (end + length sec)) w') ≡ 3 * (end + length sec) =
              ap length (built.held q.1) ∙ length-append (take (3 * end) work) (table_words (suc (6 - left)) sec) ∙ omega (arith, length-take-le (3 * end) work (omega (arith, t.long, t.fits, t.whole, t.room, t.some)), table_length (suc (6 - left)) sec) in
              omega (arith, q.0, h, length-take (3 * (end + length sec)) w')

          module _ {w'' : List ℕ} {ok : Bool} (k : ClosedTo kept end (end + m) (column_of (6 - left)) (word_of (6 - left) run.low run.high) w' w'' ok) where
            pub turn_keep : ok ≡ true → {longer : Run} → Longer run cell longer → Turn n at left a b ya yb w₀ w'' (x + 3) longer kept end
            turn_keep y {longer} g =
                let c : same_words (part kept end w') (part end (end + m) w') ≡ true = sym k.same ∙ y in
                let e : w'' ≡ w' = k.left ∙ ap (λ (z : Bool). cond z w' (stamp_n (column_of (6 - left)) (word_of (6 - left) run.low run.high) (end - kept) kept w')) y in
                let s = keep (sec_of left n R a b) (suc (top_of (6 - left))) (table_left left n R a b) (6 - left) at w₀ at_fits work kept end run.low run.high t.pend t.state cell.high sec up_more.0 (omega (arith, up_more)) next_sec fit_s w' r built same_long m l c in
                let p = told_same (sec_of left n R a b) (suc (top_of (6 - left))) (table_left left n R a b) (6 - left) at w₀ at_fits work kept end run.low run.high t.pend t.state cell.high sec up_more.0 (omega (arith, up_more)) next_sec fit_s w' r built same_long m l c in
                turn_on w'' longer g (sym p)
                (subst (λ (z : List ℕ). State (sec_of left n R a b) (suc (top_of (6 - left))) (table_left left n R a b) (6 - left) at w₀ z kept end run.low cell.high t.pend) (sym e) s)

            pub turn_over_new : ok ≡ false → 512 < end + m - at → 512 < length (table_left left n R a b)
            turn_over_new y h = over_new (sec_of left n R a b) (suc (top_of (6 - left))) (table_left left n R a b) (6 - left) at w₀ at_fits work kept end run.low run.high t.pend t.state cell.high sec up_more.0 (omega (arith, up_more)) next_sec fit_s w' r built same_long m l (sym k.same ∙ y) h

            pub turn_new : ok ≡ false → length w'' ≡ 16290 → end + m - at ≤ 512 → Turn n at left a b ya yb w₀ w'' (x + 3) cell end (end + m)
            unfolding sec
            turn_new y f h =
                let g : length w'' ≡ length w' = f ∙ sym all in
                let e : w'' ≡ stamp_n (column_of (6 - left)) (word_of (6 - left) run.low run.high) (end - kept) kept w' = k.left ∙ ap (λ (z : Bool). cond z w' (stamp_n (column_of (6 - left)) (word_of (6 - left) run.low run.high) (end - kept) kept w')) y in
                let s = new (sec_of left n R a b) (suc (top_of (6 - left))) (table_left left n R a b) (6 - left) at w₀ at_fits work kept end run.low run.high t.pend t.state cell.high sec up_more.0 (omega (arith, up_more)) next_sec fit_s w' r built same_long m l w'' (sym k.same ∙ y) e g h in
                let q : suc run.high ≡ cell.low = omega (arith, read.low, ap low_of (next_same (x + 3) (omega (arith, next_inside))), next_chain.cell.low) in
                turned (x + 3) cell sec end (end + m) next_chain.count w'' (cell_have (table_left (left - 1) n R) cell read)
                (subst (λ (z : ℕ). State (sec_of left n R a b) (suc (top_of (6 - left))) (table_left left n R a b) (6 - left) at w₀ w'' end (end + m) z cell.high sec) q s)
                (next_chained cell.high refl) (omega (arith, next_inside))

-- ---- where the loop begins
module _ {n at left ya yb : ℕ} {we : List ℕ} (ready : Ready n ya yb (take 1555 we) we) (whole : length we ≡ 16290) (most : left ≤ 6) (base : 2357 ≤ at) (fits : 3 * (at + 512 * left) + 3 ≤ 16290) (not_none : left ≡ 0 → ⊥) where
  some : 0 < left
  some = omega arith

  first_cell : Link n (6 - left) (take 1555 we) we (cells_at (6 - left + 1)) 0 (cells_at (6 - left))
  first_cell = let c = ready.cells (6 - left) (omega arith) in link_of c.count n (6 - left) (take 1555 we) we (cells_at (6 - left + 1)) 0 (cells_at (6 - left)) c.chain

  pub first_inside : cells_at (6 - left) + 3 ≤ 7069
  first_inside = omega (arith, first_cell.cell.inside, cells_between (6 - left) (omega arith))

  module _ {a b x : ℕ} {run : Run} (ex : x ≡ cells_at (6 - left)) (read : CellRead a b x we run)
      {w₀ : List ℕ} {r : Option ℕ} (bt : BuiltTo (table_left (left - 1) n (take 1555 we) run.live.first run.live.others) at (6 - (left - 1)) we w₀ r) (all : length w₀ ≡ 16290) where
    first_sec : (y : ℕ) → y ≤ run.high → sec_of left n (take 1555 we) a b y ≡ table_left (left - 1) n (take 1555 we) run.live.first run.live.others
    first_sec y h =
        let c = first_cell.cell in
        let q : run.high ≡ high_of (get_or we (cells_at (6 - left)) 0) = read.high ∙ ap (λ (z : ℕ). high_of (get_or we z 0)) ex in
        sec_at left n (take 1555 we) a b (get_or we (cells_at (6 - left) + 1) 0) (get_or we (cells_at (6 - left) + 2) 0) y some (c.first y (omega arith) (omega (arith, q))) (c.second y (omega arith) (omega (arith, q)))
        ∙ ap₂ (λ (p q : ℕ). table_left (left - 1) n (take 1555 we) p q)
        (ap (λ (z : ℕ). bit_and a (get_or we (z + 1) 0)) (sym ex) ∙ sym read.first) (ap (λ (z : ℕ). bit_and b (get_or we (z + 2) 0)) (sym ex) ∙ sym read.second)

    pub first_over : {w' : List ℕ} → r ≡ None → BuiltTo (table_left left n (take 1555 we) a b) at (6 - left) we w' None
    first_over {w'} o =
        let s : sec_of left n (take 1555 we) a b 0 ≡ table_left (left - 1) n (take 1555 we) run.live.first run.live.others = first_sec 0 (omega arith) in
        let l = Rattle.flows.proofs.Meaning.runs_length (suc (top_of (6 - left))) 0 (sec_of left n (take 1555 we) a b) 0 (omega arith) (omega arith) in
        is_over (table_left left n (take 1555 we) a b) at (6 - left) we w'
        (omega (arith, over_of (table_left (left - 1) n (take 1555 we) run.live.first run.live.others) r bt.answer o, l, ap length s, ap length (left_whole left n (take 1555 we) a b some)))

    module _ {m : ℕ} (l : r ≡ Some m) where
      pub first_few : m ≤ 512
      first_few = let q = lines_of_lem (table_left (left - 1) n (take 1555 we) run.live.first run.live.others) m r bt.answer l in omega (arith, q.0, q.1)

      pub first_front : take (3 * at) w₀ ≡ take (3 * at) we
      first_front = before_kept (table_left (left - 1) n (take 1555 we) run.live.first run.live.others) at (6 - (left - 1)) we w₀ r m (omega arith) bt l

      pub turn_start : Turn n at left a b ya yb w₀ w₀ x run at (at + m)
      turn_start =
          let R = take 1555 we in
          let d6 : 6 - (left - 1) ≡ suc (6 - left) = omega arith in
          let q : run.high ≡ high_of (get_or we (cells_at (6 - left)) 0) = read.high ∙ ap (λ (z : ℕ). high_of (get_or we z 0)) ex in
          let z : 0 ≡ run.low = sym first_cell.cell.low ∙ ap (λ (y : ℕ). low_of (get_or we y 0)) (sym ex) ∙ sym read.low in
          let hm : run.high ≤ top_of (6 - left) = omega (arith, q, first_cell.cell.below) in
          let fr = first_front in
          let rr : take 1555 w₀ ≡ take 1555 we = same_rules at we w₀ base fr in
          let st = start (sec_of left n R a b) (suc (top_of (6 - left))) (table_left left n R a b) (6 - left) at we w₀ r m run.high (table_left (left - 1) n R run.live.first run.live.others) (omega arith) (left_whole left n R a b some) (omega arith) first_sec (fits_left left n R run.live.first run.live.others some most)
          (subst (λ (d : ℕ). BuiltTo (table_left (left - 1) n R run.live.first run.live.others) at d we w₀ r) d6 bt) l in
          let bet = cells_between (6 - left) (omega arith) in
          record {
            pend = table_left (left - 1) n (take 1555 w₀) run.live.first run.live.others;
            have = cell_have (table_left (left - 1) n (take 1555 w₀)) run read;
            ready = subst (λ (Q : List ℕ). Ready n ya yb Q w₀) (sym rr) (ready_same n ya yb at R we w₀ base fr ready);
            state = subst (λ (Q : List ℕ). State (sec_of left n Q a b) (suc (top_of (6 - left))) (table_left left n Q a b) (6 - left) at w₀ w₀ at (at + m) run.low run.high (table_left (left - 1) n Q run.live.first run.live.others)) (sym rr)
                (subst (λ (u : ℕ). State (sec_of left n R a b) (suc (top_of (6 - left))) (table_left left n R a b) (6 - left) at w₀ w₀ at (at + m) u run.high (table_left (left - 1) n R run.live.first run.live.others)) z st);
            count = first_cell.count;
            chain = λ h. subst (λ (Q : List ℕ). Chain first_cell.count n (6 - left) Q w₀ (cells_at (6 - left + 1)) (run.high + 1) (x + 3)) (sym rr)
                (chain_same first_cell.count n (6 - left) R we w₀ (cells_at (6 - left + 1)) (run.high + 1) (x + 3) (λ p i j. same_at at we w₀ p (omega (arith, bet)) fr)
                (subst (λ (y : ℕ). Chain first_cell.count n (6 - left) R we (cells_at (6 - left + 1)) (run.high + 1) (y + 3)) (sym ex)
                (subst (λ (y : ℕ). Chain first_cell.count n (6 - left) R we (cells_at (6 - left + 1)) (y + 1) (cells_at (6 - left) + 3)) (sym q) (first_cell.rest (omega (arith, q))))));
            some = some;
            most = most;
            base = base;
            fits = fits;
            whole = all;
            from_at = omega arith;
            to_end = omega arith;
            room = omega (arith, first_few);
            low = omega (arith, z);
            high = hm;
            long = refl;
            place = omega (arith, first_inside);
          }

-- ---- no accepting rule, no dimension, and one
pub none_is : {n at ya yb : ℕ} {w : List ℕ} {ok : Bool} (left a b : ℕ) → Ready n ya yb (take 1555 w) w → (ok ≡ true → (bit_and a ya ≡ 0) × (bit_and b yb ≡ 0)) → ok ≡ true → BuiltTo (table_left left n (take 1555 w) a b) at (6 - left) w w (Some 0)
unfolding table_words
none_is {n} {at} {ya} {yb} {w} {ok} left a b r g e =
    let q : table_left left n (take 1555 w) a b ≡ [] = none_left left n a b ya yb (take 1555 w) w r (g e).0 (g e).1 in
    rw q (record { answer = refl; held = λ o. rw add-zero (sym (append-nil (take (3 * at) w))) })

pub leaf_is : {left at : ℕ} {w w' : List ℕ} {r : Option ℕ} (n a b : ℕ) → left ≡ 0 → BuiltTo (table_left 0 n (take 1555 w) a b) at 6 w w' r → BuiltTo (table_left left n (take 1555 w) a b) at (6 - left) w w' r
leaf_is {left} {at} {w} {w'} {r} n a b e g = subst (λ (x : ℕ). BuiltTo (table_left x n (take 1555 w) a b) at (6 - x) w w' r) (sym e) g

-- one dimension left
pub last_is : {left at : ℕ} {w w' : List ℕ} {r : Option ℕ} (n a b : ℕ) → left ≡ 1 → BuiltTo (table_left 1 n (take 1555 w) a b) at 5 w w' r → BuiltTo (table_left left n (take 1555 w) a b) at (6 - left) w w' r
last_is {left} {at} {w} {w'} {r} n a b e g = subst (λ (x : ℕ). BuiltTo (table_left x n (take 1555 w) a b) at (6 - x) w w' r) (sym e) g

pub leaf_one : (n at a b ya yb : ℕ) (w w' : List ℕ) (ok : Bool) → 3 * at + 3 ≤ length w → Ready n ya yb (take 1555 w) w → ok ≡ first_or 64 ya a (first_or 64 yb b false) → ok ≡ true → w' ≡ (take (3 * at) w ++ (0 ∷ (0 ∷ (0 ∷ [])))) ++ drop (3 * at + 3) w
    → BuiltTo (table_left 0 n (take 1555 w) a b) at 6 w w' (Some 1)
unfolding table_words line_words
leaf_one n at a b ya yb w w' ok h r e y g =
    let q : table_left 0 n (take 1555 w) a b ≡ [] ∷ [] = leaf_left n a b ya yb (take 1555 w) w r ∙ ap (λ (z : Bool). cond z ([] ∷ []) []) (sym e ∙ y) in
    let l : length (take (3 * at) w ++ (0 ∷ (0 ∷ (0 ∷ [])))) ≡ 3 * (at + 1) = length-append (take (3 * at) w) (0 ∷ (0 ∷ (0 ∷ []))) ∙ omega (arith, length-take-le (3 * at) w (omega arith)) in
    rw q (record { answer = refl; held = λ o. ap (λ (x : List ℕ). take (3 * (at + 1)) x) g ∙ take_at (take (3 * at) w ++ (0 ∷ (0 ∷ (0 ∷ [])))) (drop (3 * at + 3) w) (3 * (at + 1)) l })

pub leaf_none : (n at a b ya yb : ℕ) (w : List ℕ) (ok : Bool) → Ready n ya yb (take 1555 w) w → ok ≡ first_or 64 ya a (first_or 64 yb b false) → ok ≡ false → BuiltTo (table_left 0 n (take 1555 w) a b) at 6 w w (Some 0)
unfolding table_words
leaf_none n at a b ya yb w ok r e y =
    let q : table_left 0 n (take 1555 w) a b ≡ [] = leaf_left n a b ya yb (take 1555 w) w r ∙ ap (λ (z : Bool). cond z ([] ∷ []) []) (sym e ∙ y) in
    rw q (record { answer = refl; held = λ o. rw add-zero (sym (append-nil (take (3 * at) w))) })

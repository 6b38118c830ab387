-- The last dimension: the cells of the device's port, and the lines of those that are accepted.
use Prim.Native.Nat.{ℕ, suc, ◌+◌, ◌-◌, ◌*◌, ◌≤◌, ◌<◌}
use native.Mathlib.Omega.{arith}
use mathlib.Core.Path.{◌≡◌, refl, sym, ap, ap₂, ◌∙◌, subst}
use mathlib.Core.Bool.{Bool, true, false, cond, beq}
use mathlib.Core.List.{List, [], ◌∷◌, ◌++◌, append_assoc, append-nil, cons≢nil}
use Rattle.std.specs.Prelude.{Some}
use lib.ListN.{length, take, drop, get_or, length-append}
use lib.Seq.{take_at, take-take, length-take-le}
use lib.Bits.{bit_and}
use borrow.Author.Rules.{rules}
use Rattle.flows.specs.Table.{◌to◌, Table, runs_from, put_before, lines_of}
use Rattle.text.proofs.Tests.{by_test, clash}
use Rattle.flows.proofs.Meaning.{length_put}
use Rattle.builder.specs.declared.live.Judged.{Judged}
use Rattle.builder.specs.Encoding.{low_of, high_of, column_of, word_of, table_words, line_words}
use Rattle.builder.specs.Cells.{top_of, table_left, first_or, cells_at, Chain, Ready}
use Rattle.builder.specs.Post.{BuiltTo, ok_at, JudgedRead, RunPut, stamp_n}
use Rattle.builder.proofs.Chosen.{leaf_left}
use Rattle.builder.proofs.Laid.{table_length, table_append, stamp_table}
use Rattle.builder.proofs.Cutting.{cells_between}
use Rattle.builder.proofs.Pending.{Pending, pending_first, pending_last, pending_on, pending_new}
use Rattle.builder.proofs.Turns.{is_lines}
use Rattle.builder.proofs.Levels.{sec_of, left_whole, sec_at, same_at, Link, link_of}

-- with no dimension left: one line, or none
abbrev pub one_line : Bool → Table
one_line ok = cond ok ([] ∷ []) []

one_length : (ok : Bool) → length (one_line ok) ≡ cond ok 1 0
one_length true = refl
one_length false = refl

same_verdict : (a b : Bool) → beq a b ≡ true → a ≡ b
same_verdict true b e = by_test b (λ q. sym q) (λ q. clash e (ap (beq true) q))
same_verdict false b e = by_test b (λ q. clash e (ap (beq false) q)) (λ q. sym q)

other_verdict : (a b : Bool) → beq a b ≡ false → one_line b ≡ one_line a → ⊥
other_verdict a true e q = by_test a (λ p. clash refl (sym (ap (λ (x : Bool). beq x true) p) ∙ e)) (λ p. cons≢nil (q ∙ ap one_line p))
other_verdict a false e q = by_test a (λ p. cons≢nil (sym (q ∙ ap one_line p))) (λ p. clash refl (sym (ap (λ (x : Bool). beq x false) p) ∙ e))

port_top : top_of 5 ≡ 65535
unfolding top_of
port_top = refl

port_place : cells_at 5 ≡ 6214
unfolding cells_at
port_place = refl

-- ---- a run put down
one_words : table_words 6 ([] ∷ []) ≡ 0 ∷ (0 ∷ (0 ∷ []))
unfolding table_words line_words
one_words = refl

pub run_put : (at lo hi : ℕ) (ok : Bool) (w w' w'' : List ℕ) → 3 * at + 3 ≤ length w → ok ≡ true → w' ≡ (take (3 * at) w ++ (0 ∷ (0 ∷ (0 ∷ [])))) ++ drop (3 * at + 3) w
    → w'' ≡ stamp_n (column_of 5) (word_of 5 lo hi) (at + 1 - at) at w' → RunPut at lo hi ok w w'' (at + 1)
run_put at lo hi ok w w' w'' room y e f =
    let t : Table = [] ∷ [] in
    let P = put_before (lo to hi) t in
    let tail = drop (3 * at + 3) w in
    let l : length (take (3 * at) w) ≡ 3 * at = length-take-le (3 * at) w (omega arith) in
    let q : w' ≡ take (3 * at) w ++ (table_words 6 t ++ tail) = e ∙ append_assoc (take (3 * at) w) (0 ∷ (0 ∷ (0 ∷ []))) tail ∙ ap (λ (z : List ℕ). take (3 * at) w ++ (z ++ tail)) (sym one_words) in
    let k : at + 1 - at ≡ 1 = omega arith in
    let g : w'' ≡ (take (3 * at) w ++ table_words 5 P) ++ tail =
    f ∙ ap₂ (λ (k : ℕ) (z : List ℕ). stamp_n (column_of 5) (word_of 5 lo hi) k at z) k q
    ∙ stamp_table 5 lo hi at t (take (3 * at) w) tail l ∙ sym (append_assoc (take (3 * at) w) (table_words 5 P) tail) in
    let z : length (take (3 * at) w ++ table_words 5 P) ≡ 3 * (at + 1) = length-append (take (3 * at) w) (table_words 5 P) ∙ omega (arith, l, table_length 5 P, length_put (lo to hi) t) in
    rw y (record { count = omega arith; held = ap (λ (z : List ℕ). take (3 * (at + 1)) z) g ∙ take_at (take (3 * at) w ++ table_words 5 P) tail (3 * (at + 1)) z })

pub run_dropped : (at lo hi : ℕ) (ok : Bool) (w : List ℕ) → ok ≡ false → RunPut at lo hi ok w w at
unfolding table_words put_before
run_dropped at lo hi ok w y = rw (y) (record { count = omega arith; held = sym (append-nil (take (3 * at) w)) })

-- ---- the loop over the cells: what is laid down so far
pub record Scan (n at a b ya yb : ℕ) (we work : List ℕ) (x lo hi : ℕ) (ok : Bool) (end : ℕ) : Type 0 where
  pub ready : Ready n ya yb (take 1555 we) we
  pub done : Table
  pub pending : Pending (sec_of 1 n (take 1555 we) a b) 65536 (table_left 1 n (take 1555 we) a b) done lo hi (one_line ok)
  pub held : take (3 * end) work ≡ take (3 * at) we ++ table_words 5 done
  pub at_end : end ≡ at + length done
  pub few : 3 * end + 6214 ≤ 3 * at + x
  pub count : ℕ
  pub chain : hi < 65535 → Chain count n 5 (take 1555 we) we (cells_at 6) (hi + 1) (x + 3)
  pub base : 2357 ≤ at
  pub fits : 3 * (at + 512) + 3 ≤ 16290
  pub whole : length we ≡ 16290
  pub low : lo ≤ top_of 5
  pub high : hi ≤ top_of 5
  pub place : x ≤ 7066

-- the section of each value of a cell
cell_sec : (n a b ya yb : ℕ) (w : List ℕ) (v x y : ℕ) → Ready n ya yb (take 1555 w) w → Link n 5 (take 1555 w) w (cells_at 6) v x → v ≤ y → y ≤ high_of (get_or w x 0) → sec_of 1 n (take 1555 w) a b y ≡ one_line (ok_at a b ya yb w x)
cell_sec n a b ya yb w v x y r c h k =
    let R = take 1555 w in
    let p = get_or w (x + 1) 0 in
    let q = get_or w (x + 2) 0 in
    sec_at 1 n R a b p q y (omega arith) (c.cell.first y h k) (c.cell.second y h k) ∙ leaf_left n (bit_and a p) (bit_and b q) ya yb R w r

pub scan_first : {at x long : ℕ} → 2357 ≤ at → 3 * (at + 512) + 3 ≤ long → x ≡ cells_at 5 → x + 3 ≤ long
scan_first base fits e = omega (arith, e, port_place)

pub scan_start : {n at a b ya yb x : ℕ} {run : Judged} {w : List ℕ} → 2357 ≤ at → 3 * (at + 512) + 3 ≤ 16290 → length w ≡ 16290 → Ready n ya yb (take 1555 w) w → x ≡ cells_at 5 → JudgedRead a b ya yb x w run
    → Scan n at a b ya yb w w x run.low run.high run.ok at
unfolding table_words
scan_start {n} {at} {a} {b} {ya} {yb} {x} {run} {w} base fits all r ex read =
    let lo = run.low in
    let hi = run.high in
    let ok = run.ok in
    let el = read.low in
    let eh = read.high in
    let eo = read.verdict in
    let R = take 1555 w in
    let c = r.cells 5 (omega arith) in
    let l : Link n 5 R w (cells_at 6) 0 x = subst (λ (p : ℕ). Link n 5 R w (cells_at 6) 0 p) (sym ex) (link_of c.count n 5 R w (cells_at 6) 0 (cells_at 5) c.chain) in
    let z : 0 ≡ lo = sym l.cell.low ∙ sym el in
    let hm : hi ≤ top_of 5 = omega (arith, eh, l.cell.below) in
    let f = sec_of 1 n R a b in
    let whole = left_whole 1 n R a b (omega arith) ∙ ap (λ (k : ℕ). lines_of (runs_from (suc k) 0 f)) port_top in
    let sec : (y : ℕ) → y ≤ hi → f y ≡ one_line ok = λ y k. cell_sec n a b ya yb w 0 x y r l (omega arith) (omega (arith, eh)) ∙ ap one_line (sym eo) in
    record {
      ready = r;
      done = [];
      pending = subst (λ (u : ℕ). Pending f 65536 (table_left 1 n R a b) [] u hi (one_line ok)) z (pending_first f 65536 (table_left 1 n R a b) hi (one_line ok) whole (omega (arith, hm, port_top)) sec);
      held = sym (append-nil (take (3 * at) w));
      at_end = omega arith;
      few = omega (arith, ex, port_place);
      count = l.count;
      chain = λ h. subst (λ (u : ℕ). Chain l.count n 5 R w (cells_at 6) (u + 1) (x + 3)) (sym eh) (l.rest (omega (arith, eh, port_top)));
      base = base;
      fits = fits;
      whole = all;
      low = omega (arith, z);
      high = hm;
      place = omega (arith, ex, port_place);
    }

module _ {n at a b ya yb : ℕ} {we work : List ℕ} {x lo hi : ℕ} {ok : Bool} {end : ℕ} (t : Scan n at a b ya yb we work x lo hi ok end) where
  pub scan_room : 3 * end + 3 ≤ 16290
  scan_room = omega (arith, t.few, t.place, t.fits)

  scan_front : take (3 * at) work ≡ take (3 * at) we
  scan_front =
      let l : length (take (3 * at) we) ≡ 3 * at = length-take-le (3 * at) we (omega (arith, t.fits, t.whole)) in
      sym (take-take (3 * at) (3 * end) work (omega (arith, t.at_end))) ∙ ap (λ (z : List ℕ). take (3 * at) z) t.held ∙ take_at (take (3 * at) we) (table_words 5 t.done) (3 * at) l

  same : (q : ℕ) → q < 7069 → get_or work q 0 ≡ get_or we q 0
  same q h = same_at at we work q (omega (arith, t.base)) scan_front

  -- the pending run is put down
  module _ {w' : List ℕ} {end' : ℕ} (p : RunPut end lo hi ok work w' end') where
    pub put_few : (at ≤ end') × (3 * end' + 6214 ≤ 3 * at + x + 3)
    put_few = by_test ok (λ e. omega (arith, (rw e at p.count), t.few, t.at_end)) (λ e. omega (arith, (rw e at p.count), t.few, t.at_end))

    put_length : end' ≡ at + length (t.done ++ put_before (lo to hi) (one_line ok))
    put_length = omega (arith, p.count, t.at_end, length-append t.done (put_before (lo to hi) (one_line ok)), length_put (lo to hi) (one_line ok), one_length ok)

    put_held : take (3 * end') w' ≡ take (3 * at) we ++ table_words 5 (t.done ++ put_before (lo to hi) (one_line ok))
    put_held =
        p.held ∙ ap (λ (z : List ℕ). z ++ table_words 5 (put_before (lo to hi) (one_line ok))) t.held
        ∙ append_assoc (take (3 * at) we) (table_words 5 t.done) (table_words 5 (put_before (lo to hi) (one_line ok)))
        ∙ ap (λ (z : List ℕ). take (3 * at) we ++ z) (sym (table_append 5 t.done (put_before (lo to hi) (one_line ok))))

    -- and it was the last
    pub scan_done : 65535 ≤ hi → BuiltTo (table_left 1 n (take 1555 we) a b) at 5 we w' (Some (end' - at))
    scan_done h =
        let whole = table_left 1 n (take 1555 we) a b in
        let q : t.done ++ put_before (lo to hi) (one_line ok) ≡ whole = pending_last (sec_of 1 n (take 1555 we) a b) 65536 whole t.done lo hi (one_line ok) t.pending (omega arith) in
        let l : end' ≡ at + length whole = put_length ∙ ap (λ (z : Table). at + length z) q in
        record {
          answer = is_lines whole (end' - at) (omega (arith, l)) (omega (arith, put_few, t.place));
          held = λ o. ap (λ (k : ℕ). take (3 * k) w') (sym l) ∙ put_held ∙ ap (λ (z : Table). take (3 * at) we ++ table_words 5 z) q;
        }

  -- the next cell
  module _ (more : hi < 65535) where
    next : Link n 5 (take 1555 we) we (cells_at 6) (hi + 1) (x + 3)
    next = link_of t.count n 5 (take 1555 we) we (cells_at 6) (hi + 1) (x + 3) (t.chain more)

    pub scan_inside : x + 3 + 3 ≤ 7069
    scan_inside = omega (arith, next.cell.inside, cells_between 5 (omega arith))

    pub scan_fits : x + 3 + 3 ≤ 16290
    scan_fits = omega (arith, scan_inside)

    module _ {cell : Judged} (read : JudgedRead a b ya yb (x + 3) work cell) where
      up : ℕ
      up = cell.high

      up_is : up ≡ high_of (get_or we (x + 3) 0)
      unfolding up
      up_is = read.high ∙ ap high_of (same (x + 3) (omega (arith, scan_inside)))

      up_more : (hi < up) × (up ≤ 65535)
      up_more = omega (arith, next.cell.rises, next.cell.below, up_is, port_top)

      pub scan_less : 65535 - cell.high < 65535 - hi
      unfolding up
      scan_less = omega (arith, up_more)

      chained : up < 65535 → Chain next.count n 5 (take 1555 we) we (cells_at 6) (up + 1) (x + 3 + 3)
      chained h = subst (λ (y : ℕ). Chain next.count n 5 (take 1555 we) we (cells_at 6) (y + 1) (x + 3 + 3)) (sym up_is) (next.rest (omega (arith, up_is, port_top)))

      next_verdict : cell.ok ≡ ok_at a b ya yb we (x + 3)
      next_verdict = read.verdict ∙ ap₂ (λ (p q : ℕ). first_or 64 ya (bit_and a p) (first_or 64 yb (bit_and b q) false)) (same (x + 3 + 1) (omega (arith, scan_inside))) (same (x + 3 + 2) (omega (arith, scan_inside)))

      next_sec : (y : ℕ) → hi < y → y ≤ up → sec_of 1 n (take 1555 we) a b y ≡ one_line cell.ok
      next_sec y h k =
          cell_sec n a b ya yb we (hi + 1) (x + 3) y t.ready next (omega arith) (omega (arith, up_is))
          ∙ ap one_line (sym next_verdict)

      -- the verdict is the same
      pub scan_on : beq cell.ok ok ≡ true → Scan n at a b ya yb we work (x + 3) lo cell.high ok end
      unfolding up
      scan_on e = record {
        ready = t.ready;
        done = t.done;
        pending = pending_on (sec_of 1 n (take 1555 we) a b) 65536 (table_left 1 n (take 1555 we) a b) t.done lo hi (one_line ok) t.pending up (one_line cell.ok) up_more.0 (omega (arith, up_more)) next_sec (ap one_line (sym (same_verdict cell.ok ok e)));
        held = t.held;
        at_end = t.at_end;
        few = omega (arith, t.few);
        count = next.count;
        chain = chained;
        base = t.base;
        fits = t.fits;
        whole = t.whole;
        low = t.low;
        high = omega (arith, up_more, port_top);
        place = omega (arith, scan_inside);
      }

      -- the other verdict
      pub scan_new : {w' : List ℕ} {end' : ℕ} → RunPut end lo hi ok work w' end' → beq cell.ok ok ≡ false → Scan n at a b ya yb we w' (x + 3) cell.low cell.high cell.ok end'
      unfolding up
      scan_new {w'} {end'} p e =
          let q : suc hi ≡ cell.low = omega (arith, read.low, ap low_of (same (x + 3) (omega (arith, scan_inside))), next.cell.low) in
          let f = sec_of 1 n (take 1555 we) a b in
          let whole = table_left 1 n (take 1555 we) a b in
          record {
            ready = t.ready;
            done = t.done ++ put_before (lo to hi) (one_line ok);
            pending = subst (λ (u : ℕ). Pending f 65536 whole (t.done ++ put_before (lo to hi) (one_line ok)) u up (one_line cell.ok)) q
                (pending_new f 65536 whole t.done lo hi (one_line ok) t.pending up (one_line cell.ok) up_more.0 (omega (arith, up_more)) next_sec (other_verdict cell.ok ok e));
            held = put_held p;
            at_end = put_length p;
            few = omega (arith, put_few p);
            count = next.count;
            chain = chained;
            base = t.base;
            fits = t.fits;
            whole = t.whole;
            low = omega (arith, q, up_more, port_top);
            high = omega (arith, up_more, port_top);
            place = omega (arith, scan_inside);
          }

pub ruleset scanning = (rules, scan_start, scan_fits)

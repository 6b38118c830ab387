-- The loop over the cells of one dimension: what is laid down so far, and what each turn makes of it.
use Prim.Native.Nat.{ℕ, suc, ◌+◌, ◌-◌, ◌*◌, ◌≤◌, ◌<◌}
use native.Mathlib.Omega.{arith}
use mathlib.Core.Path.{◌≡◌, refl, sym, ap, ◌∙◌}
use mathlib.Core.Bool.{true, false}
use mathlib.Core.List.{List, [], ◌++◌, append_assoc}
use lib.Dec.{leb}
use Rattle.std.specs.Prelude.{Option, Some, None}
use lib.ListN.{length, take, drop, length-append, take-append-drop}
use lib.Seq.{take_at, drop_at, length-take-le}
use borrow.Author.Tests.{le-leb, lt-leb, leb-true, leb-false}
use Rattle.flows.specs.Table.{◌to◌, Table, runs_from, put_before, lines_of}
use Rattle.std.proofs.lemmas.Option.{none-some, cond_some}
use Rattle.text.proofs.Tests.{by_test, clash}
use Rattle.flows.proofs.Meaning.{length_put}
use Rattle.builder.specs.Encoding.{column_of, word_of, table_words}
use Rattle.builder.specs.Promise.{answer_of}
use Rattle.builder.specs.Post.{BuiltTo, same_words, stamp_n, part}
use Rattle.builder.proofs.Laid.{Fits, table_length, table_append, table_told, stamp_table, same_eq, same_refl}
use Rattle.builder.proofs.Pending.{Pending, pending_first, pending_last, pending_on, pending_new, pending_most, pending_more}

-- ---- what an answer says of the lines
pub lines_of_lem : (t : Table) (m : ℕ) (r : Option ℕ) → r ≡ answer_of t → r ≡ Some m → (length t ≡ m) × (length t ≤ 512)
lines_of_lem t m r a e = let q = cond_some (leb (length t) 512) (length t) m (sym a ∙ e) in (q.1, leb-true (length t) 512 q.0)

pub over_of : (t : Table) (r : Option ℕ) → r ≡ answer_of t → r ≡ None → 512 < length t
over_of t r a e = by_test (leb (length t) 512) (λ y. absurd (none-some (length t) (sym e ∙ (a ∙ rw y)))) (λ y. leb-false (length t) 512 y)

pub is_over : (t : Table) (at d : ℕ) (w w' : List ℕ) → 512 < length t → BuiltTo t at d w w' None
is_over t at d w w' h = record { answer = simp (lt-leb (length t) 512 h); held = λ q. absurd (omega arith) }

pub is_lines : (t : Table) (m : ℕ) → length t ≡ m → m ≤ 512 → Some m ≡ answer_of t
is_lines t m e h =
    let q : leb (length t) 512 ≡ true = le-leb (length t) 512 (omega arith) in
    simp q (ap Some (sym e))

-- ---- the state: f gives the table of each value's section, w is the dimension's width
pub record State (f : ℕ → Table) (w : ℕ) (whole : Table) (d at : ℕ) (w₀ work : List ℕ) (kept end lo hi : ℕ) (pend : Table) : Type 0 where
  pub done : Table
  pub rest : List ℕ
  pub pending : Pending f w whole done lo hi pend
  pub at_kept : kept ≡ at + length done
  pub at_end : end ≡ kept + length pend
  pub room : end ≤ at + 512
  pub fit : Fits (suc d) pend
  pub long : length work ≡ length w₀
  pub held : work ≡ take (3 * at) w₀ ++ (table_words d done ++ (table_words (suc d) pend ++ rest))

pub front : (k : ℕ) (w l : List ℕ) → take k w ≡ l → w ≡ l ++ drop k w
front k w l e = sym (take-append-drop k w) ∙ ap (λ (x : List ℕ). x ++ drop k w) e

-- a section built at `at` leaves what stood before
pub before_kept : (t : Table) (at d : ℕ) (w w' : List ℕ) (r : Option ℕ) (m : ℕ) → 3 * at ≤ length w → BuiltTo t at d w w' r → r ≡ Some m → take (3 * at) w' ≡ take (3 * at) w
before_kept t at d w w' r m h b e =
    let q = lines_of_lem t m r b.answer e in
    let f = front (3 * (at + length t)) w' (take (3 * at) w ++ table_words d t) (b.held q.1) ∙ append_assoc (take (3 * at) w) (table_words d t) (drop (3 * (at + length t)) w') in
    ap (λ (x : List ℕ). take (3 * at) x) f ∙ take_at (take (3 * at) w) (table_words d t ++ drop (3 * (at + length t)) w') (3 * at) (length-take-le (3 * at) w h)

-- where the loop begins: the first cell's section is the pending run
pub start : (f : ℕ → Table) (w : ℕ) (whole : Table) (d at : ℕ) (we w' : List ℕ) (r : Option ℕ) (m hi : ℕ) (pend : Table) → 3 * at ≤ length we → whole ≡ lines_of (runs_from w 0 f) → hi < w → ((x : ℕ) → x ≤ hi → f x ≡ pend) → Fits (suc d) pend
    → BuiltTo pend at (suc d) we w' r → r ≡ Some m → State f w whole d at w' w' at (at + m) 0 hi pend
unfolding table_words
start f w whole d at we w' r m hi pend h wh k g fit b e =
    let q = lines_of_lem pend m r b.answer e in
    let p = front (3 * (at + length pend)) w' (take (3 * at) we ++ table_words (suc d) pend) (b.held q.1) ∙ append_assoc (take (3 * at) we) (table_words (suc d) pend) (drop (3 * (at + length pend)) w') in
    record {
      done = [];
      rest = drop (3 * (at + length pend)) w';
      pending = pending_first f w whole hi pend wh k g;
      at_kept = omega arith;
      at_end = omega (arith, q.0);
      room = omega (arith, q.0, q.1);
      fit = fit;
      long = refl;
      held = p ∙ ap (λ (x : List ℕ). x ++ (table_words (suc d) pend ++ drop (3 * (at + length pend)) w')) (sym (before_kept pend at (suc d) we w' r m h b e));
    }

module _ (f : ℕ → Table) (w : ℕ) (whole : Table) (d at : ℕ) (w₀ : List ℕ) (fits : 3 * at ≤ length w₀) (work : List ℕ) (kept end lo hi : ℕ) (pend : Table) (st : State f w whole d at w₀ work kept end lo hi pend) where
  pre_length : length (take (3 * at) w₀) ≡ 3 * at
  pre_length = length-take-le (3 * at) w₀ fits

  kept_length : length (take (3 * at) w₀ ++ table_words d st.done) ≡ 3 * kept
  kept_length = length-append (take (3 * at) w₀) (table_words d st.done) ∙ omega (arith, pre_length, table_length d st.done, st.at_kept)

  end_length : length (take (3 * at) w₀ ++ (table_words d st.done ++ table_words (suc d) pend)) ≡ 3 * end
  end_length = length-append (take (3 * at) w₀) (table_words d st.done ++ table_words (suc d) pend) ∙ omega (arith, pre_length, length-append (table_words d st.done) (table_words (suc d) pend), table_length d st.done, table_length (suc d) pend, st.at_kept, st.at_end)

  -- what is laid up to `end`
  laid : take (3 * end) work ≡ take (3 * at) w₀ ++ (table_words d st.done ++ table_words (suc d) pend)
  laid =
      let q : take (3 * at) w₀ ++ (table_words d st.done ++ (table_words (suc d) pend ++ st.rest)) ≡ (take (3 * at) w₀ ++ (table_words d st.done ++ table_words (suc d) pend)) ++ st.rest = simp append_assoc in
      ap (λ (x : List ℕ). take (3 * end) x) (st.held ∙ q) ∙ take_at (take (3 * at) w₀ ++ (table_words d st.done ++ table_words (suc d) pend)) st.rest (3 * end) end_length

  -- what stands before `at` stays
  pub state_front : take (3 * at) work ≡ take (3 * at) w₀
  state_front = ap (λ (x : List ℕ). take (3 * at) x) st.held ∙ take_at (take (3 * at) w₀) (table_words d st.done ++ (table_words (suc d) pend ++ st.rest)) (3 * at) pre_length

  -- closing the pending run, whatever stands after it
  stamped : (x tail : List ℕ) → x ≡ take (3 * at) w₀ ++ (table_words d st.done ++ (table_words (suc d) pend ++ tail))
      → stamp_n (column_of d) (word_of d lo hi) (end - kept) kept x ≡ take (3 * at) w₀ ++ (table_words d (st.done ++ put_before (lo to hi) pend) ++ tail)
  stamped x tail e =
      let k : end - kept ≡ length pend = omega (arith, st.at_end) in
      let q : take (3 * at) w₀ ++ (table_words d st.done ++ (table_words (suc d) pend ++ tail)) ≡ (take (3 * at) w₀ ++ table_words d st.done) ++ (table_words (suc d) pend ++ tail) = simp append_assoc in
      ap (λ (j : ℕ). stamp_n (column_of d) (word_of d lo hi) j kept x) k
      ∙ ap (λ (y : List ℕ). stamp_n (column_of d) (word_of d lo hi) (length pend) kept y) (e ∙ q)
      ∙ stamp_table d lo hi kept pend (take (3 * at) w₀ ++ table_words d st.done) tail kept_length
      ∙ simp (table_append d st.done (put_before (lo to hi) pend), append_assoc)

  -- the loop is over: the pending run is closed, and the table is there
  pub finish : w ≤ suc hi → BuiltTo whole at d w₀ (stamp_n (column_of d) (word_of d lo hi) (end - kept) kept work) (Some (end - at))
  finish h =
      let e : st.done ++ put_before (lo to hi) pend ≡ whole = pending_last f w whole st.done lo hi pend st.pending h in
      let l : length whole ≡ end - at = ap length (sym e) ∙ length-append st.done (put_before (lo to hi) pend) ∙ omega (arith, length_put (lo to hi) pend, st.at_kept, st.at_end) in
      let fl : length (take (3 * at) w₀ ++ table_words d whole) ≡ 3 * (at + length whole) = length-append (take (3 * at) w₀) (table_words d whole) ∙ omega (arith, pre_length, table_length d whole) in
      record {
        answer = is_lines whole (end - at) l (omega (arith, st.room));
        held = λ q. ap (λ (x : List ℕ). take (3 * (at + length whole)) x) (stamped work st.rest st.held ∙ ap (λ (x : Table). take (3 * at) w₀ ++ (table_words d x ++ st.rest)) e ∙ sym (append_assoc (take (3 * at) w₀) (table_words d whole) st.rest))
            ∙ take_at (take (3 * at) w₀ ++ table_words d whole) st.rest (3 * (at + length whole)) fl;
      }

  module _ (e : ℕ) (s : Table) (more : hi < e) (last : e < w) (alike : (x : ℕ) → hi < x → x ≤ e → f x ≡ s) where
    -- the next cell's section is known to be the pending one
    pub pass : pend ≡ s → State f w whole d at w₀ work kept end lo e pend
    pass q = record {
      done = st.done;
      rest = st.rest;
      pending = pending_on f w whole st.done lo hi pend st.pending e s more last alike q;
      at_kept = st.at_kept;
      at_end = st.at_end;
      room = st.room;
      fit = st.fit;
      long = st.long;
      held = st.held;
    }

    -- the section of the next cell is built behind the pending run
    module _ (fit_s : Fits (suc d) s) (w' : List ℕ) (r : Option ℕ) (b : BuiltTo s end (suc d) work w' r) (same_long : length w' ≡ length work) where
      pub over_sec : r ≡ None → 512 < length whole
      over_sec q = omega (arith, over_of s r b.answer q, pending_most f w whole st.done lo hi pend st.pending e s more last alike)

      module _ (m : ℕ) (q : r ≡ Some m) where
        pub counted : (length s ≡ m) × (length s ≤ 512)
        counted = lines_of_lem s m r b.answer q

        after : List ℕ
        after = drop (3 * (end + length s)) w'

        turned : w' ≡ take (3 * at) w₀ ++ (table_words d st.done ++ (table_words (suc d) pend ++ (table_words (suc d) s ++ after)))
        unfolding after
        turned =
            front (3 * (end + length s)) w' (take (3 * end) work ++ table_words (suc d) s) (b.held counted.1)
            ∙ ap (λ (x : List ℕ). (x ++ table_words (suc d) s) ++ drop (3 * (end + length s)) w') laid
            ∙ simp append_assoc

        part_pend : part kept end w' ≡ table_words (suc d) pend
        part_pend =
            let p : take (3 * at) w₀ ++ (table_words d st.done ++ (table_words (suc d) pend ++ (table_words (suc d) s ++ after))) ≡ (take (3 * at) w₀ ++ table_words d st.done) ++ (table_words (suc d) pend ++ (table_words (suc d) s ++ after)) = simp append_assoc in
            ap (λ (x : List ℕ). take (3 * end - 3 * kept) (drop (3 * kept) x)) (turned ∙ p)
            ∙ ap (λ (x : List ℕ). take (3 * end - 3 * kept) x) (drop_at (take (3 * at) w₀ ++ table_words d st.done) (table_words (suc d) pend ++ (table_words (suc d) s ++ after)) (3 * kept) kept_length)
            ∙ take_at (table_words (suc d) pend) (table_words (suc d) s ++ after) (3 * end - 3 * kept) (table_length (suc d) pend ∙ omega (arith, st.at_end))

        part_sec : part end (end + m) w' ≡ table_words (suc d) s
        part_sec =
            let p : take (3 * at) w₀ ++ (table_words d st.done ++ (table_words (suc d) pend ++ (table_words (suc d) s ++ after))) ≡ (take (3 * at) w₀ ++ (table_words d st.done ++ table_words (suc d) pend)) ++ (table_words (suc d) s ++ after) = simp append_assoc in
            ap (λ (x : List ℕ). take (3 * (end + m) - 3 * end) (drop (3 * end) x)) (turned ∙ p)
            ∙ ap (λ (x : List ℕ). take (3 * (end + m) - 3 * end) x) (drop_at (take (3 * at) w₀ ++ (table_words d st.done ++ table_words (suc d) pend)) (table_words (suc d) s ++ after) (3 * end) end_length)
            ∙ take_at (table_words (suc d) s) after (3 * (end + m) - 3 * end) (table_length (suc d) s ∙ omega (arith, counted.0))

        pub told_same : same_words (part kept end w') (part end (end + m) w') ≡ true → pend ≡ s
        told_same t = table_told (suc d) pend s st.fit fit_s (same_eq (table_words (suc d) pend) (table_words (suc d) s) (rw (part_pend, part_sec) at t))

        told_other : same_words (part kept end w') (part end (end + m) w') ≡ false → pend ≡ s → ⊥
        told_other t p =
            let u : same_words (table_words (suc d) pend) (table_words (suc d) s) ≡ false = (rw (part_pend, part_sec) at t) in
            clash (ap (λ (x : Table). same_words (table_words (suc d) pend) (table_words (suc d) x)) (sym p) ∙ same_refl (table_words (suc d) pend)) u

        -- it is the pending one: it is dropped, and the run goes on
        pub keep : same_words (part kept end w') (part end (end + m) w') ≡ true → State f w whole d at w₀ w' kept end lo e pend
        keep t = record {
          done = st.done;
          rest = table_words (suc d) s ++ after;
          pending = pending_on f w whole st.done lo hi pend st.pending e s more last alike (told_same t);
          at_kept = st.at_kept;
          at_end = st.at_end;
          room = st.room;
          fit = st.fit;
          long = same_long ∙ st.long;
          held = turned;
        }

        -- it differs, and there are too many lines
        pub over_new : same_words (part kept end w') (part end (end + m) w') ≡ false → 512 < end + m - at → 512 < length whole
        over_new t h = omega (arith, pending_more f w whole st.done lo hi pend st.pending e s more last alike (told_other t), counted.0, st.at_kept, st.at_end)

        -- it differs: the pending run is closed, and the section is the pending one
        pub new : (w'' : List ℕ) → same_words (part kept end w') (part end (end + m) w') ≡ false → w'' ≡ stamp_n (column_of d) (word_of d lo hi) (end - kept) kept w' → length w'' ≡ length w' → end + m - at ≤ 512
            → State f w whole d at w₀ w'' end (end + m) (suc hi) e s
        new w'' t g long' h = record {
          done = st.done ++ put_before (lo to hi) pend;
          rest = after;
          pending = pending_new f w whole st.done lo hi pend st.pending e s more last alike (told_other t);
          at_kept = omega (arith, length-append st.done (put_before (lo to hi) pend), length_put (lo to hi) pend, st.at_kept, st.at_end);
          at_end = omega (arith, counted.0);
          room = omega (arith, st.at_kept, st.at_end);
          fit = fit_s;
          long = long' ∙ same_long ∙ st.long;
          held = g ∙ stamped w' (table_words (suc d) s ++ after) turned;
        }

-- Laws of the lines of a work buffer, put into a reply one after the other. Assumes nothing.
use Prim.Native.Nat.{ℕ, zero, suc, ◌+◌, ◌-◌, ◌≤◌, ◌<◌}
use native.Mathlib.Nat.{zero-add}
use native.Mathlib.Omega.{arith}
use mathlib.Core.Path.{◌≡◌, refl, ap, sym, ◌∙◌}
use mathlib.Core.List.{List, [], ◌++◌, append-nil, append_assoc}
use lib.ListN.{length, drop, replicate, length-append, length-replicate}
use lib.Seq.{sets, length-sets, sets-eq}
use borrow.Author.Rules.{rules}
use Rattle.text.specs.Written.{Put}
use Rattle.text.proofs.WrittenLaws.{and_then}
use Rattle.flows.specs.Table.{Line, Table}
use Rattle.stored.specs.declared.lines.Line as struct
use Rattle.stored.specs.Line.{ranges}
use Rattle.stored.specs.Text.{line_text, table_text, reply_of}
use Rattle.stored.specs.Words.{range_of, Fits}
use Rattle.stored.proofs.Putting.{table_fits}
use Rattle.reply.specs.Lines.{range_of_line, line_in, lines_from, lines_in}

-- ## a line
pub line_ranges : (w : List ℕ) (i : ℕ) (l : struct.Line) → range_of l.direction ≡ range_of_line w i 0 → range_of l.protocol ≡ range_of_line w i 1 → range_of l.opener ≡ range_of_line w i 2
    → range_of l.address ≡ range_of_line w i 3 → range_of l.remote ≡ range_of_line w i 4 → range_of l.device ≡ range_of_line w i 5 → ranges l ≡ line_in w i
unfolding ranges line_in
line_ranges w i l a b c d e f = cc

-- ## the lines, one after the other
pub length_lines : (w : List ℕ) (i n : ℕ) → length (lines_from w i n) ≡ n
unfolding lines_from
length_lines w i zero = refl
length_lines w i (suc n) = ap suc (length_lines w (i + 1) n)

-- before line i: b is the buffer at first, buf what it is now
pub record Putting (b w : List ℕ) (n : ℕ) (buf : List ℕ) (at i : ℕ) : Type 0 where
  pub done : List ℕ
  pub long : length b ≡ 36864
  pub kept : length buf ≡ length b
  pub put : Put b 0 done at buf
  pub rest : done ++ table_text (lines_from w i (n - i)) ≡ table_text (lines_in n w)
  pub all : length (table_text (lines_in n w)) ≤ 36864

pub putting_start : (b w : List ℕ) (n : ℕ) → length b ≡ 36864 → n ≤ 512 → Fits (lines_in n w) → Putting b w n b 0 0
putting_start b w n h k f = record {
  done = [];
  long = h;
  kept = refl;
  put = record { place = refl; text = refl };
  rest = let z : n - 0 ≡ n = omega arith in rw z;
  all = table_fits (lines_in n w) f (omega (arith, length_lines w 0 n));
}

module _ (b w : List ℕ) (n : ℕ) (buf : List ℕ) (at i : ℕ) (g : Putting b w n buf at i) where
  pub putting_end : n ≤ i → buf ≡ sets b 0 (table_text (lines_in n w))
  unfolding lines_from table_text
  putting_end h =
      let z : n - i ≡ 0 = omega arith in
      let e : g.done ++ table_text (lines_from w i 0) ≡ table_text (lines_in n w) = ap {B = List ℕ} (λ k. g.done ++ table_text (lines_from w i k)) (sym z) ∙ g.rest in
      g.put.text ∙ ap {B = List ℕ} (λ x. sets b 0 x) (sym (append-nil g.done) ∙ e)

  module _ (h : i < n) (l : Line) (q : l ≡ line_in w i) where
    next : line_text l ++ table_text (lines_from w (i + 1) (n - (i + 1))) ≡ table_text (lines_from w i (n - i))
    unfolding lines_from table_text
    next = let z : n - i ≡ suc (n - (i + 1)) = omega arith in rw (q, z)

    joined : (g.done ++ line_text l) ++ table_text (lines_from w (i + 1) (n - (i + 1))) ≡ table_text (lines_in n w)
    joined = append_assoc g.done (line_text l) (table_text (lines_from w (i + 1) (n - (i + 1)))) ∙ (ap {B = List ℕ} (λ x. g.done ++ x) next ∙ g.rest)

    pub putting_room : at + length (line_text l) ≤ length buf
    putting_room =
        omega (arith, g.kept, g.long, g.put.place, g.all, ap length joined, length-append (g.done ++ line_text l) (table_text (lines_from w (i + 1) (n - (i + 1)))), length-append g.done (line_text l))

    pub putting_more : (r : ℕ) (m : List ℕ) → Put buf at (line_text l) r m → Putting b w n m r (i + 1)
    putting_more r m a = record {
      done = g.done ++ line_text l;
      long = g.long;
      kept = ap length a.text ∙ (length-sets buf at (line_text l) ∙ g.kept);
      put = and_then g.put a;
      rest = joined;
      all = g.all;
    }

-- ## the whole
drop_zeros : (k n : ℕ) → drop {A = ℕ} k (replicate n 0) ≡ replicate (n - k) 0
drop_zeros zero n = let p : n - 0 ≡ n = omega arith in rw p
drop_zeros (suc k) zero = let p : 0 - suc k ≡ 0 = omega arith in rw p
drop_zeros (suc k) (suc n) = let p : suc n - suc k ≡ n - k = omega arith in rw p (drop_zeros k n)

pub reply_is : (b l m w : List ℕ) (n : ℕ) → length b ≡ 36864 → n ≤ 512 → Fits (lines_in n w) → l ≡ replicate (length b) 0 → m ≡ sets l 0 (table_text (lines_in n w)) → m ≡ reply_of (lines_in n w)
unfolding reply_of
reply_is b l m w n h k f e q =
    let z : l ≡ replicate 36864 0 = e ∙ ap {B = List ℕ} (λ x. replicate x 0) h in
    let t : Table = lines_in n w in
    let r : 0 + length (table_text t) ≤ length (replicate {A = ℕ} 36864 0) = omega (arith, length-replicate {A = ℕ} 36864 0, table_fits t f (omega (arith, length_lines w 0 n))) in
    q ∙ rw z (sets-eq (table_text t) (replicate 36864 0) 0 r ∙ rw (zero-add (length (table_text t)), drop_zeros (length (table_text t)) 36864))

pub ruleset putting = (rules, line_ranges, putting_start, putting_end, putting_room, putting_more, reply_is)

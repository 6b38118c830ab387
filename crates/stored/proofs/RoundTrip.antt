-- Tables and their bytes: what is written is read back, and what is read was written so. Assumes nothing.
use Prim.Native.Nat.{ℕ, zero, suc, ◌-◌, ◌≤◌, ◌<◌}
use mathlib.Core.Path.{◌≡◌, refl, ap, sym, ◌∙◌, subst}
use mathlib.Core.List.{List, [], ◌∷◌, ◌++◌, append_assoc}
use mathlib.Core.Bool.{true, cond}
use mathlib.Core.Logic.{◌↔◌}
use native.Mathlib.Omega.{arith}
use lib.ListN.{length, drop, replicate, length-append, length-replicate}
use lib.Dec.{eqb, leb}
use borrow.Author.Tests.{eq-eqb, eqb-true, leb-true, le-leb}
use Rattle.std.specs.Prelude.{Option, Some, None, Ok}
use Rattle.std.proofs.lemmas.Option.{some_pair_parts}
use Rattle.text.specs.Bytes.{between}
use Rattle.text.specs.Numbers.{number_at, closed_by}
use Rattle.text.proofs.Tests.{and_left, and_right, both, split}
use Rattle.flows.specs.Table.{Point, Set, Line, Table, within, table_of}
use Rattle.flows.specs.Flow.{widths, is_flow}
use Rattle.flows.specs.Canonical.{canonical, flow_line, all_lines, table_of_flows, LineIn}
use Rattle.flows.specs.Numbers.{point_of}
use Rattle.flows.specs.declared.Numbers as numbers
use Rattle.flows.proofs.Meaning.{in_table_lem}
use Rattle.flows.proofs.Stored.{table_lines, table_of_some_flows}
use Rattle.stored.specs.declared.lines.Line as struct
use Rattle.stored.specs.declared.answer.Verdict.TheVariants.{Accept, Drop}
use Rattle.stored.specs.Line.{pair_at, fields_at, flows_of, line_at, ranges}
use Rattle.stored.specs.Text.{line_text, table_text, reply_of}
use Rattle.stored.specs.Words.{Fits}
use Rattle.stored.specs.Stored.{lines, stop, all_zero, stored_of, verdict_of}
use Rattle.stored.proofs.ReadLines.{SoundLine, got_sound, lines_none, lines_got, stop_none, stop_got}
use Rattle.stored.proofs.Gathering.{zero_byte, zero_line}
use Rattle.stored.proofs.Putting.{table_fits}
use Rattle.stored.proofs.Spelling.{line_spelt, ReadsLine, fields_read, line_read, Read-as, as_read}

-- ## what is read is spelt so
record Spelt (s : List ℕ) (at : ℕ) : Type 0 where
  text : drop at s ≡ table_text (lines s at) ++ drop (stop s at) s
  flow : all_lines flow_line (lines s at) ≡ true

lines_spelt : (k : ℕ) (s : List ℕ) (at : ℕ) → length s - at < k → Spelt s at
unfolding table_text all_lines
lines_spelt zero s at h = absurd (omega arith)
lines_spelt (suc k) s at h = go (line_at s at) refl (λ n m. lines_spelt k s n m)
  where
    go : (r : Option (struct.Line × ℕ)) → r ≡ line_at s at → ((n : ℕ) → length s - n < k → Spelt s n) → Spelt s at
    go None e f = record { text = rw (lines_none s at e, stop_none s at e); flow = rw (lines_none s at e) }
    go (Some (l, n)) e f =
        let m : SoundLine s at l n = got_sound s at e in
        let r : Spelt s n = f n (omega (arith, m.further, m.within)) in
        record {
          text = rw (lines_got s at e, stop_got s at e) (line_spelt s at l n e ∙ (ap {B = List ℕ} (λ t. line_text (ranges l) ++ t) r.text ∙ sym (append_assoc (line_text (ranges l)) (table_text (lines s n)) (drop (stop s n) s))));
          flow = rw (lines_got s at e) (both (flow_line (ranges l)) (all_lines flow_line (lines s n)) m.flow r.flow);
        }

-- ## what is spelt is read
record Found (s : List ℕ) (at : ℕ) (t : Table) (zs : List ℕ) : Type 0 where
  are : lines s at ≡ t
  after : drop (stop s at) s ≡ zs

flow_of : (l : struct.Line) → flow_line (ranges l) ≡ true → flows_of l ≡ true
unfolding flow_line ranges
flow_of l e = e

-- a line of a table, read
module _ (s : List ℕ) (at : ℕ) (l : Line) (rest : List ℕ) (h : LineIn widths l) (e : drop at s ≡ line_text l ++ rest) where
  own : Read-as l
  own = as_read l h

  own_read : ReadsLine s at own.line rest
  own_read = fields_read s at own.line rest (subst (LineIn widths) (sym own.is) h) (e ∙ ap {B = List ℕ} (λ x. line_text x ++ rest) (sym own.is))

  own_line : flow_line l ≡ true → Some (own.line, own_read.n) ≡ line_at s at
  own_line k = line_read s at own.line rest (flow_of own.line (ap flow_line own.is ∙ k)) own_read

lines_read : (s : List ℕ) (at : ℕ) (t : Table) (zs : List ℕ) → Fits t → all_lines flow_line t ≡ true → all_zero zs ≡ true → drop at s ≡ table_text t ++ zs → Found s at t zs
unfolding table_text all_lines
lines_read s at [] zs a f z e =
    let q : None ≡ line_at s at = zero_line s at (ap all_zero e ∙ z) in
    record { are = lines_none s at q; after = rw (stop_none s at q) e }
lines_read s at (l ∷ t) zs a f z e =
    let k = split (flow_line l) (all_lines flow_line t) f in
    let d : drop at s ≡ line_text l ++ (table_text t ++ zs) = e ∙ append_assoc (line_text l) (table_text t) zs in
    let q : Some ((own s at l (table_text t ++ zs) a.0 d).line, (own_read s at l (table_text t ++ zs) a.0 d).n) ≡ line_at s at = own_line s at l (table_text t ++ zs) a.0 d k.0 in
    let m : Found s (own_read s at l (table_text t ++ zs) a.0 d).n t zs = lines_read s (own_read s at l (table_text t ++ zs) a.0 d).n t zs a.1 k.1 z (own_read s at l (table_text t ++ zs) a.0 d).after in
    record {
      are = lines_got s at q ∙ (ap {B = Table} (λ x. x ∷ lines s (own_read s at l (table_text t ++ zs) a.0 d).n) (own s at l (table_text t ++ zs) a.0 d).is ∙ ap {B = Table} (λ x. l ∷ x) m.are);
      after = ap {B = List ℕ} (λ x. drop x s) (stop_got s at q) ∙ m.after;
    }

-- ## zeros
all_zeros : (xs : List ℕ) → all_zero xs ≡ true → xs ≡ replicate (length xs) 0
unfolding all_zero
all_zeros [] e = refl
all_zeros (x ∷ xs) e =
    let a : x ≡ 0 = eqb-true x 0 (and_left _ _ e) in
    rw a (ap {B = List ℕ} (λ t. 0 ∷ t) (all_zeros xs (and_right (eqb x 0) _ e)))

zeros_all : (n : ℕ) → all_zero (replicate n 0) ≡ true
unfolding all_zero
zeros_all zero = refl
zeros_all (suc n) = zeros_all n

reply_long : (t : Table) → Fits t → length t ≤ 512 → length (reply_of t) ≡ 36864
unfolding reply_of
reply_long t f k =
    length-append (table_text t) (replicate (36864 - length (table_text t)) 0)
    ∙ omega (arith, length-replicate {A = ℕ} (36864 - length (table_text t)) 0, table_fits t f k)

-- the reply of a table of flows is read back
reply_read : (t : Table) → Fits t → all_lines flow_line t ≡ true → Found (reply_of t) 0 t (replicate (36864 - length (table_text t)) 0)
unfolding reply_of
reply_read t f a = lines_read (reply_of t) 0 t (replicate (36864 - length (table_text t)) 0) f a (zeros_all (36864 - length (table_text t))) refl

module _ (t : Table) (k : length t ≤ 512) (f : Fits t) (w : table_of_flows t ≡ true) where
  reply_stored : stored_of (reply_of t) ≡ true
  unfolding stored_of table_of_flows
  reply_stored =
      let s = split (canonical widths t) (all_lines flow_line t) w in
      let m : Found (reply_of t) 0 t (replicate (36864 - length (table_text t)) 0) = reply_read t f s.1 in
      rw (eq-eqb (length (reply_of t)) 36864 (reply_long t f k), m.are, s.0, le-leb (length t) 512 k, m.after, zeros_all (36864 - length (table_text t)))

  reply_lines : lines (reply_of t) 0 ≡ t
  unfolding table_of_flows
  reply_lines = (reply_read t f (and_right (canonical widths t) _ w)).are

-- a set of flows whose table has at most 512 lines
pub record Stores (S : Set) : Type 0 where
  pub flows : (p : Point) → S p ≡ true → is_flow p ≡ true
  pub few : length (table_of widths S) ≤ 512

-- STORED BYTES ARE EXACTLY THE REPLIES of the tables of sets of flows
pub stored_iff : (s : List ℕ) → (stored_of s ≡ true) ↔ ((S : Set) × Stores S × (s ≡ reply_of (table_of widths S)))
unfolding stored_of table_of_flows reply_of
stored_iff s = (there, back)
  where
    there : stored_of s ≡ true → (S : Set) × Stores S × (s ≡ reply_of (table_of widths S))
    there e =
        let a = split (eqb (length s) 36864) _ e in
        let b = split (canonical widths (lines s 0)) _ a.1 in
        let c = split (leb (length (lines s 0)) 512) _ b.1 in
        let r : Spelt s 0 = lines_spelt (suc (length s)) s 0 (omega arith) in
        let q = (table_of_some_flows (lines s 0)).0 (both (canonical widths (lines s 0)) (all_lines flow_line (lines s 0)) b.0 r.flow) in
        let z : drop (stop s 0) s ≡ replicate (length (drop (stop s 0) s)) 0 = all_zeros (drop (stop s 0) s) c.1 in
        let n : length (drop (stop s 0) s) ≡ 36864 - length (table_text (lines s 0)) =
        omega (arith, eqb-true (length s) 36864 a.0, ap length r.text, length-append (table_text (lines s 0)) (drop (stop s 0) s)) in (
          q.0,
          record { flows = q.1; few = subst (λ (t : Table). length t ≤ 512) q.2 (leb-true (length (lines s 0)) 512 c.0) },
          r.text ∙ (ap {B = List ℕ} (λ x. table_text (lines s 0) ++ x) (z ∙ ap {B = List ℕ} (λ x. replicate x 0) n) ∙ ap reply_of q.2),
        )

    back : (S : Set) × Stores S × (s ≡ reply_of (table_of widths S)) → stored_of s ≡ true
    back r =
        ap stored_of r.2
        ∙ reply_stored (table_of widths r.0) r.1.few (table_lines widths r.0) ((table_of_some_flows (table_of widths r.0)).1 (r.0, r.1.flows, refl))

-- THE VERDICT OF A WRITTEN TABLE IS THE SET'S OWN
pub verdict_of_set : (S : Set) → Stores S → (f : numbers.Numbers) → is_flow (point_of f) ≡ true → verdict_of (reply_of (table_of widths S)) f ≡ Ok (cond (S (point_of f)) Accept Drop)
unfolding verdict_of
verdict_of_set S h f e =
    let w : table_of_flows (table_of widths S) ≡ true = (table_of_some_flows (table_of widths S)).1 (S, h.flows, refl) in
    rw (reply_stored (table_of widths S) h.few (table_lines widths S) w, e, reply_lines (table_of widths S) h.few (table_lines widths S) w, in_table_lem widths S (point_of f), is_within (point_of f) e)
  where
    is_within : (p : Point) → is_flow p ≡ true → within widths p ≡ true
    is_within p e = unfold is_flow in and_left (within widths p) _ e

-- ## equal replies
no_fields : (s : List ℕ) (at : ℕ) → all_zero (drop at s) ≡ true → None ≡ fields_at s at
unfolding fields_at pair_at closed_by number_at between
no_fields s at e = rw (zero_byte s at e)

-- two lines that are spelt at one place are the same, and end at one place
same_line : (s : List ℕ) (at : ℕ) (l m : struct.Line) (xs ys : List ℕ) (a : ReadsLine s at l xs) (b : ReadsLine s at m ys) → (l ≡ m) × (a.n ≡ b.n)
same_line s at l m xs ys a b = some_pair_parts l m a.n b.n (sym a.is ∙ b.is)

same_tables : (s : List ℕ) (at : ℕ) (t u : Table) (xs ys : List ℕ) → Fits t → Fits u → all_zero xs ≡ true → all_zero ys ≡ true → drop at s ≡ table_text t ++ xs → drop at s ≡ table_text u ++ ys → t ≡ u
unfolding table_text
same_tables s at [] [] xs ys a b z y p q = refl
same_tables s at [] (m ∷ u) xs ys a b z y p q =
    absurd (let r = own_read s at m (table_text u ++ ys) b.0 (q ∙ append_assoc (line_text m) (table_text u) ys) in
    let k : None ≡ Some (_, r.n) = no_fields s at (ap all_zero p ∙ z) ∙ r.is in
    let w : ◌≡◌ {A = ℕ} 0 1 = cc in omega arith)
same_tables s at (l ∷ t) [] xs ys a b z y p q =
    absurd (let r = own_read s at l (table_text t ++ xs) a.0 (p ∙ append_assoc (line_text l) (table_text t) xs) in
    let k : None ≡ Some (_, r.n) = no_fields s at (ap all_zero q ∙ y) ∙ r.is in
    let w : ◌≡◌ {A = ℕ} 0 1 = cc in omega arith)
same_tables s at (l ∷ t) (m ∷ u) xs ys a b z y p q =
    let d : drop at s ≡ line_text l ++ (table_text t ++ xs) = p ∙ append_assoc (line_text l) (table_text t) xs in
    let e : drop at s ≡ line_text m ++ (table_text u ++ ys) = q ∙ append_assoc (line_text m) (table_text u) ys in
    let f = own_read s at l (table_text t ++ xs) a.0 d in
    let g = own_read s at m (table_text u ++ ys) b.0 e in
    let h = same_line s at _ _ (table_text t ++ xs) (table_text u ++ ys) f g in
    let i : l ≡ m = sym (own s at l (table_text t ++ xs) a.0 d).is ∙ (ap ranges h.0 ∙ (own s at m (table_text u ++ ys) b.0 e).is) in
    let j : t ≡ u = same_tables s f.n t u xs ys a.1 b.1 z y f.after (ap {B = List ℕ} (λ x. drop x s) h.1 ∙ g.after) in
    cc

-- TWO REPLIES ARE EQUAL, BYTE FOR BYTE, EXACTLY WHERE THE TABLES ARE
pub replies_equal : (t u : Table) → Fits t → Fits u → (reply_of t ≡ reply_of u) ↔ (t ≡ u)
unfolding reply_of
replies_equal t u a b = (
  λ e. same_tables (reply_of t) 0 t u (replicate (36864 - length (table_text t)) 0) (replicate (36864 - length (table_text u)) 0) a b (zeros_all (36864 - length (table_text t))) (zeros_all (36864 - length (table_text u))) refl e,
  λ e. ap reply_of e,
)

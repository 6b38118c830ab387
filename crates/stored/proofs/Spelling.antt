-- How lines are spelt: what is read is spelt so, and what is spelt is read. Assumes nothing.
use Prim.Native.Nat.{ℕ, ◌/◌, ◌%◌, ◌≤◌, ◌<◌}
use mathlib.Core.Path.{◌≡◌, refl, ap, sym, ◌∙◌, subst}
use mathlib.Core.List.{List, [], ◌∷◌, ◌++◌, append_assoc}
use mathlib.Core.Bool.{true, false}
use native.Mathlib.Omega.{arith}
use lib.ListN.{drop}
use lib.Dec.{leb}
use borrow.Author.Tests.{le-leb}
use Rattle.std.specs.Prelude.{Option, Some, None}
use Rattle.std.proofs.lemmas.Option.{some_pair_parts, cond_some}
use Rattle.text.specs.Bytes.{between, is_digit}
use Rattle.text.specs.Numbers.{then_read, closed_at, closed_quad_at}
use Rattle.text.specs.Written.{decimal, quad}
use Rattle.text.proofs.Tests.{by_test}
use Rattle.text.proofs.NumberLaws.{Sound}
use Rattle.text.proofs.ReadBack.{closed_spelt, closed_quad_spelt, closed_read, closed_quad_read}
use Rattle.flows.specs.Table.{◌to◌, Line}
use Rattle.flows.specs.Flow.{widths}
use Rattle.flows.specs.Canonical.{LineIn}
use Rattle.stored.specs.declared.lines.Line as struct
use Rattle.stored.specs.Words.{word_of, range_of}
use Rattle.stored.proofs.ReadLines.{closed_in, closed_quad_in}
use Rattle.stored.specs.Line.{pair_at, ends_of, range_at, quads_at, flows_of, keep_flows, fields_at, line_at, ranges}
use Rattle.stored.specs.Text.{nth, range_text, address_text, line_text}

-- ## taking a reader's answer apart
parted : {A B : Type 0} (r : Option (A × ℕ)) (g : A → ℕ → Option B) {y : B} → Some y ≡ then_read r g → record { u : A; i : ℕ; is : Some (u, i) ≡ r; go : Some y ≡ g u i }
parted None g q = absurd (let w : ◌≡◌ {A = ℕ} 0 1 = cc in omega arith)
parted (Some (u, i)) g q = record { u = u; i = i; is = refl; go = q }

ends_is : (a b j : ℕ) → b < 4294967296 → {x n : ℕ} → Some (x, n) ≡ ends_of a b j → (x / 4294967296 ≡ a) × (x % 4294967296 ≡ b) × (n ≡ j)
unfolding ends_of
ends_is a b j h {x} {n} q =
    by_test (leb a b)
    (λ e. let p = some_pair_parts x (word_of a b) n j (rw e at q) in (omega (arith, p.0), omega (arith, p.0), p.1))
    (λ e. absurd (let k : Some (x, n) ≡ None = rw e at q in let w : ◌≡◌ {A = ℕ} 0 1 = cc in omega arith))

-- ## what is read is spelt so
-- two ends, of whatever spelling
ends_spelt : (s xs ys : List ℕ) (c at i n : ℕ) → drop at s ≡ xs ++ (0x2D ∷ drop i s) → drop i s ≡ ys ++ (c ∷ drop n s) → drop at s ≡ (xs ++ (0x2D ∷ ys)) ++ (c ∷ drop n s)
ends_spelt s xs ys c at i n p q = p ∙ (ap {B = List ℕ} (λ t. xs ++ (0x2D ∷ t)) q ∙ sym (append_assoc xs (0x2D ∷ ys) (c ∷ drop n s)))

ends_done : (f : ℕ → List ℕ) (s : List ℕ) (c at a b n j x : ℕ) → x / 4294967296 ≡ a → x % 4294967296 ≡ b → n ≡ j → drop at s ≡ (f a ++ (0x2D ∷ f b)) ++ (c ∷ drop j s) → drop at s ≡ (f (x / 4294967296) ++ (0x2D ∷ f (x % 4294967296))) ++ (c ∷ drop n s)
ends_done f s c at a b n j x p q r e = rw (p, q, r) e

-- the second end is no larger than it may be
small : (max : ℕ) (s : List ℕ) (at : ℕ) {r : Option (ℕ × ℕ)} {v n : ℕ} → Some (v, n) ≡ r → Sound max s at r → v ≤ max
small max s at q h = (subst (Sound max s at) (sym q) h).0

pub range_spelt : (max c : ℕ) → max < 4294967296 → (s : List ℕ) (at x n : ℕ) → Some (x, n) ≡ range_at max c s at → drop at s ≡ range_text (range_of x) ++ (c ∷ drop n s)
unfolding pair_at range_text
range_spelt max c y s at x n q =
    let r₁ = parted (closed_at max 0x2D s at) _ q in
    let r₂ = parted (closed_at max c s r₁.i) _ r₁.go in
    let k = ends_is r₁.u r₂.u r₂.i (omega (arith, small max s r₁.i r₂.is (closed_in max c s r₁.i))) r₂.go in
    ends_done decimal s c at r₁.u r₂.u n r₂.i x k.0 k.1 k.2 (ends_spelt s (decimal r₁.u) (decimal r₂.u) c at r₁.i r₂.i (closed_spelt max 0x2D s at r₁.u r₁.i r₁.is) (closed_spelt max c s r₁.i r₂.u r₂.i r₂.is))

quads_spelt : (c : ℕ) (s : List ℕ) (at x n : ℕ) → Some (x, n) ≡ quads_at c s at → drop at s ≡ address_text (range_of x) ++ (c ∷ drop n s)
unfolding pair_at address_text
quads_spelt c s at x n q =
    let r₁ = parted (closed_quad_at 0x2D s at) _ q in
    let r₂ = parted (closed_quad_at c s r₁.i) _ r₁.go in
    let k = ends_is r₁.u r₂.u r₂.i (omega (arith, small 4294967295 s r₁.i r₂.is (closed_quad_in c s r₁.i))) r₂.go in
    ends_done quad s c at r₁.u r₂.u n r₂.i x k.0 k.1 k.2 (ends_spelt s (quad r₁.u) (quad r₂.u) c at r₁.i r₂.i (closed_quad_spelt 0x2D s at r₁.u r₁.i r₁.is) (closed_quad_spelt c s r₁.i r₂.u r₂.i r₂.is))

-- six ranges, one after the other
fields_spelt : (s : List ℕ) (at i j k m o n : ℕ) (l : struct.Line) → drop at s ≡ range_text (range_of l.direction) ++ (0x09 ∷ drop i s) → drop i s ≡ range_text (range_of l.protocol) ++ (0x09 ∷ drop j s) → drop j s ≡ range_text (range_of l.opener) ++ (0x09 ∷ drop k s)
    → drop k s ≡ address_text (range_of l.address) ++ (0x09 ∷ drop m s) → drop m s ≡ range_text (range_of l.remote) ++ (0x09 ∷ drop o s) → drop o s ≡ range_text (range_of l.device) ++ (0x0A ∷ drop n s) → drop at s ≡ line_text (ranges l) ++ drop n s
unfolding line_text ranges nth
fields_spelt s at i j k m o n l a b c d e f = a ∙ rw (b, c, d, e, f) (simp append_assoc)

line_done : (s : List ℕ) (at : ℕ) (l m : struct.Line) (n j : ℕ) → l ≡ m → n ≡ j → drop at s ≡ line_text (ranges m) ++ drop j s → drop at s ≡ line_text (ranges l) ++ drop n s
line_done s at l m n j p q e = rw (p, q) e

all_spelt : (s : List ℕ) (at : ℕ) (l : struct.Line) (n : ℕ) → Some (l, n) ≡ fields_at s at → drop at s ≡ line_text (ranges l) ++ drop n s
unfolding fields_at
all_spelt s at l n q =
    let r₁ = parted (range_at 1 0x09 s at) _ q in
    let r₂ = parted (range_at 255 0x09 s r₁.i) _ r₁.go in
    let r₃ = parted (range_at 1 0x09 s r₂.i) _ r₂.go in
    let r₄ = parted (quads_at 0x09 s r₃.i) _ r₃.go in
    let r₅ = parted (range_at 65535 0x09 s r₄.i) _ r₄.go in
    let r₆ = parted (range_at 65535 0x0A s r₅.i) _ r₅.go in
    let m : struct.Line = record { direction = r₁.u; protocol = r₂.u; opener = r₃.u; address = r₄.u; remote = r₅.u; device = r₆.u } in
    let k = some_pair_parts l m n r₆.i r₆.go in
    line_done s at l m n r₆.i k.0 k.1
    (fields_spelt s at r₁.i r₂.i r₃.i r₄.i r₅.i r₆.i m (range_spelt 1 0x09 (omega arith) s at r₁.u r₁.i r₁.is) (range_spelt 255 0x09 (omega arith) s r₁.i r₂.u r₂.i r₂.is)
    (range_spelt 1 0x09 (omega arith) s r₂.i r₃.u r₃.i r₃.is) (quads_spelt 0x09 s r₃.i r₄.u r₄.i r₄.is) (range_spelt 65535 0x09 (omega arith) s r₄.i r₅.u r₅.i r₅.is) (range_spelt 65535 0x0A (omega arith) s r₅.i r₆.u r₆.i r₆.is))

kept : (l m : struct.Line) (n k : ℕ) → Some (l, n) ≡ keep_flows m k → (l ≡ m) × (n ≡ k)
unfolding keep_flows
kept l m n k q =
    let p : (flows_of m ≡ true) × ◌≡◌ {A = struct.Line × ℕ} (m, k) (l, n) = cond_some (flows_of m) (m, k) (l, n) (sym q) in
    some_pair_parts l m n k (ap {B = Option (struct.Line × ℕ)} (λ y. Some y) (sym p.1))

-- A LINE THAT IS READ IS SPELT SO
pub line_spelt : (s : List ℕ) (at : ℕ) (l : struct.Line) (n : ℕ) → Some (l, n) ≡ line_at s at → drop at s ≡ line_text (ranges l) ++ drop n s
unfolding line_at
line_spelt s at l n q =
    let r = parted (fields_at s at) keep_flows q in
    let k = kept l r.u n r.i r.go in
    line_done s at l r.u n r.i k.0 k.1 (all_spelt s at r.u r.i r.is)

-- ## what is spelt is read
pub record ReadsEnds (r : Option (ℕ × ℕ)) (x : ℕ) (s rest : List ℕ) : Type 0 where
  pub n : ℕ
  pub is : r ≡ Some (x, n)
  pub after : drop n s ≡ rest

ends_are : (x j : ℕ) → x / 4294967296 ≤ x % 4294967296 → ends_of (x / 4294967296) (x % 4294967296) j ≡ Some (x, j)
unfolding ends_of
ends_are x j h = let p : word_of (x / 4294967296) (x % 4294967296) ≡ x = omega arith in rw (le-leb (x / 4294967296) (x % 4294967296) h, p)

pub range_read : (max c : ℕ) (s : List ℕ) (at x : ℕ) (rest : List ℕ) → is_digit c ≡ false → x / 4294967296 ≤ x % 4294967296 → x % 4294967296 ≤ max → drop at s ≡ range_text (range_of x) ++ (c ∷ rest) → ReadsEnds (range_at max c s at) x s rest
unfolding pair_at range_text between
range_read max c s at x rest d h m e =
    let r₁ = closed_read max 0x2D s at (x / 4294967296) (decimal (x % 4294967296) ++ (c ∷ rest)) (omega arith) refl (e ∙ append_assoc (decimal (x / 4294967296)) (0x2D ∷ decimal (x % 4294967296)) (c ∷ rest)) in
    let r₂ = closed_read max c s r₁.n (x % 4294967296) rest m d r₁.after in
    record { n = r₂.n; is = rw (r₁.is, r₂.is) (ends_are x r₂.n h); after = r₂.after }

pub quads_read : (c : ℕ) (s : List ℕ) (at x : ℕ) (rest : List ℕ) → is_digit c ≡ false → x / 4294967296 ≤ x % 4294967296 → drop at s ≡ address_text (range_of x) ++ (c ∷ rest) → ReadsEnds (quads_at c s at) x s rest
unfolding pair_at address_text between
quads_read c s at x rest d h e =
    let r₁ = closed_quad_read 0x2D s at (x / 4294967296) (quad (x % 4294967296) ++ (c ∷ rest)) (omega arith) refl (e ∙ append_assoc (quad (x / 4294967296)) (0x2D ∷ quad (x % 4294967296)) (c ∷ rest)) in
    let r₂ = closed_quad_read c s r₁.n (x % 4294967296) rest (omega arith) d r₁.after in
    record { n = r₂.n; is = rw (r₁.is, r₂.is) (ends_are x r₂.n h); after = r₂.after }

-- a line, of whatever flows
pub record ReadsLine (s : List ℕ) (at : ℕ) (l : struct.Line) (rest : List ℕ) : Type 0 where
  pub n : ℕ
  pub is : fields_at s at ≡ Some (l, n)
  pub after : drop n s ≡ rest

joined : (l : struct.Line) (rest : List ℕ) → line_text (ranges l) ++ rest ≡ range_text (range_of l.direction) ++ (0x09 ∷ (range_text (range_of l.protocol) ++ (0x09 ∷ (range_text (range_of l.opener) ++ (0x09 ∷ (address_text (range_of l.address) ++ (0x09 ∷ (range_text (range_of l.remote) ++ (0x09 ∷ (range_text (range_of l.device) ++ (0x0A ∷ rest)))))))))))
unfolding line_text ranges nth
joined l rest = simp append_assoc

pub fields_read : (s : List ℕ) (at : ℕ) (l : struct.Line) (rest : List ℕ) → LineIn widths (ranges l) → drop at s ≡ line_text (ranges l) ++ rest → ReadsLine s at l rest
unfolding fields_at ranges between
fields_read s at l rest h e =
    let r₁ = range_read 1 0x09 s at l.direction _ refl h.0 (omega (arith, h.1)) (e ∙ joined l rest) in
    let r₂ = range_read 255 0x09 s r₁.n l.protocol _ refl h.2.0 (omega (arith, h.2.1)) r₁.after in
    let r₃ = range_read 1 0x09 s r₂.n l.opener _ refl h.2.2.0 (omega (arith, h.2.2.1)) r₂.after in
    let r₄ = quads_read 0x09 s r₃.n l.address _ refl h.2.2.2.0 r₃.after in
    let r₅ = range_read 65535 0x09 s r₄.n l.remote _ refl h.2.2.2.2.0 (omega (arith, h.2.2.2.2.1)) r₄.after in
    let r₆ = range_read 65535 0x0A s r₅.n l.device rest refl h.2.2.2.2.2.0 (omega (arith, h.2.2.2.2.2.1)) r₅.after in
    record { n = r₆.n; is = rw (r₁.is, r₂.is, r₃.is, r₄.is, r₅.is, r₆.is); after = r₆.after }

-- A LINE THAT IS SPELT IS READ
pub line_read : (s : List ℕ) (at : ℕ) (l : struct.Line) (rest : List ℕ) → flows_of l ≡ true → (r : ReadsLine s at l rest) → Some (l, r.n) ≡ line_at s at
unfolding line_at keep_flows
line_read s at l rest k r = rw (r.is, k)

-- each line within the widths is one that a reader can give
pub record Read-as (l : Line) : Type 0 where
  pub line : struct.Line
  pub is : ranges line ≡ l

pub word_range : (lo hi : ℕ) → hi < 4294967296 → range_of (word_of lo hi) ≡ lo to hi
word_range lo hi h =
    let a : word_of lo hi / 4294967296 ≡ lo = omega arith in
    let b : word_of lo hi % 4294967296 ≡ hi = omega arith in
    rw (a, b)

pub as_read : (l : Line) → LineIn widths l → Read-as l
unfolding ranges
as_read [] h = absurd h
as_read (d0 to d1 ∷ []) h = absurd h.2
as_read (d0 to d1 ∷ (p0 to p1 ∷ [])) h = absurd h.2.2
as_read (d0 to d1 ∷ (p0 to p1 ∷ (o0 to o1 ∷ []))) h = absurd h.2.2.2
as_read (d0 to d1 ∷ (p0 to p1 ∷ (o0 to o1 ∷ (a0 to a1 ∷ [])))) h = absurd h.2.2.2.2
as_read (d0 to d1 ∷ (p0 to p1 ∷ (o0 to o1 ∷ (a0 to a1 ∷ (r0 to r1 ∷ []))))) h = absurd h.2.2.2.2.2
as_read (d0 to d1 ∷ (p0 to p1 ∷ (o0 to o1 ∷ (a0 to a1 ∷ (r0 to r1 ∷ (q0 to q1 ∷ [])))))) h =
    record {
      line = record { direction = word_of d0 d1; protocol = word_of p0 p1; opener = word_of o0 o1; address = word_of a0 a1; remote = word_of r0 r1; device = word_of q0 q1 };
      is = rw (word_range d0 d1 (omega (arith, h.1)), word_range p0 p1 (omega (arith, h.2.1)), word_range o0 o1 (omega (arith, h.2.2.1)), word_range a0 a1 h.2.2.2.1, word_range r0 r1 (omega (arith, h.2.2.2.2.1)), word_range q0 q1 (omega (arith, h.2.2.2.2.2.1)));
    }
as_read (d0 to d1 ∷ (p0 to p1 ∷ (o0 to o1 ∷ (a0 to a1 ∷ (r0 to r1 ∷ (q0 to q1 ∷ ((x ∷ l)))))))) h = absurd h.2.2.2.2.2.2

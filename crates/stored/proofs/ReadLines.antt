-- Laws of the lines that are read from a text. Assumes nothing.
use Rattle.std.proofs.lemmas.Option.{some_pair_parts}
use Prim.Native.Nat.{ℕ, ◌/◌, ◌%◌, ◌≤◌, ◌<◌}
use mathlib.Core.Path.{◌≡◌, ap, sym, subst}
use mathlib.Core.List.{List, [], ◌∷◌}
use mathlib.Core.Bool.{true, cond}
use native.Mathlib.Omega.{arith}
use lib.ListN.{length}
use lib.Dec.{leb}
use borrow.Author.Tests.{leb-true}
use Rattle.std.specs.Prelude.{Option, Some, None}
use Rattle.text.specs.Numbers.{then_read, number_at, closed_at, quad_at, closed_quad_at}
use Rattle.text.proofs.Tests.{cond_cases}
use Rattle.text.proofs.NumberLaws.{Sound, number_sound, closed_sound, quad_sound}
use Rattle.text.proofs.Walk.{Onward, walk_turn, walk_end}
use Rattle.flows.specs.Flow.{widths}
use Rattle.flows.specs.Canonical.{flow_line, LineIn}
use Rattle.stored.specs.declared.lines.Line as struct
use Rattle.stored.specs.Words.{word_of}
use Rattle.stored.specs.Line.{pair_at, ends_of, range_at, quads_at, flows_of, keep_flows, fields_at, line_at, ranges}
use Rattle.stored.specs.Stored.{item_of, lines, stop}

-- ## what a reader that reads something tells

abbrev pub Within : ℕ → ℕ → Type 0
Within max x = (x / 4294967296 ≤ x % 4294967296) × (x % 4294967296 ≤ max)

abbrev pub SoundEnds : ℕ → List ℕ → ℕ → Option (ℕ × ℕ) → Type 0
SoundEnds max s at None = Unit {0}
SoundEnds max s at (Some (x, n)) = Within max x × (at < n) × (n ≤ length s)

pub record SoundLine (s : List ℕ) (at : ℕ) (l : struct.Line) (n : ℕ) : Type 0 where
  pub inside : LineIn widths (ranges l)
  pub flow : flow_line (ranges l) ≡ true
  pub further : at < n
  pub within : n ≤ length s

abbrev pub SoundRead : List ℕ → ℕ → Option (struct.Line × ℕ) → Type 0
SoundRead s at None = Unit {0}
SoundRead s at (Some (l, n)) = SoundLine s at l n

ends_sound : (max : ℕ) → max < 4294967296 → (s : List ℕ) (at : ℕ) (r : Option (ℕ × ℕ)) (g : ℕ → Option (ℕ × ℕ)) → Sound max s at r → ((i : ℕ) → Sound max s i (g i)) → SoundEnds max s at (then_read r (λ a i. then_read (g i) (λ b j. ends_of a b j)))
unfolding ends_of
ends_sound max y s at None g h k = tt
ends_sound max y s at (Some (a, j)) g h k = go (g j) (k j)
  where
    go : (r : Option (ℕ × ℕ)) → Sound max s j r → SoundEnds max s at (then_read r (λ b j. cond (leb a b) (Some (word_of a b, j)) None))
    go None h = tt
    go (Some (b, n)) m = cond_cases (SoundEnds max s at) (leb a b) (λ e. let q : a ≤ b = leb-true a b e in ((omega (arith, m.0), omega (arith, m.0)), omega arith, m.2)) (λ e. tt)

pub closed_in : (max close : ℕ) (s : List ℕ) (at : ℕ) → Sound max s at (closed_at max close s at)
closed_in max close s at = closed_sound max close s at (number_at max s at) (number_sound max s at)

pub closed_quad_in : (close : ℕ) (s : List ℕ) (at : ℕ) → Sound 4294967295 s at (closed_quad_at close s at)
closed_quad_in close s at = closed_sound 4294967295 close s at (quad_at s at) (quad_sound s at)

pub range_sound : (max close : ℕ) → max < 4294967296 → (s : List ℕ) (at : ℕ) → SoundEnds max s at (range_at max close s at)
unfolding pair_at
range_sound max close y s at = ends_sound max y s at (closed_at max 0x2D s at) (λ i. closed_at max close s i) (closed_in max 0x2D s at) (λ i. closed_in max close s i)

quads_sound : (close : ℕ) (s : List ℕ) (at : ℕ) → SoundEnds 4294967295 s at (quads_at close s at)
unfolding pair_at
quads_sound close s at = ends_sound 4294967295 (omega arith) s at (closed_quad_at 0x2D s at) (λ i. closed_quad_at close s i) (closed_quad_in 0x2D s at) (λ i. closed_quad_in close s i)

-- a range, and what is read after it
abbrev Kept : List ℕ → ℕ → Option (struct.Line × ℕ) → Type 0
Kept s at None = Unit {0}
Kept s at (Some (l, n)) = LineIn widths (ranges l) × (at < n) × (n ≤ length s)

next_sound : (max : ℕ) (s : List ℕ) (at i : ℕ) (r : Option (ℕ × ℕ)) (g : ℕ → ℕ → Option (struct.Line × ℕ)) → at ≤ i → SoundEnds max s i r → ((x j : ℕ) → Within max x → at < j → j ≤ length s → Kept s at (g x j)) → Kept s at (then_read r g)
next_sound max s at i None g l h f = tt
next_sound max s at i (Some (x, j)) g l h f = f x j h.0 (omega (arith, h.1)) h.2

fields_sound : (s : List ℕ) (at : ℕ) → Kept s at (fields_at s at)
unfolding fields_at ranges
fields_sound s at =
    next_sound 1 s at at (range_at 1 0x09 s at) _ (omega arith) (range_sound 1 0x09 (omega arith) s at) (λ a i ha l m.
    next_sound 255 s at i (range_at 255 0x09 s i) _ (omega arith) (range_sound 255 0x09 (omega arith) s i) (λ b j hb l m.
    next_sound 1 s at j (range_at 1 0x09 s j) _ (omega arith) (range_sound 1 0x09 (omega arith) s j) (λ c k hc l m.
    next_sound 4294967295 s at k (quads_at 0x09 s k) _ (omega arith) (quads_sound 0x09 s k) (λ d o hd l m.
    next_sound 65535 s at o (range_at 65535 0x09 s o) _ (omega arith) (range_sound 65535 0x09 (omega arith) s o) (λ e p he l m.
    next_sound 65535 s at p (range_at 65535 0x0A s p) _ (omega arith) (range_sound 65535 0x0A (omega arith) s p) (λ f n hf l m.
    ((ha.0, omega arith, (hb.0, omega arith, (hc.0, omega arith, (hd.0, omega arith, (he.0, omega arith, (hf.0, omega arith, tt)))))), l, m)))))))

pub line_sound : (s : List ℕ) (at : ℕ) → SoundRead s at (line_at s at)
unfolding line_at keep_flows
line_sound s at = go (fields_at s at) (fields_sound s at)
  where
    go : (r : Option (struct.Line × ℕ)) → Kept s at r → SoundRead s at (then_read r keep_flows)
    go None h = tt
    go (Some (l, n)) h = cond_cases (SoundRead s at) (flows_of l) (λ e. record { inside = h.0; flow = unfold flow_line ranges in e; further = h.1; within = h.2 }) (λ e. tt)

pub got_sound : (s : List ℕ) (at : ℕ) {l : struct.Line} {n : ℕ} → Some (l, n) ≡ line_at s at → SoundLine s at l n
got_sound s at q = subst (SoundRead s at) (sym q) (line_sound s at)

-- ## the lines from a place
onward : (s : List ℕ) → Onward (λ k. item_of (line_at s k)) (length s)
onward s at x k e = go (line_at s at) (line_sound s at) e
  where
    go : (r : Option (struct.Line × ℕ)) → SoundRead s at r → item_of r ≡ Some (x, k) → (at < k) × (k ≤ length s)
    go None m e = absurd (let w : ◌≡◌ {A = ℕ} 0 1 = cc in omega arith)
    go (Some (l, n)) m e = let q : n ≡ k = (some_pair_parts (ranges l) x n k e).1 in (omega (arith, m.further), omega (arith, m.within))

module _ (s : List ℕ) (at : ℕ) where
  pub lines_none : None ≡ line_at s at → lines s at ≡ []
  unfolding lines
  lines_none q = walk_end (λ k. []) (λ x xs. x ∷ xs) (λ k. item_of (line_at s k)) (length s) (onward s) at (ap item_of (sym q))

  pub stop_none : None ≡ line_at s at → stop s at ≡ at
  unfolding stop
  stop_none q = walk_end (λ k. k) (λ x k. k) (λ k. item_of (line_at s k)) (length s) (onward s) at (ap item_of (sym q))

  module _ {l : struct.Line} {n : ℕ} (q : Some (l, n) ≡ line_at s at) where
    pub lines_got : lines s at ≡ ranges l ∷ lines s n
    unfolding lines
    lines_got = walk_turn (λ k. []) (λ x xs. x ∷ xs) (λ k. item_of (line_at s k)) (length s) (onward s) at n (ranges l) (ap item_of (sym q))

    pub stop_got : stop s at ≡ stop s n
    unfolding stop
    stop_got = walk_turn (λ k. k) (λ x k. k) (λ k. item_of (line_at s k)) (length s) (onward s) at n (ranges l) (ap item_of (sym q))

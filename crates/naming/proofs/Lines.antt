-- Laws of the site's lines.
use Rattle.std.specs.Prelude.{Err, Ok, Result, ⊤, Option, Some, None}
use Prim.Native.Nat.{ℕ, zero, suc, ◌+◌, ◌-◌, ◌≤◌}
use native.Mathlib.Omega.{arith}
use mathlib.Core.Path.{◌≡◌, sym, ap, ◌∙◌, subst}
use mathlib.Core.Bool.{false, ◌||◌}
use mathlib.Core.List.{List, [], ◌∷◌}
use lib.ListN.{length, drop, get_or}
use lib.Dec.{ltb}
use borrow.Author.Tests.{eq-eqb, ltb-false}
use Rattle.text.specs.Walk.{then_walk, walk}
use Rattle.text.proofs.Walk.{walk_turn, walk_end}
use Rattle.text.proofs.Tests.{by_test, clash, or_left, or_right}
use Rattle.site.specs.Line.{line_at}
use Rattle.site.specs.Site.{item_of, lines, line_feeds, judged}
use Rattle.site.specs.declared.lines.SiteLine.{SiteLine}
use Rattle.site.specs.declared.table.Fault.{Fault}
use Rattle.site.specs.declared.table.Fault.TheVariants.{TooLong}
use Rattle.site.proofs.Laws.{SoundLine, line_sound, lines_onward, feeds_at}

-- the lines from a place on, by what stands there
module _ (s : List ℕ) (at : ℕ) {r : Option SiteLine} (h : r ≡ line_at s at) where
  pub lines_end : r ≡ None → lines s at ≡ []
  unfolding lines
  lines_end n = walk_end {B = List SiteLine} (λ k. []) (λ x xs. x ∷ xs) (λ k. item_of (line_at s k)) (length s) (lines_onward s) at (rw (← h, n))

  module _ {l : SiteLine} (n : r ≡ Some l) where
    pub lines_turn : lines s at ≡ l ∷ lines s l.after
    unfolding lines
    lines_turn = walk_turn {B = List SiteLine} (λ k. []) (λ x xs. x ∷ xs) (λ k. item_of (line_at s k)) (length s) (lines_onward s) at l.after l (rw (← h, n))

    pub line_parts : SoundLine s at (Some l)
    line_parts = subst (SoundLine s at) (sym h ∙ n) (line_sound s at)

-- what holds of each line that can be read holds of the lines
abbrev pub Each : (SiteLine → Type 0) → List SiteLine → Type 0
Each P [] = Unit {0}
Each P (l ∷ ls) = P l × Each P ls

module _ (P : SiteLine → Type 0) (s : List ℕ) (f : (at : ℕ) (l : SiteLine) → SoundLine s at (Some l) → P l) where
  walk_each : (k at : ℕ) → Each P (walk {B = List SiteLine} (λ j. []) (λ x xs. x ∷ xs) (λ j. item_of (line_at s j)) k at)
  unfolding walk
  walk_each zero at = tt
  walk_each (suc k) at = step (line_at s at) (line_sound s at) (λ j. walk_each k j)
    where
      step : (r : Option SiteLine) → SoundLine s at r → ((j : ℕ) → Each P (walk {B = List SiteLine} (λ j. []) (λ x xs. x ∷ xs) (λ j. item_of (line_at s j)) k j)) → Each P (then_walk {B = List SiteLine} (item_of r) [] (λ x j. x ∷ walk {B = List SiteLine} (λ j. []) (λ x xs. x ∷ xs) (λ j. item_of (line_at s j)) k j))
      step None h g = tt
      step (Some l) h g = (f at l h, g l.after)

  pub lines_each : (at : ℕ) → Each P (lines s at)
  unfolding lines
  lines_each at = walk_each (suc (length s)) at

-- each line ends with an LF of its own
feeds_fewer : (s : List ℕ) (n i : ℕ) → i + n ≤ length s → line_feeds (drop (i + n) s) ≤ line_feeds (drop i s)
feeds_fewer s zero i h = let z : i + 0 ≡ i = omega arith in rw z (omega arith)
feeds_fewer s (suc n) i h =
    let z : i + suc n ≡ suc i + n = omega arith in
    let a : line_feeds (drop (suc i + n) s) ≤ line_feeds (drop (suc i) s) = feeds_fewer s n (suc i) (omega arith) in
    rw z (omega (arith, feeds_at s i (omega arith)))

feeds_line : (s : List ℕ) (at : ℕ) (l : SiteLine) → SoundLine s at (Some l) → suc (line_feeds (drop l.after s)) ≤ line_feeds (drop at s)
feeds_line s at l h =
    let z : suc (l.after - 1) ≡ l.after = omega (arith, h.0) in
    let y : at + (l.after - 1 - at) ≡ l.after - 1 = omega (arith, h.0) in
    let a : line_feeds (drop (at + (l.after - 1 - at)) s) ≤ line_feeds (drop at s) = feeds_fewer s (l.after - 1 - at) at (omega (arith, h.0, h.1)) in
    let b : line_feeds (drop (l.after - 1) s) ≡ 1 + line_feeds (drop (suc (l.after - 1)) s) = feeds_at s (l.after - 1) (omega (arith, h.0, h.1)) ∙ rw (eq-eqb (get_or s (l.after - 1) 0) 0x0A h.6) in
    let c : line_feeds (drop (suc (l.after - 1)) s) ≡ line_feeds (drop l.after s) = ap (λ k. line_feeds (drop k s)) z in
    let d : line_feeds (drop (at + (l.after - 1 - at)) s) ≡ line_feeds (drop (l.after - 1) s) = ap (λ k. line_feeds (drop k s)) y in
    omega arith

lines_feeds : (s : List ℕ) (k at : ℕ) → length (walk {B = List SiteLine} (λ j. []) (λ x xs. x ∷ xs) (λ j. item_of (line_at s j)) k at) ≤ line_feeds (drop at s)
unfolding walk
lines_feeds s zero at = omega arith
lines_feeds s (suc k) at = step (line_at s at) (line_sound s at) (λ j. lines_feeds s k j)
  where
    step : (r : Option SiteLine) → SoundLine s at r → ((j : ℕ) → length (walk {B = List SiteLine} (λ j. []) (λ x xs. x ∷ xs) (λ j. item_of (line_at s j)) k j) ≤ line_feeds (drop j s)) → length (then_walk {B = List SiteLine} (item_of r) [] (λ x j. x ∷ walk {B = List SiteLine} (λ j. []) (λ x xs. x ∷ xs) (λ j. item_of (line_at s j)) k j)) ≤ line_feeds (drop at s)
    step None h g = omega arith
    step (Some l) h g = omega (arith, feeds_line s at l h, g l.after)

-- A SOUND SITE TABLE HAS AT MOST 8,192 BYTES AND 64 LINES
module _ (site : List ℕ) (e : judged site ≡ Ok tt) where
  not_long : (ltb 8192 (length site) || ltb 64 (line_feeds site)) ≡ false
  unfolding judged
  not_long = by_test (ltb 8192 (length site) || ltb 64 (line_feeds site)) (λ t. absurd (differ (rw t at e))) (λ t. t)
    where
      differ : ◌≡◌ {A = Result ⊤ Fault} (Err TooLong) (Ok tt) → ⊥
      differ q = let z : ◌≡◌ {A = ℕ} 0 1 = cc in omega arith

  pub site_short : length site ≤ 8192
  site_short = by_test (ltb 8192 (length site)) (λ y. clash (or_left (ltb 8192 (length site)) _ y) not_long) (λ y. omega (arith, ltb-false 8192 (length site) y))

  pub lines_few : length (lines site 0) ≤ 64
  unfolding lines
  lines_few =
      by_test (ltb 64 (line_feeds site))
      (λ y. clash (or_right (ltb 8192 (length site)) _ y) not_long)
      (λ y. omega (arith, lines_feeds site (suc (length site)) 0, ltb-false 64 (line_feeds site) y))

-- Ranges of numbers to 1 are told by four bytes. Assumes nothing.
use Prim.Native.Nat.{ℕ, zero, suc, ◌+◌, ◌-◌, ◌/◌, ◌%◌, ◌≤◌, ◌<◌}
use mathlib.Core.Path.{◌≡◌, refl, ap, sym, ◌∙◌, subst}
use mathlib.Core.List.{List, [], ◌∷◌, ◌++◌}
use native.Mathlib.Omega.{arith}
use lib.ListN.{length, take, drop, length-drop}
use borrow.Author.Rules.{rules}
use Rattle.std.specs.Prelude.{Option, Some, None}
use Rattle.std.proofs.lemmas.List.{take_all, take-append-drop}
use Rattle.text.specs.Bytes.{between}
use Rattle.text.specs.Written.{decimal}
use Rattle.text.proofs.WrittenLaws.{decimal_one}
use Rattle.stored.specs.Words.{word_of, range_of}
use Rattle.stored.specs.Text.{range_text}
use Rattle.stored.specs.Line.{range_at}
use Rattle.stored.proofs.ReadLines.{SoundEnds, range_sound}
use Rattle.stored.proofs.Spelling.{range_spelt, ReadsEnds, range_read, word_range}

-- the four bytes of lo-hi and a tab
bit_text : (lo hi : ℕ) → lo ≤ 1 → hi ≤ 1 → (rest : List ℕ) → range_text (range_of (word_of lo hi)) ++ (0x09 ∷ rest) ≡ (0x30 + lo) ∷ (0x2D ∷ ((0x30 + hi) ∷ (0x09 ∷ rest)))
unfolding range_text
bit_text lo hi h k rest =
    ap {B = List ℕ} (λ r. range_text r ++ (0x09 ∷ rest)) (word_range lo hi (omega arith))
    ∙ (ap {B = List ℕ} (λ x. (x ++ (0x2D ∷ decimal hi)) ++ (0x09 ∷ rest)) (decimal_one lo (omega arith))
    ∙ ap {B = List ℕ} (λ x. (0x30 + lo) ∷ (0x2D ∷ (x ++ (0x09 ∷ rest)))) (decimal_one hi (omega arith)))

-- what is spelt so is read so
bit_read : (lo hi : ℕ) → lo ≤ hi → hi ≤ 1 → (s rest : List ℕ) (at : ℕ) → drop at s ≡ (0x30 + lo) ∷ (0x2D ∷ ((0x30 + hi) ∷ (0x09 ∷ rest))) → Some (word_of lo hi, at + 4) ≡ range_at 1 0x09 s at
unfolding between
bit_read lo hi i k s rest at e =
    let t : drop at s ≡ range_text (range_of (word_of lo hi)) ++ (0x09 ∷ rest) = e ∙ sym (bit_text lo hi (omega arith) k rest) in
    let r : ReadsEnds (range_at 1 0x09 s at) (word_of lo hi) s rest = range_read 1 0x09 s at (word_of lo hi) rest refl (omega arith) (omega arith) t in
    let m : SoundEnds 1 s at (Some (word_of lo hi, r.n)) = subst (SoundEnds 1 s at) r.is (range_sound 1 0x09 (omega arith) s at) in
    let p : r.n ≡ at + 4 = omega (arith, m.1, m.2, length-drop r.n s, ap length r.after, length-drop at s, ap length e) in
    sym (r.is ∙ ap {B = Option (ℕ × ℕ)} (λ n. Some (word_of lo hi, n)) p)

-- and nothing else is
bit_not : (s : List ℕ) (at : ℕ) → ((lo hi : ℕ) → lo ≤ hi → hi ≤ 1 → (rest : List ℕ) → drop at s ≡ (0x30 + lo) ∷ (0x2D ∷ ((0x30 + hi) ∷ (0x09 ∷ rest))) → ⊥) → None ≡ range_at 1 0x09 s at
bit_not s at f = go (range_at 1 0x09 s at) refl
  where
    go : (r : Option (ℕ × ℕ)) → r ≡ range_at 1 0x09 s at → None ≡ r
    go None e = refl
    go (Some (x, n)) e =
        let m : SoundEnds 1 s at (Some (x, n)) = subst (SoundEnds 1 s at) (sym e) (range_sound 1 0x09 (omega arith) s at) in
        let lo : ℕ = x / 4294967296 in
        let hi : ℕ = x % 4294967296 in
        let p : word_of (x / 4294967296) (x % 4294967296) ≡ x = omega arith in
        absurd (f (x / 4294967296) (x % 4294967296) m.0.0 m.0.1 (drop n s)
        (range_spelt 1 0x09 (omega arith) s at x n e ∙ (ap {B = List ℕ} (λ y. range_text (range_of y) ++ (0x09 ∷ drop n s)) (sym p) ∙ bit_text (x / 4294967296) (x % 4294967296) (omega (arith, m.0.0, m.0.1)) m.0.1 (drop n s))))

pub bits_short : (s : List ℕ) (at : ℕ) → length s - at < 4 → None ≡ range_at 1 0x09 s at
bits_short s at h = bit_not s at (λ lo hi i k rest e. omega (arith, length-drop at s, ap length e))

pub bits_out : (s : List ℕ) (at : ℕ) → length s < at → None ≡ range_at 1 0x09 s at
bits_out s at h = bits_short s at (omega arith)

-- the four bytes at a place
module _ (s t b : List ℕ) (at : ℕ) (f : t ≡ take (length s - at) (drop at s)) (g : b ≡ take 4 t) where
  four : b ++ drop 4 (drop at s) ≡ drop at s
  four =
      let p : take (length s - at) (drop at s) ≡ drop at s = take_all (length s - at) (drop at s) (omega (arith, length-drop at s)) in
      ap (λ (u : List ℕ). u ++ drop 4 (drop at s)) (g ∙ ap (take 4) (f ∙ p)) ∙ take-append-drop 4 (drop at s)

  told : {u : List ℕ} → b ≡ u → drop at s ≡ u ++ drop 4 (drop at s)
  told q = sym four ∙ ap (λ (u : List ℕ). u ++ drop 4 (drop at s)) q

  pub bits_00 : b ≡ 0x30 ∷ (0x2D ∷ (0x30 ∷ (0x09 ∷ []))) → Some (0, at + 4) ≡ range_at 1 0x09 s at
  bits_00 q = bit_read 0 0 (omega arith) (omega arith) s _ at (told q)

  pub bits_01 : b ≡ 0x30 ∷ (0x2D ∷ (0x31 ∷ (0x09 ∷ []))) → Some (1, at + 4) ≡ range_at 1 0x09 s at
  bits_01 q = bit_read 0 1 (omega arith) (omega arith) s _ at (told q)

  pub bits_11 : b ≡ 0x31 ∷ (0x2D ∷ (0x31 ∷ (0x09 ∷ []))) → Some (4294967297, at + 4) ≡ range_at 1 0x09 s at
  bits_11 q = bit_read 1 1 (omega arith) (omega arith) s _ at (told q)

  pub bits_not : (b ≡ 0x30 ∷ (0x2D ∷ (0x30 ∷ (0x09 ∷ []))) → ⊥) → (b ≡ 0x30 ∷ (0x2D ∷ (0x31 ∷ (0x09 ∷ []))) → ⊥) → (b ≡ 0x31 ∷ (0x2D ∷ (0x31 ∷ (0x09 ∷ []))) → ⊥) → None ≡ range_at 1 0x09 s at
  bits_not x y z = bit_not s at (λ lo hi i k rest e. other lo hi i k (g ∙ ap (take 4) (f ∙ (take_all (length s - at) (drop at s) (omega (arith, length-drop at s)) ∙ e))))
    where
      other : (lo hi : ℕ) → lo ≤ hi → hi ≤ 1 → b ≡ (0x30 + lo) ∷ (0x2D ∷ ((0x30 + hi) ∷ (0x09 ∷ []))) → ⊥
      other zero zero i k q = x q
      other zero (suc zero) i k q = y q
      other zero (suc (suc hi)) i k q = omega arith
      other (suc lo) zero i k q = omega arith
      other (suc zero) (suc zero) i k q = z q
      other (suc (suc lo)) (suc hi) i k q = omega arith
      other (suc zero) (suc (suc hi)) i k q = omega arith

pub ruleset telling = (rules, bits_out, bits_short, bits_00, bits_01, bits_11, bits_not)

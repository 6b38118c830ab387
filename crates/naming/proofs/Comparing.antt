-- Laws of comparing the names of lines.
use Rattle.std.specs.Prelude.{Option, None, Some}
use Prim.Native.Nat.{ℕ, ◌+◌, ◌-◌, ◌≤◌, ◌<◌}
use native.Mathlib.Omega.{arith}
use native.Mathlib.Numerals.{add-one}
use mathlib.Core.Path.{◌≡◌, refl, sym, ap, ◌∙◌}
use mathlib.Core.Bool.{Bool, true, false, cond}
use mathlib.Core.List.{List, [], ◌∷◌}
use lib.ListN.{length, take, drop, get_or, drop_of_length-le, length-drop}
use lib.Seq.{drop-cons, drop-drop}
use lib.Dec.{eqb}
use borrow.Author.Rules.{rules}
use borrow.Author.Tests.{eq-eqb, ne_eqb, eqb-true}
use Rattle.text.specs.Words.{same_bytes}
use Rattle.text.proofs.Tests.{by_test, clash}
use Rattle.values.specs.declared.Piece.{Piece}
use Rattle.values.specs.declared.Piece.TheVariants.{Stop, One, Two, Three, Four}
use Rattle.values.specs.Decode.{piece_at, before, bytes_at, first_of, rest_of}
use Rattle.values.proofs.Decoding.{string_turn}
use Rattle.values.proofs.Comparing.{first_nil, first_is}
use Rattle.site.specs.Url.{ends_authority, until_end, authority_of}

-- ## the authority of a URL
until_part : (xs : List ℕ) → take (length (until_end xs)) xs ≡ until_end xs
unfolding until_end
until_part [] = refl
until_part (b ∷ bs) = by_test (ends_authority b) (λ e. rw e) (λ e. rw e (ap (λ l. b ∷ l) (until_part bs)))

until_in : (xs : List ℕ) → length (until_end xs) ≤ length xs
unfolding until_end
until_in [] = omega arith
until_in (b ∷ bs) = by_test (ends_authority b) (λ e. rw e (omega arith)) (λ e. rw e (omega (arith, until_in bs)))

module _ (u : List ℕ) (n : ℕ) (e : n ≡ length (authority_of u)) where
  pub authority_none : n ≡ 0 → [] ≡ authority_of u
  authority_none z = go (authority_of u) (sym e ∙ z)
    where
      go : (l : List ℕ) → length l ≡ 0 → [] ≡ l
      go [] q = refl
      go (x ∷ l) q = absurd (omega arith)

  pub authority_is : take (8 + n - 8) (drop 8 u) ≡ authority_of u
  unfolding authority_of
  authority_is = let z : 8 + n - 8 ≡ length (until_end (drop 8 u)) = omega arith in rw z (until_part (drop 8 u))

  pub authority_in : (n ≡ 0 → ⊥) → 8 + n ≤ length u
  unfolding authority_of
  authority_in f = omega (arith, until_in (drop 8 u), length-drop 8 u)

-- ## a URL of the file, while it is decoded
rest_drop : (s : List ℕ) (p : Piece) → before (rest_of s p) (bytes_at s) ≡ drop 1 (before p (bytes_at s))
rest_drop s Stop = refl
rest_drop s (One a n) = sym (string_turn s n)
rest_drop s (Two a b n) = refl
rest_drop s (Three a b c n) = refl
rest_drop s (Four a b c d n) = refl

module _ (s : List ℕ) (url : ℕ) (p : Piece) where
  pub scheme_start : p ≡ piece_at s url → before p (bytes_at s) ≡ drop 0 (bytes_at s url)
  scheme_start e = ap (λ (q : Piece). before q (bytes_at s)) e ∙ sym (string_turn s url)

  pub scheme_more : (n : ℕ) → before p (bytes_at s) ≡ drop n (bytes_at s url) → {q : Piece} → q ≡ rest_of s p → before q (bytes_at s) ≡ drop (n + 1) (bytes_at s url)
  scheme_more n e f = rw (f, rest_drop s p, e) (drop-drop 1 n (bytes_at s url))

pub authority_from_lem : (s w : List ℕ) (url : ℕ) (p : Piece) → before p (bytes_at s) ≡ drop 8 (bytes_at s url) → same_bytes (authority_of (bytes_at s url)) w ≡ same_bytes (until_end (before p (bytes_at s))) (drop 0 w)
unfolding authority_of
authority_from_lem s w url p e = rw e

module _ (s w : List ℕ) (p : Piece) (n : ℕ) {t : Bool} (inv : t ≡ same_bytes (until_end (before p (bytes_at s))) (drop n w)) {h : Option ℕ} (e : h ≡ first_of p) where
  pub authority_short : n < length w → h ≡ None → false ≡ t
  unfolding until_end
  authority_short l q = sym (rw (first_nil s p (sym e ∙ q), drop-cons w n 0 l) at inv)

  pub authority_end : length w ≤ n → h ≡ None → true ≡ t
  unfolding until_end
  authority_end l q = sym (rw (first_nil s p (sym e ∙ q), drop_of_length-le w l) at inv)

  module _ {a : ℕ} (q : h ≡ Some a) {b : Bool} (z : b ≡ ends_authority a) where
    pub authority_stop : n < length w → b ≡ true → false ≡ t
    unfolding until_end
    authority_stop l y = sym (rw (first_is s p a (sym e ∙ q), until_end, ← z, y, drop-cons w n 0 l) at inv)

    pub authority_last : length w ≤ n → b ≡ t
    unfolding until_end
    authority_last l =
        let i : t ≡ same_bytes (cond b [] (a ∷ until_end (before (rest_of s p) (bytes_at s)))) [] = rw (first_is s p a (sym e ∙ q), until_end, ← z, drop_of_length-le w l) at inv in
        by_test b (λ y. y ∙ sym (rw y at i)) (λ y. y ∙ sym (rw y at i))

    module _ (y : b ≡ false) (l : n < length w) {x : ℕ} (u : x ≡ get_or w n 0) where
      pub authority_not : (a ≡ x → ⊥) → false ≡ t
      unfolding until_end
      authority_not f = sym (rw (first_is s p a (sym e ∙ q), until_end, ← z, y, drop-cons w n 0 l, ne_eqb a (get_or w n 0) (λ k. f (k ∙ sym u))) at inv)

      pub authority_more : a ≡ x → {r : Piece} → r ≡ rest_of s p → t ≡ same_bytes (until_end (before r (bytes_at s))) (drop (n + 1) w)
      unfolding until_end
      authority_more f g = rw (g, add-one) (rw (first_is s p a (sym e ∙ q), until_end, ← z, y, drop-cons w n 0 l, eq-eqb a (get_or w n 0) (f ∙ u)) at inv)

-- ## which lines are wanted
eqb_sym : (x y : ℕ) → eqb x y ≡ eqb y x
eqb_sym x y =
    by_test (eqb x y) (λ e. e ∙ sym (eq-eqb y x (sym (eqb-true x y e))))
    (λ e. e ∙ sym (ne_eqb y x (λ q. clash (eq-eqb x y (sym q)) e)))

pub same_sym : (a b : List ℕ) → same_bytes a b ≡ same_bytes b a
same_sym [] [] = refl
same_sym [] (y ∷ b) = refl
same_sym (x ∷ a) [] = refl
same_sym (x ∷ a) (y ∷ b) = rw (eqb_sym x y, same_sym a b)

pub ruleset wanting = (rules, same_sym, authority_none, authority_is, authority_in, scheme_start, scheme_more, authority_from_lem, authority_short, authority_end, authority_stop, authority_last, authority_not, authority_more)

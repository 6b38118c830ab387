-- Laws of the kinds of values. Assumes nothing.
use Prim.Native.Nat.{ℕ}
use mathlib.Core.Path.{◌≡◌, refl, ap, sym, ◌∙◌}
use mathlib.Core.List.{List}
use mathlib.Core.Bool.{Bool, true, false}
use lib.ListN.{get_or}
use lib.Dec.{eqb}
use borrow.Author.Rules.{rules}
use borrow.Author.Tests.{eqb-true, eqb-false}
use Rattle.text.proofs.Tests.{by_test}
use Rattle.jsontext.specs.declared.Start.{Start}
use Rattle.jsontext.specs.declared.Start.TheVariants.{Array, Object, Text, True, False, Null}
use Rattle.jsontext.specs.Reading.{start_of}
use Rattle.values.specs.Tree.{Json, Elements, Members, tree_by, tree_at, is_null, is_bool, is_string, is_array, is_object}
use Rattle.values.proofs.Trees.{tree_kinds, tree_start}

module _ (d : ℕ) (s : List ℕ) (at b : ℕ) (e : b ≡ get_or s at 0) where
  kind : (K : Json → Bool) (k : ℕ) (c : Start) → start_of k ≡ c → ((arr : ℕ → Elements) (obj : ℕ → Members) → true ≡ K (tree_by c s at arr obj)) → ((b ≡ k → ⊥) → false ≡ K (tree_at d s at)) → eqb b k ≡ K (tree_at d s at)
  kind K k c z y n =
      by_test (eqb b k) (λ q. q ∙ tree_start (λ (j : Json). true ≡ K j) d s at c (ap start_of (sym e ∙ eqb-true b k q) ∙ z) y) (λ q. q ∙ n (eqb-false b k q))

  pub string_kind : eqb b 34 ≡ is_string (tree_at d s at)
  unfolding start_of
  string_kind =
      kind is_string 34 Text refl (λ arr obj. refl)
      (λ f. tree_kinds (λ (j : Json). false ≡ is_string j) d s at b e (λ q es. refl) (λ q ms. refl) (λ q. absurd (f q)) (λ q. refl) (λ q. refl) (λ q. refl) (λ n. refl) refl)

  pub array_kind : eqb b 91 ≡ is_array (tree_at d s at)
  unfolding start_of
  array_kind =
      kind is_array 91 Array refl (λ arr obj. refl)
      (λ f. tree_kinds (λ (j : Json). false ≡ is_array j) d s at b e (λ q es. absurd (f q)) (λ q ms. refl) (λ q. refl) (λ q. refl) (λ q. refl) (λ q. refl) (λ n. refl) refl)

  pub object_kind : eqb b 123 ≡ is_object (tree_at d s at)
  unfolding start_of
  object_kind =
      kind is_object 123 Object refl (λ arr obj. refl)
      (λ f. tree_kinds (λ (j : Json). false ≡ is_object j) d s at b e (λ q es. refl) (λ q ms. absurd (f q)) (λ q. refl) (λ q. refl) (λ q. refl) (λ q. refl) (λ n. refl) refl)

  pub null_kind : eqb b 110 ≡ is_null (tree_at d s at)
  unfolding start_of
  null_kind =
      kind is_null 110 Null refl (λ arr obj. refl)
      (λ f. tree_kinds (λ (j : Json). false ≡ is_null j) d s at b e (λ q es. refl) (λ q ms. refl) (λ q. refl) (λ q. refl) (λ q. refl) (λ q. absurd (f q)) (λ n. refl) refl)

  pub true_kind : b ≡ 116 → true ≡ is_bool (tree_at d s at)
  unfolding start_of
  true_kind q = tree_start (λ (j : Json). true ≡ is_bool j) d s at True (ap start_of (sym e ∙ q)) (λ arr obj. refl)

  pub bool_kind : (b ≡ 116 → ⊥) → eqb b 102 ≡ is_bool (tree_at d s at)
  unfolding start_of
  bool_kind g =
      kind is_bool 102 False refl (λ arr obj. refl)
      (λ f. tree_kinds (λ (j : Json). false ≡ is_bool j) d s at b e (λ q es. refl) (λ q ms. refl) (λ q. refl) (λ q. absurd (g q)) (λ q. absurd (f q)) (λ q. refl) (λ n. refl) refl)

pub ruleset kinds = (rules, string_kind, array_kind, object_kind, null_kind, true_kind, bool_kind)

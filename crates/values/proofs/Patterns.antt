-- Laws of rules over a tree, for any rule: a caller's loop over elements or members is proved by these. Assumes nothing.
use Rattle.jsontext.specs.declared.Bad.{Bad}
use Rattle.std.specs.Prelude.{Option, None, Some, Result, Ok, Err}
use Prim.Native.Nat.{ℕ, ◌+◌, ◌≤◌}
use mathlib.Core.Path.{◌≡◌, refl, ap, sym, ◌∙◌}
use mathlib.Core.List.{List, []}
use mathlib.Core.Bool.{Bool, true, false, ◌&&◌}
use native.Mathlib.Omega.{arith}
use lib.ListN.{length, get_or, get_or-eq_default}
use borrow.Author.Rules.{rules}
use borrow.Author.Tests.{not-true, not-false}
use Rattle.jsontext.specs.declared.Next.{Next}
use Rattle.jsontext.specs.declared.Next.TheVariants.{Done, More}
use Rattle.jsontext.specs.Reading.{is_space, span_at, element_at, member_at, value_at}
use Rattle.jsontext.proofs.Runs.{past_is}
use Rattle.values.specs.Decode.{piece_at, bytes_at}
use Rattle.values.specs.Tree.{Json, element, name_at, tree_at, lookup, seen, elements_from, elements_after, members_from, members_after, items, items_from}
use Rattle.values.specs.Rules.{must, may, bytes_in, StringAt, text, all, first_with, all_names}
use Rattle.values.proofs.Decoding.{string_turn}
use Rattle.values.proofs.Trees.{tree_string, tree_kinds}
use Rattle.values.proofs.Walking.{members_turn, elements_turn, after_done, after_wrong, after_more, element_after_done, element_after_wrong, element_after_more, element_less, member_less}

-- a member that must be there, and one that may be missing; its value is looked at at the same depth, however it was come by
module _ (w : List ℕ) (j : Json) (d : ℕ) (s : List ℕ) (r : Option ℕ) (e : lookup w j ≡ seen (tree_at d s) r) (f : Json → Bool) where
  pub must_none : r ≡ None → false ≡ must (lookup w j) f
  must_none q = rw (e, q)

  pub may_none : r ≡ None → true ≡ may (lookup w j) f
  may_none q = rw (e, q)

  module _ {p : ℕ} (q : r ≡ Some p) {d' : ℕ} (z : d' ≡ d) {b : Bool} (u : b ≡ f (tree_at d' s p)) where
    pub must_some : b ≡ must (lookup w j) f
    must_some = rw (e, q, ← z) u

    pub may_some : b ≡ may (lookup w j) f
    may_some = rw (e, q, ← z) u

-- any rule over the elements of an array: where a walk begins, and one element
module _ (p : Json → Bool) (j : Json) (d : ℕ) (s : List ℕ) (r : Option ℕ) (e : items j ≡ items_from d s r) where
  pub all_none : r ≡ None → true ≡ all p (items j)
  unfolding all
  all_none q = rw (e, q)

  pub all_some : {k : ℕ} → r ≡ Some k → {d' : ℕ} → d' ≡ d → all p (items j) ≡ all p (elements_from d' s k)
  all_some q z = rw (e, q, z)

module _ (p : Json → Bool) (d : ℕ) (s : List ℕ) (j : ℕ) {t : Bool} (inv : t ≡ all p (elements_from d s j)) {i : ℕ} (g : i ≡ span_at is_space s j) {b : Bool} (e : b ≡ p (tree_at d s i)) where
  all_now : t ≡ b && (all p (elements_after d s j))
  unfolding all
  all_now = inv ∙ ap (all p) (elements_turn d s j) ∙ rw (← g, ← e)

  pub all_bad : b ≡ false → false ≡ t
  all_bad q = sym (rw q at all_now)

  module _ (q : b ≡ true) {n : Result Next Bad} (f : n ≡ element_at (value_at d s) s j) where
    pub all_done : {m : Next} → n ≡ Ok m → {k : ℕ} → m ≡ Done k → true ≡ t
    unfolding all
    all_done u u₂ = sym (rw (q, element_after_done d s j f u u₂) at all_now)

    pub all_wrong : {k : Bad} → n ≡ Err k → true ≡ t
    unfolding all
    all_wrong u = sym (rw (q, element_after_wrong d s j f u) at all_now)

    pub all_on : {m : Next} → n ≡ Ok m → {k : ℕ} → m ≡ More k → t ≡ all p (elements_from d s k)
    all_on u u₂ = rw (q, element_after_more d s j f u u₂) at all_now

module _ (p : Json → Bool) (d : ℕ) (s : List ℕ) (j : ℕ) {t : Option Json} (inv : t ≡ first_with p (elements_from d s j)) {i : ℕ} (g : i ≡ span_at is_space s j) {b : Bool} (e : b ≡ p (tree_at d s i)) where
  with_now : t ≡ first_with p (element (tree_at d s i) (elements_after d s j))
  with_now = inv ∙ ap (first_with p) (elements_turn d s j) ∙ ap (λ (k : ℕ). first_with p (element (tree_at d s k) (elements_after d s j))) (sym g)

  pub with_found : b ≡ true → {d' : ℕ} → d ≡ d' → t ≡ Some (tree_at d' s i)
  unfolding first_with
  with_found q z = rw (← z) (rw (first_with, ← e, q) at with_now)

  module _ (q : b ≡ false) {n : Result Next Bad} (f : n ≡ element_at (value_at d s) s j) where
    pub with_done : {m : Next} → n ≡ Ok m → {k : ℕ} → m ≡ Done k → t ≡ None
    unfolding first_with
    with_done u u₂ = rw (first_with, ← e, q, element_after_done d s j f u u₂) at with_now

    pub with_wrong : {k : Bad} → n ≡ Err k → t ≡ None
    unfolding first_with
    with_wrong u = rw (first_with, ← e, q, element_after_wrong d s j f u) at with_now

    pub with_on : {m : Next} → n ≡ Ok m → {k : ℕ} → m ≡ More k → t ≡ first_with p (elements_from d s k)
    unfolding first_with
    with_on u u₂ = rw (first_with, ← e, q, element_after_more d s j f u u₂) at with_now

pub ruleset array_walk = (rules, not-true, not-false, element_less, all_none, all_some, all_bad, all_done, all_wrong, all_on, with_found, with_done, with_wrong, with_on)

-- any rule over the names of an object's members
module _ (p : List ℕ → Bool) (d : ℕ) (s : List ℕ) (j : ℕ) {t : Bool} (inv : t ≡ all_names p (members_from d s j)) {b : Bool} (e : b ≡ p (name_at s j)) where
  names_now : t ≡ b && (all_names p (members_after d s j))
  unfolding all_names
  names_now = inv ∙ ap (all_names p) (members_turn d s j) ∙ rw (← e)

  pub names_bad : b ≡ false → false ≡ t
  names_bad q = sym (rw q at names_now)

  module _ (q : b ≡ true) {n : Result Next Bad} (f : n ≡ member_at (value_at d s) s j) where
    pub names_done : {m : Next} → n ≡ Ok m → {k : ℕ} → m ≡ Done k → true ≡ t
    unfolding all_names
    names_done u u₂ = sym (rw (q, after_done d s j f u u₂) at names_now)

    pub names_wrong : {k : Bad} → n ≡ Err k → true ≡ t
    unfolding all_names
    names_wrong u = sym (rw (q, after_wrong d s j f u) at names_now)

    pub names_on : {m : Next} → n ≡ Ok m → {k : ℕ} → m ≡ More k → t ≡ all_names p (members_from d s k)
    names_on u u₂ = rw (q, after_more d s j f u u₂) at names_now

pub ruleset object_walk = (rules, not-true, not-false, member_less, names_bad, names_done, names_wrong, names_on)

-- where the string stands that was found
bytes_end : (s : List ℕ) → bytes_at s (length s) ≡ []
unfolding piece_at
bytes_end s = let h : length s ≤ length s = omega arith in string_turn s (length s) ∙ rw (get_or-eq_default s 0 h)

pub no_bytes : (d : ℕ) (s : List ℕ) (at b : ℕ) → b ≡ get_or s at 0 → (b ≡ 34 → ⊥) → bytes_in (Some (tree_at d s at)) ≡ []
no_bytes d s at b e f = tree_kinds (λ (j : Json). bytes_in (Some j) ≡ []) d s at b e (λ q es. refl) (λ q ms. refl) (λ q. absurd (f q)) (λ q. refl) (λ q. refl) (λ q. refl) (λ n. refl) refl

module _ (s : List ℕ) (f : Option ℕ) where
  pub string_none : f ≡ None → StringAt s f (length s)
  string_none q = record { is = λ d. rw q (bytes_end s) }

  module _ {p : ℕ} (q : f ≡ Some p) {b : ℕ} (g : b ≡ get_or s p 0) where
    pub string_there : b ≡ 34 → StringAt s f (p + 1)
    string_there u = record { is = λ d. rw (q, tree_string d s p g u) }

    pub string_not : (b ≡ 34 → ⊥) → StringAt s f (length s)
    string_not u = record { is = λ d. rw q (bytes_end s ∙ sym (no_bytes d s p b g u)) }

pub string_found : (m : Option Json) (d : ℕ) (s : List ℕ) (f : Option ℕ) → m ≡ seen (tree_at d s) f → {r : ℕ} → StringAt s f r → bytes_at s r ≡ bytes_in m
string_found m d s f e a = a.is d ∙ ap bytes_in (sym e)

pub ruleset string_places = (rules, past_is, string_none, string_there, string_not)

-- a string whose bytes pass a test
module _ (p : List ℕ → Bool) (d : ℕ) (s : List ℕ) (at b : ℕ) (e : b ≡ get_or s at 0) where
  pub text_is : b ≡ 34 → {r : Bool} → r ≡ p (bytes_at s (at + 1)) → r ≡ text p (tree_at d s at)
  text_is q u = rw (tree_string d s at e q) u

  pub text_not : (b ≡ 34 → ⊥) → false ≡ text p (tree_at d s at)
  text_not f = tree_kinds (λ (j : Json). false ≡ text p j) d s at b e (λ q es. refl) (λ q ms. refl) (λ q. absurd (f q)) (λ q. refl) (λ q. refl) (λ q. refl) (λ n. refl) refl

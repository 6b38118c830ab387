-- Laws of names, lists and policies.
use Rattle.std.specs.Prelude.{Option, None, Some, Result, Ok, Err}
use Prim.Native.Nat.{ℕ, suc, ◌+◌, ◌-◌}
use mathlib.Core.Path.{◌≡◌, refl, sym, ap, ◌∙◌}
use mathlib.Core.List.{List, ◌∷◌}
use mathlib.Core.Bool.{Bool, true, false, not}
use lib.ListN.{get_or}
use Rattle.std.specs.Option.{is_some, is_none}
use borrow.Author.Rules.{rules}
use Rattle.text.specs.Ascii.{ascii}
use Rattle.text.specs.Words.{same_bytes}
use Rattle.text.proofs.Tests.{by_test}
use Rattle.jsontext.specs.declared.Bad.{Bad}
use Rattle.jsontext.specs.declared.Next.{Next}
use Rattle.jsontext.specs.declared.Next.TheVariants.{Done, More}
use Rattle.jsontext.specs.Reading.{is_space, span_at, element_at, value_at}
use Rattle.jsontext.proofs.Runs.{past_is}
use Rattle.values.specs.declared.Entry.{Entry}
use Rattle.values.specs.Decode.{bytes_at}
use Rattle.values.specs.Names.{Entered, grown_of}
use Rattle.values.specs.Tree.{Json, Elements, no_more, element, elements_from, elements_after, items, items_from, tree_at, tree_of, lookup, seen}
use Rattle.values.specs.Rules.{must, all, text, first_with}
use Rattle.values.proofs.Walking.{elements_turn, element_after_done, element_after_wrong, element_after_more, element_less}
use Rattle.values.proofs.Naming.{grown_fits}
use Rattle.values.proofs.Patterns.{text_is, text_not, string_found}
use Rattle.header.specs.Asked.{is_among}
use Rattle.flows.specs.declared.Direction.{Direction}
use Rattle.lists.specs.Lists.{is_named, name_of, names_of, all_different, nested_ok, nested, policy_ok, policy_lists, lists_ok, lists_of, has_type, list_named, named_ok, direction_ok, both_ok, policies_ok}
use Rattle.lists.specs.Names.{again_of, Added}
use Rattle.lists.proofs.Different.{Different, twice_again, once_fresh, different_from, different_again, different_next, different_end}

-- ## the first element that passes a test
module _ (p : Json → Bool) (d : ℕ) (s : List ℕ) (j : ℕ) {i : ℕ} (g : i ≡ span_at is_space s j) {b : Bool} (e : b ≡ p (tree_at d s i)) where
  pub first_here : b ≡ true → first_with p (elements_from d s j) ≡ Some (tree_at d s i)
  unfolding first_with
  first_here q = rw (elements_turn d s j, first_with, ← g, ← e, q)

  module _ (q : b ≡ false) {n : Result Next Bad} (f : n ≡ element_at (value_at d s) s j) where
    pub first_more : {m : Next} → n ≡ Ok m → {k : ℕ} → m ≡ More k → first_with p (elements_from d s j) ≡ first_with p (elements_from d s k)
    unfolding first_with
    first_more u v = rw (elements_turn d s j, first_with, ← g, ← e, q, element_after_more d s j f u v)

    pub first_done : {m : Next} → n ≡ Ok m → {k : ℕ} → m ≡ Done k → first_with p (elements_from d s j) ≡ None
    unfolding first_with
    first_done u v = rw (elements_turn d s j, first_with, ← g, ← e, q, element_after_done d s j f u v)

    pub first_wrong : {k : Bad} → n ≡ Err k → first_with p (elements_from d s j) ≡ None
    unfolding first_with
    first_wrong u = rw (elements_turn d s j, first_with, ← g, ← e, q, element_after_wrong d s j f u)

is_some_seen : (t : ℕ → Json) (r : Option ℕ) → is_some (seen t r) ≡ is_some r
is_some_seen t None = refl
is_some_seen t (Some p) = refl

all_by_first : (p : Json → Bool) (es : Elements) → all p es ≡ is_none (first_with (λ j. not (p j)) es)
unfolding all first_with
all_by_first p no_more = refl
all_by_first p (element j es) = by_test (p j) (λ e. rw (e, all_by_first p es)) (λ e. rw e)

among_by_first : (b : List ℕ) (es : Elements) → is_among b (names_of es) ≡ is_some (first_with (λ j. same_bytes b (name_of j)) es)
unfolding is_among names_of first_with
among_by_first b no_more = refl
among_by_first b (element j es) = by_test (same_bytes b (name_of j)) (λ e. rw e) (λ e. rw (e, among_by_first b es))

-- what a walk says of all elements, and of the names of those after a place
pub all_walked : (p : Json → Bool) (es : Elements) (t : ℕ → Json) (r : Option ℕ) → first_with (λ j. not (p j)) es ≡ seen t r → (b : Bool) → is_some r ≡ not b → b ≡ all p es
all_walked p es t r e b h = twice b ∙ (ap not (sym (ap is_some e ∙ (is_some_seen t r ∙ h))) ∙ sym (all_by_first p es))
  where
    twice : (b : Bool) → b ≡ not (not b)
    twice true = refl
    twice false = refl

module _ (b : List ℕ) (d : ℕ) (s : List ℕ) (j : ℕ) {n : Result Next Bad} (f : n ≡ element_at (value_at d s) s j) where
  pub among_walked : {m : Next} → n ≡ Ok m → {k : ℕ} → m ≡ More k → (r : Option ℕ) → first_with (λ j. same_bytes b (name_of j)) (elements_from d s k) ≡ seen (tree_at d s) r → is_among b (names_of (elements_after d s j)) ≡ is_some r
  among_walked u v r e = rw (element_after_more d s j f u v) (among_by_first b _ ∙ (ap is_some e ∙ is_some_seen (tree_at d s) r))

  pub among_done : {m : Next} → n ≡ Ok m → {k : ℕ} → m ≡ Done k → false ≡ is_among b (names_of (elements_after d s j))
  unfolding is_among names_of
  among_done u v = rw (element_after_done d s j f u v)

  pub among_wrong : {k : Bad} → n ≡ Err k → false ≡ is_among b (names_of (elements_after d s j))
  unfolding is_among names_of
  among_wrong u = rw (element_after_wrong d s j f u)

-- ## all names different
module _ (j : Json) (d : ℕ) (s : List ℕ) {r : Option ℕ} (e : items j ≡ items_from d s r) where
  pub different_none : r ≡ None → true ≡ all_different (names_of (items j))
  unfolding names_of all_different
  different_none q = rw (e, q)

  pub different_some : {k : ℕ} → r ≡ Some k → {d' : ℕ} → d' ≡ d → (a : List ℕ) → Different (all_different (names_of (items j))) s a a 0 (names_of (elements_from d' s k))
  different_some q z a = rw (e, q, z) (different_from s a _)

module _ (d : ℕ) (s : List ℕ) (j : ℕ) {i : ℕ} (g : i ≡ span_at is_space s j) (m : ℕ) (h : bytes_at s m ≡ name_of (tree_at d s i)) {a : List ℕ} {hi : ℕ} (b : List ℕ) (r : Entry) (e : Entered s m j a 0 hi b r) {f : Bool} (q : f ≡ again_of (is_among (bytes_at s m) (names_of (elements_after d s j))) r) where
  pub added_twice : f ≡ true → Added d s j a hi b None
  added_twice y = record { name = m; stands = rw (← g) h; entry = r; entered = e; told = rw (← q, y) }

  pub added_once : f ≡ false → {n : ℕ} → n ≡ grown_of hi r → Added d s j a hi b (Some n)
  added_once y w = record { name = m; stands = rw (← g) h; entry = r; entered = e; told = rw (← q, y, w) }

module _ (d : ℕ) (s : List ℕ) (j : ℕ) {t : Bool} {a₀ a : List ℕ} {hi : ℕ} (inv : Different t s a₀ a hi (names_of (elements_from d s j))) {b : List ℕ} {r : Option ℕ} (e : Added d s j a hi b r) where
  different_now : Different t s a₀ a hi (bytes_at s e.name ∷ names_of (elements_after d s j))
  unfolding names_of
  different_now = rw (elements_turn d s j, ← e.stands) at inv

  pub different_not : r ≡ None → false ≡ t
  different_not q = different_again s e.name j a b hi _ different_now e.entry e.entered (twice_again _ _ (sym e.told ∙ q))

  module _ {n : ℕ} (q : r ≡ Some n) where
    different_left : Different t s a₀ b n (names_of (elements_after d s j))
    different_left =
        let u = once_fresh _ _ _ (sym e.told ∙ q) in
        rw u.1 (different_next s e.name j a b hi _ different_now e.entry e.entered u.0)

    module _ {x : Result Next Bad} (u : x ≡ element_at (value_at d s) s j) where
      pub different_done : {m : Next} → x ≡ Ok m → {k : ℕ} → m ≡ Done k → true ≡ t
      unfolding names_of
      different_done v v₂ = different_end (rw (element_after_done d s j u v v₂) at different_left)

      pub different_wrong : {k : Bad} → x ≡ Err k → true ≡ t
      unfolding names_of
      different_wrong v = different_end (rw (element_after_wrong d s j u v) at different_left)

      pub different_on : {m : Next} → x ≡ Ok m → {k : ℕ} → m ≡ More k → Different t s a₀ b n (names_of (elements_from d s k))
      different_on v v₂ = rw (element_after_more d s j u v v₂) at different_left

pub ruleset naming = (rules, element_less, string_found, among_done, among_wrong, grown_fits, added_twice, added_once, different_none, different_some, different_not, different_done, different_wrong, different_on)

-- ## lists by name
-- a member that must be a string
module _ (w : List ℕ) (d : ℕ) (s : List ℕ) (at : ℕ) {r : Option ℕ} (e : lookup w (tree_at (suc d) s at) ≡ seen (tree_at d s) r) (p : List ℕ → Bool) where
  pub must_text_none : r ≡ None → false ≡ must (lookup w (tree_at (suc d) s at)) (text p)
  must_text_none q = rw (e, q)

  module _ {i : ℕ} (q : r ≡ Some i) {b : ℕ} (f : b ≡ get_or s i 0) where
    pub must_text_other : (b ≡ 34 → ⊥) → false ≡ must (lookup w (tree_at (suc d) s at)) (text p)
    must_text_other n = rw (e, q) (text_not p d s i b f n)

    pub must_text_is : b ≡ 34 → {x : Bool} → x ≡ p (bytes_at s (i + 1)) → x ≡ must (lookup w (tree_at (suc d) s at)) (text p)
    must_text_is n h = rw (e, q) (text_is p d s i b f n h)

module _ (s : List ℕ) (at i : ℕ) {r : Option ℕ} (e : lookup (ascii "name") (tree_at 13 s at) ≡ seen (tree_at 12 s) r) where
  pub is_named_none : r ≡ None → false ≡ is_named (bytes_at s i) (tree_at 13 s at)
  unfolding is_named
  is_named_none q = must_text_none (ascii "name") 12 s at e (λ b. same_bytes b (bytes_at s i)) q

  module _ {k : ℕ} (q : r ≡ Some k) {b : ℕ} (f : b ≡ get_or s k 0) where
    pub is_named_other : (b ≡ 34 → ⊥) → false ≡ is_named (bytes_at s i) (tree_at 13 s at)
    unfolding is_named
    is_named_other n = must_text_other (ascii "name") 12 s at e (λ b. same_bytes b (bytes_at s i)) q f n

    pub is_named_is : b ≡ 34 → {x : Bool} → x ≡ same_bytes (bytes_at s (k + 1)) (bytes_at s i) → x ≡ is_named (bytes_at s i) (tree_at 13 s at)
    unfolding is_named
    is_named_is n h = must_text_is (ascii "name") 12 s at e (λ b. same_bytes b (bytes_at s i)) q f n h

module _ (s : List ℕ) (at : ℕ) (t : List ℕ) {r : Option ℕ} (e : lookup (ascii "type") (tree_at 13 s at) ≡ seen (tree_at 12 s) r) where
  pub type_none : r ≡ None → false ≡ has_type t (tree_at 13 s at)
  unfolding has_type
  type_none q = must_text_none (ascii "type") 12 s at e (λ b. same_bytes b t) q

  module _ {k : ℕ} (q : r ≡ Some k) {b : ℕ} (f : b ≡ get_or s k 0) where
    pub type_other : (b ≡ 34 → ⊥) → false ≡ has_type t (tree_at 13 s at)
    unfolding has_type
    type_other n = must_text_other (ascii "type") 12 s at e (λ b. same_bytes b t) q f n

    pub type_is : b ≡ 34 → {x : Bool} → x ≡ same_bytes (bytes_at s (k + 1)) t → x ≡ has_type t (tree_at 13 s at)
    unfolding has_type
    type_is n h = must_text_is (ascii "type") 12 s at e (λ b. same_bytes b t) q f n h

-- the list that is named
module _ (s : List ℕ) (l : Option ℕ) (n : ℕ) where
  pub list_some : {at : ℕ} → l ≡ Some at → (i : ℕ) → bytes_at s i ≡ name_of (tree_at 11 s n) → (r : Option ℕ) → first_with (is_named (bytes_at s i)) (elements_from 13 s at) ≡ seen (tree_at 13 s) r → list_named (items_from 13 s l) (tree_at 11 s n) ≡ seen (tree_at 13 s) r
  unfolding list_named
  list_some q i h r f = rw (q, ← h) f

-- ## nested arrays
module _ (o n : List ℕ) (d : ℕ) (s : List ℕ) (at : ℕ) {r : Option ℕ} (e : lookup o (tree_at d s at) ≡ seen (tree_at (d - 1) s) r) where
  module _ {p : ℕ} (q : r ≡ Some p) {d' : ℕ} (z : d' ≡ d - 1) {t : Option ℕ} (f : lookup n (tree_at d' s p) ≡ seen (tree_at (d' - 1) s) t) where
    pub nested_items : {k : ℕ} → t ≡ Some k → {d'' : ℕ} → d'' ≡ d' - 1 → (x : Option ℕ) → items (tree_at d'' s k) ≡ items_from (d'' - 1) s x → nested o n (tree_at d s at) ≡ items_from (d - 1 - 1 - 1) s x
    unfolding nested
    nested_items u y x h = rw (e, q, ← z, f, u, ← y) h

-- ## policies
module _ (d : Direction) (s : List ℕ) (file mud : ℕ) {a : Bool} (e : a ≡ policy_ok d (tree_at 15 s mud)) where
  -- named by docs/PORT.md: they stand, though no proof cites them now
  pub direction_policy : a ≡ false → false ≡ direction_ok d (tree_at 16 s file) (tree_at 15 s mud)
  unfolding direction_ok
  direction_policy n = rw (← e, n)

  module _ (y : a ≡ true) {r : Option ℕ} (f : policy_lists d (tree_at 15 s mud) ≡ items_from 11 s r) where
    pub direction_some : {p : ℕ} → r ≡ Some p → (l : Option ℕ) → lists_of (tree_at 16 s file) ≡ items_from 13 s l → {b : Bool} → b ≡ all (named_ok (items_from 13 s l)) (elements_from 11 s p) → b ≡ direction_ok d (tree_at 16 s file) (tree_at 15 s mud)
    unfolding direction_ok
    direction_some q l g h = rw (← e, y, f, q, g) h

module _ (s : List ℕ) {i : ℕ} (g : i ≡ span_at is_space s 0) {a : Bool} (e : a ≡ nested_ok (ascii "ietf-access-control-list:acls") (ascii "acl") (tree_at 16 s i)) where
  pub policies_lists : a ≡ false → false ≡ policies_ok (tree_of 16 s)
  unfolding policies_ok tree_of lists_ok
  policies_lists n = rw (← g, ← e, n)

  module _ (y : a ≡ true) {r : Option ℕ} (f : lookup (ascii "ietf-mud:mud") (tree_at 16 s i) ≡ seen (tree_at 15 s) r) where
    pub policies_none : r ≡ None → false ≡ policies_ok (tree_of 16 s)
    unfolding policies_ok tree_of lists_ok
    policies_none q = rw (← g, ← e, y, f, q)

    pub policies_some : {p : ℕ} → r ≡ Some p → {b : Bool} → b ≡ both_ok (tree_at 16 s i) (tree_at 15 s p) → b ≡ policies_ok (tree_of 16 s)
    unfolding policies_ok tree_of lists_ok
    policies_some q h = rw (← g, ← e, y, f, q) h

pub ruleset listing = (past_is, is_named_none, is_named_other, is_named_is, type_none, type_other, type_is, list_some, nested_items, direction_some, policies_lists, policies_none, policies_some)

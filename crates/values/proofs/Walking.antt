-- Laws of walking over members and elements. Assumes nothing.
use Rattle.jsontext.specs.declared.Bad.{Bad}
use Rattle.std.specs.Prelude.{is_ok, Option, None, Some, Result, Ok, Err}
use Prim.Native.Nat.{ℕ, zero, suc, ◌+◌, ◌-◌, ◌≤◌, ◌<◌}
use mathlib.Core.Path.{◌≡◌, refl, ap, sym, ◌∙◌}
use mathlib.Core.List.{List, ◌∷◌}
use mathlib.Core.Bool.{Bool, true, false, cond}
use native.Mathlib.Omega.{arith}
use lib.ListN.{length, get_or}
use lib.Dec.{eqb}
use borrow.Author.Rules.{rules}
use borrow.Author.Tests.{eqb-true, eqb-false}
use Rattle.text.specs.Words.{same_bytes}
use Rattle.text.proofs.Tests.{by_test}
use Rattle.jsontext.specs.declared.Next.{Next}
use Rattle.jsontext.specs.declared.Next.TheVariants.{Done, More}
use Rattle.jsontext.specs.Reading.{is_space, span_at, token_at, key_at, start_of, element_at, member_at, value_at}
use Rattle.jsontext.proofs.Runs.{past_is, NextPast}
use Rattle.jsontext.proofs.Nesting.{element_up, member_up}
use Rattle.values.specs.Decode.{bytes_at}
use Rattle.values.specs.Tree.{Json, no_more, element, nothing, member, onward, places, places_at, elements_at, members_at, name_at, place_at, elements_of, members_of, tree_at, find, lookup, seen, elements_from, elements_after, members_from, members_after, items, items_from, fields, fields_from}
use Rattle.values.specs.Names.{first_in}
use Rattle.values.proofs.Decoding.{string_turn, piece_stop}
use Rattle.values.proofs.Trees.{tree_kinds, tree_array, tree_object}

-- the places of a walk: no more fuel than its places is ever used
onward_same : (n : Result Next Bad) (s : List ℕ) (i : ℕ) → NextPast s i n → (f g : ℕ → List ℕ) → ((k : ℕ) → i < k → k ≤ length s → f k ≡ g k) → onward n f ≡ onward n g
onward_same (Ok (Done k)) s i u f g h = refl
onward_same (Ok (More k)) s i u f g h = h k u.0 u.1
onward_same (Err k) s i u f g h = refl

module _ (step : ℕ → Result Next Bad) (s : List ℕ) (up : (j : ℕ) → NextPast s j (step j)) where
  places_fuel : (f g i : ℕ) → length s - i < f → length s - i < g → places step f i ≡ places step g i
  unfolding places
  places_fuel zero g i h l = absurd (omega arith)
  places_fuel (suc f) zero i h l = absurd (omega arith)
  places_fuel (suc f) (suc g) i h l = ap (λ (r : List ℕ). i ∷ r) (onward_same (step i) s i (up i) (λ k. places step f k) (λ k. places step g k) (λ k a b. places_fuel f g k (omega arith) (omega arith)))

  pub places_turn : (i : ℕ) → places_at step s i ≡ i ∷ onward (step i) (places_at step s)
  unfolding places_at places
  places_turn i = ap (λ (r : List ℕ). i ∷ r) (onward_same (step i) s i (up i) (λ k. places step (length s) k) (λ k. places step (suc (length s)) k) (λ k a b. places_fuel (length s) (suc (length s)) k (omega arith) (omega arith)))

-- a member
module _ (s : List ℕ) (at : ℕ) where
  pub place_end : {y : Result ℕ Bad} → y ≡ key_at s at → {v : ℕ} → y ≡ Ok v → {i : ℕ} → i ≡ span_at is_space s v → i ≡ place_at s at
  unfolding place_at
  place_end e q u = rw (← e, q) u

-- a member's name
module _ (s : List ℕ) (at : ℕ) {i : ℕ} (e : i ≡ span_at is_space s at) where
  pub name_place : name_at s at ≡ bytes_at s (i + 1)
  unfolding name_at
  name_place = rw (← e)

  pub name_place_out : length s ≤ i → name_at s at ≡ bytes_at s i
  unfolding name_at
  name_place_out l = rw (← e) (string_turn s (i + 1) ∙ rw (piece_stop s (i + 1) (omega arith)) (sym (string_turn s i ∙ rw (piece_stop s i l))))

-- one member, and one element, of those from a place on
pub members_turn : (d : ℕ) (s : List ℕ) (j : ℕ) → members_from d s j ≡ member (name_at s j) (tree_at d s (place_at s j)) (members_after d s j)
unfolding members_of
members_turn d s j = ap (λ (l : List ℕ). members_of (tree_at d s) s l) (places_turn (member_at (value_at d s) s) s (member_up d s) j)

pub elements_turn : (d : ℕ) (s : List ℕ) (j : ℕ) → elements_from d s j ≡ element (tree_at d s (span_at is_space s j)) (elements_after d s j)
unfolding elements_of
elements_turn d s j = ap (λ (l : List ℕ). elements_of (tree_at d s) s l) (places_turn (element_at (value_at d s) s) s (element_up d s) j)

module _ (d : ℕ) (s : List ℕ) (j : ℕ) {n : Result Next Bad} (e : n ≡ member_at (value_at d s) s j) where
  pub after_done : {m : Next} → n ≡ Ok m → {k : ℕ} → m ≡ Done k → members_after d s j ≡ nothing
  unfolding members_of
  after_done q q₂ = rw (← e, q, q₂)

  pub after_wrong : {k : Bad} → n ≡ Err k → members_after d s j ≡ nothing
  unfolding members_of
  after_wrong q = rw (← e, q)

  pub after_more : {m : Next} → n ≡ Ok m → {k : ℕ} → m ≡ More k → members_after d s j ≡ members_from d s k
  after_more q q₂ = rw (← e, q, q₂)

module _ (d : ℕ) (s : List ℕ) (j : ℕ) {n : Result Next Bad} (e : n ≡ element_at (value_at d s) s j) where
  pub element_after_done : {m : Next} → n ≡ Ok m → {k : ℕ} → m ≡ Done k → elements_after d s j ≡ no_more
  unfolding elements_of
  element_after_done q q₂ = rw (← e, q, q₂)

  pub element_after_wrong : {k : Bad} → n ≡ Err k → elements_after d s j ≡ no_more
  unfolding elements_of
  element_after_wrong q = rw (← e, q)

  pub element_after_more : {m : Next} → n ≡ Ok m → {k : ℕ} → m ≡ More k → elements_after d s j ≡ elements_from d s k
  element_after_more q q₂ = rw (← e, q, q₂)

  pub element_less : {m : Next} → n ≡ Ok m → {k : ℕ} → m ≡ More k → length s - k < length s - j
  element_less v {k} v₂ = let m : NextPast s j (Ok (More k)) = rw (← e, v, v₂) at (element_up d s j) in omega arith

-- a search through an object's members
module _ (w : List ℕ) (d : ℕ) (s : List ℕ) where
  seek_turn : (j : ℕ) → find w (members_from d s j) ≡ find w (member (name_at s j) (tree_at d s (place_at s j)) (members_after d s j))
  seek_turn j = ap (find w) (members_turn d s j)

  module _ (j : ℕ) {m : Option Json} (inv : m ≡ find w (members_from d s j)) {b : Bool} (e : b ≡ same_bytes (name_at s j) w) where
    pub seek_found : b ≡ true → {k : ℕ} → k ≡ place_at s j → m ≡ Some (tree_at d s k)
    unfolding find
    seek_found q u = rw (u) (rw (seek_turn j, find, ← e, q) at inv)

    module _ (q : b ≡ false) {n : Result Next Bad} (g : n ≡ member_at (value_at d s) s j) where
      pub seek_done : {o : Next} → n ≡ Ok o → {k : ℕ} → o ≡ Done k → m ≡ None
      unfolding find members_of
      seek_done v v₂ = rw (seek_turn j, find, ← e, q, ← g, v, v₂) at inv

      pub seek_wrong : {k : Bad} → n ≡ Err k → m ≡ None
      unfolding find members_of
      seek_wrong v = rw (seek_turn j, find, ← e, q, ← g, v) at inv

      pub seek_more : {o : Next} → n ≡ Ok o → {k : ℕ} → o ≡ More k → m ≡ find w (members_from d s k)
      unfolding find
      seek_more v v₂ = rw (seek_turn j, find, ← e, q, ← g, v, v₂) at inv

pub member_less : (d : ℕ) (s : List ℕ) (j : ℕ) {n : Result Next Bad} → n ≡ member_at (value_at d s) s j → {m : Next} → n ≡ Ok m → {k : ℕ} → m ≡ More k → length s - k < length s - j
member_less d s j g v {k} v₂ = let m : NextPast s j (Ok (More k)) = rw (← g, v, v₂) at (member_up d s j) in omega arith

-- where a walk begins
no_items : (d : ℕ) (s : List ℕ) (at b : ℕ) → b ≡ get_or s at 0 → (b ≡ 91 → ⊥) → items (tree_at d s at) ≡ no_more
no_items d s at b e f = tree_kinds (λ (j : Json). items j ≡ no_more) d s at b e (λ q es. absurd (f q)) (λ q ms. refl) (λ q. refl) (λ q. refl) (λ q. refl) (λ q. refl) (λ n. refl) refl

no_fields : (d : ℕ) (s : List ℕ) (at b : ℕ) → b ≡ get_or s at 0 → (b ≡ 123 → ⊥) → fields (tree_at d s at) ≡ nothing
no_fields d s at b e f = tree_kinds (λ (j : Json). fields j ≡ nothing) d s at b e (λ q es. refl) (λ q ms. absurd (f q)) (λ q. refl) (λ q. refl) (λ q. refl) (λ q. refl) (λ n. refl) refl

module _ (d : ℕ) (s : List ℕ) (at : ℕ) where
  items_zero : d ≡ 0 → items (tree_at d s at) ≡ no_more
  unfolding tree_at start_of
  items_zero z =
      rw z
      (by_test (eqb (get_or s at 0) 91) (λ q. rw (eqb-true (get_or s at 0) 91 q)) (λ q. no_items zero s at (get_or s at 0) refl (eqb-false (get_or s at 0) _ q)))

  fields_zero : d ≡ 0 → fields (tree_at d s at) ≡ nothing
  unfolding tree_at start_of
  fields_zero z =
      rw z
      (by_test (eqb (get_or s at 0) 123) (λ q. rw (eqb-true (get_or s at 0) 123 q)) (λ q. no_fields zero s at (get_or s at 0) refl (eqb-false (get_or s at 0) _ q)))

  first_cases : (front back : ℕ) (P : Option ℕ → Type 0) → (d ≡ 0 → P None) → ((get_or s at 0 ≡ front → ⊥) → P None) → ((d ≡ 0 → ⊥) → get_or s at 0 ≡ front → (k : ℕ) → token_at back s (at + 1) ≡ Ok k → P None) → ((d ≡ 0 → ⊥) → get_or s at 0 ≡ front → (b : Bad) → token_at back s (at + 1) ≡ Err b → P (Some (at + 1))) → P (first_in front back d s at)
  unfolding first_in
  first_cases front back P f g h i =
      by_test (eqb d 0) (λ q. rw q (f (eqb-true _ _ q)))
      (λ q. by_test (eqb (get_or s at 0) front)
      (λ u. rw (q, u) (go (token_at back s (at + 1)) refl (eqb-false d 0 q) (eqb-true _ _ u)))
      (λ u. rw (q, u) (g (eqb-false (get_or s at 0) front u))))
    where
      go : (r : Result ℕ Bad) → token_at back s (at + 1) ≡ r → (d ≡ 0 → ⊥) → get_or s at 0 ≡ front → P (cond (is_ok (token_at back s (at + 1))) None (Some (at + 1)))
      go (Ok k) e m n = rw e (h m n k e)
      go (Err b) e m n = rw e (i m n b e)

  pub items_first : items (tree_at d s at) ≡ items_from (d - 1) s (first_in 91 93 d s at)
  unfolding elements_at elements_of
  items_first =
      first_cases 91 93 (λ (r : Option ℕ). items (tree_at d s at) ≡ items_from (d - 1) s r) items_zero (λ f. no_items d s at _ refl f)
      (λ f q k u. rw (tree_array d s at f refl q, u)) (λ f q b u. rw (tree_array d s at f refl q, u))

  pub fields_first : fields (tree_at d s at) ≡ fields_from (d - 1) s (first_in 123 125 d s at)
  unfolding members_at members_of
  fields_first =
      first_cases 123 125 (λ (r : Option ℕ). fields (tree_at d s at) ≡ fields_from (d - 1) s r) fields_zero (λ f. no_fields d s at _ refl f)
      (λ f q k u. rw (tree_object d s at f refl q, u)) (λ f q b u. rw (tree_object d s at f refl q, u))

-- the member of a name; the search goes on at the same depth, however it was come by
module _ (w : List ℕ) (j : Json) (d : ℕ) (s : List ℕ) (r : Option ℕ) (e : fields j ≡ fields_from d s r) where
  pub member_none : r ≡ None → lookup w j ≡ None
  unfolding lookup find
  member_none q = rw (e, q)

  pub member_first : {k : ℕ} → r ≡ Some k → {d' : ℕ} → d' ≡ d → (x : Option ℕ) → find w (members_from d' s k) ≡ seen (tree_at d' s) x → lookup w j ≡ seen (tree_at d s) x
  unfolding lookup
  member_first q z x u = rw (e, q, ← z) u

pub ruleset walking = (rules, name_place, name_place_out, seek_found, seek_done, seek_wrong, seek_more, member_less)

pub ruleset beginning = (rules, past_is, items_first, fields_first, member_none, member_first)

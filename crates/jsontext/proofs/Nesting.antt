-- Laws of the readers of values and of the whole text. Assumes nothing.
use Prim.Native.Nat.{ℕ, zero, suc, ◌+◌, ◌-◌, ◌≤◌, ◌<◌}
use mathlib.Core.Path.{◌≡◌, refl, sym, ◌∙◌}
use mathlib.Core.List.{List}
use native.Mathlib.Omega.{arith}
use lib.ListN.{length, get_or, get_or-eq_default}
use borrow.Author.Rules.{rules}
use borrow.Author.Tests.{lt-ltb, le-ltb}
use Rattle.text.specs.Ascii.{ascii}
use Rattle.text.specs.Bytes.{between}
use Rattle.jsontext.specs.declared.Bad.{Bad}
use Rattle.std.specs.Prelude.{Result, Ok, Err}
use Rattle.jsontext.specs.declared.Next.{Next}
use Rattle.jsontext.specs.declared.Next.TheVariants.{Done, More}
use Rattle.jsontext.specs.declared.Start.{Start}
use Rattle.jsontext.specs.declared.Start.TheVariants.{Array, Object, Text, True, False, Null, Number, Nothing}
use Rattle.jsontext.specs.Reading.{refused, is_space, span_at, skip_at, token_at, word_at, string_at, number_at, key_at, start_of, next_at, element_at, member_at, array_at, object_at, by_start, value_at, stop, text_of}
use Rattle.jsontext.specs.Judged.{Answer}
use Rattle.jsontext.proofs.Sound.{element_steps, member_steps, some_value, value_means}
use Rattle.jsontext.proofs.Place.{judged}
use Rattle.std.specs.Result.{IsErrAnd}
use Rattle.jsontext.proofs.Runs.{passed, NextPast, steps_past, Going, going_from, going_done, going_wrong, going_on, going_less, going_bad}

suc_of : (d : ℕ) → (d ≡ 0 → ⊥) → suc (d - 1) ≡ d
suc_of d f = omega arith

-- an array and an object
module _ (d : ℕ) (s : List ℕ) (at : ℕ) where
  pub array_empty : (r : Result ℕ Bad) → r ≡ token_at 93 s at → {e : ℕ} → r ≡ Ok e → Ok e ≡ array_at (value_at d s) s at
  unfolding array_at
  array_empty r p q = rw (← p, q)

  pub array_going : (r : Result ℕ Bad) → r ≡ token_at 93 s at → {b : Bad} → r ≡ Err b → Going (element_at (value_at d s) s) s (array_at (value_at d s) s at) at
  unfolding array_at
  array_going r p q = going_from (element_at (value_at d s) s) s at (array_at (value_at d s) s at) (rw (← p, q))

  pub object_empty : (r : Result ℕ Bad) → r ≡ token_at 125 s at → {e : ℕ} → r ≡ Ok e → Ok e ≡ object_at (value_at d s) s at
  unfolding object_at
  object_empty r p q = rw (← p, q)

  pub object_going : (r : Result ℕ Bad) → r ≡ token_at 125 s at → {b : Bad} → r ≡ Err b → Going (member_at (value_at d s) s) s (object_at (value_at d s) s at) at
  unfolding object_at
  object_going r p q = going_from (member_at (value_at d s) s) s at (object_at (value_at d s) s at) (rw (← p, q))

pub element_up : (d : ℕ) (s : List ℕ) (j : ℕ) → NextPast s j (element_at (value_at d s) s j)
element_up d s j = steps_past (element_steps (some_value d) s (value_at d s) (value_means d s) j)

pub member_up : (d : ℕ) (s : List ℕ) (j : ℕ) → NextPast s j (member_at (value_at d s) s j)
member_up d s j = steps_past (member_steps (some_value d) s (value_at d s) (value_means d s) j)

module _ (d : ℕ) (s : List ℕ) (j : ℕ) where
  pub element_bad : {i : ℕ} {r : Result ℕ Bad} → i ≡ span_at is_space s j → r ≡ value_at d s i → {b : Bad} → r ≡ Err b → Err b ≡ element_at (value_at d s) s j
  unfolding element_at skip_at
  element_bad a b q = rw (← a, ← b, q)

  pub element_of : {i : ℕ} {r : Result ℕ Bad} → i ≡ span_at is_space s j → r ≡ value_at d s i → {e : ℕ} → r ≡ Ok e → {n : Result Next Bad} → n ≡ next_at 93 s e → n ≡ element_at (value_at d s) s j
  unfolding element_at skip_at
  element_of a b q u = rw (← a, ← b, q) u

  pub member_bad : {y : Result ℕ Bad} → y ≡ key_at s j → {b : Bad} → y ≡ Err b → Err b ≡ member_at (value_at d s) s j
  unfolding member_at skip_at
  member_bad a q = rw (← a, q)

  module _ {y : Result ℕ Bad} (a : y ≡ key_at s j) {v : ℕ} (b : y ≡ Ok v) {i : ℕ} {r : Result ℕ Bad} (p : i ≡ span_at is_space s v) (q : r ≡ value_at d s i) where
    pub member_wrong : {b : Bad} → r ≡ Err b → Err b ≡ member_at (value_at d s) s j
    unfolding member_at skip_at
    member_wrong u = rw (← a, b, ← p, ← q, u)

    pub member_of : {e : ℕ} → r ≡ Ok e → {n : Result Next Bad} → n ≡ next_at 125 s e → n ≡ member_at (value_at d s) s j
    unfolding member_at skip_at
    member_of u x = rw (← a, b, ← p, ← q, u) x

-- one turn of the loop over the elements of an array
module _ (d : ℕ) (s : List ℕ) {w : Result ℕ Bad} {j : ℕ} (h : Going (element_at (value_at d s) s) s w j) {i : ℕ} (a : i ≡ span_at is_space s j) {r : Result ℕ Bad} (v : r ≡ value_at d s i) where
  pub element_refused : {b : Bad} → r ≡ Err b → Err b ≡ w
  element_refused q = going_bad h (element_bad d s j a v q)

  module _ {e : ℕ} (q : r ≡ Ok e) {n : Result Next Bad} (u : n ≡ next_at 93 s e) where
    pub element_wrong : {b : Bad} → n ≡ Err b → Err b ≡ w
    element_wrong p = going_wrong h n (element_of d s j a v q u) p

    module _ {m : Next} (p : n ≡ Ok m) {k : ℕ} where
      pub element_done : m ≡ Done k → Ok k ≡ w
      element_done x = going_done h n (element_of d s j a v q u) p x

      pub element_on : m ≡ More k → Going (element_at (value_at d s) s) s w k
      element_on x = going_on h n (element_of d s j a v q u) (element_up d s) p x

      pub element_less : m ≡ More k → length s - k < length s - j
      element_less x = going_less h n (element_of d s j a v q u) (element_up d s) p x

-- and of the loop over the members of an object
module _ (d : ℕ) (s : List ℕ) {w : Result ℕ Bad} {j : ℕ} (h : Going (member_at (value_at d s) s) s w j) {y : Result ℕ Bad} (g : y ≡ key_at s j) where
  pub member_unnamed : {b : Bad} → y ≡ Err b → Err b ≡ w
  member_unnamed q = going_bad h (member_bad d s j g q)

  module _ {v : ℕ} (f : y ≡ Ok v) {i : ℕ} (a : i ≡ span_at is_space s v) {r : Result ℕ Bad} (t : r ≡ value_at d s i) where
    pub member_refused : {b : Bad} → r ≡ Err b → Err b ≡ w
    member_refused q = going_bad h (member_wrong d s j g f a t q)

    module _ {e : ℕ} (q : r ≡ Ok e) {n : Result Next Bad} (u : n ≡ next_at 125 s e) where
      pub member_apart : {b : Bad} → n ≡ Err b → Err b ≡ w
      member_apart p = going_wrong h n (member_of d s j g f a t q u) p

      module _ {m : Next} (p : n ≡ Ok m) {k : ℕ} where
        pub member_done : m ≡ Done k → Ok k ≡ w
        member_done x = going_done h n (member_of d s j g f a t q u) p x

        pub member_on : m ≡ More k → Going (member_at (value_at d s) s) s w k
        member_on x = going_on h n (member_of d s j g f a t q u) (member_up d s) p x

        pub member_less : m ≡ More k → length s - k < length s - j
        member_less x = going_less h n (member_of d s j g f a t q u) (member_up d s) p x

-- a value
pub value_out : (d : ℕ) (s : List ℕ) (at : ℕ) → length s ≤ at → refused at ≡ value_at d s at
unfolding value_at start_of between
value_out zero s at l = rw (get_or-eq_default s 0 l)
value_out (suc d) s at l = rw (get_or-eq_default s 0 l)

module _ (d : ℕ) (s : List ℕ) (at : ℕ) (k : Start) (e : k ≡ start_of (get_or s at 0)) where
  -- no bracket may be opened any more
  pub value_deep_array : k ≡ Array → d ≡ 0 → refused at ≡ value_at d s at
  unfolding value_at
  value_deep_array q z = rw (z, ← e, q)

  pub value_deep_object : k ≡ Object → d ≡ 0 → refused at ≡ value_at d s at
  unfolding value_at
  value_deep_object q z = rw (z, ← e, q)

  pub value_array : k ≡ Array → (d ≡ 0 → ⊥) → (r : Result ℕ Bad) → r ≡ array_at (value_at (d - 1) s) s (at + 1) → r ≡ value_at d s at
  unfolding value_at
  value_array q f r u = rw (sym (suc_of d f)) (rw (← e, q) u)

  pub value_object : k ≡ Object → (d ≡ 0 → ⊥) → (r : Result ℕ Bad) → r ≡ object_at (value_at (d - 1) s) s (at + 1) → r ≡ value_at d s at
  unfolding value_at
  value_object q f r u = rw (sym (suc_of d f)) (rw (← e, q) u)

-- what needs no bracket, at any depth
pub value_plain : (d : ℕ) (s : List ℕ) (at : ℕ) (k k' : Start) → k ≡ start_of (get_or s at 0) → k ≡ k' → {r x : Result ℕ Bad} → r ≡ x → ((arr obj : ℕ → Result ℕ Bad) → x ≡ by_start k' s at arr obj) → r ≡ value_at d s at
unfolding value_at
value_plain zero s at k k' e u q f = rw (← e, u) (q ∙ f _ _)
value_plain (suc d) s at k k' e u q f = rw (← e, u) (q ∙ f _ _)

module _ (d : ℕ) (s : List ℕ) (at : ℕ) (k : Start) (e : k ≡ start_of (get_or s at 0)) (r : Result ℕ Bad) where
  pub value_text : k ≡ Text → r ≡ string_at s (at + 1) → r ≡ value_at d s at
  value_text u q = value_plain d s at k Text e u q (λ arr obj. refl)

  pub value_true : k ≡ True → r ≡ word_at (ascii "true") s at → r ≡ value_at d s at
  value_true u q = value_plain d s at k True e u q (λ arr obj. refl)

  pub value_false : k ≡ False → r ≡ word_at (ascii "false") s at → r ≡ value_at d s at
  value_false u q = value_plain d s at k False e u q (λ arr obj. refl)

  pub value_null : k ≡ Null → r ≡ word_at (ascii "null") s at → r ≡ value_at d s at
  value_null u q = value_plain d s at k Null e u q (λ arr obj. refl)

  pub value_number : k ≡ Number → r ≡ number_at s at → r ≡ value_at d s at
  value_number u q = value_plain d s at k Number e u q (λ arr obj. refl)

pub value_nothing : (d : ℕ) (s : List ℕ) (at : ℕ) (k : Start) → k ≡ start_of (get_or s at 0) → k ≡ Nothing → refused at ≡ value_at d s at
value_nothing d s at k e u = value_plain d s at k Nothing e u refl (λ arr obj. refl)

-- a whole text
answer : (d : ℕ) (s : List ℕ) (r : Result ℕ Bad) → r ≡ text_of d s → Answer d s r
answer d s r q = record { computed = q; judged = judged d s r q }

module _ (d : ℕ) (s : List ℕ) {i : ℕ} (a : i ≡ span_at is_space s 0) {r : Result ℕ Bad} (b : r ≡ value_at d s i) where
  pub whole_bad : {b : Bad} → r ≡ Err b → {x : Result ℕ Bad} → IsErrAnd x (λ y. y ≡ b) → Answer d s x
  unfolding text_of stop skip_at
  whole_bad q {x} h = answer d s x (passed h (rw (← a, ← b, q)))

  module _ {e : ℕ} (q : r ≡ Ok e) {k : ℕ} (f : k ≡ span_at is_space s e) where
    pub whole_more : k < length s → Answer d s (refused k)
    unfolding text_of stop skip_at
    whole_more l = answer d s _ (rw (← a, ← b, q, ← f, lt-ltb _ _ l))

    pub whole_end : length s ≤ k → Answer d s (Ok k)
    unfolding text_of stop skip_at
    whole_end l = answer d s _ (rw (← a, ← b, q, ← f, le-ltb _ _ l))

pub ruleset nesting = (rules, array_empty, array_going, object_empty, object_going, element_refused, element_wrong, element_done, element_on, element_less, member_unnamed, member_refused, member_apart, member_done, member_on, member_less, value_out, value_deep_array, value_deep_object, value_array, value_object, value_text, value_true, value_false, value_null, value_number, value_nothing)

pub ruleset judging = (rules, whole_bad, whole_more, whole_end)

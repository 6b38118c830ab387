-- Laws of members that are found in one walk.
use Rattle.jsontext.specs.declared.Bad.{Bad}
use Rattle.std.specs.Prelude.{Option, None, Some, Result, Ok, Err}
use Prim.Native.Nat.{ℕ, zero, suc, ◌+◌, ◌-◌, ◌≤◌, ◌<◌}
use mathlib.Core.Path.{◌≡◌, refl, sym, ap, ◌∙◌, subst}
use mathlib.Core.List.{List, [], ◌∷◌, map}
use lib.ListN.{get_or, length, take, set, replicate}
use Rattle.std.proofs.lemmas.List.{set-get_or, length-map, length-replicate}
use Rattle.std.proofs.Common.{add-one}
use mathlib.Core.Bool.{Bool, true, false, cond, ◌&&◌, ◌||◌, and-true, and_assoc, or-false, or-true, or_assoc}
use native.Mathlib.Omega.{arith}
use borrow.Author.Rules.{rules}
use borrow.Author.Tests.{ne_eqb, le-ltb}
use Rattle.text.specs.Words.{same_bytes}
use Rattle.jsontext.specs.declared.Next.{Next}
use Rattle.jsontext.specs.declared.Next.TheVariants.{Done, More}
use Rattle.jsontext.specs.Reading.{member_at, value_at}
use Rattle.values.specs.Decode.{piece_at, bytes_at}
use Rattle.values.proofs.Decoding.{string_turn}
use Rattle.values.specs.Tree.{Json, Members, nothing, name_at, place_at, tree_at, find, lookup, fields, fields_from, members_from, members_after, seen}
use Rattle.values.specs.Rules.{or_other, all_names}
use Rattle.values.proofs.Walking.{members_turn, member_less, after_done, after_wrong, after_more}
use Rattle.header.specs.Asked.{is_among}
use Rattle.entries.specs.Members.{Begins, noted, all_noted, Noted, MembersFrom, MembersOf}

-- ## a name by its first byte
pub begins_not : (s : List ℕ) (at : ℕ) → Begins s at None
begins_not s at = record { known = λ q. cc }

begins_at : (s : List ℕ) (at b : ℕ) → b ≡ get_or s at 0 → 32 ≤ b → (b ≡ 34 → ⊥) → (b ≡ 92 → ⊥) → bytes_at s at ≡ b ∷ bytes_at s (at + 1)
unfolding piece_at
begins_at s at b e l q v = string_turn s at ∙ rw (← e, le-ltb b 32 l, ne_eqb b 34 q, ne_eqb b 92 v)

pub begins_is : (s : List ℕ) (at b : ℕ) → b ≡ get_or s at 0 → 32 ≤ b → (b ≡ 34 → ⊥) → (b ≡ 92 → ⊥) → Begins s at (Some b)
begins_is s at b e l q v = let h = begins_at s at b e l q v in record { known = λ q. cc }

-- ## one member
noted_no : (f : Option ℕ) (p : ℕ) → noted f false p ≡ f
noted_no None p = refl
noted_no (Some q) p = refl

-- one more name
module _ (name : List ℕ) (p : ℕ) where
  one_noted : (ws : List (List ℕ)) (fs : List (Option ℕ)) (k : ℕ) → k < length ws →
      set (all_noted name p (take k ws) fs) k (noted (get_or (all_noted name p (take k ws) fs) k None) (same_bytes name (get_or ws k [])) p)
      ≡ all_noted name p (take (suc k) ws) fs
  unfolding all_noted
  one_noted [] fs k l = absurd (omega (arith, l))
  one_noted (w ∷ ws) [] zero l = refl
  one_noted (w ∷ ws) [] (suc k) l = refl
  one_noted (w ∷ ws) (f ∷ fs) zero l = refl
  one_noted (w ∷ ws) (f ∷ fs) (suc k) l = ap (λ (x : List (Option ℕ)). noted f (same_bytes name w) p ∷ x) (one_noted ws fs k (omega (arith, l)))

  long_noted : (ws : List (List ℕ)) (fs : List (Option ℕ)) → length (all_noted name p ws fs) ≡ length fs
  unfolding all_noted
  long_noted [] fs = refl
  long_noted (w ∷ ws) [] = refl
  long_noted (w ∷ ws) (f ∷ fs) = ap suc (long_noted ws fs)

  all_at : (ws : List (List ℕ)) (fs : List (Option ℕ)) (k : ℕ) → k < length ws → k < length fs →
      get_or (all_noted name p ws fs) k None ≡ noted (get_or fs k None) (same_bytes name (get_or ws k [])) p
  unfolding all_noted
  all_at [] fs k l m = absurd (omega (arith, l))
  all_at (w ∷ ws) [] k l m = absurd (omega (arith, m))
  all_at (w ∷ ws) (f ∷ fs) zero l m = refl
  all_at (w ∷ ws) (f ∷ fs) (suc k) l m = all_at ws fs k (omega (arith, l)) (omega (arith, m))

  among_more : (ws : List (List ℕ)) (k : ℕ) → k < length ws → is_among name (take (suc k) ws) ≡ (is_among name (take k ws) || same_bytes name (get_or ws k []))
  unfolding is_among
  among_more [] k l = absurd (omega (arith, l))
  among_more (w ∷ ws) zero l = or-false (same_bytes name w)
  among_more (w ∷ ws) (suc k) l = ap (λ (b : Bool). same_bytes name w || b) (among_more ws k (omega (arith, l))) ∙ sym (or_assoc (same_bytes name w) (is_among name (take k ws)) (same_bytes name (get_or ws k [])))

pub long_map : {A : Type 0} (f : A → List ℕ) (xs : List A) {n : ℕ} → length xs ≡ n → length (map f xs) ≡ n
long_map f xs e = length-map xs f ∙ e

read_map : {A : Type 0} (f : A → List ℕ) (xs : List A) (k : ℕ) (d : A) → k < length xs → f (get_or xs k d) ≡ get_or (map f xs) k []
read_map f [] k d l = absurd (omega (arith, l))
read_map f (x ∷ xs) zero d l = refl
read_map f (x ∷ xs) (suc k) d l = read_map f xs k d (omega (arith, l))

-- a turn of the loop over the names
module _ (name : List ℕ) (p : ℕ) {A : Type 0} (f : A → List ℕ) (xs : List A) (fs : List (Option ℕ)) (k : ℕ) (d : A) (l : k < length xs) {r : Bool} (e : r ≡ same_bytes name (f (get_or xs k d))) where
  test_is : r ≡ same_bytes name (get_or (map f xs) k [])
  test_is = e ∙ ap (same_bytes name) (read_map f xs k d l)

  inside : k < length (map f xs)
  inside = omega (arith, l, length-map xs f)

  pub noted_here : {gs : List (Option ℕ)} → gs ≡ all_noted name p (take k (map f xs)) fs → r ≡ true → set gs k (noted (get_or gs k None) true p) ≡ all_noted name p (take (k + 1) (map f xs)) fs
  noted_here g q =
      rw (g, add-one k) (ap (λ (b : Bool). set (all_noted name p (take k (map f xs)) fs) k (noted (get_or (all_noted name p (take k (map f xs)) fs) k None) b p)) (sym q ∙ test_is)
      ∙ one_noted name p (map f xs) fs k inside)

  pub noted_not : {gs : List (Option ℕ)} → gs ≡ all_noted name p (take k (map f xs)) fs → r ≡ false → gs ≡ all_noted name p (take (k + 1) (map f xs)) fs
  noted_not g q =
      rw (add-one k)
      (let a : List (Option ℕ) = all_noted name p (take k (map f xs)) fs in
      g ∙ (sym (set-get_or a k None) ∙ (ap (λ (v : Option ℕ). set a k v) (sym (noted_no (get_or a k None) p))
      ∙ (ap (λ (b : Bool). set a k (noted (get_or a k None) b p)) (sym q ∙ test_is) ∙ one_noted name p (map f xs) fs k inside))))

  pub among_here : r ≡ true → true ≡ is_among name (take (k + 1) (map f xs))
  among_here q = rw (add-one k, among_more name p (map f xs) k inside, ← test_is, q) (sym (or-true (is_among name (take k (map f xs)))))

  pub among_not : {b : Bool} → b ≡ is_among name (take k (map f xs)) → r ≡ false → b ≡ is_among name (take (k + 1) (map f xs))
  among_not g q = rw (add-one k, among_more name p (map f xs) k inside, ← test_is, q, g) (sym (or-false (is_among name (take k (map f xs)))))

-- ## all members
none_at : (n k : ℕ) → get_or {A = Option ℕ} (replicate n None) k None ≡ None
none_at zero k = refl
none_at (suc n) zero = refl
none_at (suc n) (suc k) = none_at n k

pick : (test : Bool) (t : ℕ → Json) (p : ℕ) (y : Option Json) → cond test (Some (t p)) y ≡ or_other (seen t (cond test (Some p) None)) y
pick true t p y = refl
pick false t p y = refl

or_none : (m : Option Json) → or_other m None ≡ m
or_none None = refl
or_none (Some j) = refl

one_turn : (depth : ℕ) (s : List ℕ) (j p : ℕ) → p ≡ place_at s j → (w : List ℕ) (k : Option ℕ) → or_other (seen (tree_at depth s) k) (find w (members_from depth s j)) ≡ or_other (seen (tree_at depth s) (noted k (same_bytes (name_at s j) w) p)) (find w (members_after depth s j))
unfolding find
one_turn depth s j p z w (Some q) = refl
one_turn depth s j p z w None = rw (members_turn depth s j, find, ← z) (pick (same_bytes (name_at s j) w) (tree_at depth s) p (find w (members_after depth s j)))

module _ (depth : ℕ) (s : List ℕ) (ws : List (List ℕ)) where
  pub noted_start : (ms : Members) (n : ℕ) → length ws ≡ n → Noted depth s ws ms ms (replicate n None) true
  noted_start ms n e = record { long_is = e ∙ sym (length-replicate n None); place_is = λ k l. rw (none_at n k); listed_is = refl }

  module _ (j : ℕ) {ms : Members} {fs : List (Option ℕ)} {listed : Bool} (x : Noted depth s ws ms (members_from depth s j) fs listed)
      (i : ℕ) {p : ℕ} (e : name_at s j ≡ bytes_at s i) (z : p ≡ place_at s j) {gs : List (Option ℕ)} (q : gs ≡ all_noted (bytes_at s i) p ws fs) {l : Bool} (b : l ≡ (listed && is_among (bytes_at s i) ws)) where
    turned : Noted depth s ws ms (members_after depth s j) gs l
    unfolding all_names
    turned =
        record {
          long_is = x.long_is ∙ rw q (sym (long_noted (bytes_at s i) p ws fs));
          place_is =
              λ k m. x.place_is k m ∙ one_turn depth s j p z (get_or ws k []) (get_or fs k None)
              ∙ ap (λ (f : Option ℕ). or_other (seen (tree_at depth s) f) (find (get_or ws k []) (members_after depth s j)))
              (rw (q, e) (sym (all_at (bytes_at s i) p ws fs k m (omega (arith, m, x.long_is)))));
          listed_is =
              x.listed_is
              ∙ rw (members_turn depth s j, all_names, b, e) (sym (and_assoc listed (is_among (bytes_at s i) ws) (all_names (λ m. is_among m ws) (members_after depth s j))));
        }

    last : members_after depth s j ≡ nothing → MembersFrom depth s ws ms gs l
    unfolding find all_names
    last u =
        let k = subst (λ (o : Members). Noted depth s ws ms o gs l) u turned in
        record { place_is = λ i m. k.place_is i m ∙ or_none (seen (tree_at depth s) (get_or gs i None)); listed_is = k.listed_is ∙ and-true l }

    module _ {t : Result Next Bad} (g : t ≡ member_at (value_at depth s) s j) where
      pub noted_done : {m : Next} → t ≡ Ok m → {k : ℕ} → m ≡ Done k → MembersFrom depth s ws ms gs l
      noted_done u u₂ = last (after_done depth s j g u u₂)

      pub noted_wrong : {k : Bad} → t ≡ Err k → MembersFrom depth s ws ms gs l
      noted_wrong u = last (after_wrong depth s j g u)

      pub noted_more : {m : Next} → t ≡ Ok m → {k : ℕ} → m ≡ More k → Noted depth s ws ms (members_from depth s k) gs l
      noted_more u u₂ = subst (λ (o : Members). Noted depth s ws ms o gs l) (after_more depth s j g u u₂) turned

  -- of an object
  module _ (found : Option ℕ) where
    pub members_missing : found ≡ None → (n : ℕ) → MembersOf depth s ws found (replicate n None) true
    members_missing q n = rw q (record { place_is = λ k l. rw (none_at n k); listed_is = refl })

    module _ {p : ℕ} (q : found ≡ Some p) {g : Option ℕ} (h : fields (tree_at depth s p) ≡ fields_from (depth - 1) s g) where
      pub members_empty : g ≡ None → (n : ℕ) → MembersOf depth s ws found (replicate n None) true
      unfolding lookup find all_names
      members_empty u n = rw q (record { place_is = λ k l. rw (h, u, none_at n k); listed_is = rw (h, u) })

      pub members_some : {j : ℕ} → g ≡ Some j → {d' : ℕ} → d' ≡ depth - 1 → {fs : List (Option ℕ)} {l : Bool} → MembersFrom d' s ws (members_from d' s j) fs l → MembersOf depth s ws found fs l
      unfolding lookup
      members_some {j} u {d'} z {fs} {l} v =
          let k = subst (λ (i : ℕ). MembersFrom i s ws (members_from i s j) fs l) z v in
          let y : fields (tree_at depth s p) ≡ members_from (depth - 1) s j = h ∙ rw u in
          rw q
          (record {
            place_is = λ i m. ap (find (get_or ws i [])) y ∙ k.place_is i m;
            listed_is = sym (ap (all_names (λ n. is_among n ws)) y ∙ k.listed_is);
          })

pub ruleset noting = (rules, long_map, member_less, begins_not, begins_is, noted_start, noted_done, noted_wrong, noted_more, members_missing, members_empty, members_some)

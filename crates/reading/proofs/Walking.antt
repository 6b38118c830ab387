-- Laws of the walk over entries.
use Rattle.jsontext.specs.declared.Bad.{Bad}
use Rattle.std.specs.Prelude.{Option, None, Some, Result, Ok, Err}
use Prim.Native.Nat.{ℕ, ◌+◌, ◌*◌, min}
use native.Mathlib.Nat.{min-eq_left, min-eq_right}
use native.Mathlib.Omega.{arith}
use mathlib.Core.Path.{◌≡◌, refl, sym, ap, ap₂, ◌∙◌, subst}
use mathlib.Core.Bool.{Bool, true, false}
use mathlib.Core.List.{List, [], ◌∷◌, ◌++◌}
use lib.Dec.{ltb}
use lib.ListN.{length}
use lib.Seq.{length-sets}
use borrow.Author.Rules.{rules}
use borrow.Author.Tests.{ltb-true, ltb-false}
use Rattle.text.specs.Ascii.{ascii}
use Rattle.text.proofs.Tests.{by_test}
use Rattle.flows.specs.declared.Direction.{Direction}
use Rattle.jsontext.specs.declared.Next.{Next}
use Rattle.jsontext.specs.declared.Next.TheVariants.{Done, More}
use Rattle.jsontext.specs.Reading.{is_space, span_at, element_at, value_at}
use Rattle.values.specs.Tree.{Json, Elements, tree_at, tree_of, seen, items_from, elements_from, elements_after}
use Rattle.values.proofs.Walking.{elements_turn, element_after_done, element_after_wrong, element_after_more, element_less}
use Rattle.lists.specs.Lists.{to_list, has_type, nested, list_entries, entries_in, entries_named, list_named, lists_of, policy_lists}
use Rattle.values.specs.Decode.{bytes_at}
use Rattle.entries.specs.declared.places.Entry.{Entry}
use Rattle.rules.specs.Rows.{rule_words}
use Rattle.reading.specs.declared.Tally.{Tally}
use Rattle.reading.specs.Walked.{more, see, see_all, put_at, put_all, rows_of, Walked}

-- ## one entry
pub more_is : (n : ℕ) → min n 64 + 1 ≡ more n
unfolding more
more_is n = by_test (ltb n 65) (λ e. rw e (ap (λ k. k + 1) (min-eq_left (omega (arith, ltb-true n 65 e))))) (λ e. rw e (ap (λ k. k + 1) (min-eq_right (omega (arith, ltb-false n 65 e)))))

-- ## many entries
seen_append : (d : Direction) (es fs : List Json) (t : Tally) → see_all d (es ++ fs) t ≡ see_all d fs (see_all d es t)
unfolding see_all
seen_append d [] fs t = refl
seen_append d (e ∷ es) fs t = seen_append d es fs (see d e t)

put_append : (d : Direction) (site url : List ℕ) (es fs : List Json) (t : Tally) (w : List ℕ) → put_all t.count (rows_of d site url (es ++ fs)) w ≡ put_all (see_all d es t).count (rows_of d site url fs) (put_all t.count (rows_of d site url es) w)
unfolding see_all put_all see
put_append d site url [] fs t w = refl
put_append d site url (e ∷ es) fs t w = put_append d site url es fs (see d e t) (put_at t.count (rule_words d site url e) w)

pub put_long : (k : ℕ) (rows : List (List ℕ)) (w : List ℕ) → length (put_all k rows w) ≡ length w
unfolding put_all put_at
put_long k [] w = refl
put_long k (r ∷ rs) w = put_long (more k) rs (put_at k r w) ∙ by_test (ltb k 64) (λ e. rw e (length-sets w (169 + 21 * k) r)) (λ e. rw e)

module _ (d : Direction) (site url : List ℕ) where
  pub one_walked : (e : Json) (t : Tally) (w : List ℕ) {r : Tally} {m : List ℕ} → m ≡ put_at t.count (rule_words d site url e) w → r ≡ see d e t → Walked d site url (e ∷ []) t w r m
  unfolding see_all put_all
  one_walked e t w f g = record { tally = g; words = f }

  pub entry_walked : (e : Entry) (s : List ℕ) (at u : ℕ) (t : Tally) (w : List ℕ) {r : Tally} {m : List ℕ} → url ≡ bytes_at s u → (e.s.now ≡ s) × (e.at ≡ at) →
      m ≡ put_at t.count (rule_words d site (bytes_at e.s.now u) (tree_at 10 e.s.now e.at)) w → r ≡ see d (tree_at 10 e.s.now e.at) t → Walked d site url (tree_at 10 s at ∷ []) t w r m
  entry_walked e s at u t w {r} {m} z q f g =
      let k : tree_at 10 e.s.now e.at ≡ tree_at 10 s at = ap (λ (l : List ℕ). tree_at 10 l e.at) q.0 ∙ ap (λ (n : ℕ). tree_at 10 s n) q.1 in
      let b : bytes_at e.s.now u ≡ url = ap (λ (l : List ℕ). bytes_at l u) q.0 ∙ sym z in
      one_walked (tree_at 10 s at) t w (f ∙ ap₂ (λ (l : List ℕ) (j : Json). put_at t.count (rule_words d site l j) w) b k) (g ∙ ap (λ (j : Json). see d j t) k)

  pub none_walked : (es : List Json) (t : Tally) (w : List ℕ) → es ≡ [] → Walked d site url es t w t w
  unfolding see_all put_all
  none_walked es t w q = rw q (record { tally = refl; words = refl })

  pub same_walked : (es fs : List Json) {t r : Tally} {w m : List ℕ} → es ≡ fs → Walked d site url fs t w r m → Walked d site url es t w r m
  same_walked es fs {t} {r} {w} {m} q h = subst (λ (x : List Json). Walked d site url x t w r m) (sym q) h

  -- what is left to walk gives the whole's answer
  pub record Left (es₀ : List Json) (t₀ : Tally) (w₀ : List ℕ) (es : List Json) (t : Tally) (w : List ℕ) : Type 0 where
    pub tally : see_all d es₀ t₀ ≡ see_all d es t
    pub words : put_all t₀.count (rows_of d site url es₀) w₀ ≡ put_all t.count (rows_of d site url es) w
    pub long : length w ≡ length w₀

  pub left_start : (es : List Json) (t : Tally) (w : List ℕ) → Left es t w es t w
  left_start es t w = record { tally = refl; words = refl; long = refl }

  module _ {es₀ : List Json} {t₀ : Tally} {w₀ : List ℕ} where
    left_on : (es rest fs : List Json) {t r : Tally} {w m : List ℕ} → es ≡ fs ++ rest → Left es₀ t₀ w₀ es t w → Walked d site url fs t w r m → Left es₀ t₀ w₀ rest r m
    left_on es rest fs {t} {r} {w} {m} q h a =
        record {
          tally = h.tally ∙ (ap (λ (x : List Json). see_all d x t) q ∙ seen_append d fs rest t) ∙ ap (see_all d rest) (sym a.tally);
          words = h.words ∙ (ap (λ (x : List Json). put_all t.count (rows_of d site url x) w) q ∙ put_append d site url fs rest t w) ∙ ap₂ (λ (x : Tally) (y : List ℕ). put_all x.count (rows_of d site url rest) y) (sym a.tally) (sym a.words);
          long = ap length a.words ∙ put_long t.count (rows_of d site url fs) w ∙ h.long;
        }

    left_end : (es : List Json) {t : Tally} {w : List ℕ} → es ≡ [] → Left es₀ t₀ w₀ es t w → Walked d site url es₀ t₀ w₀ t w
    unfolding see_all put_all
    left_end es {t} {w} q h = record { tally = sym (h.tally ∙ ap (λ (x : List Json). see_all d x t) q); words = sym (h.words ∙ ap (λ (x : List Json). put_all t.count (rows_of d site url x) w) q) }

    -- ## a list's entries
    module _ (s : List ℕ) (j : ℕ) {t r : Tally} {w m : List ℕ} (h : Left es₀ t₀ w₀ (to_list (elements_from 10 s j)) t w) {i : ℕ} (g : i ≡ span_at is_space s j) (a : Walked d site url (tree_at 10 s i ∷ []) t w r m) {n : Result Next Bad} (f : n ≡ element_at (value_at 10 s) s j) where
      entry_on : Left es₀ t₀ w₀ (to_list (elements_after 10 s j)) r m
      entry_on = left_on (to_list (elements_from 10 s j)) (to_list (elements_after 10 s j)) (tree_at 10 s i ∷ []) (ap to_list (elements_turn 10 s j) ∙ ap (λ (k : ℕ). tree_at 10 s k ∷ to_list (elements_after 10 s j)) (sym g)) h a

      pub entries_done : {o : Next} → n ≡ Ok o → {k : ℕ} → o ≡ Done k → Walked d site url es₀ t₀ w₀ r m
      entries_done u u₂ = left_end (to_list (elements_after 10 s j)) (ap to_list (element_after_done 10 s j f u u₂)) entry_on

      pub entries_wrong : {k : Bad} → n ≡ Err k → Walked d site url es₀ t₀ w₀ r m
      entries_wrong u = left_end (to_list (elements_after 10 s j)) (ap to_list (element_after_wrong 10 s j f u)) entry_on

      pub entries_on : {o : Next} → n ≡ Ok o → {k : ℕ} → o ≡ More k → Left es₀ t₀ w₀ (to_list (elements_from 10 s k)) r m
      entries_on {o} u {k} u₂ = subst (λ (x : Elements). Left es₀ t₀ w₀ (to_list x) r m) (element_after_more 10 s j f u u₂) entry_on

    -- ## a policy's lists
    module _ (s : List ℕ) (lists : Elements) (j : ℕ) {t r : Tally} {w m : List ℕ} (h : Left es₀ t₀ w₀ (entries_named lists (elements_from 11 s j)) t w) {i : ℕ} (g : i ≡ span_at is_space s j) (a : Walked d site url (entries_in (list_named lists (tree_at 11 s i))) t w r m) {n : Result Next Bad} (f : n ≡ element_at (value_at 11 s) s j) where
      list_on : Left es₀ t₀ w₀ (entries_named lists (elements_after 11 s j)) r m
      unfolding entries_named
      list_on = left_on (entries_named lists (elements_from 11 s j)) (entries_named lists (elements_after 11 s j)) (entries_in (list_named lists (tree_at 11 s i))) (ap (entries_named lists) (elements_turn 11 s j) ∙ ap (λ (k : ℕ). entries_in (list_named lists (tree_at 11 s k)) ++ entries_named lists (elements_after 11 s j)) (sym g)) h a

      pub lists_done : {o : Next} → n ≡ Ok o → {k : ℕ} → o ≡ Done k → Walked d site url es₀ t₀ w₀ r m
      unfolding entries_named
      lists_done u u₂ = left_end (entries_named lists (elements_after 11 s j)) (ap (entries_named lists) (element_after_done 11 s j f u u₂)) list_on

      pub lists_wrong : {k : Bad} → n ≡ Err k → Walked d site url es₀ t₀ w₀ r m
      unfolding entries_named
      lists_wrong u = left_end (entries_named lists (elements_after 11 s j)) (ap (entries_named lists) (element_after_wrong 11 s j f u)) list_on

      pub lists_on : {o : Next} → n ≡ Ok o → {k : ℕ} → o ≡ More k → Left es₀ t₀ w₀ (entries_named lists (elements_from 11 s k)) r m
      lists_on {o} u {k} u₂ = subst (λ (x : Elements). Left es₀ t₀ w₀ (entries_named lists x) r m) (element_after_more 11 s j f u u₂) list_on

  -- ## a list by its name
  module _ (s : List ℕ) (lists : Elements) (n : ℕ) (t : Tally) (w : List ℕ) {f : Option ℕ} (e : list_named lists (tree_at 11 s n) ≡ seen (tree_at 13 s) f) where
    pub named_none : f ≡ None → Walked d site url (entries_in (list_named lists (tree_at 11 s n))) t w t w
    named_none q = none_walked (entries_in (list_named lists (tree_at 11 s n))) t w (rw (e, q))

    module _ {l : ℕ} (q : f ≡ Some l) {b : Bool} (g : b ≡ has_type (ascii "ipv4-acl-type") (tree_at 13 s l)) where
      pub named_other : b ≡ false → Walked d site url (entries_in (list_named lists (tree_at 11 s n))) t w t w
      unfolding list_entries
      named_other y = none_walked (entries_in (list_named lists (tree_at 11 s n))) t w (rw (e, q, ← g, y))

      module _ (y : b ≡ true) {h : Option ℕ} (i : nested (ascii "aces") (ascii "ace") (tree_at 13 s l) ≡ items_from 10 s h) where
        pub named_empty : h ≡ None → Walked d site url (entries_in (list_named lists (tree_at 11 s n))) t w t w
        unfolding list_entries
        named_empty u = none_walked (entries_in (list_named lists (tree_at 11 s n))) t w (rw (e, q, ← g, y, i, u))

        pub named_some : {k : ℕ} → h ≡ Some k → {r : Tally} {m : List ℕ} → Walked d site url (to_list (elements_from 10 s k)) t w r m → Walked d site url (entries_in (list_named lists (tree_at 11 s n))) t w r m
        unfolding list_entries
        named_some {k} u a = same_walked (entries_in (list_named lists (tree_at 11 s n))) (to_list (elements_from 10 s k)) (rw (e, q, ← g, y, i, u)) a

  -- ## a direction
  module _ (s : List ℕ) (mud : ℕ) (t : Tally) (w : List ℕ) {f : Option ℕ} (e : policy_lists d (tree_at 15 s mud) ≡ items_from 11 s f) where
    pub direction_none : f ≡ None → Walked d site url (entries_named (lists_of (tree_of 16 s)) (policy_lists d (tree_at 15 s mud))) t w t w
    unfolding entries_named
    direction_none q = none_walked (entries_named (lists_of (tree_of 16 s)) (policy_lists d (tree_at 15 s mud))) t w (rw (e, q))

    pub direction_some : {k : ℕ} → f ≡ Some k → {i : ℕ} → i ≡ span_at is_space s 0 → (g : Option ℕ) → lists_of (tree_at 16 s i) ≡ items_from 13 s g → {r : Tally} {m : List ℕ} → Walked d site url (entries_named (items_from 13 s g) (elements_from 11 s k)) t w r m → Walked d site url (entries_named (lists_of (tree_of 16 s)) (policy_lists d (tree_at 15 s mud))) t w r m
    unfolding tree_of
    direction_some {k} q z g h a = same_walked (entries_named (lists_of (tree_of 16 s)) (policy_lists d (tree_at 15 s mud))) (entries_named (items_from 13 s g) (elements_from 11 s k)) (rw (e, q, ← z, h)) a

pub ruleset walking = (rules, element_less, more_is, entry_walked, left_start, entries_done, entries_wrong, entries_on, lists_done, lists_wrong, lists_on, named_none, named_other, named_empty, named_some, direction_none, direction_some)

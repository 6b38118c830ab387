-- Laws of the lists of the file, gathered by their names. Assumes nothing.
use Rattle.std.specs.Prelude.{Option, None, Some, Err, Result, Ok}
use Prim.Native.Nat.{ℕ, ◌+◌, ◌≤◌, ◌<◌}
use native.Mathlib.Omega.{arith}
use mathlib.Core.Path.{◌≡◌, refl, sym, ap, subst, ◌∙◌}
use mathlib.Core.Bool.{true, false}
use mathlib.Core.List.{List, ◌++◌}
use lib.ListN.{length, get_or, take, length-append, get_or-append}
use lib.Seq.{get_or-take, length-take-le}
use borrow.Author.Rules.{rules}
use Rattle.text.specs.Ascii.{ascii}
use Rattle.text.specs.Words.{same_bytes}
use Rattle.text.proofs.Tests.{clash}
use Rattle.text.proofs.WordLaws.{same_iff}
use Rattle.jsontext.specs.declared.Bad.{Bad}
use Rattle.jsontext.specs.declared.Next.{Next}
use Rattle.jsontext.specs.declared.Next.TheVariants.{Done, More}
use Rattle.jsontext.specs.Reading.{is_space, span_at, element_at, value_at}
use Rattle.jsontext.proofs.Runs.{past_is}
use Rattle.values.specs.declared.Entry.{Entry}
use Rattle.values.specs.declared.Entry.TheVariants.{Known, Kept}
use Rattle.values.specs.Decode.{bytes_at}
use Rattle.values.specs.Tree.{Elements, no_more, elements_from, elements_after, items_from, tree_at, tree_of, lookup, seen}
use Rattle.values.specs.Rules.{first_with}
use Rattle.values.specs.Names.{name_in, owner_in, key_at, Rising, Spotted, FoundAmong, Inserted, Entered}
use Rattle.values.proofs.Naming.{kept_words, kept_each, free_differ, rising_on, grown_room}
use Rattle.values.proofs.Walking.{elements_turn, element_after_done, element_after_wrong, element_after_more, element_less}
use Rattle.lists.specs.Lists.{is_named, name_of, list_named, lists_of}
use Rattle.lists.specs.Index.{Gathered, Onward, Indexed, above_of, Above}
use Rattle.lists.proofs.Different.{refuted}
use Rattle.lists.proofs.Laws.{listing, is_named_none, is_named_other, is_named_is}

-- ## words that stay
gathered_same : {s : List ℕ} {es : Elements} {a : List ℕ} {hi : ℕ} {rest : Elements} (b : List ℕ) → hi ≤ length b → ((k : ℕ) → 1555 ≤ k → k < hi → get_or b k 0 ≡ get_or a k 0) → Gathered s es a hi rest → Gathered s es b hi rest
gathered_same {s} {es} b l f g =
    record {
      from = g.from;
      room = l;
      rising = λ i k m n o. rw (f i m (omega arith), f k (omega arith) o) (g.rising i k m n o);
      known = λ k m n. rw (f k m n) (g.known k m n);
      left = λ i h. g.left i (λ k m n q. h k m n (ap (λ (w : ℕ). bytes_at s (name_in w)) (f k m n) ∙ q));
    }

pub indexed_same : (s : List ℕ) (es : Elements) (a b : List ℕ) (x : Option ℕ) → length b ≡ length a → ((k : ℕ) → 1555 ≤ k → get_or b k 0 ≡ get_or a k 0) → Indexed s es a x → Indexed s es b x
unfolding Indexed
indexed_same s es a b (Some hi) l f g = let m = g.room in gathered_same b (omega arith) (λ k n o. f k n) g
indexed_same s es a b None l f g = tt

-- the words above the names were lent
above_names : (s : List ℕ) (es : Elements) (a : List ℕ) (x : Option ℕ) → Indexed s es a x → above_of x ≤ length a
unfolding Indexed
above_names s es a (Some hi) g = g.room
above_names s es a None g = omega arith

lent : (s : List ℕ) (es : Elements) (a b : List ℕ) (x : Option ℕ) → Indexed s es a x → Indexed s es (take (above_of x) a ++ b) x
unfolding Indexed
lent s es a b (Some hi) g =
    let m = g.room in
    let n = length-take-le hi a m in
    let o = length-append (take hi a) b in
    gathered_same (take hi a ++ b) (omega arith) (λ k u v. get_or-append (take hi a) b 0 k (omega arith) ∙ get_or-take hi a k 0 v) g
lent s es a b None g = tt

pub above_lent : (s : List ℕ) (es : Elements) (a : List ℕ) (x : Option ℕ) → Indexed s es a x → {n : ℕ} → Above x (length a) n → (b : List ℕ) → Indexed s es (take n a ++ b) x
above_lent s es a x g e b = rw (e.is (above_names s es a x g)) (lent s es a b x g)

-- ## gathering
pub gathered_start : (s : List ℕ) (es : Elements) (a : List ℕ) → 1555 ≤ length a → Gathered s es a 1555 es
gathered_start s es a l =
    record { from = omega arith; room = l; rising = λ i k m n o. absurd (omega arith); known = λ k m n. absurd (omega arith); left = λ i f. refl }

-- a list that does not have a name is passed over, and one that has it is the first
module _ (s : List ℕ) (j : ℕ) {k : ℕ} (z : k ≡ span_at is_space s j) (w : List ℕ) where
  passed : false ≡ is_named w (tree_at 13 s k) → first_with (is_named w) (elements_from 13 s j) ≡ first_with (is_named w) (elements_after 13 s j)
  unfolding first_with
  passed e = ap (first_with (is_named w)) (elements_turn 13 s j) ∙ rw (← z, first_with, ← e)

  first_is : true ≡ is_named w (tree_at 13 s k) → first_with (is_named w) (elements_from 13 s j) ≡ Some (tree_at 13 s k)
  unfolding first_with
  first_is e = ap (first_with (is_named w)) (elements_turn 13 s j) ∙ rw (← z, first_with, ← e)

unnamed : (s : List ℕ) (j : ℕ) {k : ℕ} → k ≡ span_at is_space s j → (a : List ℕ) (hi : ℕ) → ((i : ℕ) → false ≡ is_named (bytes_at s i) (tree_at 13 s k)) → Onward s j a hi a (Some hi)
unfolding Onward
unnamed s j z a hi n es g =
    record { from = g.from; room = g.room; rising = g.rising; known = g.known; left = λ i h. g.left i h ∙ passed s j z (bytes_at s i) (n i) }

unlike : (w n : List ℕ) → (w ≡ n → ⊥) → false ≡ same_bytes w n
unlike w n f = refuted (same_bytes w n) (λ q. f ((same_iff w n).0 q))

module _ (s : List ℕ) (j : ℕ) {k : ℕ} (z : k ≡ span_at is_space s j) (f : Option ℕ) (e : lookup (ascii "name") (tree_at 13 s k) ≡ seen (tree_at 12 s) f) where
  pub onward_none : f ≡ None → (a : List ℕ) (hi : ℕ) → Onward s j a hi a (Some hi)
  onward_none q a hi = unnamed s j z a hi (λ i. is_named_none s k i e q)

  module _ {p : ℕ} (q : f ≡ Some p) {c : ℕ} (u : c ≡ get_or s p 0) where
    pub onward_other : (c ≡ 34 → ⊥) → (a : List ℕ) (hi : ℕ) → Onward s j a hi a (Some hi)
    onward_other n a hi = unnamed s j z a hi (λ i. is_named_other s k i e q u n)

    module _ (y : c ≡ 34) (a b : List ℕ) (hi : ℕ) where
      named_by : (i : ℕ) → same_bytes (bytes_at s (p + 1)) (bytes_at s i) ≡ is_named (bytes_at s i) (tree_at 13 s k)
      named_by i = is_named_is s k i e q u y refl

      other_name : (i : ℕ) → (bytes_at s (p + 1) ≡ bytes_at s i → ⊥) → first_with (is_named (bytes_at s i)) (elements_from 13 s j) ≡ first_with (is_named (bytes_at s i)) (elements_after 13 s j)
      other_name i n = passed s j z (bytes_at s i) (unlike _ _ n ∙ named_by i)

      pub onward_known : {r : Entry} → Entered s (p + 1) k a 1555 hi b r → r ≡ Known → Onward s j a hi b (Some hi)
      unfolding Entered Onward
      onward_known {r} en w es g =
          let h = subst (Entered s (p + 1) k a 1555 hi b) w en in
          rw h.0 (record {
            from = g.from;
            room = g.room;
            rising = g.rising;
            known = g.known;
            left = λ i f. g.left i f ∙ other_name i (λ v. f h.1 h.2.0 h.2.1 (h.2.2 ∙ v));
          })

      kept_on : (t : ℕ) → Spotted s (bytes_at s (p + 1)) a 1555 hi (Err t) → (w : ℕ) → name_in w ≡ p + 1 → owner_in w ≡ k → Inserted a b t hi w → (es : Elements) → Gathered s es a hi (elements_from 13 s j) → ((m : ℕ) → 1555 ≤ m → m < hi + 1 → first_with (is_named (key_at s b m)) es ≡ Some (tree_at 13 s (owner_in (get_or b m 0)))) × ((i : ℕ) → ((m : ℕ) → 1555 ≤ m → m < hi + 1 → key_at s b m ≡ bytes_at s i → ⊥) → first_with (is_named (bytes_at s i)) es ≡ first_with (is_named (bytes_at s i)) (elements_after 13 s j))
      kept_on t sp w nm ow ins es g = (
        kept_words a b hi t w ins 1555 sp.0 sp.1 (λ (v : ℕ). first_with (is_named (bytes_at s (name_in v))) es ≡ Some (tree_at 13 s (owner_in v))) g.known
            (rw (nm, ow) (g.left (p + 1) (λ m l o v. clash ((same_iff _ _).1 v) (free_differ s _ a 1555 hi t sp m l o)) ∙ first_is s j z (bytes_at s (p + 1)) (sym ((same_iff (bytes_at s (p + 1)) (bytes_at s (p + 1))).1 refl) ∙ named_by (p + 1)))),
        λ i f.
            let o = kept_each s (p + 1) a b 1555 hi t sp w nm ins (λ (v : List ℕ). v ≡ bytes_at s i → ⊥) f in
            g.left i o.0 ∙ other_name i o.1,
      )

      pub onward_kept : {r : Entry} → Entered s (p + 1) k a 1555 hi b r → r ≡ Kept → Onward s j a hi b (Some (hi + 1))
      unfolding Entered Onward
      onward_kept {r} en w es g =
          let h = subst (Entered s (p + 1) k a 1555 hi b) w en in
          let o = kept_on h.1 h.2 h.3 h.4 h.5 h.6 es g in
          let f = g.from in
          record {
            from = omega arith;
            room = grown_room s (p + 1) k a b 1555 hi Kept h g.room refl;
            rising = rising_on s (p + 1) k a b 1555 hi Kept h g.rising;
            known = o.0;
            left = o.1;
          }

pub onward_without : (s : List ℕ) (j : ℕ) (a b : List ℕ) (hi : ℕ) → Onward s j a hi b None
unfolding Onward
onward_without s j a b hi = tt

pub ruleset adding = (rules, past_is, onward_none, onward_other, onward_known, onward_kept, onward_without)

-- all of them, one after the other
module _ (s : List ℕ) (es : Elements) (j : ℕ) {a : List ℕ} {hi : ℕ} (g : Gathered s es a hi (elements_from 13 s j)) (b : List ℕ) {r : Option ℕ} (o : Onward s j a hi b r) {top : ℕ} (q : r ≡ Some top) {n : Result Next Bad} (f : n ≡ element_at (value_at 13 s) s j) where
  gathered_left : Gathered s es b top (elements_after 13 s j)
  unfolding Onward
  gathered_left = subst (Onward s j a hi b) q o es g

  pub gathered_done : {m : Next} → n ≡ Ok m → {k : ℕ} → m ≡ Done k → Indexed s es b (Some top)
  unfolding Indexed
  gathered_done u v = rw (element_after_done 13 s j f u v) at gathered_left

  pub gathered_wrong : {k : Bad} → n ≡ Err k → Indexed s es b (Some top)
  unfolding Indexed
  gathered_wrong u = rw (element_after_wrong 13 s j f u) at gathered_left

  pub gathered_on : {m : Next} → n ≡ Ok m → {k : ℕ} → m ≡ More k → Gathered s es b top (elements_from 13 s k)
  gathered_on u v = rw (element_after_more 13 s j f u v) at gathered_left

pub without : (s : List ℕ) (es : Elements) (a : List ℕ) → Indexed s es a None
unfolding Indexed
without s es a = tt

-- the lists of the whole file
module _ (s : List ℕ) {i : ℕ} (z : i ≡ span_at is_space s 0) {l : Option ℕ} (e : lists_of (tree_at 16 s i) ≡ items_from 13 s l) where
  pub whole_none : l ≡ None → (a : List ℕ) → 1555 ≤ length a → Indexed s (lists_of (tree_of 16 s)) a (Some 1555)
  unfolding Indexed tree_of
  whole_none q a m = rw (← z, e, q) (gathered_start s no_more a m)

  pub whole_some : {at : ℕ} → l ≡ Some at → (b : List ℕ) (x : Option ℕ) → Indexed s (elements_from 13 s at) b x → Indexed s (lists_of (tree_of 16 s)) b x
  unfolding tree_of
  whole_some q b x g = rw (← z, e, q) g

pub ruleset gathering = (rules, element_less, gathered_start, gathered_done, gathered_wrong, gathered_on, without, whole_none, whole_some)

-- ## looking one up
found_named : (s : List ℕ) (es : Elements) (a : List ℕ) (hi i : ℕ) → Gathered s es a hi no_more → (r : Option ℕ) → FoundAmong s (bytes_at s i) a 1555 hi r → first_with (is_named (bytes_at s i)) es ≡ seen (tree_at 13 s) r
unfolding FoundAmong first_with
found_named s es a hi i g (Some p) h =
    let o = h.1 in
    rw (h.2, ← o.2) (g.known h.0 o.0 o.1)
found_named s es a hi i g None h = g.left i (λ k l m q. clash ((same_iff _ _).1 q) (free_differ s _ a 1555 hi h.0 h.1 k l m))

module _ (s : List ℕ) (es : Elements) (a : List ℕ) {x : Option ℕ} (g : Indexed s es a x) {hi : ℕ} (q : x ≡ Some hi) where
  index_of : Gathered s es a hi no_more
  unfolding Indexed
  index_of = subst (Indexed s es a) q g

  pub index_from : 1555 ≤ hi
  index_from = index_of.from

  pub index_room : hi ≤ length a
  index_room = index_of.room

  pub index_rising : Rising s a 1555 hi
  index_rising = index_of.rising

  pub index_found : (n i : ℕ) → bytes_at s i ≡ name_of (tree_at 11 s n) → (r : Option ℕ) → FoundAmong s (bytes_at s i) a 1555 hi r → list_named es (tree_at 11 s n) ≡ seen (tree_at 13 s) r
  unfolding list_named
  index_found n i e r h = rw (← e) (found_named s es a hi i index_of r h)

pub ruleset looking = (rules, index_from, index_room, index_rising, index_found)

-- the lists, by the places that functions were told
module _ (s : List ℕ) (a : List ℕ) (x : Option ℕ) where
  module _ (file : ℕ) (l : Option ℕ) (e : lists_of (tree_at 16 s file) ≡ items_from 13 s l) where
    pub index_inner : Indexed s (lists_of (tree_at 16 s file)) a x → Indexed s (items_from 13 s l) a x
    index_inner g = rw e at g

    pub index_outer : Indexed s (items_from 13 s l) a x → Indexed s (lists_of (tree_at 16 s file)) a x
    index_outer g = rw e g

  module _ {i : ℕ} (z : i ≡ span_at is_space s 0) where
    pub index_file : Indexed s (lists_of (tree_of 16 s)) a x → Indexed s (lists_of (tree_at 16 s i)) a x
    unfolding tree_of
    index_file g = rw z g

    pub index_whole : Indexed s (lists_of (tree_at 16 s i)) a x → Indexed s (lists_of (tree_of 16 s)) a x
    unfolding tree_of
    index_whole g = rw z at g

pub ruleset indexing = (listing, above_lent, index_inner, index_outer, index_file, index_whole)

-- Laws of numbers 5 and 6. Assumes nothing.
use Rattle.jsontext.specs.declared.Bad.{Bad}
use Rattle.std.specs.Prelude.{Result, Ok, Err}
use Prim.Native.Nat.{ℕ, ◌+◌, ◌-◌, ◌≤◌, ◌<◌}
use mathlib.Core.Path.{◌≡◌, refl, ap, sym, subst, ◌∙◌}
use mathlib.Core.List.{List}
use mathlib.Core.Bool.{Bool, true, false, ◌&&◌}
use native.Mathlib.Omega.{arith}
use lib.ListN.{length, get_or}
use borrow.Author.Rules.{rules}
use borrow.Author.Tests.{lt-ltb, le-ltb}
use Rattle.text.specs.Words.{same_bytes}
use Rattle.jsontext.specs.declared.Next.{Next}
use Rattle.jsontext.specs.declared.Next.TheVariants.{Done, More}
use Rattle.jsontext.specs.Reading.{is_space, span_at, token_at, next_at, key_at, start_of, element_at, member_at, value_at, text_of, string_at, array_at, object_at, skip_at, stop, refused}
use Rattle.jsontext.proofs.Runs.{past_is, Going, going_bad, going_done, going_wrong, going_on, going_less}
use Rattle.jsontext.proofs.Nesting.{element_bad, element_of, element_up, member_bad, member_wrong, member_of, member_up, array_empty, array_going, object_empty, object_going, value_text, value_array, value_object, value_deep_array, value_deep_object}
use Rattle.values.specs.Decode.{bytes_at}
use Rattle.values.specs.Tree.{Json, Members, member, elements_at, members_at, name_at, place_at, elements_of, members_of, tree_at, tree_of, elements_from, elements_after, members_from, members_after, elements_in, members_in}
use Rattle.values.specs.Clean.{all_bytes, absent, clean, clean_elements, clean_members, verdict_of}
use Rattle.values.specs.declared.Fault.TheVariants.{Unclean, Broken}
use Rattle.values.specs.declared.Entry.{Entry}
use Rattle.values.specs.Names.{Entering, Joined, checked_of, Rising, Entered, Below, grown_of, fine_of}
use Rattle.values.proofs.Walking.{members_turn, elements_turn, after_done, after_wrong, after_more, element_after_done, element_after_more, member_less, place_end}
use Rattle.values.proofs.Trees.{tree_kinds, tree_string, tree_array, tree_object}
use Rattle.values.proofs.Naming.{Keeps, keeps_from, keeps_end, keeps_below, keeps_on, rising_on, rising_below, entered_below, entered_room, grown_fits, grown_room, below_then, below_same}

-- is a name absent?
module _ (w : List ℕ) (d : ℕ) (s : List ℕ) (j : ℕ) {t : Bool} (inv : t ≡ absent w (members_after d s j)) {n : Result Next Bad} (e : n ≡ member_at (value_at d s) s j) where
  pub absent_done : {m : Next} → n ≡ Ok m → {k : ℕ} → m ≡ Done k → true ≡ t
  unfolding absent
  absent_done q q₂ = sym (rw (after_done d s j e q q₂) at inv)

  pub absent_wrong : {k : Bad} → n ≡ Err k → true ≡ t
  unfolding absent
  absent_wrong q = sym (rw (after_wrong d s j e q) at inv)

  module _ {o : Next} (q : n ≡ Ok o) {k : ℕ} (q₂ : o ≡ More k) (i m : ℕ) (f : w ≡ bytes_at s i) (g : name_at s k ≡ bytes_at s m) {b : Bool} (h : b ≡ same_bytes (bytes_at s i) (bytes_at s m)) where
    absent_turn : t ≡ absent w (member (name_at s k) (tree_at d s (place_at s k)) (members_after d s k))
    absent_turn = inv ∙ ap (absent w) (after_more d s j e q q₂ ∙ members_turn d s k)

    test : same_bytes w (name_at s k) ≡ b
    test = cc

    pub absent_found : b ≡ true → false ≡ t
    unfolding absent
    absent_found u = sym (rw (absent, test, u) at absent_turn)

    pub absent_more : b ≡ false → t ≡ absent w (members_after d s k)
    unfolding absent
    absent_more u = rw (absent, test, u) at absent_turn

pub ruleset naming = (rules, absent_done, absent_wrong, absent_found, absent_more, member_less)

-- Booleans
and_assoc : (a b c : Bool) → (a && (b && c)) ≡ ((a && b) && c)
and_assoc true b c = refl
and_assoc false b c = refl

and-true : (a : Bool) → (a && true) ≡ a
and-true true = refl
and-true false = refl

-- what was read, told apart
checked_bad : (v : Result ℕ Bad) (c : Bool) {p : Bad} → Err p ≡ checked_of v c → v ≡ Err p
checked_bad (Ok e) c q = absurd (let z : ◌≡◌ {A = ℕ} 0 1 = cc in omega arith)
checked_bad (Err k) c q = cc

checked_end : (v : Result ℕ Bad) (c : Bool) {e : ℕ} {x : Bool} → ◌≡◌ {A = Result (ℕ × Bool) Bad} (Ok (e, x)) (checked_of v c) → (v ≡ Ok e) × (x ≡ c)
checked_end (Ok k) c {e} {x} q = let p : (e, x) ≡ (k, c) = cc in (ap (λ (z : ℕ × Bool). Ok z.0) (sym p), ap (λ (z : ℕ × Bool). z.1) p)
checked_end (Err k) c q = absurd (let z : ◌≡◌ {A = ℕ} 0 1 = cc in omega arith)

-- an array: what was read so far, and whether it is clean
pub record Elementing (d : ℕ) (s : List ℕ) (at : ℕ) (a₀ a : List ℕ) (lo j : ℕ) (good : Bool) : Type 0 where
  pub going : Going (element_at (value_at d s) s) s (array_at (value_at d s) s at) j
  pub flag : clean_elements (elements_in d s at) ≡ (good && clean_elements (elements_from d s j))
  pub below : Below lo a₀ a

abbrev pub array_checked : ℕ → List ℕ → ℕ → Result (ℕ × Bool) Bad
array_checked d s at = checked_of (array_at (value_at d s) s at) (clean_elements (elements_in d s at))

module _ (d : ℕ) (s : List ℕ) (at : ℕ) {r : Result ℕ Bad} (e : r ≡ token_at 93 s at) where
  pub elementing_none : {k : ℕ} → r ≡ Ok k → Ok (k, true) ≡ array_checked d s at
  unfolding elements_at elements_of clean_elements
  elementing_none q = rw (← (array_empty d s at r e q), ← e, q)

  pub elementing_from : {k : Bad} → r ≡ Err k → (a : List ℕ) (lo : ℕ) → Elementing d s at a a lo at true
  unfolding elements_at
  elementing_from q a lo = record { going = array_going d s at r e q; flag = rw (← e, q); below = below_same lo a }

pub elementing_below : (d : ℕ) (s : List ℕ) (at : ℕ) (a₀ a : List ℕ) (lo j : ℕ) (good : Bool) → Elementing d s at a₀ a lo j good → (b : List ℕ) → Below lo a b → Below lo a₀ b
elementing_below d s at a₀ a lo j good h b v = below_then (omega arith) h.below v

module _ (d : ℕ) (s : List ℕ) (at : ℕ) (a₀ a : List ℕ) (lo j : ℕ) (good : Bool) (h : Elementing d s at a₀ a lo j good) {i : ℕ} (p : i ≡ span_at is_space s j) {r : Result (ℕ × Bool) Bad} (e : r ≡ checked_of (value_at d s i) (clean (tree_at d s i))) where
  pub elementing_bad : {k : Bad} → r ≡ Err k → Err k ≡ array_checked d s at
  elementing_bad q = rw (← (going_bad h.going (element_bad d s j p refl (checked_bad _ _ (sym q ∙ e)))))

  module _ {m : ℕ} {x : Bool} (q : r ≡ Ok (m, x)) {n : Result Next Bad} (f : n ≡ next_at 93 s m) where
    element_parts : (value_at d s i ≡ Ok m) × (x ≡ clean (tree_at d s i))
    element_parts = checked_end _ _ (sym q ∙ e)

    element_step : n ≡ element_at (value_at d s) s j
    element_step = element_of d s j p refl element_parts.0 f

    element_flag : clean_elements (elements_in d s at) ≡ (good && (x && clean_elements (elements_after d s j)))
    unfolding clean_elements
    element_flag = h.flag ∙ rw (elements_turn d s j, ← p, element_parts.1)

    pub elementing_wrong : {k : Bad} → n ≡ Err k → Err k ≡ array_checked d s at
    elementing_wrong u = rw (← (going_wrong h.going n element_step u))

    pub elementing_less : {m : Next} → n ≡ Ok m → {k : ℕ} → m ≡ More k → length s - k < length s - j
    elementing_less u u₂ = going_less h.going n element_step (element_up d s) u u₂

    module _ {g : Bool} (w : g ≡ (good && x)) where
      pub elementing_done : {m : Next} → n ≡ Ok m → {k : ℕ} → m ≡ Done k → Ok (k, g) ≡ array_checked d s at
      unfolding clean_elements
      elementing_done u u₂ = rw (← (going_done h.going n element_step u u₂), element_flag, element_after_done d s j element_step u u₂, and-true x, w)

      pub elementing_on : {m : Next} → n ≡ Ok m → {k : ℕ} → m ≡ More k → (b : List ℕ) → Below lo a b → Elementing d s at a₀ b lo k g
      elementing_on u u₂ b v =
          record {
            going = going_on h.going n element_step (element_up d s) u u₂;
            flag = element_flag ∙ rw (element_after_more d s j element_step u u₂, w) (and_assoc good x _);
            below = below_then (omega arith) h.below v;
          }

-- an object: what was read so far, with the names in rising order
pub record Membering (d : ℕ) (s : List ℕ) (at : ℕ) (a₀ a : List ℕ) (lo j hi : ℕ) (good : Bool) : Type 0 where
  pub going : Going (member_at (value_at d s) s) s (object_at (value_at d s) s at) j
  pub keeps : Keeps (clean_members (members_in d s at)) good s a lo hi (members_from d s j)
  pub below : Below lo a₀ a
  pub from : lo ≤ hi
  pub room : hi ≤ length a
  pub rising : Rising s a lo hi

abbrev pub object_checked : ℕ → List ℕ → ℕ → Result (ℕ × Bool) Bad
object_checked d s at = checked_of (object_at (value_at d s) s at) (clean_members (members_in d s at))

module _ (d : ℕ) (s : List ℕ) (at : ℕ) {r : Result ℕ Bad} (e : r ≡ token_at 125 s at) where
  pub membering_none : {k : ℕ} → r ≡ Ok k → Ok (k, true) ≡ object_checked d s at
  unfolding members_at members_of clean_members
  membering_none q = rw (← (object_empty d s at r e q), ← e, q)

  pub membering_from : {k : Bad} → r ≡ Err k → (a : List ℕ) (lo : ℕ) → lo ≤ length a → Membering d s at a a lo at lo true
  unfolding members_at
  membering_from q a lo l =
      record {
        going = object_going d s at r e q;
        keeps = keeps_from s a lo (members_from d s at) (rw (← e, q));
        below = below_same lo a;
        from = omega arith;
        room = l;
        rising = λ i k m n o. absurd (omega arith);
      }

-- one member
module _ (d : ℕ) (s : List ℕ) (j v : ℕ) (a : List ℕ) (lo hi : ℕ) (l : lo ≤ hi) (m : hi ≤ length a) (x : ℕ) (b : List ℕ) (r : Entry) (en : Entered s x j a lo hi b r) where
  module _ {top : ℕ} (gr : top ≡ grown_of hi r) {i : ℕ} (sk : i ≡ span_at is_space s v) {t : Result (ℕ × Bool) Bad} (ch : t ≡ checked_of (value_at d s i) (clean (tree_at d s i))) (c : List ℕ) (bl : Below top b c) where
    pub joined_halt : {k : Bad} → t ≡ Err k → Joined d s j v a lo hi c (Err k)
    unfolding Joined
    joined_halt {k} u =
        let o = (entered_room s x j a b lo hi r en m).0 in
        let y : value_at d s i ≡ Err k = checked_bad _ _ (sym u ∙ ch) in
        (rw (← sk) y, below_then (omega arith) (entered_below s x j a b lo hi r en) bl)

    pub joined_past : {e : ℕ} {z : Bool} → t ≡ Ok (e, z) → name_at s j ≡ bytes_at s x → {f : Bool} → f ≡ fine_of (all_bytes (name_at s j)) (absent (name_at s j) (members_after d s j)) r → {w : Bool} → w ≡ (f && z) → Joined d s j v a lo hi c (Ok (e, top, w))
    unfolding Joined
    joined_past {e} {z} u nm fi w =
        let y : (value_at d s i ≡ Ok e) × (z ≡ clean (tree_at d s i)) = checked_end _ _ (sym u ∙ ch) in
        record { name = x; stands = nm; entry = r; within = b; entered = en; grown = gr; kept = bl; ended = rw (← sk) y.0; fine = w ∙ rw (fi, y.1, sk) }

pub ruleset joining = (rules, grown_fits, grown_room, joined_halt, joined_past)

-- the members of an object, one after the other
module _ (d : ℕ) (s : List ℕ) (at : ℕ) (a₀ a : List ℕ) (lo j hi : ℕ) (good : Bool) (h : Membering d s at a₀ a lo j hi good) where
  pub membering_key : {y : Result ℕ Bad} → y ≡ key_at s j → {k : Bad} → y ≡ Err k → Err k ≡ object_checked d s at
  membering_key p q = rw (← (going_bad h.going (member_bad d s j p q)))

  module _ (v : ℕ) (b : List ℕ) (r : Result (ℕ × ℕ × Bool) Bad) (jn : Joined d s j v a lo hi b r) where
    halted : {k : Bad} → r ≡ Err k → (value_at d s (span_at is_space s v) ≡ Err k) × Below lo a b
    unfolding Joined
    halted u = subst (Joined d s j v a lo hi b) u jn

    pub membering_halted : {k : Bad} → r ≡ Err k → Below lo a₀ b
    membering_halted u = below_then (omega arith) h.below (halted u).1

    module _ {m top : ℕ} {w : Bool} (u : r ≡ Ok (m, top, w)) where
      past : Entering d s j v a lo hi b m top w
      unfolding Joined
      past = subst (Joined d s j v a lo hi b) u jn

      -- up to where names are kept
      past_room : (hi ≤ top) × (top ≤ length past.within)
      past_room =
          let e = past in
          let o = entered_room s e.name j a e.within lo hi e.entry e.entered h.room in
          let n = (entered_below s e.name j a e.within lo hi e.entry e.entered).long in
          let g = e.grown in
          omega arith

      pub membering_past : Below lo a₀ b
      membering_past =
          let e = past in
          let o = past_room in
          let n = h.from in
          below_then (omega arith) (below_then (omega arith) h.below (entered_below s e.name j a e.within lo hi e.entry e.entered)) e.kept

    module _ {y : Result ℕ Bad} (p : y ≡ key_at s j) (q : y ≡ Ok v) where
      pub membering_bad : {k : Bad} → r ≡ Err k → Err k ≡ object_checked d s at
      membering_bad u = rw (← (going_bad h.going (member_wrong d s j p q refl refl (halted u).0)))

      module _ {m top : ℕ} {w : Bool} (u : r ≡ Ok (m, top, w)) {n : Result Next Bad} (nx : n ≡ next_at 125 s m) where
        member_step : n ≡ member_at (value_at d s) s j
        member_step = member_of d s j p q refl refl (past u).ended nx

        pub membering_wrong : {k : Bad} → n ≡ Err k → Err k ≡ object_checked d s at
        membering_wrong l = rw (← (going_wrong h.going n member_step l))

        pub membering_less : {m : Next} → n ≡ Ok m → {k : ℕ} → m ≡ More k → length s - k < length s - j
        membering_less l l₂ = going_less h.going n member_step (member_up d s) l l₂

        module _ {g : Bool} (gd : g ≡ (good && w)) where
          member_keeps : Keeps (clean_members (members_in d s at)) g s b lo top (members_after d s j)
          member_keeps =
              let e = past u in
              keeps_below e.kept
              (subst (λ (k : ℕ). Keeps (clean_members (members_in d s at)) g s e.within lo k (members_after d s j)) (sym e.grown)
              (keeps_on s e.name a e.within lo hi (tree_at d s (span_at is_space s v)) (members_after d s j)
              (subst (λ (ms : Members). Keeps (clean_members (members_in d s at)) good s a lo hi ms) (members_turn d s j ∙ rw (e.stands, ← (place_end s j p q refl))) h.keeps)
              j e.entry e.entered g (gd ∙ ap (λ (k : Bool). good && k) (e.fine ∙ ap (λ (k : List ℕ). fine_of (all_bytes k) (absent k (members_after d s j)) e.entry && clean (tree_at d s (span_at is_space s v))) e.stands))))

          pub membering_done : {m : Next} → n ≡ Ok m → {k : ℕ} → m ≡ Done k → Ok (k, g) ≡ object_checked d s at
          membering_done l l₂ =
              rw (← (going_done h.going n member_step l l₂), ← (keeps_end (subst (λ (ms : Members). Keeps (clean_members (members_in d s at)) g s b lo top ms) (after_done d s j member_step l l₂) member_keeps)))

          pub membering_on : {m : Next} → n ≡ Ok m → {k : ℕ} → m ≡ More k → Membering d s at a₀ b lo k top g
          membering_on l l₂ =
              let e = past u in
              let o = past_room u in
              let f = h.from in
              let z = e.kept.long in
              record {
                going = going_on h.going n member_step (member_up d s) l l₂;
                keeps = subst (λ (ms : Members). Keeps (clean_members (members_in d s at)) g s b lo top ms) (after_more d s j member_step l l₂) member_keeps;
                below = membering_past u;
                from = omega arith;
                room = omega arith;
                rising = rising_below s e.within b lo top e.kept (subst (λ (k : ℕ). Rising s e.within lo k) (sym e.grown) (rising_on s e.name j a e.within lo hi e.entry e.entered h.rising));
              }

-- a value
module _ (d : ℕ) (s : List ℕ) (at b : ℕ) (e : b ≡ get_or s at 0) where
  pub value_string : b ≡ 34 → {r : Result (ℕ × Bool) Bad} → r ≡ checked_of (string_at s (at + 1)) (all_bytes (bytes_at s (at + 1))) → r ≡ checked_of (value_at d s at) (clean (tree_at d s at))
  unfolding start_of clean
  value_string q u = rw (← (value_text d s at _ refl _ (ap start_of (sym e ∙ q)) refl), tree_string d s at e q) u

  pub value_elements : b ≡ 91 → (d ≡ 0 → ⊥) → {r : Result (ℕ × Bool) Bad} → r ≡ array_checked (d - 1) s (at + 1) → r ≡ checked_of (value_at d s at) (clean (tree_at d s at))
  unfolding start_of clean
  value_elements q f u = rw (← (value_array d s at _ refl (ap start_of (sym e ∙ q)) f _ refl), tree_array d s at f e q) u

  pub value_members : b ≡ 123 → (d ≡ 0 → ⊥) → {r : Result (ℕ × Bool) Bad} → r ≡ object_checked (d - 1) s (at + 1) → r ≡ checked_of (value_at d s at) (clean (tree_at d s at))
  unfolding start_of clean
  value_members q f u = rw (← (value_object d s at _ refl (ap start_of (sym e ∙ q)) f _ refl), tree_object d s at f e q) u

  pub value_deep_elements : b ≡ 91 → d ≡ 0 → refused at ≡ checked_of (value_at d s at) (clean (tree_at d s at))
  unfolding start_of
  value_deep_elements q z = rw (← (value_deep_array d s at _ refl (ap start_of (sym e ∙ q)) z))

  pub value_deep_members : b ≡ 123 → d ≡ 0 → refused at ≡ checked_of (value_at d s at) (clean (tree_at d s at))
  unfolding start_of
  value_deep_members q z = rw (← (value_deep_object d s at _ refl (ap start_of (sym e ∙ q)) z))

  pub value_plain_end : (b ≡ 34 → ⊥) → (b ≡ 91 → ⊥) → (b ≡ 123 → ⊥) → {v : Result ℕ Bad} → v ≡ value_at d s at → {k : ℕ} → v ≡ Ok k → Ok (k, true) ≡ checked_of (value_at d s at) (clean (tree_at d s at))
  unfolding clean
  value_plain_end f g h p q =
      rw (← p, q, ← (tree_kinds (λ (j : Json). true ≡ clean j) d s at b e (λ u es. absurd (g u)) (λ u ms. absurd (h u)) (λ u. absurd (f u)) (λ u. refl) (λ u. refl) (λ u. refl) (λ n. refl) refl))

pub ruleset cleaning = (rules, past_is, below_same, elementing_none, elementing_from, elementing_below, elementing_bad, elementing_wrong, elementing_less, elementing_done, elementing_on, membering_none, membering_from, membering_key, membering_halted, membering_past, membering_bad, membering_wrong, membering_less, membering_done, membering_on, value_string, value_elements, value_members, value_deep_elements, value_deep_members, value_plain_end)

-- the whole text
module _ (d : ℕ) (s : List ℕ) {i : ℕ} (a : i ≡ span_at is_space s 0) {r : Result (ℕ × Bool) Bad} (b : r ≡ checked_of (value_at d s i) (clean (tree_at d s i))) where
  pub judge_broken : {p : Bad} → r ≡ Err p → Err (Broken p.at) ≡ verdict_of (text_of d s) (clean (tree_of d s))
  unfolding text_of skip_at
  judge_broken {p} q = let v : value_at d s i ≡ Err p = checked_bad _ _ (sym q ∙ b) in rw (← a, v)

  judge_parts : {e : ℕ} {x : Bool} → r ≡ Ok (e, x) → (value_at d s i ≡ Ok e) × (x ≡ clean (tree_at d s i))
  judge_parts q = checked_end _ _ (sym q ∙ b)

  module _ {e : ℕ} {x : Bool} (q : r ≡ Ok (e, x)) {k : ℕ} (f : k ≡ span_at is_space s e) where
    pub judge_more : k < length s → Err (Broken k) ≡ verdict_of (text_of d s) (clean (tree_of d s))
    unfolding text_of stop skip_at
    judge_more l = rw (← a, (judge_parts q).0, ← f, lt-ltb _ _ l)

    module _ (l : length s ≤ k) where
      pub judge_clean : x ≡ true → Ok tt ≡ verdict_of (text_of d s) (clean (tree_of d s))
      unfolding text_of stop skip_at tree_of
      judge_clean u = rw (← a, (judge_parts q).0, ← f, le-ltb _ _ l, ← (judge_parts q).1, u)

      pub judge_unclean : x ≡ false → Err Unclean ≡ verdict_of (text_of d s) (clean (tree_of d s))
      unfolding text_of stop skip_at tree_of
      judge_unclean u = rw (← a, (judge_parts q).0, ← f, le-ltb _ _ l, ← (judge_parts q).1, u)

pub ruleset judging = (rules, judge_broken, judge_more, judge_clean, judge_unclean)

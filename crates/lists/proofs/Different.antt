-- Laws of names that are all different: those so far are kept in rising order, and none of them stands among those to come.
-- Assumes nothing.
use Rattle.std.specs.Prelude.{None, Some, Err}
use Prim.Native.Nat.{ℕ, ◌+◌, ◌≤◌, ◌<◌}
use native.Mathlib.Omega.{arith}
use mathlib.Core.Path.{◌≡◌, refl, sym, ◌∙◌}
use mathlib.Core.List.{List, [], ◌∷◌}
use mathlib.Core.Bool.{Bool, true, false, not, cond, ◌||◌}
use lib.ListN.{length}
use borrow.Author.Tests.{not-true}
use Rattle.text.specs.Words.{same_bytes}
use Rattle.text.proofs.Tests.{clash, and_left, and_right}
use Rattle.text.proofs.WordLaws.{same_iff}
use Rattle.values.specs.declared.Entry.{Entry}
use Rattle.values.specs.declared.Entry.TheVariants.{Known, Kept, Full}
use Rattle.values.specs.Decode.{bytes_at}
use Rattle.values.specs.Names.{name_in, key_at, Rising, Spotted, Inserted, Entered, grown_of}
use Rattle.values.proofs.Naming.{kept_all, kept_each, free_differ, rising_on, grown_room, entered_below}
use Rattle.header.specs.Asked.{is_among}
use Rattle.lists.specs.Lists.{all_different}
use Rattle.lists.specs.Names.{again_of}

-- none of the names kept stands among others
abbrev pub Apart : List ℕ → List ℕ → ℕ → List (List ℕ) → Type 0
Apart s a hi ns = (k : ℕ) → 0 ≤ k → k < hi → is_among (key_at s a k) ns ≡ false

-- what is left decides the whole; the lent places were a₀
pub record Different (whole : Bool) (s a₀ a : List ℕ) (hi : ℕ) (ns : List (List ℕ)) : Type 0 where
  pub there : whole ≡ true → (all_different ns ≡ true) × Apart s a hi ns
  pub back : all_different ns ≡ true → Apart s a hi ns → whole ≡ true
  pub rising : Rising s a 0 hi
  pub room : hi ≤ length a
  pub long : length a ≡ length a₀

pub different_from : (s a : List ℕ) (ns : List (List ℕ)) → Different (all_different ns) s a a 0 ns
different_from s a ns = record { there = λ e. (e, λ k l m. absurd (omega arith)); back = λ e f. e; rising = λ i k l m n. absurd (omega arith); room = omega arith; long = refl }

pub different_end : {whole : Bool} {s a₀ a : List ℕ} {hi : ℕ} → Different whole s a₀ a hi [] → true ≡ whole
unfolding all_different is_among
different_end h = sym (h.back refl (λ k l m. refl))

-- one name and others
neither : (a b : Bool) → (a || b) ≡ false → (a ≡ false) × (b ≡ false)
neither true b e = clash {b = true} refl e
neither false b e = (refl, e)

not_among : (w n : List ℕ) (ns : List (List ℕ)) → is_among w (n ∷ ns) ≡ false → (w ≡ n → ⊥) × (is_among w ns ≡ false)
unfolding is_among
not_among w n ns e = let u = neither (same_bytes w n) _ e in (λ q. clash ((same_iff w n).1 q) u.0, u.1)

is_apart : (w n : List ℕ) (ns : List (List ℕ)) → same_bytes w n ≡ false → is_among w ns ≡ false → is_among w (n ∷ ns) ≡ false
unfolding is_among
is_apart w n ns e f = rw (e, f)

different_parts : (n : List ℕ) (ns : List (List ℕ)) → all_different (n ∷ ns) ≡ true → (is_among n ns ≡ false) × (all_different ns ≡ true)
unfolding all_different
different_parts n ns e = (not-true _ (and_left _ _ e), and_right (not (is_among n ns)) _ e)

different_whole : (n : List ℕ) (ns : List (List ℕ)) → is_among n ns ≡ false → all_different ns ≡ true → all_different (n ∷ ns) ≡ true
unfolding all_different
different_whole n ns e f = rw (e, f)

pub refuted : (b : Bool) → (b ≡ true → ⊥) → false ≡ b
refuted true f = absurd (f refl)
refuted false f = refl

-- which of the two it was
pub twice_again : (f : Bool) (n : ℕ) → cond f None (Some n) ≡ None → f ≡ true
twice_again true n e = refl
twice_again false n e = absurd (let z : ◌≡◌ {A = ℕ} 0 1 = cc in omega arith)

pub once_fresh : (f : Bool) (n m : ℕ) → cond f None (Some n) ≡ Some m → (f ≡ false) × (m ≡ n)
once_fresh true n m e = absurd (let z : ◌≡◌ {A = ℕ} 0 1 = cc in omega arith)
once_fresh false n m e = (refl, cc)

-- one name more was entered
module _ {whole : Bool} (s : List ℕ) (x j : ℕ) {a₀ : List ℕ} (a b : List ℕ) (hi : ℕ) (ns : List (List ℕ)) (h : Different whole s a₀ a hi (bytes_at s x ∷ ns)) where
  later_again : is_among (bytes_at s x) ns ≡ true → false ≡ whole
  later_again q = refuted whole (λ w. clash q (different_parts _ ns (h.there w).0).0)

  pub different_again : (r : Entry) → Entered s x j a 0 hi b r → again_of (is_among (bytes_at s x) ns) r ≡ true → false ≡ whole
  unfolding Entered
  different_again Known e q = refuted whole (λ w. (not_among _ _ ns ((h.there w).1 e.1 e.2.0 e.2.1)).0 e.2.2)
  different_again Kept e q = clash {b = false} q refl
  different_again Full e q = later_again q

  after_kept : (p : ℕ) → Spotted s (bytes_at s x) a 0 hi (Err p) → (w : ℕ) → name_in w ≡ x → Inserted a b p hi w → (whole ≡ true → (all_different ns ≡ true) × Apart s b (hi + 1) ns) × (all_different ns ≡ true → Apart s b (hi + 1) ns → whole ≡ true)
  after_kept p sp y nm ins = (
    λ w.
        let u = h.there w in
        let v = different_parts _ ns u.0 in
        (v.1, kept_all s x a b 0 hi p sp y nm ins (λ (y : List ℕ). is_among y ns ≡ false) (λ k l m. (not_among _ _ ns (u.1 k l m)).1) v.0),
    λ q f.
        let w = kept_each s x a b 0 hi p sp y nm ins (λ (y : List ℕ). is_among y ns ≡ false) f in
        h.back (different_whole _ ns w.1 q) (λ k l m. is_apart _ _ ns (free_differ s _ a 0 hi p sp k l m) (w.0 k l m)),
  )

  after_full : b ≡ a → (p : ℕ) → Spotted s (bytes_at s x) a 0 hi (Err p) → is_among (bytes_at s x) ns ≡ false → (whole ≡ true → (all_different ns ≡ true) × Apart s b hi ns) × (all_different ns ≡ true → Apart s b hi ns → whole ≡ true)
  after_full z p sp n = rw z (
    λ w. let u = h.there w in ((different_parts _ ns u.0).1, λ k l m. (not_among _ _ ns (u.1 k l m)).1),
    λ q f. h.back (different_whole _ ns n q) (λ k l m. is_apart _ _ ns (free_differ s _ a 0 hi p sp k l m) (f k l m)),
  )

  after_entry : (r : Entry) → Entered s x j a 0 hi b r → again_of (is_among (bytes_at s x) ns) r ≡ false → (whole ≡ true → (all_different ns ≡ true) × Apart s b (grown_of hi r) ns) × (all_different ns ≡ true → Apart s b (grown_of hi r) ns → whole ≡ true)
  unfolding Entered
  after_entry Known e q = clash {b = true} refl q
  after_entry Kept e q = after_kept e.1 e.2 e.3 e.4 e.6
  after_entry Full e q = after_full e.0 e.1 e.2 q

  pub different_next : (r : Entry) → Entered s x j a 0 hi b r → again_of (is_among (bytes_at s x) ns) r ≡ false → Different whole s a₀ b (grown_of hi r) ns
  different_next r e q =
      let u = after_entry r e q in
      record { there = u.0; back = u.1; rising = rising_on s x j a b 0 hi r e h.rising; room = grown_room s x j a b 0 hi r e h.room refl; long = (entered_below s x j a b 0 hi r e).long ∙ h.long }

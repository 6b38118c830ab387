-- The readers against the grammar: a text is taken exactly when it is JSON (`decides`), and the place of a refusal is the
-- length of its longest beginning that begins some JSON text (`place`). Assumes nothing.
use Prim.Native.Nat.{ℕ, zero, suc, ◌+◌, ◌≤◌, ◌<◌}
use mathlib.Core.Path.{◌≡◌, refl, sym, subst, subst⁻¹, ◌∙◌}
use mathlib.Core.List.{List, [], ◌∷◌, ◌++◌}
use mathlib.Core.Bool.{Bool, true, false, cond}
use native.Mathlib.Nat.{add-zero}
use native.Mathlib.Omega.{arith}
use lib.ListN.{length, get_or, take, drop, get_or-append, length-append}
use lib.Seq.{length-take-le, get_or-take}
use mathlib.Core.Logic.{◌↔◌}
use lib.Dec.{ltb}
use borrow.Author.Tests.{lt-ltb}
use Rattle.jsontext.specs.declared.Bad.{Bad}
use Rattle.std.specs.Prelude.{Result, Ok, Err}
use Rattle.jsontext.specs.declared.Next.{Next}
use Rattle.jsontext.specs.declared.Next.TheVariants.{Done, More}
use Rattle.jsontext.specs.declared.Start.{Start}
use Rattle.text.specs.Bytes.{between, is_digit}
use Rattle.std.specs.List.{prefix_len}
use Rattle.std.specs.Result.{result_or}
use Rattle.jsontext.specs.Reading.{is, refused, ◌>>=◌, after, is_space, is_escape, is_plain, span_at, skip_at, one_at, times_at, some_at, token_at, word_at, run, tails_at, wide_at, escape_at, char_at, quote_or_char_at, string_at, minus_at, sign_at, int_at, fraction_at, is_e, exponent_at, number_at, key_at, start_of, next_at, element_at, member_at, array_at, object_at, by_start, value_at, stop, text_of}
use Rattle.jsontext.specs.Rfc8259.{Language, word, Byte, ◌·◌, pair, left, Star, none, Opt, Ws, Frac, Exp, Char, Text, Begins, Place}
use Rattle.jsontext.specs.Judged.{Judged}
use Rattle.text.proofs.Tests.{cond_cases}
use Rattle.jsontext.proofs.Sound.{split, seg_end, seg_length, cons_drop, inside_by, Means, ended, bad, Some, Class, Steps, finish, onward, wrong, Follows, closed, comma, neither, byte_means, times_means, some_means, span_reads, word_means, range_class, eq_class, digit_class, hex_class, one_digit, one_hex, some_tail, escape_means, char_means, char_steps, text_means, sign_reads, any_reads, whole_means, fraction_means, exponent_means, run_means, ws_reads, token_means, next_follows, reads_means, then_means, some_pair, some_star, some_word, some_items, element_steps, array_means, some_member, member_steps, object_means, value_means, some_value, stop_means, text_means_of, viable, sound}
use Rattle.jsontext.proofs.Complete.{span_more, span_stop, ws_takes, complete}

-- an answer at a place n or further
abbrev pub Far : ℕ → Result ℕ Bad → Type 0
Far n (Ok e) = n ≤ e
Far n (Err b) = n ≤ b.at

abbrev pub FarNext : ℕ → Result Next Bad → Type 0
FarNext n (Ok (Done k)) = n ≤ k
FarNext n (Ok (More k)) = n ≤ k
FarNext n (Err b) = n ≤ b.at

-- two answers that are one, unless the first is far
pub data Near (n : ℕ) : Result ℕ Bad → Result ℕ Bad → Type 0 where
  same : {r : Result ℕ Bad} → Near n r r
  far : {r t : Result ℕ Bad} → Far n r → Near n r t

pub data NearNext (n : ℕ) : Result Next Bad → Result Next Bad → Type 0 where
  same : {r : Result Next Bad} → NearNext n r r
  far : {r t : Result Next Bad} → FarNext n r → NearNext n r t

late : {G : Language} {s : List ℕ} {i : ℕ} {r : Result ℕ Bad} (n : ℕ) → n ≤ i → Means G s i r → Far n r
late n h (ended x a) = let l = seg_length x in omega arith
late n h (bad z x a) = let l = seg_length x in omega arith

late_step : {G : Language} {s : List ℕ} {i : ℕ} {r : Result Next Bad} (n : ℕ) → n ≤ i → Steps G s i r → FarNext n r
late_step n h (finish x a) = let l = seg_length x in omega arith
late_step n h (onward x m a) = let l = seg_length x in omega arith
late_step n h (wrong z x a) = let l = seg_length x in omega arith

progress : {L : Language} {s : List ℕ} {i : ℕ} {r : Result Next Bad} (k : ℕ) → Steps L s i r → r ≡ Ok (More k) → (i < k) × (k ≤ length s)
progress k (finish x a) e = let z : ◌≡◌ {A = ℕ} 0 1 = cc in absurd (omega arith)
progress k (onward {k = m} x l a) e = let q : m ≡ k = cc in let y = seg_end x l in omega arith
progress k (wrong z x a) e = let z : ◌≡◌ {A = ℕ} 0 1 = cc in absurd (omega arith)

late_follow : {b : ℕ} {s : List ℕ} {i : ℕ} {r : Result Next Bad} (n : ℕ) → n ≤ i → Follows b s i r → FarNext n r
late_follow n h (closed x) = let l = seg_length x.1 in omega arith
late_follow n h (comma x) = let l = seg_length x.1 in omega arith
late_follow n h (neither x) = let l = seg_length x.1 in omega arith

cond_near : {n : ℕ} (b : Bool) {x y x' y' : Result ℕ Bad} → Near n x x' → Near n y y' → Near n (cond b x y) (cond b x' y')
cond_near true f g = f
cond_near false f g = g

cond_next : {n : ℕ} (b : Bool) {x y x' y' : Result Next Bad} → NearNext n x x' → NearNext n y y' → NearNext n (cond b x y) (cond b x' y')
cond_next true f g = f
cond_next false f g = g

then_near : {H : Language} {n : ℕ} {s : List ℕ} {r t : Result ℕ Bad} (g g' : ℕ → Result ℕ Bad) → Near n r t → ((e : ℕ) → Near n (g e) (g' e)) → ((e : ℕ) → Means H s e (g e)) → Near n (r >>= g) (t >>= g')
then_near {r = Ok e} g g' same f m = f e
then_near {r = Err b} g g' same f m = same
then_near {n = n} {r = Ok e} g g' (far h) f m = far (late n h (m e))
then_near {r = Err b} g g' (far h) f m = far h

into_near : {n : ℕ} {r t : Result ℕ Bad} (g g' : ℕ → Result Next Bad) → Near n r t → ((e : ℕ) → NearNext n (g e) (g' e)) → ((e : ℕ) → n ≤ e → FarNext n (g e)) → NearNext n (r >>= g) (t >>= g')
into_near {r = Ok e} g g' same f m = f e
into_near {r = Err b} g g' same f m = same
into_near {r = Ok e} g g' (far h) f m = far (m e h)
into_near {r = Err b} g g' (far h) f m = far h

after_near : {n : ℕ} {a b : Result Next Bad} (g g' : ℕ → Result ℕ Bad) → NearNext n a b → ((k : ℕ) → a ≡ Ok (More k) → b ≡ Ok (More k) → Near n (g k) (g' k)) → ((k : ℕ) → n ≤ k → Far n (g k)) → Near n (after a g) (after b g')
after_near {a = Ok (Done k)} g g' same f m = same
after_near {a = Ok (More k)} g g' same f m = f k refl refl
after_near {a = Err b} g g' same f m = same
after_near {a = Ok (Done k)} g g' (far h) f m = far h
after_near {a = Ok (More k)} g g' (far h) f m = far (m k h)
after_near {a = Err b} g g' (far h) f m = far h

else_near : {n : ℕ} (r : Result ℕ Bad) {x y : Result ℕ Bad} → Near n x y → Near n (result_or r x) (result_or r y)
else_near (Ok e) f = same
else_near (Err b) f = f

nil_drop : (s : List ℕ) (i : ℕ) → drop i s ≡ [] → get_or s i 0 ≡ 0
nil_drop [] i e = refl
nil_drop (x ∷ s) zero e = let z : ◌≡◌ {A = ℕ} 0 1 = cc in absurd (omega arith)
nil_drop (x ∷ s) (suc i) e = nil_drop s i e

skip_twice : (s : List ℕ) (i : ℕ) → skip_at s i ≡ skip_at s (skip_at s i)
skip_twice s i = let r = ws_reads s i in ws_takes r.2 r.1

-- two lists that agree before n
module _ (s s' : List ℕ) (n : ℕ) (ag : (j : ℕ) → j < n → get_or s j 0 ≡ get_or s' j 0) where
  near_from : {G : Language} {i : ℕ} {r t : Result ℕ Bad} → Means G s i r → (i < n → Near n r t) → Near n r t
  near_from {i = i} m f = split n i f (λ h. far (late n h m))

  byte_near : (p : ℕ → Bool) (i : ℕ) → Near n (one_at p s i) (one_at p s' i)
  unfolding one_at
  byte_near p i = split n i (λ h. rw (← (ag i h)) same) (λ h. far (cond_cases (Far n) (p (get_or s i 0)) (λ q. omega arith) (λ q. h)))

  span_agree : (p : ℕ → Bool) → p 0 ≡ false → (l : List ℕ) (i : ℕ) → drop i s ≡ l → i + prefix_len p l < n → span_at p s' i ≡ i + prefix_len p l
  span_agree p z [] i e h = span_stop p s' i (rw (← (ag i (omega arith)), nil_drop s i e, z)) ∙ sym (add-zero i)
  span_agree p z (x ∷ l) i e h = let r = cons_drop s i x l e in go (p x) refl (span_agree p z l (i + 1) r.2) h
    where
      go : (b : Bool) → p x ≡ b → (i + 1 + prefix_len p l < n → span_at p s' (i + 1) ≡ i + 1 + prefix_len p l) → i + (cond b (1 + prefix_len p l) 0) < n → span_at p s' i ≡ i + (cond b (1 + prefix_len p l) 0)
      go true q f h =
          let r = cons_drop s i x l e in
          let w : p (get_or s' i 0) ≡ true = rw (← (ag i (omega arith)), r.1, q) in
          span_more p s' i (inside_by p s' i z w) w ∙ f (omega arith) ∙ omega arith
      go false q f h = let r = cons_drop s i x l e in span_stop p s' i (rw (← (ag i (omega arith)), r.1, q)) ∙ sym (add-zero i)

  span_near : (p : ℕ → Bool) → p 0 ≡ false → (i : ℕ) → span_at p s i < n → span_at p s' i ≡ span_at p s i
  unfolding span_at
  span_near p z i h = span_agree p z (drop i s) i refl h

  skip_near : (i : ℕ) → skip_at s i < n → skip_at s' i ≡ skip_at s i
  unfolding skip_at is_space
  skip_near i h = span_near is_space refl i h

  some_near : {p q : ℕ → Bool} {G H : Language} → Class p G → Class q H → (i : ℕ) → Near n (some_at p q s i) (some_at p q s' i)
  unfolding some_at
  some_near {q = q} {H = H} c d i =
      then_near {H = Star H} _ _ (byte_near _ i) (λ e. split n (span_at q s e) (λ h. rw (span_near q d.zeroth e h) same) (λ h. far h)) (λ e. let r = span_reads d s e in ended r.1 r.2)

  times_near : {p : ℕ → Bool} {G : Language} → Class p G → Some G → (m i : ℕ) → Near n (times_at p m s i) (times_at p m s' i)
  unfolding times_at
  times_near c h zero i = same
  times_near c h (suc m) i = then_near _ _ (byte_near _ i) (λ e. times_near c h m e) (λ e. times_means c h m s e)

  word_near : (w : List ℕ) (i : ℕ) → Near n (word_at w s i) (word_at w s' i)
  unfolding word_at
  word_near [] i = same
  word_near (x ∷ w) i = then_near _ _ (byte_near _ i) (λ e. word_near w e) (λ e. word_means w s e)

  -- strings
  tails_near : (lo hi m i : ℕ) → Near n (tails_at lo hi m s i) (tails_at lo hi m s' i)
  unfolding tails_at between
  tails_near lo hi m i = then_near _ _ (byte_near _ i) (λ e. times_near (range_class 128 191 refl) some_tail m e) (λ e. times_means (range_class 128 191 refl) some_tail m s e)

  wide_near : (i : ℕ) → i < n → Near n (wide_at s i) (wide_at s' i)
  unfolding wide_at
  wide_near i h =
      let b = get_or s i 0 in
      rw (← (ag i h))
      (cond_near (between 194 223 b) (tails_near 128 191 0 (i + 1))
      (cond_near (is 224 b) (tails_near 160 191 1 (i + 1))
      (cond_near (between 225 236 b) (tails_near 128 191 1 (i + 1))
      (cond_near (is 237 b) (tails_near 128 159 1 (i + 1))
      (cond_near (between 238 239 b) (tails_near 128 191 1 (i + 1)) (cond_near (is 240 b) (tails_near 144 191 2 (i + 1)) (cond_near (between 241 243 b) (tails_near 128 191 2 (i + 1)) (cond_near (is 244 b) (tails_near 128 143 2 (i + 1)) same))))))))

  escape_near : (i : ℕ) → Near n (escape_at s i) (escape_at s' i)
  unfolding escape_at
  escape_near i = near_from (escape_means s i) (λ h. rw (← (ag i h)) (cond_near (is_escape (get_or s i 0)) same (cond_near (is 117 (get_or s i 0)) (times_near hex_class one_hex 4 (i + 1)) same)))

  char_near : (i : ℕ) → Near n (char_at s i) (char_at s' i)
  unfolding char_at
  char_near i = near_from (char_means s i) (λ h. rw (← (ag i h)) (cond_near (is_plain (get_or s i 0)) same (cond_near (is 92 (get_or s i 0)) (escape_near (i + 1)) (wide_near i h))))

  -- numbers
  sign_near : (i : ℕ) → minus_at s i < n → minus_at s' i ≡ minus_at s i
  unfolding minus_at
  sign_near i h = let l : minus_at s i ≡ i + _ = seg_length (sign_reads s i).1 in let k : i < n = omega arith in rw (← (ag i k))

  any_near : (i : ℕ) → sign_at s i < n → sign_at s' i ≡ sign_at s i
  unfolding sign_at minus_at
  any_near i h = let l : sign_at s i ≡ i + _ = seg_length (any_reads s i).1 in let k : i < n = omega arith in rw (← (ag i k))

  -- from a place that both find
  at_place : {G : Language} (k k' : ℕ) (rd rd' : ℕ → Result ℕ Bad) → (k < n → k' ≡ k) → Means G s k (rd k) → Near n (rd k) (rd' k) → Near n (rd k) (rd' k')
  at_place k k' rd rd' f m x = near_from m (λ h. rw (f h) x)

  whole_near : (i : ℕ) → Near n (int_at s i) (int_at s' i)
  unfolding int_at between
  whole_near i = near_from (whole_means s i) (λ h. rw (← (ag i h)) (cond_near (is 48 (get_or s i 0)) same (some_near (range_class 49 57 refl) digit_class i)))

  fraction_near : (i : ℕ) → Near n (fraction_at s i) (fraction_at s' i)
  unfolding fraction_at
  fraction_near i = near_from (fraction_means s i) (λ h. rw (← (ag i h)) (cond_near (is 46 (get_or s i 0)) (some_near digit_class digit_class (i + 1)) same))

  exponent_near : (i : ℕ) → Near n (exponent_at s i) (exponent_at s' i)
  unfolding exponent_at
  exponent_near i =
      near_from (exponent_means s i)
      (λ h. rw (← (ag i h)) (cond_near (is_e (get_or s i 0)) (at_place (sign_at s (i + 1)) (sign_at s' (i + 1)) (some_at is_digit is_digit s) (some_at is_digit is_digit s') (any_near (i + 1)) (some_means digit_class digit_class one_digit s (sign_at s (i + 1))) (some_near digit_class digit_class (sign_at s (i + 1)))) same))

  number_near : (i : ℕ) → Near n (number_at s i) (number_at s' i)
  unfolding number_at
  number_near i =
      then_near {H = Opt Frac · Opt Exp} _ _ (at_place (minus_at s i) (minus_at s' i) (int_at s) (int_at s') (sign_near i) (whole_means s (minus_at s i)) (whole_near (minus_at s i)))
      (λ j. then_near {H = Opt Exp} _ _ (fraction_near j) exponent_near (exponent_means s)) (λ j. then_means _ (fraction_means s j) ([], left word) (λ k. exponent_means s k))

  -- loops
  run_near : {L : Language} (step step' : ℕ → Result Next Bad) → Some L → ((j : ℕ) → Steps L s j (step j)) → ((j : ℕ) → Steps L s' j (step' j)) → ((j : ℕ) → NearNext n (step j) (step' j)) → (f f' i : ℕ) → i ≤ length s → i ≤ length s' → length s < f + i → length s' < f' + i → Near n (run step f i) (run step' f' i)
  unfolding run
  run_near step step' h st st' nr zero f' i a b c d = absurd (omega arith)
  run_near step step' h st st' nr (suc f) zero i a b c d = absurd (omega arith)
  run_near step step' h st st' nr (suc f) (suc f') i a b c d =
      after_near _ _ (nr i)
      (λ k e e'. let p = progress k (st i) e in let q = progress k (st' i) e' in run_near step step' h st st' nr f f' k p.1 q.1 (omega arith) (omega arith))
      (λ k l. late n l (run_means step h st f k))

  loop_near : {L : Language} (step step' : ℕ → Result Next Bad) → Some L → ((j : ℕ) → Steps L s j (step j)) → ((j : ℕ) → Steps L s' j (step' j)) → ((j : ℕ) → NearNext n (step j) (step' j)) → (i : ℕ) → Near n (run step (suc (length s)) i) (run step' (suc (length s')) i)
  unfolding run
  loop_near step step' h st st' nr i =
      after_near _ _ (nr i)
      (λ k e e'. let p = progress k (st i) e in let q = progress k (st' i) e' in run_near step step' h st st' nr (length s) (length s') k p.1 q.1 (omega arith) (omega arith))
      (λ k l. late n l (run_means step h st (length s) k))

  quote_near : (i : ℕ) → NearNext n (quote_or_char_at s i) (quote_or_char_at s' i)
  unfolding quote_or_char_at
  quote_near i = split n i (λ h. rw (← (ag i h)) (cond_next (is 34 (get_or s i 0)) same (into_near _ _ (char_near i) (λ e. same) (λ e l. l)))) (λ h. far (late_step n h (char_steps s i)))

  text_near : (i : ℕ) → Near n (string_at s i) (string_at s' i)
  unfolding string_at
  text_near i = loop_near (quote_or_char_at s) (quote_or_char_at s') (34 ∷ [], pair none word) (char_steps s) (char_steps s') quote_near i

  -- structure
  token_near : (b i : ℕ) → Near n (token_at b s i) (token_at b s' i)
  unfolding token_at
  token_near b i = at_place (skip_at s i) (skip_at s' i) (one_at (is b) s) (one_at (is b) s') (skip_near i) (byte_means (eq_class b) (some_word _) s (skip_at s i)) (byte_near _ (skip_at s i))

  next_near : (b i : ℕ) → NearNext n (next_at b s i) (next_at b s' i)
  unfolding next_at
  next_near b i = split n (skip_at s i) (λ h. rw (skip_near i h, ← (ag (skip_at s i) h)) same) (λ h. far (cond_cases (FarNext n) (is b (get_or s (skip_at s i) 0)) (λ q. omega arith) (λ q. cond_cases (FarNext n) (is 44 (get_or s (skip_at s i) 0)) (λ q. omega arith) (λ q. h))))

  key_near : (i : ℕ) → Near n (key_at s i) (key_at s' i)
  unfolding key_at
  key_near i =
      then_near {H = (Star Char · Byte 0x22) · Ws · Byte 0x3A} _ _ (token_near 34 i) (λ q. then_near {H = Ws · Byte 0x3A} _ _ (text_near q) (token_near 58) (token_means 58 s))
      (λ q. then_means _ (text_means s q) (some_pair some_star (some_word _)) (λ e. token_means 58 s e))

  token_same : (b i : ℕ) → skip_at s i < n → token_at b s' i ≡ token_at b s i
  unfolding token_at one_at
  token_same b i h = rw (skip_near i h, ← (ag (skip_at s i) h))

  -- an array or an object looks past white space first
  module _ {G : Language} (h : Some G) (rd rd' : ℕ → Result ℕ Bad) (m : (i : ℕ) → Means G s i (rd i)) (m' : (i : ℕ) → Means G s' i (rd' i)) (nr : (i : ℕ) → Near n (rd i) (rd' i)) where
    value_near : (j : ℕ) → Near n (rd (skip_at s j)) (rd' (skip_at s' j))
    value_near j = at_place (skip_at s j) (skip_at s' j) rd rd' (skip_near j) (m (skip_at s j)) (nr (skip_at s j))

    element_near : (j : ℕ) → NearNext n (element_at rd s j) (element_at rd' s' j)
    unfolding element_at
    element_near j = into_near _ _ (value_near j) (next_near 93) (λ e l. late_follow n l (next_follows 93 s e))

    member_near : (j : ℕ) → NearNext n (member_at rd s j) (member_at rd' s' j)
    unfolding member_at
    member_near j =
        into_near _ _ (then_near {H = Ws · G} _ _ (key_near j) value_near (λ v. reads_means (ws_reads s v) (m (skip_at s v)))) (next_near 125) (λ e l. late_follow n l (next_follows 125 s e))

    array_skip : (i : ℕ) → array_at rd s i ≡ array_at rd s (skip_at s i)
    unfolding array_at run element_at token_at
    array_skip i = rw (← (skip_twice s i))

    object_skip : (i : ℕ) → object_at rd s i ≡ object_at rd s (skip_at s i)
    unfolding object_at run member_at key_at token_at
    object_skip i = rw (← (skip_twice s i))

    array_near : (i : ℕ) → Near n (array_at rd s i) (array_at rd' s' i)
    unfolding array_at
    array_near i =
        split n (skip_at s i) (λ l. rw (token_same 93 i l) (else_near (token_at 93 s i) (loop_near (element_at rd s) (element_at rd' s') (some_items 93 h) (element_steps h s rd m) (element_steps h s' rd' m') element_near i)))
        (λ l. far (subst⁻¹ (Far n) (array_skip i) (late n l (array_means h s rd m (skip_at s i)))))

    object_near : (i : ℕ) → Near n (object_at rd s i) (object_at rd' s' i)
    unfolding object_at
    object_near i =
        split n (skip_at s i) (λ l. rw (token_same 125 i l) (else_near (token_at 125 s i) (loop_near (member_at rd s) (member_at rd' s') (some_items 125 (some_member h s rd m)) (member_steps h s rd m) (member_steps h s' rd' m') member_near i)))
        (λ l. far (subst⁻¹ (Far n) (object_skip i) (late n l (object_means h s rd m (skip_at s i)))))

  start_near : (t : Start) (i : ℕ) (arr arr' obj obj' : ℕ → Result ℕ Bad) → Near n (arr (i + 1)) (arr' (i + 1)) → Near n (obj (i + 1)) (obj' (i + 1)) → Near n (by_start t s i arr obj) (by_start t s' i arr' obj')
  start_near Start.Array i arr arr' obj obj' a o = a
  start_near Start.Object i arr arr' obj obj' a o = o
  start_near Start.Text i arr arr' obj obj' a o = text_near (i + 1)
  start_near Start.True i arr arr' obj obj' a o = word_near _ i
  start_near Start.False i arr arr' obj obj' a o = word_near _ i
  start_near Start.Null i arr arr' obj obj' a o = word_near _ i
  start_near Start.Number i arr arr' obj obj' a o = number_near i
  start_near Start.Nothing i arr arr' obj obj' a o = same

  values_near : (d i : ℕ) → Near n (value_at d s i) (value_at d s' i)
  unfolding value_at
  values_near zero i = near_from (value_means zero s i) (λ h. rw (← (ag i h)) (start_near (start_of (get_or s i 0)) i (λ j. refused i) (λ j. refused i) (λ j. refused i) (λ j. refused i) same same))
  values_near (suc d) i =
      near_from (value_means (suc d) s i)
      (λ h. rw (← (ag i h)) (start_near (start_of (get_or s i 0)) i (λ j. array_at (value_at d s) s j) (λ j. array_at (value_at d s') s' j) (λ j. object_at (value_at d s) s j) (λ j. object_at (value_at d s') s' j)
      (array_near (some_value d) (value_at d s) (value_at d s') (value_means d s) (value_means d s') (values_near d) (i + 1)) (object_near (some_value d) (value_at d s) (value_at d s') (value_means d s) (value_means d s') (values_near d) (i + 1))))

  stop_near : n ≤ length s → n ≤ length s' → (k : ℕ) → k < n → Near n (stop s k) (stop s' k)
  unfolding stop
  stop_near a b k l = rw (lt-ltb k (length s) (omega arith), lt-ltb k (length s') (omega arith)) same

  stop_far : (k : ℕ) → n ≤ k → Far n (stop s k)
  unfolding stop
  stop_far k l = cond_cases (Far n) (ltb k (length s)) (λ q. l) (λ q. l)

  texts_near : n ≤ length s → n ≤ length s' → (d : ℕ) → Near n (text_of d s) (text_of d s')
  unfolding text_of
  texts_near a b d =
      then_near {H = Ws} _ _ (at_place (skip_at s 0) (skip_at s' 0) (value_at d s) (value_at d s') (skip_near 0) (value_means d s (skip_at s 0)) (values_near d (skip_at s 0)))
      (λ e. split n (skip_at s e) (λ l. rw (skip_near e l) (stop_near a b (skip_at s e) l)) (λ l. far (stop_far (skip_at s e) l))) (stop_means s)

-- taken exactly when it is a JSON text nested at most d deep
pub decides : (d : ℕ) (s : List ℕ) → (text_of d s ≡ Ok (length s)) ↔ Text d s
decides d s = (sound d s (length s), complete d s)

clash : {r t : Result ℕ Bad} (k e : ℕ) → Near (k + 1) r t → r ≡ refused k → t ≡ Ok e → ⊥
clash k e same p q = let z : ◌≡◌ {A = ℕ} 0 1 = cc in omega arith
clash {r = Ok m} k e (far h) p q = let z : ◌≡◌ {A = ℕ} 0 1 = cc in omega arith
clash {r = Err m} k e (far h) p q = let z : m.at ≡ k = cc in omega arith

begins_here : (s x : List ℕ) (m j : ℕ) → m ≤ length s → j < m → get_or s j 0 ≡ get_or (take m s ++ x) j 0
begins_here s x m j h l =
    let n = length-take-le m s h in
    sym (get_or-append (take m s) x 0 j (omega arith) ∙ get_or-take m s j 0 l)

pub place : (d : ℕ) (s : List ℕ) (k : ℕ) → text_of d s ≡ refused k → Place d s k
place d s k q = record { fits = go (subst (λ r. Means (Text d) s 0 r) q (text_means_of d s)); begins = viable d s k q; longest = late_one }
  where
    go : Means (Text d) s 0 (refused k) → k ≤ length s
    go (bad z x a) = split k 0 (λ h. seg_end x h) (λ h. omega arith)

    late_one : (m : ℕ) → k < m → m ≤ length s → Begins d (take m s) → ⊥
    late_one m l h b =
        let n = length-take-le m s h in
        let y = length-append (take m s) b.0 in
        clash k _ (texts_near s (take m s ++ b.0) (k + 1) (λ j w. begins_here s b.0 m j h (omega arith)) (omega arith) (omega arith) d) q (complete d _ b.1)

pub judged : (d : ℕ) (s : List ℕ) (r : Result ℕ Bad) → r ≡ text_of d s → Judged d s r
unfolding Judged
judged d s (Ok e) q = let t = sound d s e (sym q) in let c = complete d s t in (cc, t)
judged d s (Err b) q = ((λ t. let c = complete d s t in let z : ◌≡◌ {A = ℕ} 0 1 = cc in omega arith), place d s b.at (sym q))

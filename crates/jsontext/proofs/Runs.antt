-- Laws of the loops: runs of bytes of a class, fixed words, and steps up to one that is done. In each, `w` is what the whole
-- gives and the invariant says that the rest from here gives the same. Assumes nothing.
use Prim.Native.Nat.{ℕ, zero, suc, ◌+◌, ◌-◌, ◌^◌, ◌≤◌, ◌<◌, max}
use mir.Syntax.{w64}
use mir.Val.{Fits}
use mathlib.Core.Path.{◌≡◌, ap, sym, ◌∙◌}
use mathlib.Core.List.{List}
use mathlib.Core.Bool.{Bool, true, false}
use native.Mathlib.Numerals.{add-one}
use native.Mathlib.Nat.{max-eq_left, max-eq_right}
use native.Mathlib.Omega.{arith}
use lib.ListN.{length, get_or, drop, drop_of_length-le}
use lib.Seq.{drop-cons}
use Rattle.text.proofs.ByteLaws.{inside}
use Rattle.jsontext.specs.declared.Bad.{Bad}
use Rattle.std.specs.Prelude.{Result, Ok, Err}
use Rattle.std.specs.Result.{IsErrAnd}
use Rattle.std.proofs.lemmas.Result.{err_from_is_err_and}
use Rattle.jsontext.specs.declared.Next.{Next}
use Rattle.jsontext.specs.declared.Next.TheVariants.{Done, More}
use Rattle.jsontext.specs.Reading.{refused, ◌>>=◌, is, span_at, one_at, times_at, word_at, run, after}
use Rattle.jsontext.proofs.Sound.{split, Steps, finish, onward, wrong, seg_end}
use Rattle.jsontext.proofs.Complete.{span_more, span_stop, span_end}

-- what a `?` passes on
pub passed : {A : Type 0} {b : Bad} {x w : Result A Bad} → IsErrAnd x (λ y. y ≡ b) → Err b ≡ w → x ≡ w
passed {x = x} h q = let p = err_from_is_err_and x h in p.1 ∙ ap Err p.2 ∙ q

-- the place after a byte that is there fits
pub past_is : (s : List ℕ) (at b k : ℕ) → length s < 2 ^ 64 → b ≡ get_or s at 0 → b ≡ k → 0 < k → Fits w64 (at + 1)
past_is s at b k l e q h = let m : at < length s = inside s at (omega arith) in omega arith

-- as many bytes of a class as there are
module _ (p : ℕ → Bool) (s : List ℕ) (i : ℕ) {w : ℕ} (inv : w ≡ span_at p s i) where
  pub span_out : length s ≤ i → i ≡ w
  span_out l = sym (inv ∙ span_end p s i l)

  module _ (l : i < length s) {t : Bool} (e : t ≡ p (get_or s i 0)) where
    pub span_not : t ≡ false → i ≡ w
    span_not q = sym (inv ∙ span_stop p s i (sym e ∙ q))

    pub span_on : t ≡ true → w ≡ span_at p s (i + 1)
    span_on q = inv ∙ span_more p s i l (sym e ∙ q)

-- where a loop from `at` to the end of the text stops
pub span_past : (at l i : ℕ) → at ≤ i → l ≤ i → (l < i → i ≡ at) → max at l ≡ i
span_past at l i h m f = split i l (λ n. let e : i ≡ at = f n in max-eq_left (omega arith) ∙ sym e) (λ n. max-eq_right (omega arith) ∙ omega arith)

-- so many bytes of a class: c of n are read
module _ (p : ℕ → Bool) (s : List ℕ) (n c i : ℕ) {w : Result ℕ Bad} (inv : w ≡ times_at p (n - c) s i) where
  pub times_done : n ≤ c → Ok i ≡ w
  unfolding times_at
  times_done h = let z : n - c ≡ 0 = omega arith in sym (rw z at inv)

  module _ (h : c < n) {r : Result ℕ Bad} (e : r ≡ one_at p s i) where
    times_next : w ≡ (r >>= (λ k. times_at p (n - (c + 1)) s k))
    unfolding times_at
    times_next = let z : n - c ≡ suc (n - (c + 1)) = omega arith in rw e (rw z at inv)

    pub times_stop : {b : Bad} → r ≡ Err b → Err b ≡ w
    times_stop q = sym (rw q at times_next)

    pub times_on : {k : ℕ} → r ≡ Ok k → w ≡ times_at p (n - (c + 1)) s k
    times_on q = rw q at times_next

-- named by docs/PORT.md: they stand, though no proof cites them now
pub times_not : (p : ℕ → Bool) (s : List ℕ) (n i : ℕ) {w : Result ℕ Bad} → w ≡ times_at p n s i → 0 < n → {b : ℕ} → b ≡ get_or s i 0 → {t : Bool} → t ≡ p b → t ≡ false → refused i ≡ w
unfolding times_at one_at
times_not p s zero i inv h e f q = absurd (omega arith)
times_not p s (suc n) i inv h e {t} f q = sym (rw (← e, ← f, q) at inv)

-- fixed bytes
module _ (v s : List ℕ) (n i : ℕ) {w : Result ℕ Bad} (inv : w ≡ word_at (drop n v) s i) where
  pub word_end : length v ≤ n → Ok i ≡ w
  unfolding word_at
  word_end h = sym (rw (drop_of_length-le v h) at inv)

  module _ (h : n < length v) {r : Result ℕ Bad} (e : r ≡ one_at (is (get_or v n 0)) s i) where
    word_next : w ≡ (r >>= (λ k. word_at (drop (n + 1) v) s k))
    unfolding word_at
    word_next = rw (e, add-one) (rw (drop-cons v n 0 h) at inv)

    pub word_stop : {b : Bad} → r ≡ Err b → Err b ≡ w
    word_stop q = sym (rw q at word_next)

    pub word_on : {k : ℕ} → r ≡ Ok k → w ≡ word_at (drop (n + 1) v) s k
    word_on q = rw q at word_next

-- a step that goes on gets further, and not past the end
abbrev pub NextPast : List ℕ → ℕ → Result Next Bad → Type 0
NextPast s i (Ok (Done k)) = Unit {0}
NextPast s i (Ok (More k)) = (i < k) × (k ≤ length s)
NextPast s i (Err b) = Unit {0}

pub steps_past : {G : List ℕ → Type 0} {s : List ℕ} {i : ℕ} {n : Result Next Bad} → Steps G s i n → NextPast s i n
steps_past (finish x a) = tt
steps_past (onward x l a) = (l, seg_end x l)
steps_past (wrong z x a) = tt

-- a loop over a run's steps: what is left of the run gives the whole's answer
pub record Going (step : ℕ → Result Next Bad) (s : List ℕ) (whole : Result ℕ Bad) (j : ℕ) : Type 0 where
  pub fuel : ℕ
  pub enough : length s - j < fuel
  pub same : whole ≡ run step fuel j

-- one step of the run
turn : (step : ℕ → Result Next Bad) (m : ℕ) (w : Result ℕ Bad) (j f : ℕ) → m < f → w ≡ run step f j → (g : ℕ) × (m < suc g) × (w ≡ after (step j) (λ k. run step g k))
unfolding run
turn step m w j zero l q = absurd (omega arith)
turn step m w j (suc g) l q = (g, l, q)

pub going_from : (step : ℕ → Result Next Bad) (s : List ℕ) (at : ℕ) (w : Result ℕ Bad) → w ≡ run step (suc (length s)) at → Going step s w at
going_from step s at w q = record { fuel = suc (length s); enough = omega arith; same = q }

pub going_bad : {step : ℕ → Result Next Bad} {s : List ℕ} {w : Result ℕ Bad} {j : ℕ} → Going step s w j → {b : Bad} → Err b ≡ step j → Err b ≡ w
going_bad {step} {s} {w} {j} h u = let t = turn step (length s - j) w j h.fuel h.enough h.same in sym (rw (← u) at t.2)

module _ {step : ℕ → Result Next Bad} {s : List ℕ} {w : Result ℕ Bad} {j : ℕ} (h : Going step s w j) (n : Result Next Bad) (u : n ≡ step j) where
  pub going_done : {m : Next} → n ≡ Ok m → {k : ℕ} → m ≡ Done k → Ok k ≡ w
  going_done r e = let t = turn step (length s - j) w j h.fuel h.enough h.same in sym (rw (← u, r, e) at t.2)

  pub going_wrong : {b : Bad} → n ≡ Err b → Err b ≡ w
  going_wrong r = let t = turn step (length s - j) w j h.fuel h.enough h.same in sym (rw (← u, r) at t.2)

  module _ (up : (i : ℕ) → NextPast s i (step i)) where
    pub going_on : {m : Next} → n ≡ Ok m → {k : ℕ} → m ≡ More k → Going step s w k
    going_on r {k} e =
        let t = turn step (length s - j) w j h.fuel h.enough h.same in
        let m : NextPast s j (Ok (More k)) = rw (← u, r, e) at (up j) in
        let v : length s - j < suc t.0 = t.1 in
        record { fuel = t.0; enough = omega arith; same = rw (← u, r, e) at t.2 }

    pub going_less : {m : Next} → n ≡ Ok m → {k : ℕ} → m ≡ More k → length s - k < length s - j
    going_less r {k} e = let m : NextPast s j (Ok (More k)) = rw (← u, r, e) at (up j) in omega arith

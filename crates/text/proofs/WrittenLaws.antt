-- Laws of `specs/Written.antt`: digits, lengths, and lists put one after the other. Assumes nothing.
use Prim.Native.Nat.{ℕ, zero, suc, ◌+◌, ◌*◌, ◌/◌, ◌%◌, ◌^◌, ◌≤◌, ◌<◌}
use mathlib.Core.Path.{◌≡◌, ◌∙◌}
use mathlib.Core.List.{List, [], ◌∷◌, ◌++◌, append_assoc}
use native.Mathlib.Nat.{add-zero, add-suc, suc-add, pow-suc}
use native.Mathlib.Omega.{arith}
use lib.Dec.{ltb}
use lib.ListN.{length, set, length-append}
use lib.Seq.{sets}
use borrow.Author.Rules.{rules}
use borrow.Author.Tests.{ltb-true, ltb-false, lt-ltb, le-ltb}
use Rattle.text.specs.Written.{decimal_by, decimal, quad, Put}
use Rattle.text.proofs.Tests.{by_test}

-- ## digits
enough : (f g n : ℕ) → n < f → n < g → decimal_by f n ≡ decimal_by g n
unfolding decimal_by
enough zero g n h k = absurd (omega arith)
enough (suc f) zero n h k = absurd (omega arith)
enough (suc f) (suc g) n h k =
    by_test (ltb n 10)
    (λ e. rw (e, decimal_by))
    (λ e. let l : 10 ≤ n = ltb-false n 10 e in rw (e, decimal_by, enough f g (n / 10) (omega arith) (omega arith)))

pub decimal_one : (n : ℕ) → n < 10 → decimal n ≡ (0x30 + n) ∷ []
unfolding decimal decimal_by
decimal_one n h = rw (lt-ltb n 10 h)

-- the last digit split off
pub decimal_more : (n : ℕ) → 10 ≤ n → decimal n ≡ decimal (n / 10) ++ ((0x30 + n % 10) ∷ [])
unfolding decimal decimal_by
decimal_more n h = rw (le-ltb n 10 h, enough n (suc (n / 10)) (n / 10) (omega arith) (omega arith))

pub decimal_two : (n : ℕ) → 10 ≤ n → n < 100 → decimal n ≡ (0x30 + n / 10) ∷ ((0x30 + n % 10) ∷ [])
decimal_two n h k = rw (decimal_more n h, decimal_one (n / 10) (omega arith))

-- the last three digits split off, and a number of just three
pub decimal_thousand : (n : ℕ) → 1000 ≤ n → decimal n ≡ decimal (n / 1000) ++ ((0x30 + n % 1000 / 100) ∷ ((0x30 + n % 1000 / 10 % 10) ∷ ((0x30 + n % 1000 % 10) ∷ [])))
decimal_thousand n h =
    let a : n / 10 / 10 / 10 ≡ n / 1000 = omega arith in
    let b : n / 10 / 10 % 10 ≡ n % 1000 / 100 = omega arith in
    let c : n / 10 % 10 ≡ n % 1000 / 10 % 10 = omega arith in
    let d : n % 10 ≡ n % 1000 % 10 = omega arith in
    decimal_more n (omega arith)
    ∙ rw (decimal_more (n / 10) (omega arith), decimal_more (n / 10 / 10) (omega arith), a, b, c, d) (simp append_assoc)

pub decimal_three : (n : ℕ) → 100 ≤ n → n < 1000 → decimal n ≡ (0x30 + n / 100) ∷ ((0x30 + n / 10 % 10) ∷ ((0x30 + n % 10) ∷ []))
decimal_three n h k =
    let a : n / 10 / 10 ≡ n / 100 = omega arith in
    decimal_more n (omega arith) ∙ rw (decimal_more (n / 10) (omega arith), decimal_one (n / 10 / 10) (omega arith), a)

-- ## lengths
-- a number below 10 ^ k has at most k digits
pub length_below : (k n : ℕ) → n < 10 ^ suc k → length (decimal n) ≤ suc k
length_below zero n h = rw (decimal_one n (omega arith)) (omega arith)
length_below (suc k) n h =
    by_test (ltb n 10)
    (λ e. rw (decimal_one n (ltb-true n 10 e)) (omega arith))
    (λ e. let l : 10 ≤ n = ltb-false n 10 e in
    let p : 10 ^ suc (suc k) ≡ 10 ^ suc k * 10 = pow-suc 10 (suc k) in
    let q : length (decimal (n / 10)) ≤ suc k = length_below k (n / 10) (omega arith) in
    rw (decimal_more n l, length-append (decimal (n / 10)) ((0x30 + n % 10) ∷ [])) (omega arith))

pub length_some : (n : ℕ) → 0 < length (decimal n)
length_some n =
    by_test (ltb n 10)
    (λ e. rw (decimal_one n (ltb-true n 10 e)) (omega arith))
    (λ e. rw (decimal_more n (ltb-false n 10 e), length-append (decimal (n / 10)) ((0x30 + n % 10) ∷ [])) (omega arith))

-- one of 10 ^ k or more has more than k digits
pub length_above : (k n : ℕ) → 10 ^ k ≤ n → k < length (decimal n)
length_above zero n h = length_some n
length_above (suc k) n h =
    let p : 10 ^ suc k ≡ 10 ^ k * 10 = pow-suc 10 k in
    let z : 0 < 10 ^ k = power k in
    let q : k < length (decimal (n / 10)) = length_above k (n / 10) (omega arith) in
    rw (decimal_more n (omega arith), length-append (decimal (n / 10)) ((0x30 + n % 10) ∷ [])) (omega arith)
  where
    power : (k : ℕ) → 0 < 10 ^ k
    power zero = omega arith
    power (suc k) = let h : 0 < 10 ^ k = power k in rw (pow-suc 10 k) (omega arith)

pub length_thousand : (n : ℕ) → 1000 ≤ n → length (decimal n) ≡ length (decimal (n / 1000)) + 3
length_thousand n h = rw (decimal_thousand n h) (length-append (decimal (n / 1000)) _)

pub quad_length : (a : ℕ) → length (quad a) ≡ length (decimal (a / 16777216)) + length (decimal (a / 65536 % 256)) + length (decimal (a / 256 % 256)) + length (decimal (a % 256)) + 3
unfolding quad
quad_length a = simp length-append (omega arith)

-- a quad has at most 15 bytes
pub quad_short : (a : ℕ) → a ≤ 0xFFFFFFFF → length (quad a) ≤ 15
quad_short a h =
    let p : length (decimal (a / 16777216)) ≤ 3 = length_below 2 (a / 16777216) (omega arith) in
    let q : length (decimal (a / 65536 % 256)) ≤ 3 = length_below 2 (a / 65536 % 256) (omega arith) in
    let r : length (decimal (a / 256 % 256)) ≤ 3 = length_below 2 (a / 256 % 256) (omega arith) in
    let t : length (decimal (a % 256)) ≤ 3 = length_below 2 (a % 256) (omega arith) in
    omega (arith, quad_length a)

-- ## what is put
sets_sets : (l : List ℕ) (at : ℕ) (xs ys : List ℕ) → sets (sets l at xs) (at + length xs) ys ≡ sets l at (xs ++ ys)
sets_sets l at [] ys = simp add-zero
sets_sets l at (x ∷ xs) ys = rw (add-suc, ← suc-add) (sets_sets (set l at x) (suc at) xs ys)

-- one after the other
pub and_then : {l m o : List ℕ} {at p r : ℕ} {xs ys : List ℕ} → Put l at xs p m → Put m p ys r o → Put l at (xs ++ ys) r o
and_then {l} {m} {o} {at} {p} {r} {xs} {ys} a b =
    record {
      place = simp length-append (omega (arith, a.place, b.place));
      text = b.text ∙ rw (a.text, a.place) (sets_sets l at xs ys);
    }

-- a number below 1000
module _ {l m : List ℕ} {at r : ℕ} (n : ℕ) where
  pub put_one : n < 10 → Put l at ((0x30 + n) ∷ []) r m → Put l at (decimal n) r m
  put_one h a = rw (decimal_one n h) a

  pub put_two : {o : List ℕ} {p : ℕ} → 10 ≤ n → n < 100 → Put l at ((0x30 + n / 10) ∷ []) p o → Put o p ((0x30 + n % 10) ∷ []) r m → Put l at (decimal n) r m
  put_two h k a b = rw (decimal_two n h k) (and_then a b)

  pub put_three : 100 ≤ n → n < 1000 → Put l at ((0x30 + n / 100) ∷ ((0x30 + n / 10 % 10) ∷ ((0x30 + n % 10) ∷ []))) r m → Put l at (decimal n) r m
  put_three h k a = rw (decimal_three n h k) a

  -- and one from 1000 on
  pub put_thousand : {o : List ℕ} {p : ℕ} → 1000 ≤ n → Put l at (decimal (n / 1000)) p o → Put o p ((0x30 + n % 1000 / 100) ∷ ((0x30 + n % 1000 / 10 % 10) ∷ ((0x30 + n % 1000 % 10) ∷ []))) r m → Put l at (decimal n) r m
  put_thousand h a b = rw (decimal_thousand n h) (and_then a b)

-- a dot between two parts
pub then_dot : {l m o : List ℕ} {at p r : ℕ} (n : ℕ) {ys : List ℕ} → Put l at (decimal n ++ (0x2E ∷ [])) p m → Put m p ys r o → Put l at (decimal n ++ (0x2E ∷ ys)) r o
then_dot n {ys} a b = rw (← append_assoc (decimal n) (0x2E ∷ []) ys) (and_then a b)

pub length_dotted : (n : ℕ) → length (decimal n ++ (0x2E ∷ [])) ≡ length (decimal n) + 1
length_dotted n = length-append (decimal n) (0x2E ∷ [])

pub ruleset writing = (rules, put_one, put_two, put_three, put_thousand)

-- Laws of tests. Assumes nothing.
use Prim.Native.Nat.{ℕ}
use mathlib.Core.Path.{◌≡◌, refl, sym, ◌∙◌}
use mathlib.Core.Bool.{Bool, true, false, cond, ◌&&◌, ◌||◌, or-true, or-false}
use mathlib.Core.Logic.{◌⊎◌, inl, inr}
use native.Mathlib.Omega.{arith}
use borrow.Author.Rules.{rules}

-- a test, by cases, with the equation
pub by_test {ℓ} : {P : Type ℓ} (b : Bool) → (b ≡ true → P) → (b ≡ false → P) → P
by_test true f g = f refl
by_test false f g = g refl

-- no test passes and fails
pub clash {ℓ} : {P : Type ℓ} {b : Bool} → b ≡ true → b ≡ false → P
clash e f = absurd (let z : ◌≡◌ {A = ℕ} 0 1 = cc in omega arith)

-- what holds of both cases holds of a choice
pub cond_cases : {A : Type 0} (P : A → Type 0) (b : Bool) {x y : A} → (b ≡ true → P x) → (b ≡ false → P y) → P (cond b x y)
cond_cases P true f g = f refl
cond_cases P false f g = g refl

-- both parts of a test that passed
pub and_left : (a b : Bool) → (a && b) ≡ true → a ≡ true
and_left true b e = refl
and_left false b e = e

pub and_right : (a b : Bool) → (a && b) ≡ true → b ≡ true
and_right true b e = e
and_right false b e = clash {b = false} e refl

pub and-false : (a : Bool) {b : Bool} → false ≡ b → false ≡ (a && b)
and-false true e = e
and-false false e = refl

pub both : (a b : Bool) → a ≡ true → b ≡ true → (a && b) ≡ true
both a b e f = rw (e, f)

pub split : (a b : Bool) → (a && b) ≡ true → (a ≡ true) × (b ≡ true)
split a b e = (and_left a b e, and_right a b e)

pub or_split : (a b : Bool) → (a || b) ≡ true → (a ≡ true) ⊎ (b ≡ true)
or_split true b e = inl refl
or_split false b e = inr e

pub or_left : (a b : Bool) → a ≡ true → (a || b) ≡ true
or_left a b e = rw e

pub or_right : (a b : Bool) → b ≡ true → (a || b) ≡ true
or_right a b e = rw e (or-true a)

pub or_map : {a b c d : Bool} → (a ≡ true → c ≡ true) → (b ≡ true → d ≡ true) → (a || b) ≡ true → (c || d) ≡ true
or_map {a} {b} {c} {d} f g e = go (or_split a b e)
  where
    go : (a ≡ true) ⊎ (b ≡ true) → (c || d) ≡ true
    go (inl h) = or_left c d (f h)
    go (inr h) = or_right c d (g h)

pub or_else : (a b : Bool) → (a || b) ≡ true → a ≡ false → b ≡ true
or_else a b e f = rw f at e

-- ## code that makes one test after the other
module _ {a p : Bool} (e : a ≡ p) where
  pub and_no : a ≡ false → (q : Bool) → false ≡ (p && q)
  and_no n q = rw (← e, n)

  pub and_on : a ≡ true → {r q : Bool} → r ≡ q → r ≡ (p && q)
  and_on y h = rw (← e, y) h

  pub or_here : a ≡ true → (q : Bool) → true ≡ (p || q)
  or_here y q = rw (← e, y)

  pub or_next : a ≡ false → {r q : Bool} → r ≡ q → r ≡ (p || q)
  or_next n h = rw (← e, n) h

  pub or_last : a ≡ (p || false)
  or_last = e ∙ sym (or-false p)

pub ruleset chained = (rules, and_no, and_on, or_here, or_next, or_last)

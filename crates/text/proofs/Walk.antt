-- A reader whose items lie one behind the other within n bytes needs no more than n + 1 steps.
use Prim.Native.Nat.{ℕ, zero, suc, ◌-◌, ◌≤◌, ◌<◌}
use native.Mathlib.Omega.{arith}
use mathlib.Core.Path.{◌≡◌, refl, ap}
use Rattle.std.specs.Prelude.{Option, Some, None}
use Rattle.text.specs.Walk.{then_walk, walk}

abbrev pub Onward : {A : Type 0} → (ℕ → Option (A × ℕ)) → ℕ → Type 0
Onward {A} rd n = (at : ℕ) (x : A) (k : ℕ) → rd at ≡ Some (x, k) → (at < k) × (k ≤ n)

module _ {A B : Type 0} (z : ℕ → B) (c : A → B → B) (rd : ℕ → Option (A × ℕ)) (n : ℕ) (on : Onward rd n) where
  walk_fuel : (f g at : ℕ) → n - at < f → n - at < g → walk z c rd f at ≡ walk z c rd g at
  unfolding walk
  walk_fuel zero g at h k = absurd (omega arith)
  walk_fuel (suc f) zero at h k = absurd (omega arith)
  walk_fuel (suc f) (suc g) at h k = go (rd at) refl (λ j p q. walk_fuel f g j p q)
    where
      go : (r : Option (A × ℕ)) → rd at ≡ r → ((j : ℕ) → n - j < f → n - j < g → walk z c rd f j ≡ walk z c rd g j)
          → then_walk (rd at) (z at) (λ x j. c x (walk z c rd f j)) ≡ then_walk (rd at) (z at) (λ x j. c x (walk z c rd g j))
      go None e w = rw e
      go (Some (x, j)) e w = rw e (let o = on at x j e in ap (c x) (w j (omega arith) (omega arith)))

  -- one step more
  pub walk_turn : (at k : ℕ) (x : A) → rd at ≡ Some (x, k) → walk z c rd (suc n) at ≡ c x (walk z c rd (suc n) k)
  unfolding walk
  walk_turn at k x e = rw e (let o = on at x k e in ap (c x) (walk_fuel n (suc n) k (omega arith) (omega arith)))

  pub walk_end : (at : ℕ) → rd at ≡ None → walk z c rd (suc n) at ≡ z at
  unfolding walk
  walk_end at e = rw e

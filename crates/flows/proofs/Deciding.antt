-- Laws for the functions that decide whether six numbers are a flow.
use Prim.Native.Nat.{ℕ, ◌≤◌, ◌<◌}
use native.Mathlib.Omega.{arith}
use mathlib.Core.Path.{◌≡◌}
use mathlib.Core.Bool.{true, false, or-true}
use mathlib.Core.List.{[], ◌∷◌}
use lib.Dec.{eqb, ltb}
use borrow.Author.Rules.{rules}
use borrow.Author.Tests.{lt-ltb, le-ltb, eq-eqb, ne_eqb}
use Rattle.flows.specs.Table.{within}
use Rattle.flows.specs.Flow.{flow_numbers, is_flow}
use Rattle.text.proofs.Tests.{by_test}

module _ (p o r q : ℕ) where
  pub suits_tcp : p ≡ 6 → true ≡ flow_numbers p o r q
  unfolding flow_numbers
  suits_tcp e = simp (eq-eqb p 6 e, or-true)

  module _ (n : p ≡ 6 → ⊥) where
    pub suits_opened : (o ≡ 0 → ⊥) → false ≡ flow_numbers p o r q
    unfolding flow_numbers
    suits_opened e = rw (ne_eqb o 0 e, ne_eqb p 6 n)

    module _ (z : o ≡ 0) where
      pub suits_udp : p ≡ 17 → true ≡ flow_numbers p o r q
      unfolding flow_numbers
      suits_udp e = simp (eq-eqb o 0 z, eq-eqb p 17 e, or-true)

      module _ (m : p ≡ 17 → ⊥) where
        pub suits_remote : (r ≡ 0 → ⊥) → false ≡ flow_numbers p o r q
        unfolding flow_numbers
        suits_remote e = rw (eq-eqb o 0 z, ne_eqb r 0 e, ne_eqb p 6 n, ne_eqb p 17 m)

        pub suits_device : r ≡ 0 → eqb q 0 ≡ flow_numbers p o r q
        unfolding flow_numbers
        suits_device e = rw (eq-eqb o 0 z, eq-eqb r 0 e, ne_eqb p 6 n, ne_eqb p 17 m) (by_test (eqb q 0) (λ d. rw d) (λ d. rw d))

module _ (d p o a r q : ℕ) where
  pub flow_direction : 1 < d → false ≡ is_flow (d ∷ (p ∷ (o ∷ (a ∷ (r ∷ (q ∷ []))))))
  unfolding is_flow within
  flow_direction h = rw (le-ltb d 2 h)

  pub flow_opener : 1 < o → false ≡ is_flow (d ∷ (p ∷ (o ∷ (a ∷ (r ∷ (q ∷ []))))))
  unfolding is_flow within
  flow_opener h =
      by_test (ltb d 2) (λ i. by_test (ltb p 256) (λ j. rw (i, j, le-ltb o 2 h)) (λ j. rw (i, j))) (λ i. rw i)

  pub flow_suits : d ≤ 1 → o ≤ 1 → p < 256 → a < 4294967296 → r < 65536 → q < 65536
      → flow_numbers p o r q ≡ is_flow (d ∷ (p ∷ (o ∷ (a ∷ (r ∷ (q ∷ []))))))
  unfolding is_flow within
  flow_suits hd ho hp ha hr hq =
      rw (lt-ltb d 2 (omega arith), lt-ltb p 256 hp, lt-ltb o 2 (omega arith), lt-ltb a 4294967296 ha, lt-ltb r 65536 hr, lt-ltb q 65536 hq)

pub ruleset deciding = (rules, suits_tcp, suits_opened, suits_udp, suits_remote, suits_device, flow_direction, flow_opener)

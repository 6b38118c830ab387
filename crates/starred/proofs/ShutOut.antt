-- SHUT OUT BY NAME (document 01, 'How much each promise must say'): no builder that keeps the promise is one of these. Assumes nothing.
use Rattle.std.specs.Prelude.{Err, Ok, Result}
use Prim.Native.Nat.{ℕ}
use mathlib.Core.Path.{◌≡◌, sym, ap, ◌∙◌}
use mathlib.Core.List.{List, [], ◌∷◌}
use native.Mathlib.Omega.{arith}
use lib.ListN.{length, get_or}
use Rattle.gateway.specs.declared.Reason.{Reason}
use Rattle.gateway.specs.Answer.{table_for, sized, answer_of, reply_after}
use Rattle.gateway.specs.Promise.{Builder, Meets}
use Rattle.starred.specs.Cases.{Hold, cases, no_policies, everything, both_ways, program, program_with_drop, cloud_site}
use Rattle.gateway.proofs.Demands.{taken_exactly_when}
use Rattle.starred.proofs.Cases.{cases_hold}

module _ (b : Builder) (m : Meets b) where
  -- "one that invents the line count (2: it is the number of lines of the table defined above)"
  pub invents_no_count : (file site reply work : List ℕ) (n : ℕ) → (b file site reply work).answer ≡ Ok n → n ≡ length (table_for file site)
  invents_no_count file site reply work n e = ((taken_exactly_when file site (length reply) (length work) n).0 (sym (m file site reply work).answer ∙ e)).2

  -- "one that leaves the buffer untouched (1 and 2)": shown where a buffer of one byte is refused
  pub touches_the_buffer : ¬ ((file site reply work : List ℕ) → (b file site reply work).bytes ≡ reply)
  unfolding answer_of reply_after sized
  touches_the_buffer u =
      let q = sym (u [] [] (1 ∷ []) []) ∙ (m [] [] (1 ∷ []) []).bytes in
      let z : ◌≡◌ {A = ℕ} 1 0 = ap (λ l. get_or l 0 0) q in omega arith

  -- buffers of the right sizes, and the starred cases
  module _ (reply work : List ℕ) (r : length reply ≡ 36864) (w : length work ≡ 16290) where
    h : Hold cases
    h = cases_hold

    answers : (file site : List ℕ) → (b file site reply work).answer ≡ answer_of file site 36864 16290
    answers file site = (m file site reply work).answer ∙ rw (r, w)

    writes : (file site : List ℕ) → (b file site reply work).bytes ≡ reply_after file site 36864 16290
    writes file site = (m file site reply work).bytes ∙ rw (r, w)

    -- "a builder that refuses everything (demand 2, taken exactly when)"
    pub takes_something : ¬ ((file site : List ℕ) → (x : Reason) × ((b file site reply work).answer ≡ Err x))
    unfolding cases
    takes_something f =
        let q : ◌≡◌ {A = Result ℕ Reason} (Ok 0) (Err (f no_policies []).0) = sym h.0 ∙ (sym (answers no_policies []) ∙ (f no_policies []).1) in
        let z : ◌≡◌ {A = ℕ} 0 1 = cc in omega arith

    -- "one that writes one fixed table (2; and 3 rests on 2's flows)"
    pub no_fixed_table : (fixed : List ℕ) → ¬ ((file site : List ℕ) (n : ℕ) → (b file site reply work).answer ≡ Ok n → (b file site reply work).bytes ≡ fixed)
    unfolding cases
    no_fixed_table fixed f =
        let x = f no_policies [] 0 (answers no_policies [] ∙ h.0) in
        let y = f everything [] 5 (answers everything [] ∙ h.2.0) in
        let q = sym h.1 ∙ (sym (writes no_policies []) ∙ (x ∙ (sym y ∙ (writes everything [] ∙ h.2.1)))) in
        let z : ◌≡◌ {A = ℕ} 0 48 = ap (λ l. get_or l 0 0) q in omega arith

    -- "one that reads the first list or entry and skips the others (2, first match over all)": an entry more, and a list more, change the reply
    pub reads_every_entry : ¬ ((b program_with_drop cloud_site reply work).answer ≡ (b program cloud_site reply work).answer)
    unfolding cases
    reads_every_entry e =
        let q : ◌≡◌ {A = Result ℕ Reason} (Ok 2) (Ok 3) = sym h.2.2.2.2.2.2.2.2.0 ∙ (sym (answers program_with_drop cloud_site) ∙ (e ∙ (answers program cloud_site ∙ h.2.2.2.2.2.2.2.0))) in
        let z : ◌≡◌ {A = ℕ} 2 3 = cc in omega arith

    pub reads_every_list : ¬ ((b both_ways [] reply work).bytes ≡ (b everything [] reply work).bytes)
    unfolding cases
    reads_every_list e =
        let q = sym h.2.2.1 ∙ (sym (writes both_ways []) ∙ (e ∙ (writes everything [] ∙ h.2.1))) in
        let z : ◌≡◌ {A = ℕ} 49 48 = ap (λ l. get_or l 2 0) q in omega arith

-- Laws of finding lists by their names while entries are read: the names stand above the words that are written. Assumes nothing.
use Rattle.std.specs.Prelude.{Option}
use Prim.Native.Nat.{ℕ, suc, ◌+◌, ◌*◌, ◌-◌, ◌≤◌}
use native.Mathlib.Omega.{arith}
use mathlib.Core.Path.{◌≡◌, refl, sym, ap, ◌∙◌}
use mathlib.Core.List.{List, [], ◌∷◌, ◌++◌}
use lib.Dec.{ltb}
use lib.ListN.{length, drop, get_or, set, length-append, length-drop}
use lib.Seq.{sets, get_or-set_other, get_or-append-add, get_or-drop}
use borrow.Author.Tests.{ltb-true}
use Rattle.text.proofs.Tests.{by_test}
use Rattle.flows.specs.declared.Direction.{Direction}
use Rattle.values.specs.Tree.{Json, Elements}
use Rattle.lists.specs.Index.{Indexed}
use Rattle.lists.proofs.Gathering.{indexed_same, index_file, index_inner}
use Rattle.naming.specs.Masks.{network_words}
use Rattle.rules.specs.Rows.{rule_words}
use Rattle.rules.proofs.RowsHold.{rule_long}
use Rattle.reading.specs.declared.Tally.{Tally}
use Rattle.reading.specs.Walked.{more, put_at, put_all, rows_of, Walked}
use Rattle.reading.proofs.Walking.{put_long, walking}
use Rattle.reading.proofs.Held.{networks_long}
use Rattle.reading.proofs.Whole.{reads}

sets_above : (l : List ℕ) (i : ℕ) (xs : List ℕ) (k : ℕ) → i + length xs ≤ k → get_or (sets l i xs) k 0 ≡ get_or l k 0
sets_above l i [] k h = refl
sets_above l i (x ∷ xs) k h = sets_above (set l i x) (suc i) xs k (omega arith) ∙ get_or-set_other l i k x 0 (λ z. omega arith)

put_above : (d : Direction) (site url : List ℕ) (es : List Json) (n : ℕ) (w : List ℕ) (k : ℕ) → 1555 ≤ k → get_or (put_all n (rows_of d site url es) w) k 0 ≡ get_or w k 0
unfolding put_all put_at
put_above d site url [] n w k h = refl
put_above d site url (e ∷ es) n w k h =
    put_above d site url es (more n) (put_at n (rule_words d site url e) w) k h
    ∙ by_test (ltb n 64) (λ q. rw q (sets_above w (169 + 21 * n) (rule_words d site url e) k (omega (arith, ltb-true n 64 q, rule_long d site url e)))) (λ q. rw q)

module _ (s : List ℕ) (lists : Elements) (x : Option ℕ) where
  pub index_walked : {d : Direction} {site url : List ℕ} {es : List Json} {t r : Tally} {w m : List ℕ} → Walked d site url es t w r m → Indexed s lists w x → Indexed s lists m x
  index_walked {d} {site} {url} {es} {t} {r} {w} {m} a g =
      indexed_same s lists w m x (ap length a.words ∙ put_long t.count (rows_of d site url es) w) (λ k l. ap (λ (y : List ℕ). get_or y k 0) a.words ∙ put_above d site url es t.count w k l) g

  pub index_loaded : (site w : List ℕ) {m : List ℕ} → m ≡ network_words site ++ drop 64 w → 64 ≤ length w → Indexed s lists w x → Indexed s lists m x
  index_loaded site w {m} e l g =
      let n = networks_long site in
      indexed_same s lists w m x (ap length e ∙ length-append (network_words site) (drop 64 w) ∙ omega (arith, length-drop 64 w))
      (λ k o.
      let z : length (network_words site) + (k - 64) ≡ k = omega arith in
      let y : 64 + (k - 64) ≡ k = omega arith in
      ap (λ (v : List ℕ). get_or v k 0) e ∙ ap (λ (v : ℕ). get_or (network_words site ++ drop 64 w) v 0) (sym z) ∙ get_or-append-add (network_words site) (drop 64 w) (k - 64) 0 ∙ get_or-drop 64 w (k - 64) 0 ∙ ap (λ (v : ℕ). get_or w v 0) y)
      g

pub ruleset finding = (walking, index_walked, index_file, index_inner)

pub ruleset found = (reads, index_walked, index_loaded)

-- The document's starred cases, from bytes to bytes: what one computed test has to show. Assumes nothing.
use Rattle.std.specs.Prelude.{Ok}
use Prim.Native.Nat.{ℕ, zero, suc, ◌-◌, ◌<◌}
use mathlib.Core.Path.{◌≡◌, refl, sym, ap, ◌∙◌}
use mathlib.Core.Bool.{Bool, true, false, not, ◌&&◌}
use mathlib.Core.List.{List, [], ◌∷◌, ◌++◌}
use native.Mathlib.Omega.{arith}
use lib.Dec.{eqb, leb}
use lib.ListN.{length, get_or, replicate}
use borrow.Author.Tests.{eqb-true, leb-true, not-true}
use Rattle.text.specs.Words.{same_bytes}
use Rattle.text.proofs.Tests.{and_left, and_right, split}
use Rattle.text.proofs.WordLaws.{same_iff}
use Rattle.flows.specs.Table.{Point, Table}
use Rattle.flows.specs.Flow.{widths}
use Rattle.flows.specs.Rules.{Rule, let_through, flow_rules}
use Rattle.flows.specs.Cells.{cell_table, cuts_of}
use Rattle.flows.proofs.Meaning.{same_table}
use Rattle.flows.proofs.FlowRules.{by_elementary_intervals}
use Rattle.site.specs.Site.{judged}
use Rattle.values.specs.Tree.{Json, tree_of}
use Rattle.rules.specs.Read.{all_known, all_sound}
use Rattle.rules.specs.Meaning.{lets}
use Rattle.stored.specs.Text.{table_text}
use Rattle.gateway.specs.Answer.{table_for, answer_of, reply_after}
use Rattle.gateway.specs.Order.{conditions}
use Rattle.gateway.specs.Promise.{Keeps}
use Rattle.starred.specs.Cases.{Case, takes, Hold}
use Rattle.gateway.proofs.Kept.{kept}
use Rattle.gateway.proofs.Demands.{taken_exactly_when, taken_leaves_the_lines}

-- the first k rows do not hold
unfoldable pub rows_off : ℕ → List Bool → Bool
rows_off zero bs = true
rows_off (suc k) [] = true
rows_off (suc k) (b ∷ bs) = not b && rows_off k bs

off : (k : ℕ) (bs : List Bool) → rows_off k bs ≡ true → (j : ℕ) → j < k → get_or bs j false ≡ false
unfolding rows_off
off zero bs e j h = absurd (omega arith)
off (suc k) [] e j h = refl
off (suc k) (b ∷ bs) e zero h = not-true b (and_left (not b) (rows_off k bs) e)
off (suc k) (b ∷ bs) e (suc j) h = off k bs (and_right (not b) (rows_off k bs) e) j (omega arith)

-- the table of some rules, by one value for each elementary interval
unfoldable pub table_by : List Rule → Table
table_by rs = cell_table (cuts_of widths (flow_rules ++ rs)) (flow_rules ++ rs)

unfoldable pub fits : ℕ → List ℕ → Table → Bool
fits count lines t = eqb count (length t) && (leb count 512 && same_bytes lines (table_text t))

-- a file's rules, and what is computed of a case
module _ (rules_for : Json → List ℕ → List Rule) where
  unfoldable pub holds : List ℕ → List ℕ → ℕ → List ℕ → Bool
  holds file site count lines = rows_off 11 (conditions file site 36864 16290) && fits count lines (table_by (rules_for (tree_of 16 file) site))

  unfoldable pub hold : List Case → Bool
  hold [] = true
  hold (takes file site count lines ∷ cs) = holds file site count lines && hold cs

-- rules that let through what the file does
module _ (rules_for : Json → List ℕ → List Rule)
    (lets_rules : (file : Json) (site : List ℕ) → judged site ≡ Ok tt → all_known file ≡ true → all_sound file ≡ true → (p : Point) → lets file site p ≡ let_through (rules_for file site) p) where
  its_table : (file site : List ℕ) → Keeps file site 36864 16290 → table_by (rules_for (tree_of 16 file) site) ≡ table_for file site
  unfolding table_by table_for
  its_table file site k =
      by_elementary_intervals (rules_for (tree_of 16 file) site)
      ∙ same_table widths _ _ (λ p w. sym (lets_rules (tree_of 16 file) site k.sound_site k.known k.sound p))

  its_answer : (file site : List ℕ) (count : ℕ) (lines : List ℕ) → holds rules_for file site count lines ≡ true → (answer_of file site 36864 16290 ≡ Ok count) × (reply_after file site 36864 16290 ≡ lines ++ replicate (36864 - length lines) 0)
  unfolding holds fits
  its_answer file site count lines e =
      let t : Table = table_by (rules_for (tree_of 16 file) site) in
      let a = split (rows_off 11 (conditions file site 36864 16290)) _ e in
      let b = split (eqb count (length t)) _ a.1 in
      let d = split (leb count 512) (same_bytes lines (table_text t)) b.1 in
      let k : Keeps file site 36864 16290 = kept file site 36864 16290 (off 11 (conditions file site 36864 16290) a.0) in
      let q : t ≡ table_for file site = its_table file site k in
      let n : count ≡ length (table_for file site) = eqb-true count (length t) b.0 ∙ ap length q in
      let x : lines ≡ table_text (table_for file site) = (same_iff lines (table_text t)).0 d.1 ∙ ap table_text q in
      let y : answer_of file site 36864 16290 ≡ Ok count = (taken_exactly_when file site 36864 16290 count).1 (k, omega (arith, leb-true count 512 d.0), n) in
      (y, taken_leaves_the_lines file site 36864 16290 count y ∙ ap {B = List ℕ} (λ l. l ++ replicate (36864 - length l) 0) (sym x))

  pub hold_true : (cs : List Case) → hold rules_for cs ≡ true → Hold cs
  unfolding hold
  hold_true [] e = tt
  hold_true (takes file site count lines ∷ cs) e =
      let r = its_answer file site count lines (and_left _ (hold rules_for cs) e) in
      (r.0, r.1, hold_true cs (and_right (holds rules_for file site count lines) (hold rules_for cs) e))

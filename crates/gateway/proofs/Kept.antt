-- Between the rows of the numbers and what a file must keep. Assumes nothing.
use Rattle.jsontext.specs.declared.Bad.{Bad}
use Rattle.std.specs.Prelude.{Err, Ok, Result, is_ok}
use Prim.Native.Nat.{ℕ, ◌≤◌, ◌<◌}
use mathlib.Core.Path.{◌≡◌, refl, sym}
use mathlib.Core.Bool.{true, false, ◌&&◌}
use mathlib.Core.List.{List}
use native.Mathlib.Omega.{arith}
use lib.Dec.{eqb, ltb}
use lib.ListN.{length, get_or}
use borrow.Author.Tests.{ltb-false, eqb-true, not-false, lt-ltb, le-ltb, eq-eqb}
use Rattle.text.proofs.Tests.{by_test, clash, and_left, split}
use Rattle.flows.specs.Table.{Point, Table, within}
use Rattle.flows.specs.Flow.{widths, is_flow}
use Rattle.jsontext.specs.Reading.{text_of}
use Rattle.jsontext.specs.Rfc8259.{Text}
use Rattle.jsontext.proofs.Sound as sound-reader
use Rattle.jsontext.proofs.Place.{decides}
use Rattle.values.specs.Tree.{tree_of}
use Rattle.site.specs.Site.{judged, stop}
use Rattle.rules.specs.Read.{entries_read}
use Rattle.rules.specs.Meaning.{lets}
use Rattle.gateway.specs.declared.Reason.TheVariants.{TooManyLines}
use Rattle.gateway.specs.Answer.{table_for, by_length, by_entries, by_rules, by_file, sized, answer_of}
use Rattle.gateway.specs.Order.{tree_rows, conditions}
use Rattle.gateway.specs.Promise.{Keeps}

-- the flows that a file lets through are flows
pub lets_flows : (file site : List ℕ) (p : Point) → lets (tree_of 16 file) site p ≡ true → is_flow p ≡ true
unfolding lets
lets_flows file site p e = and_left (is_flow p) _ e

pub flow_within : (p : Point) → is_flow p ≡ true → within widths p ≡ true
unfolding is_flow
flow_within p e = and_left (within widths p) _ e

pub inside : (file site : List ℕ) (p : Point) → (within widths p && lets (tree_of 16 file) site p) ≡ lets (tree_of 16 file) site p
inside file site p =
    by_test (lets (tree_of 16 file) site p)
    (λ e. rw (e, flow_within p (lets_flows file site p e)))
    (λ e. rw e (by_test (within widths p) (λ w. rw w) (λ w. rw w)))

-- the reader comes to the end of a text exactly where it is JSON by the grammar
pub json_text : (file : List ℕ) (r : Result ℕ Bad) → r ≡ text_of 16 file → is_ok r ≡ true → Text 16 file
json_text file (Ok e) q h = sound-reader.sound 16 file e (sym q)
json_text file (Err p) q h = clash h refl

pub few_lines : (t : Table) → length t ≤ 512 → by_length t ≡ Ok (length t)
unfolding by_length
few_lines t h = rw (le-ltb 512 (length t) h)

pub many_lines : (t : Table) → 512 < length t → by_length t ≡ Err TooManyLines
unfolding by_length
many_lines t h = rw (lt-ltb 512 (length t) h)

module _ (file site : List ℕ) (reply work : ℕ) where
  -- the rows 1 to 11 do not hold exactly where the rules are kept
  pub kept : ((j : ℕ) → j < 11 → get_or (conditions file site reply work) j false ≡ false) → Keeps file site reply work
  unfolding conditions tree_rows sized judged
  kept f =
      let s = split (eqb reply 36864) (eqb work 16290) (not-false _ (f 0 (omega arith))) in
      record {
        reply_size = eqb-true reply 36864 s.0;
        work_size = eqb-true work 16290 s.1;
        sound_site = rw (f 1 (omega arith), not-false (eqb (stop site 0) (length site)) (f 2 (omega arith)));
        bytes = ltb-false 32768 (length file) (f 3 (omega arith));
        json = json_text file (text_of 16 file) refl (not-false _ (f 4 (omega arith)));
        decoded = not-false _ (f 5 (omega arith));
        header = not-false _ (f 6 (omega arith));
        lists = not-false _ (f 7 (omega arith));
        known = not-false _ (f 8 (omega arith));
        sound = not-false _ (f 9 (omega arith));
        entries = ltb-false 64 (entries_read (tree_of 16 file)) (f 10 (omega arith));
      }

  pub kept_answer : Keeps file site reply work → answer_of file site reply work ≡ by_length (table_for file site)
  unfolding answer_of by_file by_rules by_entries sized
  kept_answer k =
      rw (
        eq-eqb reply 36864 k.reply_size,
        eq-eqb work 16290 k.work_size,
        k.sound_site,
        le-ltb 32768 (length file) k.bytes,
        (decides 16 file).1 k.json,
        k.decoded,
        k.header,
        k.lists,
        k.known,
        k.sound,
        le-ltb 64 (entries_read (tree_of 16 file)) k.entries,
      )

  pub row_12 : get_or (conditions file site reply work) 11 false ≡ ltb 512 (length (table_for file site))
  unfolding conditions tree_rows
  row_12 = refl

-- The document's worked cases: one computed test.
use mathlib.Core.Path.{◌≡◌, refl, ◌∙◌}
use mathlib.Core.Bool.{Bool, true, ◌&&◌}
use mathlib.Core.List.{List, [], ◌∷◌, ◌++◌}
use Rattle.flows.specs.Table.{in_range, eq_range, eq_line, eq_table, join_run, add_run, put_before, lines_of, table_of}
use Rattle.flows.specs.Flow.{widths}
use Rattle.flows.specs.Rules.{in_some, in_all, in_box, first_match, accepts, let_through, flow_rules}
use Rattle.flows.specs.Cells.{runs_at, keep_if, live, cell_table, insert_end, insert_start, insert_ranges, insert_limits, last_of, ends_of, rest, cuts_of}
use Rattle.flows.specs.Cases.{Case, gives, cases}
use Rattle.text.proofs.Tests.{and_left, and_right}
use Rattle.flows.proofs.Equal.{eq_table_eq}
use Rattle.flows.proofs.FlowRules.{by_elementary_intervals}

-- In each case the lines are the table of the flows that the rules let through
abbrev pub Hold : List Case → Type 0
Hold [] = Unit {0}
Hold (gives rs t ∷ cs) = (t ≡ table_of widths (let_through rs)) × Hold cs

unfoldable pub hold : List Case → Bool
hold [] = true
hold (gives rs t ∷ cs) = eq_table t (cell_table (cuts_of widths (flow_rules ++ rs)) (flow_rules ++ rs)) && hold cs

pub hold_true : (cs : List Case) → hold cs ≡ true → Hold cs
unfolding hold
hold_true [] e = tt
hold_true (gives rs t ∷ cs) e =
    (eq_table_eq t _ (and_left _ _ e) ∙ by_elementary_intervals rs, hold_true cs (and_right (eq_table t (cell_table (cuts_of widths (flow_rules ++ rs)) (flow_rules ++ rs))) _ e))

computed : hold cases ≡ true
unfolding hold cases in_range eq_range eq_line eq_table join_run add_run put_before lines_of in_some in_all in_box first_match accepts flow_rules runs_at keep_if live cell_table insert_end insert_start insert_ranges insert_limits last_of ends_of rest cuts_of
computed = refl

-- EVERY CASE HAS THE TABLE THAT THE DOCUMENT GIVES
pub cases_hold : Hold cases
cases_hold = hold_true cases computed

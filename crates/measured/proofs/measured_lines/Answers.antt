use mathlib.Core.Path.{ap, ◌∙◌}
use mathlib.Core.List.{List}
use Prim.Native.Nat.{ℕ}
use lib.ListN.{length}
use Rattle.flows.specs.Table.{table_of}
use Rattle.flows.specs.Flow.{widths}
use Rattle.flows.specs.Rules.{let_through}
use Rattle.builder.specs.Encoding.{rules_of}
use Rattle.measured.specs.Measured.{lines_number}
use Rattle.measured.proofs.Laws.{sized_number}
use Rattle.measured.proofs.measured_lines.Goals as goal

pub returns : goal.returns
returns c =
    c.unwrap_or.ensures
    ∙ sized_number _ _ c.is_sized.ensures c.if-not-is_sized.false c.build.ensures
    ∙ ap (λ (w : List ℕ). lines_number (length c.args.work.now) c.args.n (table_of widths (let_through (rules_of c.args.n w)))) c.in-Some.ensures.cases.same

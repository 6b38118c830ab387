use Prim.Native.Nat.{◌+◌}
use native.Mathlib.Omega.{arith}
use Rattle.builder.proofs.Entry.{ready_all, built_in}
use Rattle.builder.proofs.build.Goals as goal

pub section-requires : goal.section-requires
section-requires c =
    let cells = c.all_cells in
    (omega arith, omega arith, omega arith, ready_all (c.args.n + 5) _ _ _ c.put_flow_rules.new.work cells.new.work (omega (arith, c.requires)) cells.ensures c.others-k.ensures c.accept_mask.ensures c.accept_mask-2.ensures)

pub returns : goal.returns
returns c =
    let cells = c.all_cells in
    built_in c.args.n c.args.work.now c.put_flow_rules.new.work cells.new.work c.section.new.work c.section.result (omega (arith, c.requires)) (omega (arith, cells.array_long)) c.requires c.put_flow_rules.ensures cells.ensures c.section.ensures

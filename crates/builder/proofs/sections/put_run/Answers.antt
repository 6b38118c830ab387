use native.Mathlib.Omega.{arith}
use Rattle.builder.proofs.Ports.{run_put, run_dropped}
use Rattle.builder.proofs.sections.put_run.Goals as goal

pub returns-then-not-ok : goal.returns-then-not-ok
returns-then-not-ok c =
    let a = c.args in
    run_dropped a.at a.low a.high a.ok a.work.now c.if-not-ok.true

pub returns : goal.returns
returns c =
    let a = c.args in
    run_put a.at a.low a.high a.ok a.work.now c.blank.new.work c.close.new.work (omega (arith, c.requires.0, c.told-work)) c.if-not-ok.false c.blank.ensures c.close.ensures

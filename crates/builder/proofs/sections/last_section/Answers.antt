use native.Mathlib.Omega.{arith}
use Rattle.builder.proofs.Ports.{scan_first, scan_room, scan_less, scan_on, scan_new, scan_done, put_few}
use Rattle.builder.proofs.sections.last_section.Goals as goal

pub loop-run-smaller-then-next-run : goal.loop-run-smaller-then-next-run
loop-run-smaller-then-next-run c =
    scan_less c.loop-run.invariant c.loop-run-test.true c.judged_at-next.ensures

pub loop-run-preserved-then-next-run : goal.loop-run-preserved-then-next-run
loop-run-preserved-then-next-run c =
    scan_on c.loop-run.invariant c.loop-run-test.true c.judged_at-next.ensures c.if-next-run.true

pub put_run-end-requires : goal.put_run-end-requires
put_run-end-requires c =
    let inv = c.loop-run.invariant in
    (scan_room inv, inv.low, inv.high)

pub loop-run-smaller : goal.loop-run-smaller
loop-run-smaller c =
    scan_less c.loop-run.invariant c.loop-run-test.true c.judged_at-next.ensures

pub loop-run-preserved : goal.loop-run-preserved
loop-run-preserved c =
    let put = c.put_run-end in
    scan_new c.loop-run.invariant c.loop-run-test.true c.judged_at-next.ensures put.ensures c.if-next-run.false

pub put_run-requires : goal.put_run-requires
put_run-requires c =
    let inv = c.loop-run.invariant in
    (scan_room inv, inv.low, inv.high)

pub overflow_sub-result : goal.overflow_sub-result
overflow_sub-result c =
    omega (arith, put_few c.loop-run.invariant c.put_run.ensures)

pub returns : goal.returns
returns c =
    scan_done c.loop-run.invariant c.put_run.ensures (omega (arith, c.loop-run-test.false))

pub judged_at-run-requires : goal.judged_at-run-requires
judged_at-run-requires c = scan_first c.requires.0 c.requires.1 c.place-x.ensures

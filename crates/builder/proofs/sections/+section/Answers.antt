use native.Mathlib.Omega.{arith}
use Rattle.builder.proofs.Levels.{none_is, leaf_is, last_is, first_inside, first_over, first_few, first_front, turn_start, next_inside, next_less, less_on, turn_pass, turn_ready, turn_over, turn_over_sec, turn_few, turn_inside, turn_keep, turn_over_new, turn_new, turn_done}
use Rattle.builder.proofs.sections.+section.Goals as goal

pub returns-then-none_accepts : goal.returns-then-none_accepts
returns-then-none_accepts t c =
    none_is _ _ _ c.requires.3 c.none_accepts.ensures c.if-none_accepts.true

pub leaf-requires : goal.leaf-requires
leaf-requires t c =
    (omega (arith, c.requires.2), c.requires.3)

pub returns-then-left-eq0 : goal.returns-then-left-eq0
returns-then-left-eq0 t c =
    leaf_is _ _ _ c.if-left-eq0.true c.leaf.ensures

pub last_section-requires : goal.last_section-requires
last_section-requires t c =
    (c.requires.1, omega (arith, c.requires.2, c.if-left-eq1.true), c.requires.3)

pub returns-then-left-eq1 : goal.returns-then-left-eq1
returns-then-left-eq1 t c =
    last_is _ _ _ c.if-left-eq1.true c.last_section.ensures

pub cell_at-run-requires : goal.cell_at-run-requires
cell_at-run-requires t c =
    omega (arith, first_inside c.requires.3 c.told-work c.requires.0 c.requires.1 c.requires.2 c.if-left-eq0.false, c.place-x.ensures, c.requires.1, c.requires.2)

pub section-requires : goal.section-requires
section-requires t c =
    (omega (arith, c.decreases, c.if-left-eq0.false), (omega (arith, c.requires.0), c.requires.1, omega (arith, c.requires.2), c.requires.3))

pub returns-in_err-first : goal.returns-in_err-first
returns-in_err-first t c =
    let sec = c.section in
    rw c.from_residual.ensures (first_over c.requires.3 c.told-work c.requires.0 c.requires.1 c.requires.2 c.if-left-eq0.false c.place-x.ensures c.cell_at-run.ensures sec.ensures sec.array_long c.in_err-first.was)

pub overflow_add-end : goal.overflow_add-end
overflow_add-end t c =
    let sec = c.section in
    omega (arith, first_few c.requires.3 c.told-work c.requires.0 c.requires.1 c.requires.2 c.if-left-eq0.false c.place-x.ensures c.cell_at-run.ensures sec.ensures sec.array_long c.in_ok-first.was, c.requires.2)

pub loop-run-init : goal.loop-run-init
loop-run-init t c =
    let sec = c.section in
    record {
      turn = turn_start c.requires.3 c.told-work c.requires.0 c.requires.1 c.requires.2 c.if-left-eq0.false c.place-x.ensures c.cell_at-run.ensures sec.ensures sec.array_long c.in_ok-first.was;
      front = first_front c.requires.3 c.told-work c.requires.0 c.requires.1 c.requires.2 c.if-left-eq0.false c.place-x.ensures c.cell_at-run.ensures c.section.ensures c.section.array_long c.in_ok-first.was;
    }

pub overflow_add-x : goal.overflow_add-x
overflow_add-x t c =
    omega (arith, c.loop-run.invariant.turn.place)

pub cell_at-next-requires : goal.cell_at-next-requires
cell_at-next-requires t c =
    omega (arith, next_inside c.loop-run.invariant.turn c.top-last.ensures c.loop-run-test.true)

pub loop-run-smaller-then-is_known : goal.loop-run-smaller-then-is_known
loop-run-smaller-then-is_known t c =
    less_on c.loop-run.invariant.turn c.top-last.ensures c.loop-run-test.true c.cell_at-next.ensures c.longer-run.ensures

pub loop-run-preserved-then-is_known : goal.loop-run-preserved-then-is_known
loop-run-preserved-then-is_known t c =
    let known = c.is_known in
    record {
      turn = turn_pass c.loop-run.invariant.turn c.top-last.ensures c.loop-run-test.true c.cell_at-next.ensures known.ensures c.if-is_known.true c.longer-run.ensures;
      front = c.loop-run.invariant.front;
    }

pub section-requires-else-is_known : goal.section-requires-else-is_known
section-requires-else-is_known t c =
    let inv = c.loop-run.invariant.turn in
    (omega (arith, c.decreases, c.if-left-eq0.false), (omega (arith, c.requires.0), omega (arith, inv.base, inv.from_at, inv.to_end), omega (arith, inv.fits, inv.room, c.if-left-eq0.false), turn_ready inv))

pub returns-in_err-more : goal.returns-in_err-more
returns-in_err-more t c =
    rw c.from_residual-in_err-more.ensures (turn_over c.loop-run.invariant.turn c.loop-run.invariant.front (turn_over_sec c.loop-run.invariant.turn c.top-last.ensures c.loop-run-test.true c.cell_at-next.ensures c.section-else-is_known.ensures c.section-else-is_known.array_long c.in_err-more.was))

pub overflow_add-z : goal.overflow_add-z
overflow_add-z t c =
    let inv = c.loop-run.invariant.turn in
    omega (arith, turn_few c.loop-run.invariant.turn c.top-last.ensures c.loop-run-test.true c.cell_at-next.ensures c.section-else-is_known.ensures c.section-else-is_known.array_long c.in_ok-more.was, inv.room, c.requires.2)

pub settle-requires : goal.settle-requires
settle-requires t c =
    let inv = c.loop-run.invariant.turn in
    (inv.to_end, omega arith, omega (arith, turn_inside c.loop-run.invariant.turn c.top-last.ensures c.loop-run-test.true c.cell_at-next.ensures c.section-else-is_known.ensures c.section-else-is_known.array_long c.in_ok-more.was, c.section-else-is_known.array_long), omega (arith, c.if-left-eq0.false), inv.low, inv.high)

pub loop-run-smaller-then-settle : goal.loop-run-smaller-then-settle
loop-run-smaller-then-settle t c =
    less_on c.loop-run.invariant.turn c.top-last.ensures c.loop-run-test.true c.cell_at-next.ensures c.longer-run-then-settle.ensures

pub loop-run-preserved-then-settle : goal.loop-run-preserved-then-settle
loop-run-preserved-then-settle t c =
    record {
      turn = turn_keep c.loop-run.invariant.turn c.top-last.ensures c.loop-run-test.true c.cell_at-next.ensures c.section-else-is_known.ensures c.section-else-is_known.array_long c.in_ok-more.was c.settle.ensures c.if-settle.true c.longer-run-then-settle.ensures;
      front = c.loop-run.invariant.front;
    }

pub returns-then-z-at-gt-MOST_LINES : goal.returns-then-z-at-gt-MOST_LINES
returns-then-z-at-gt-MOST_LINES t c =
    turn_over c.loop-run.invariant.turn c.loop-run.invariant.front (turn_over_new c.loop-run.invariant.turn c.top-last.ensures c.loop-run-test.true c.cell_at-next.ensures c.section-else-is_known.ensures c.section-else-is_known.array_long c.in_ok-more.was c.settle.ensures c.if-settle.false c.if-z-at-gt-MOST_LINES.true)

pub loop-run-smaller : goal.loop-run-smaller
loop-run-smaller t c =
    next_less c.loop-run.invariant.turn c.top-last.ensures c.loop-run-test.true c.cell_at-next.ensures

pub loop-run-preserved : goal.loop-run-preserved
loop-run-preserved t c =
    record {
      turn = turn_new c.loop-run.invariant.turn c.top-last.ensures c.loop-run-test.true c.cell_at-next.ensures c.section-else-is_known.ensures c.section-else-is_known.array_long c.in_ok-more.was c.settle.ensures c.if-settle.false c.settle.array_long c.if-z-at-gt-MOST_LINES.false;
      front = c.loop-run.invariant.front;
    }

pub close-requires : goal.close-requires
close-requires t c =
    let inv = c.loop-run.invariant.turn in
    (inv.to_end, omega (arith, inv.fits, inv.room, inv.some), omega (arith, c.if-left-eq0.false), inv.low, inv.high)

pub returns : goal.returns
returns t c =
    turn_done c.loop-run.invariant.turn c.loop-run.invariant.front (omega (arith, c.loop-run-test.false, c.top-last.ensures)) c.close.ensures

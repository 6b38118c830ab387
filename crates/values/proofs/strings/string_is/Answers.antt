use Rattle.std.proofs.Common.{arith, refl, Some, ◌≡◌}
use Rattle.values.proofs.Comparing.{string_more}
use Rattle.values.proofs.strings.string_is.Goals as goal

pub loop-b-preserved : goal.loop-b-preserved
loop-b-preserved c =
    let q : c.first.result ≡ Some c.from.result = grind arith in
    string_more _ _ _ _ c.loop-b.invariant c.first.ensures q c.loop-b-test.true refl c.from.ensures c.rest-p.ensures

use Prim.Native.Nat.{ℕ}
use native.Mathlib.Omega.{arith}
use mathlib.Core.Path.{◌≡◌, ap, ◌∙◌}
use mathlib.Core.Bool.{not}
use lib.Bits.{bit_and}
use lib.Dec.{eqb}
use lib.ListN.{take, drop}
use borrow.Author.Rules.{rules}
use borrow.Author.Tests.{tests}
use Rattle.std.proofs.lemmas.Iterator.{YieldsList-from_slice}
use Rattle.std.proofs.lemmas.Iterator.Search.{all_from_yields_List}
use Rattle.builder.proofs.Words.{names_are}
use Rattle.builder.proofs.encoding.names_meet.Goals as goal

pub returns : goal.returns
returns c =
    let a = c.args in
    let words : c.iter.result.rest.now ≡ take a.k (drop a.x a.work.now) = c.iter.ensures.rest ∙ ap (λ (k : ℕ). take k (drop a.x a.work.now)) (omega arith) in
    all_from_yields_List (λ m. not (eqb (bit_and m a.near) 0)) _ _ c.all.result c.all.ensures.ran (YieldsList-from_slice (take a.k (drop a.x a.work.now)) words) (λ x b q k. search (rules, tests))
    ∙ names_are a.k a.x a.near a.work.now (omega (arith, c.told-work)) c.requires

use mathlib.Core.Path.{sym, ap₂, ◌∙◌}
use mathlib.Core.List.{List, ◌++◌, append_assoc}
use Prim.Native.Nat.{ℕ}
use lib.ListN.{take, drop}
use lib.Seq.{drop-drop}
use Rattle.builder.specs.Encoding.{flow_words}
use Rattle.builder.proofs.drops.put_flow_rules.Goals as goal

pub returns : goal.returns
unfolding flow_words
returns c =
    let w = c.args.work.now in
    ap₂ (λ (l r : List ℕ). take 64 w ++ (l ++ r)) (c.copy_from_slice.ensures.after ∙ c.as_flattened.ensures.value) (drop-drop 105 64 w) ∙ sym (append_assoc (take 64 w) flow_words (drop 169 w))

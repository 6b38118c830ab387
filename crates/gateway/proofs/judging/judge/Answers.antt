use mathlib.Core.Path.{sym, ap, ◌∙◌}
use Rattle.std.specs.Prelude.{is_some}
use Rattle.std.proofs.lemmas.Option.{MatchOption-at_none}
use Rattle.gateway.specs.Answer.{site_reason}
use Rattle.gateway.proofs.Stages.{refused_as, goes_on, judged_refuses, judged_passes, wrong_reply, right_sizes}
use Rattle.gateway.proofs.judging.judge.Goals as goal

pub returns-in_default-as_mut_array : goal.returns-in_default-as_mut_array
returns-in_default-as_mut_array c =
    refused_as (wrong_reply c.args.file.now c.args.site.now _ _ (MatchOption-at_none _ _ c.in_default-as_mut_array.is c.as_mut_array-2.ensures.cases))

pub returns-in_err-judge : goal.returns-in_err-judge
returns-in_err-judge c =
    let w = c.as_mut_array.ensures.variant.0 (ap is_some c.in-Some.is) in
    let r = c.as_mut_array-2.ensures.variant.0 (ap is_some c.in-Some-as_mut_array.is) in
    goes_on (judged_refuses site_reason c.judge.ensures _ _ c.in_err-judge.was c.from_residual.ensures.1) (sym (right_sizes c.args.file.now c.args.site.now _ _ r w))

pub returns : goal.returns
returns c =
    let w = c.as_mut_array.ensures.variant.0 (ap is_some c.in-Some.is) in
    let r = c.as_mut_array-2.ensures.variant.0 (ap is_some c.in-Some-as_mut_array.is) in
    goes_on c.by_file.ensures (sym (right_sizes c.args.file.now c.args.site.now _ _ r w ∙ judged_passes site_reason c.judge.ensures _ c.in_ok-judge.was))

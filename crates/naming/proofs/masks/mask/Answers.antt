use Rattle.naming.proofs.Masking.{masking, places_known, names_known, masking_more, masking_stop, masking_end}
use Rattle.naming.proofs.masks.mask.Goals as goal

pub loop-j-preserved : goal.loop-j-preserved
loop-j-preserved c =
    masking_more _ _ (places_known c.site.view_is c.site.inside.places.now c.site.invariant) _ c.loop-j-test.true c.in-Some.is _ _ _ c.loop-j.invariant
    (names_known c.site.view_is _ _ _ c.is_wanted.ensures) c.bit-m.ensures

pub returns-after-loop-j : goal.returns-after-loop-j
returns-after-loop-j c = masking_end _ _ _ _ c.loop-j.invariant _ (places_known c.site.view_is c.site.inside.places.now c.site.invariant) (search masking)

pub returns-in_default : goal.returns-in_default
returns-in_default c = masking_stop _ _ (places_known c.site.view_is c.site.inside.places.now c.site.invariant) _ c.loop-j-test.true _ _ _ c.loop-j.invariant c.in_default.is

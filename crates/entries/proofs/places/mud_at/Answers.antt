use Rattle.std.proofs.Common.{lit<, refl}
use Rattle.entries.proofs.places.mud_at.Goals as goal

pub invariant_of-result : goal.invariant_of-result
invariant_of-result c =
    let m = c.members_of-m.ensures.each refl in
    record {
      held =
          record {
            manufacturer_is = m.place_is 0 (lit< tt);
            model_is = m.place_is 1 (lit< tt);
            controller_is = m.place_is 2 (lit< tt);
            kin_is = m.place_is 3 (lit< tt);
            local_is = m.place_is 4 (lit< tt);
            mine_is = m.place_is 5 (lit< tt);
            listed_is = m.listed_is;
          };
    }

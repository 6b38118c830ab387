use Rattle.std.proofs.Common.{lit<, refl}
use Rattle.entries.proofs.places.matches_at.Goals as goal

pub invariant_of-result-clause-held : goal.invariant_of-result-clause-held
invariant_of-result-clause-held c =
    let m = c.members_of-m.ensures.each refl in
    rw c.ipv4_at.ensures.1
    (record {
      mud_is = m.place_is 0 (lit< tt);
      ipv4_is = m.place_is 1 (lit< tt);
      tcp_is = m.place_is 2 (lit< tt);
      udp_is = m.place_is 3 (lit< tt);
      listed_is = m.listed_is;
    })

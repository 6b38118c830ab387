use Rattle.std.proofs.Common.{◌≡◌, map, take}
use Rattle.values.specs.Decode.{bytes_at}
use Rattle.header.specs.Asked.{is_among}
use Rattle.entries.specs.Members.{all_noted}
use Rattle.entries.proofs.members.note_all.Given as goal

abbrev pub invariant-loop-k : goal.invariant-loop-k
invariant-loop-k g l =
    (l.places ≡ all_noted (bytes_at l.s l.i) l.p (take l.k (map (λ w. w.now) l.names)) l.fn.m.places)
    × (l.listed ≡ is_among (bytes_at l.s l.i) (take l.k (map (λ w. w.now) l.names)))

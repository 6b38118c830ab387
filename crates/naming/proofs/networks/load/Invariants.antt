use Rattle.naming.proofs.Masking.{Loading, some_place}
use Rattle.std.proofs.Common.{None}
use Rattle.naming.specs.Masks.{network_word}
use Rattle.naming.proofs.networks.load.Given as goal

abbrev pub invariant-loop-i : goal.invariant-loop-i
invariant-loop-i l = Loading 0 network_word l.site l.initial.work l.at l.i l.work × Loading None some_place l.site l.initial.places l.at l.i l.places

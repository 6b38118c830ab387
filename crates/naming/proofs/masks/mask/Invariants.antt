use Rattle.naming.proofs.Masking.{Masking}
use Rattle.naming.specs.Named.{names}
use Rattle.naming.specs.Wanted.{kind_of, test_of}
use Rattle.naming.proofs.masks.mask.Given as goal

abbrev pub invariant-loop-j : goal.invariant-loop-j
invariant-loop-j l = Masking (names (kind_of l.wanted) (test_of l.text l.wanted) l.site) l.site l.j l.m

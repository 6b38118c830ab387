use Rattle.std.proofs.Common.{◌+◌, take}
use Rattle.text.specs.Written.{Put}
use Rattle.rules.proofs.names.put_words.Given as goal

abbrev pub invariant-loop-k : goal.invariant-loop-k
invariant-loop-k l = Put l.initial.work l.at (take l.k l.words) (l.at + l.k) l.work

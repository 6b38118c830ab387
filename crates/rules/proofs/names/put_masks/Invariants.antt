use Rattle.std.proofs.Common.{◌+◌, ◌≤◌, take}
use Rattle.std.specs.Prelude.{option_to_list}
use Rattle.std.specs.List.{flat_map}
use Rattle.text.specs.Written.{Put}
use Rattle.rules.proofs.names.put_masks.Given as goal

abbrev pub invariant-loop-m : goal.invariant-loop-m
invariant-loop-m l = Put l.initial.work l.at (flat_map option_to_list (take l.m-index l.masks)) l.p l.work × (l.p ≤ l.at + l.m-index)

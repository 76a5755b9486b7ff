use Rattle.std.proofs.Common.{◌≡◌, ◌++◌, take}
use Rattle.std.specs.List.{flat_map}
use Rattle.zw_consts.specs.Ancestor.{numbers_of, ancestors_of}
use Rattle.zw_methods.specs.Line.{places_of, instances}
use Rattle.zw_methods.proofs.line.push_extensions.Given as goal

abbrev pub invariant-loop-extension : goal.invariant-loop-extension
invariant-loop-extension l = places_of l.line.items ≡ places_of l.initial.line.items ++ instances (flat_map (ancestors_of l.heap.modules) (numbers_of (take l.extension-index l.extensions)))

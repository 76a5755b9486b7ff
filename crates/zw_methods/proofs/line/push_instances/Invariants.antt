use Rattle.std.proofs.Common.{◌≡◌, ◌++◌, take}
use Rattle.zw_consts.specs.Ancestor.{numbers_of}
use Rattle.zw_methods.specs.Line.{places_of, instances}
use Rattle.zw_methods.proofs.line.push_instances.Given as goal

abbrev pub invariant-loop-module : goal.invariant-loop-module
invariant-loop-module l = places_of l.line.items ≡ places_of l.initial.line.items ++ instances (numbers_of (take l.module-index l.modules))

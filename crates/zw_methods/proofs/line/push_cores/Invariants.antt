use Rattle.std.proofs.Common.{◌≡◌, ◌++◌, take}
use Rattle.zw_methods.specs.Line.{places_of, instances, cores}
use Rattle.zw_methods.proofs.line.push_cores.Given as goal

abbrev pub invariant-loop-class : goal.invariant-loop-class
invariant-loop-class l = places_of l.line.items ≡ places_of l.initial.line.items ++ instances (cores (take l.class-index l.classes))

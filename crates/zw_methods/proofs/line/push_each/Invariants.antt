use Rattle.std.proofs.Common.{◌≡◌, ◌++◌, take}
use Rattle.std.specs.List.{flat_map}
use Rattle.zw_consts.specs.Ancestor.{numbers_of}
use Rattle.zw_methods.specs.Line.{places_of, own_line}
use Rattle.zw_methods.proofs.line.push_each.Given as goal

abbrev pub invariant-loop-class : goal.invariant-loop-class
invariant-loop-class l = places_of l.line.items ≡ places_of l.initial.line.items ++ flat_map (own_line l.heap.modules) (numbers_of (take l.class-index l.classes))

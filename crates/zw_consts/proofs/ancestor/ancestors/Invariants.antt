use Rattle.std.proofs.Common.{◌≡◌, ◌<◌, length, reverse}
use Rattle.std.specs.List.{All}
use Rattle.zw_consts.specs.Ancestor.{numbers_of, ancestors_of}
use Rattle.zw_consts.specs.Line.{HoldsIncludes}
use Rattle.zw_consts.proofs.ClassLemmas.{line_from}
use Rattle.zw_consts.proofs.ancestor.ancestors.Given as goal

abbrev pub invariant-loop-class : goal.invariant-loop-class
invariant-loop-class l = record {
  whole : line_from l.heap.modules (reverse l.line) (numbers_of l.classes.items) ≡ ancestors_of l.heap.modules l.fn.of.0;
  holds : HoldsIncludes l.heap.modules l.line;
  held : All (λ i. i.0 < length l.heap.modules) l.classes.items;
}

abbrev pub decreases-loop-class : goal.decreases-loop-class
decreases-loop-class l = length l.classes.items

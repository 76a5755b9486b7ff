use Rattle.std.proofs.Common.{◌≡◌, drop}
use Rattle.std.specs.List.{list_any}
use Rattle.zw_consts.specs.Ancestor.{is_among, numbers_of}
use Rattle.zw_methods.specs.Line.{cores}
use Rattle.zw_ops.proofs.choice.holds_any.Given as goal

abbrev pub invariant-loop-class : goal.invariant-loop-class
invariant-loop-class l =
    list_any (is_among (numbers_of l.line)) (cores (drop l.class-index l.classes)) ≡ list_any (is_among (numbers_of l.line)) (cores l.classes)

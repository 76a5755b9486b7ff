use Rattle.std.proofs.Common.{◌≡◌}
use Rattle.std.specs.List.{list_all}
use Rattle.zw_def.specs.Constant.{is_constant}
use Rattle.zw_def.specs.ConstantPath.{parts_of}
use Rattle.zw_names.specs.Path.{parts_left}
use Rattle.zw_lemmas.proofs.TextLemmas.{size_left}
use Rattle.zw_names.proofs.parts.are_constants.Given as goal

-- what is left decides
abbrev pub invariant-loop-left : goal.invariant-loop-left
invariant-loop-left l = list_all is_constant (parts_of l.fn.text) ≡ list_all is_constant (parts_left l.left)

abbrev pub decreases-loop-left : goal.decreases-loop-left
decreases-loop-left l = size_left l.left

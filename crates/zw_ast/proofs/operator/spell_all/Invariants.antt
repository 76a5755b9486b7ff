use Rattle.std.proofs.Common.{◌≡◌, take, true}
use Rattle.zw_def.specs.Names.{OnlyGrows}
use Rattle.zw_ast.specs.Operator.{are_spelled}
use Rattle.zw_ast.proofs.OperatorLemmas.{texts_behind}
use Rattle.zw_ast.proofs.operator.spell_all.Given as goal

abbrev pub invariant-texts : goal.invariant-texts
invariant-texts l =
    (are_spelled l.names (texts_behind (take l.text-index l.fn.texts)) ≡ true) × OnlyGrows l.fn.names l.names

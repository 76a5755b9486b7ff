use Rattle.std.proofs.Common.{◌≡◌, drop}
use Rattle.zw_def_world.specs.CoreClass.{Object_class}
use Rattle.zw_consts.specs.Ancestor.{numbers_of}
use Rattle.zw_consts.specs.LookUp.{without, first_slot}
use Rattle.zw_consts.specs.Table.{tables_of}
use Rattle.zw_consts.proofs.consts.Consts.slot_in_scopes.Given as goal

abbrev pub invariant-loop-scope : goal.invariant-loop-scope
invariant-loop-scope l =
    first_slot (tables_of l.self) l.name.0 (without Object_class.count (numbers_of (drop l.scope-index l.scopes)))
    ≡ first_slot (tables_of l.self) l.name.0 (without Object_class.count (numbers_of l.scopes))

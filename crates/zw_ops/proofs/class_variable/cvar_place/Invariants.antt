use Rattle.std.proofs.Common.{◌≡◌, drop, List, map}
use Rattle.zw_consts.specs.Ancestor.{numbers_of}
use Rattle.zw_def.specs.Text.{Text}
use Rattle.zw_def_world.specs.Variable.{holder_among}
use Rattle.zw_def_world.specs.World.{World}
use Rattle.zw_heap.specs.Telling.{Telling, Fits, Agrees}
use Rattle.zw_ops.proofs.class_variable.cvar_place.Given as goal

abbrev pub invariant-loop-module : goal.invariant-loop-module
invariant-loop-module l = (I : Telling) (names : List Text) (w : World) → Fits I names l.heap → Agrees I l.heap w
    → holder_among w (I.name l.name.0) (map I.module_id (numbers_of (drop l.module-index l.line))) ≡ holder_among w (I.name l.name.0) (map I.module_id (numbers_of l.line))

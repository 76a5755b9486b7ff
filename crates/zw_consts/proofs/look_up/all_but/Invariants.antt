use Rattle.std.proofs.Common.{◌≡◌, take}
use Rattle.zw_consts.specs.Ancestor.{numbers_of}
use Rattle.zw_consts.specs.LookUp.{without}
use Rattle.zw_consts.proofs.look_up.all_but.Given as goal

abbrev pub invariant-loop-module : goal.invariant-loop-module
invariant-loop-module l = numbers_of l.others.items ≡ without l.one.0 (numbers_of (take l.module-index l.modules))

use Rattle.std.proofs.Common.{◌≡◌, drop}
use Rattle.zw_consts.specs.Ancestor.{numbers_of, is_among}
use Rattle.zw_methods.proofs.change.is_one_of.Given as goal

abbrev pub invariant-loop-module : goal.invariant-loop-module
invariant-loop-module l = is_among (numbers_of (drop l.module-index l.modules)) l.one.0 ≡ is_among (numbers_of l.modules) l.one.0

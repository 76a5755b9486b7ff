use Rattle.std.proofs.Common.{◌≡◌, ◌++◌, take}
use Rattle.zw_consts.specs.Ancestor.{numbers_of}
use Rattle.zw_consts.proofs.line.Line.extend.Given as goal

abbrev pub invariant-loop-module : goal.invariant-loop-module
invariant-loop-module l = l.self ≡ l.initial.self ++ numbers_of (take l.module-index l.added)

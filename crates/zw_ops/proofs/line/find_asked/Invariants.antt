use Rattle.std.proofs.Common.{◌≡◌, drop}
use Rattle.zw_methods.specs.Methods.{tables_in}
use Rattle.zw_ops.specs.Line.{first_asked}
use Rattle.zw_ops.proofs.line.find_asked.Given as goal

abbrev pub invariant-loop-at : goal.invariant-loop-at
invariant-loop-at l =
    first_asked (tables_in l.methods) l.passes l.name.0 l.at (drop l.at l.line) ≡ first_asked (tables_in l.methods) l.passes l.name.0 l.start (drop l.start l.line)

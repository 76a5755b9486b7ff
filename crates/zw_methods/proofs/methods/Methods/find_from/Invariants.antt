use Rattle.std.proofs.Common.{◌≡◌, drop}
use Rattle.zw_methods.specs.Methods.{tables_in, first_method}
use Rattle.zw_methods.proofs.methods.Methods.find_from.Given as goal

abbrev pub invariant-loop-at : goal.invariant-loop-at
invariant-loop-at l =
    first_method (tables_in l.self) l.name.0 l.at (drop l.at l.line) ≡ first_method (tables_in l.self) l.name.0 l.start (drop l.start l.line)

use Rattle.std.proofs.Common.{◌≡◌, ◌++◌, max, map}
use Rattle.zw_ast.specs.Part.{rescue_form, rescues_height}
use Rattle.zw_ast.proofs.maker.Maker.rescues.Given as goal

abbrev pub invariant-clauses : goal.invariant-clauses
invariant-clauses l =
    (l.rescues ++ map rescue_form l.clause-iterator.rest.items ≡ map rescue_form l.fn.clauses.items)
    × (max l.height (rescues_height l.clause-iterator.rest.items) ≡ rescues_height l.fn.clauses.items)

use Rattle.std.proofs.Common.{◌≡◌, ◌++◌, max}
use Rattle.zw_ast.specs.Grown.{forms, tallest}
use Rattle.zw_ast.proofs.maker.Maker.row.Given as goal

abbrev pub invariant-nodes : goal.invariant-nodes
invariant-nodes l =
    (l.nodes ++ forms l.one-iterator.rest.items ≡ forms l.fn.all.items)
    × (max l.height (tallest l.one-iterator.rest.items) ≡ tallest l.fn.all.items)

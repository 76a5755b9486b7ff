use Rattle.std.proofs.Common.{◌≡◌, ◌-◌}
use Rattle.zw_def_syntax.specs.Expression.{item_next, one_more}
use Rattle.zw_def_syntax.specs.Grammar.{within}
use Rattle.zw_def_syntax.specs.Input.{repeated, turns}
use Rattle.zw_ast.specs.Grown.{all_seen}
use Rattle.zw_ast.specs.Named.{AreNamed}
use Rattle.zw_grammar.proofs.arguments.more_items.Given as goal

abbrev pub invariant-turn : goal.invariant-turn
invariant-turn g l =
    let names = l.grammar.maker.names.now in
    let turn = one_more (within l.grammar.depth) in
    (repeated item_next turn (all_seen names l.fn.found.items) l.fn.tokens.input
    ≡ turns (l._turn-end - l._turn) item_next turn (all_seen names l.found.items) l.tokens.input)
    × AreNamed names l.found.items
    × (l.tokens.names ≡ names)

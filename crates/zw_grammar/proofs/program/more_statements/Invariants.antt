use Rattle.std.proofs.Common.{◌≡◌, ◌-◌}
use Rattle.zw_def_syntax.specs.Compound.{separator_next}
use Rattle.zw_def_syntax.specs.Grammar.{separated, within}
use Rattle.zw_def_syntax.specs.Input.{repeated, turns}
use Rattle.zw_ast.specs.Grown.{all_seen}
use Rattle.zw_ast.specs.Named.{AreNamed}
use Rattle.zw_grammar.proofs.program.more_statements.Given as goal

abbrev pub invariant-turn : goal.invariant-turn
invariant-turn g l =
    let names = l.grammar.maker.names.now in
    let turn = separated (within l.grammar.depth) in
    (repeated separator_next turn (all_seen names l.fn.found.items) l.fn.tokens.input
    ≡ turns (l._turn-end - l._turn) separator_next turn (all_seen names l.found.items) l.tokens.input)
    × AreNamed names l.found.items
    × (l.tokens.names ≡ names)

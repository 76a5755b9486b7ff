use Rattle.std.proofs.Common.{◌≡◌, ◌-◌}
use Rattle.zw_def_syntax.specs.Grammar.{modifier, within}
use Rattle.zw_def_syntax.specs.Input.{is_keyword_of, kind_is, repeated, turns}
use Rattle.zw_ast.specs.Grown.{grown_seen}
use Rattle.zw_ast.specs.Named.{IsNamed}
use Rattle.zw_grammar.proofs.statement.modifiers.Given as goal

abbrev pub invariant-turn : goal.invariant-turn
invariant-turn g l =
    let names = l.grammar.maker.names.now in
    let turn = modifier (within l.grammar.depth) in
    (repeated (kind_is (is_keyword_of "if unless while until") 0) turn (grown_seen names l.fn.body) l.fn.tokens.input
    ≡ turns (l._turn-end - l._turn) (kind_is (is_keyword_of "if unless while until") 0) turn (grown_seen names l.body) l.tokens.input)
    × IsNamed names l.body
    × (l.tokens.names ≡ names)

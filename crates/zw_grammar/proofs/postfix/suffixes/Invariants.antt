use Rattle.std.proofs.Common.{◌≡◌, ◌-◌}
use Rattle.zw_def_syntax.specs.Expression.{suffix, suffix_next}
use Rattle.zw_def_syntax.specs.Grammar.{within}
use Rattle.zw_def_syntax.specs.Input.{repeated, turns}
use Rattle.zw_ast.specs.Grown.{grown_seen}
use Rattle.zw_ast.specs.Named.{IsNamed}
use Rattle.zw_grammar.proofs.postfix.suffixes.Given as goal

abbrev pub invariant-turn : goal.invariant-turn
invariant-turn g l =
    let names = l.grammar.maker.names.now in
    let turn = suffix (within l.grammar.depth) in
    (repeated suffix_next turn (grown_seen names l.fn.receiver) l.fn.tokens.input
    ≡ turns (l._turn-end - l._turn) suffix_next turn (grown_seen names l.receiver) l.tokens.input)
    × IsNamed names l.receiver
    × (l.tokens.names ≡ names)

use Rattle.std.proofs.Common.{◌≡◌, ◌-◌, ◌≤◌, length, map}
use Rattle.zw_def_syntax.specs.Expression.{is_middle, segment}
use Rattle.zw_def_syntax.specs.Grammar.{within}
use Rattle.zw_def_syntax.specs.Input.{kind_is, repeated, turns}
use Rattle.zw_ast.specs.Named.{greatest}
use Rattle.zw_ast.specs.Part.{segment_names, segment_seen}
use Rattle.zw_grammar.proofs.primary.segments.Given as goal

abbrev pub invariant-turn : goal.invariant-turn
invariant-turn g l =
    let names = l.grammar.maker.names.now in
    let turn = segment (within l.grammar.depth) in
    (repeated (kind_is is_middle 0) turn (map (segment_seen names) l.fn.found.items) l.fn.tokens.input
    ≡ turns (l._turn-end - l._turn) (kind_is is_middle 0) turn (map (segment_seen names) l.found.items) l.tokens.input)
    × (greatest segment_names l.found.items ≤ length names)
    × (l.tokens.names ≡ names)

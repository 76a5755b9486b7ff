use Rattle.std.proofs.Common.{◌≡◌, ◌-◌, ◌≤◌, length, map}
use Rattle.zw_def_syntax.specs.Grammar.{within}
use Rattle.zw_def_syntax.specs.Input.{keyword_next, repeated, turns}
use Rattle.zw_ast.specs.Named.{greatest}
use Rattle.zw_ast.specs.Part.{clause_names, clause_seen}
use Rattle.zw_compound.specs.Part.{one_more_clause}
use Rattle.zw_compound.proofs.clause.rescue_clauses.Given as goal

abbrev pub invariant-turn : goal.invariant-turn
invariant-turn g l =
    let names = l.grammar.maker.names.now in
    let turn = one_more_clause (within l.grammar.depth) in
    (repeated (keyword_next "rescue") turn (map (clause_seen names) l.fn.found.items) l.fn.tokens.input
    ≡ turns (l._turn-end - l._turn) (keyword_next "rescue") turn (map (clause_seen names) l.found.items) l.tokens.input)
    × (greatest clause_names l.found.items ≤ length names)
    × (l.tokens.names ≡ names)

use Rattle.zw_parser.proofs.statements.statements.Given as goal
use Rattle.zw_def_syntax.specs.Program.{parsed_from}
use Rattle.zw_ast.specs.Program.{AreNamedStatements, statements_seen}
use Rattle.std.proofs.Common.{◌≡◌, ◌-◌, [], length}

abbrev pub invariant-turn : goal.invariant-turn
invariant-turn l =
    let names = l.maker.names.now in
    (parsed_from (length l.fn.tokens.input.rest) [] l.fn.tokens.input
    ≡ parsed_from (l._turn-end - l._turn) (statements_seen names l.found.items) l.tokens.input)
    × AreNamedStatements names l.found.items
    × (l.tokens.names ≡ names)

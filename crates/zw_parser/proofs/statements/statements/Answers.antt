use Rattle.std.proofs.Common.{rules, ◌≡◌, ◌+◌, ◌-◌, true, false, ap, sym, ◌∙◌, arith, Vec, Global}
use Rattle.zw_def_syntax.specs.Input.{Input}
use Rattle.zw_def_syntax.specs.Tree as t
use Rattle.zw_def_syntax.specs.Program.{at_end, parsed_from}
use Rattle.zw_ast.specs.declared.program.Statement.{Statement}
use Rattle.zw_ast.specs.Program.{statement_seen, statements_seen}
use Rattle.zw_parser.proofs.ParsedLemmas.{parsed_ended, parsed_fails, parsed_gone_on, parsed_done}
use Rattle.zw_parser.proofs.NamedLemmas.{seen_pushed, statement_pushed}
use Rattle.zw_parser.proofs.statements.statements.Goals as goal

pub returns-then-at_end-clause-told : goal.returns-then-at_end-clause-told
returns-then-at_end-clause-told c =
    let over : at_end c.skip_separators.new.tokens.input ≡ true = search rules in
    parsed_ended _ _ _ _ c.turn.invariant.0 _ (omega (arith, c.turn-test.true)) c.skip_separators.ensures.skips over

pub returns-in_err-statement-clause-told : goal.returns-in_err-statement-clause-told
returns-in_err-statement-clause-told c =
    let names = c.args.maker.names.now in
    let more : at_end c.skip_separators.new.tokens.input ≡ false = search rules in
    let one : Statement → t.Statement × Input = λ s. (statement_seen names s, c.statement.new.tokens.input) in
    let all = λ (found : Vec Statement Global). statements_seen names found.items in
    let fails = parsed_fails _ _ _ _ c.turn.invariant.0 _ (omega (arith, c.turn-test.true)) c.skip_separators.ensures.skips one all _ more c.in_err-statement.ensures.told in
    search (rules, fails, c.from_residual.ensures)

pub turn-preserved : goal.turn-preserved
turn-preserved c =
    let names = c.args.maker.names.now in
    let more : at_end c.skip_separators.new.tokens.input ≡ false = search rules in
    let goes = parsed_gone_on _ _ _ _ c.turn.invariant.0 _ (omega (arith, c.turn-test.true)) c.skip_separators.ensures.skips _ _ more c.in_ok-statement.ensures.told in
    let seen = seen_pushed names _ _ _ c.in_ok-push.ensures.items in (
      goes ∙ ap (λ all. parsed_from (c.left-turn-end.result - (c.turn._turn + 1)) all c.statement.new.tokens.input) (sym seen),
      statement_pushed names _ _ _ c.in_ok-push.ensures.items c.turn.invariant.1 c.in_ok-statement.ensures.named,
      c.in_ok-statement.ensures.same,
    )

pub returns-clause-told : goal.returns-clause-told
returns-clause-told c = parsed_done _ _ _ _ c.turn.invariant.0 (omega (arith, c.turn-test.false))

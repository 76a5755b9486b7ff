use Rattle.std.proofs.Common.{◌<◌, ◌+◌, ◌∙◌, sym, ap, refl, subst, take, length, get_or, arith}
use Rattle.zw_ast.specs.Program.{statement_seen, statement_names}
use Rattle.zw_copy.specs.Copy.{AreSame}
use Rattle.zw_copy.proofs.CopyLemmas.{statement_copied, program_copied}
use Rattle.zw_copy.proofs.RowLemmas.{one_more, all_done}
use Rattle.zw_copy.proofs.program.copy_program.Goals as goal

pub statements-preserved : goal.statements-preserved
statements-preserved c =
    let olds = c.args.program.now.statements.items in
    let i = c.statements.statement-index in
    let old = c.statement-item.result in
    let behind = c.deref-statement-items.ensures.value in
    subst (AreSame statement_seen statement_names (take (i + 1) olds)) (sym c.in_ok-push.ensures.items)
    (one_more statement_seen statement_names olds c.statements.statements.items i old (record { line = old.line; node = c.in_ok-node.node })
    (subst (λ xs. i < length xs) behind c.statements-test.true) (c.statement-item.is ∙ ap (λ xs. get_or xs i old) behind) c.statements.invariant
    (statement_copied old (record { line = old.line; node = c.in_ok-node.node }) refl c.in_ok-node.ensures))

pub returns : goal.returns
returns c =
    let olds = c.args.program.now.statements.items in
    let over = c.statements-test.false in
    let count = ap length c.deref-statement-items.ensures.value in
    program_copied c.args.program.now (record { statements = c.statements.statements })
    (all_done statement_seen statement_names olds c.statements.statements.items c.statements.statement-index (omega (arith, over, count))
    c.statements.invariant)

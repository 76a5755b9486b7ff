use Rattle.std.proofs.Common.{sym, ◌∙◌}
use Rattle.zw_def.proofs.NameLemmas.{OnlyGrows-same}
use Rattle.zw_lexer.proofs.HeldLemmas.{names_held}
use Rattle.zw_lexer.proofs.ScanLemmas.{map_IfOk}
use Rattle.zw_lexer.proofs.SpanLaws.{text_covers, text_in_order}
use Rattle.zw_lexer.proofs.SettleLemmas.{lexed_as, lexed_other, other_text, map_Faults}
use Rattle.zw_lexer.proofs.lexer.lex.Goals as goal

pub returns-in-Ok-clause-tokens : goal.returns-in-Ok-clause-tokens
returns-in-Ok-clause-tokens c =
    let whole = lexed_as c.args.text.now c.in-Ok.text.now c.in-Ok.ensures.cases.1 c.in-Ok.ensures.cases.0 in
    map_IfOk c.lex_text.result _ _ (λ tokens told all grows. whole ∙ told all grows) c.lex_text.ensures.told

pub returns-in-Ok-clause-held : goal.returns-in-Ok-clause-held
returns-in-Ok-clause-held c = map_IfOk c.lex_text.result _ _ (λ tokens told. names_held c.lex_text.new.names _ tokens.items told) c.lex_text.ensures.told

pub returns-in-Ok-clause-fault : goal.returns-in-Ok-clause-fault
returns-in-Ok-clause-fault c =
    let whole = lexed_as c.args.text.now c.in-Ok.text.now c.in-Ok.ensures.cases.1 c.in-Ok.ensures.cases.0 in
    map_Faults c.lex_text.result _ _ (sym whole) c.lex_text.ensures.fault

pub returns-in-Err-clause-fault : goal.returns-in-Err-clause-fault
returns-in-Err-clause-fault c = lexed_other c.args.text.now (other_text c.args.text.now c.in-Err.ensures.cases.0)

pub returns-in-Ok-clause-in_order : goal.returns-in-Ok-clause-in_order
returns-in-Ok-clause-in_order c =
    let whole = lexed_as c.args.text.now c.in-Ok.text.now c.in-Ok.ensures.cases.1 c.in-Ok.ensures.cases.0 in
    let names = c.lex_text.new.names in
    map_IfOk c.lex_text.result _ _ (λ tokens told. text_in_order c.args.text.now _ (whole ∙ told names (OnlyGrows-same names))) c.lex_text.ensures.told

pub returns-in-Ok-clause-between : goal.returns-in-Ok-clause-between
returns-in-Ok-clause-between c =
    let whole = lexed_as c.args.text.now c.in-Ok.text.now c.in-Ok.ensures.cases.1 c.in-Ok.ensures.cases.0 in
    let names = c.lex_text.new.names in
    map_IfOk c.lex_text.result _ _ (λ tokens told. text_covers c.args.text.now _ (whole ∙ told names (OnlyGrows-same names))) c.lex_text.ensures.told

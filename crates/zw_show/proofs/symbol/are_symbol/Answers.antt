use Rattle.std.proofs.Common.{subst, arith}
use Rattle.zw_lexer.specs.Token.{AreTokens}
use Rattle.zw_show.proofs.SymbolLemmas.{not_one, one_of, other_kind, symbol_by}
use Rattle.zw_show.proofs.symbol.are_symbol.Goals as goal

pub returns-in_default : goal.returns-in_default
returns-in_default c = λ reading are. not_one c.args.names.now c.args.text.now c.args.tokens.now reading (λ e. omega (arith, e, c.in_default.len_below)) are

pub returns-in_default-2 : goal.returns-in_default-2
returns-in_default-2 c = λ reading are. not_one c.args.names.now c.args.text.now c.args.tokens.now reading (λ e. omega (arith, e, c.in_default.len_at_least)) are

pub returns-in_ok-own-in-Symbol : goal.returns-in_ok-own-in-Symbol
returns-in_ok-own-in-Symbol c = λ reading are.
    symbol_by c.args.names.now c.intern.new.self c.args.text.now c.in_ok-own-in-Symbol.own.0 c.in-Symbol.name c.token-item.result c.in-Symbol.is reading
    c.in_ok-own-in-Symbol.ensures.grows c.are_distinct.ensures c.in_ok-own-in-Symbol.ensures.named
    (subst (AreTokens c.args.names.now reading) (one_of c.args.tokens.now c.token-item.result c.in-len1.len_at_least c.in-len1.len_below c.token-item.is) are)

pub returns-in_default-kind : goal.returns-in_default-kind
returns-in_default-kind c = λ reading are.
    other_kind c.args.names.now c.args.text.now c.token-item.result reading c.in_default-kind.not-Symbol
    (subst (AreTokens c.args.names.now reading) (one_of c.args.tokens.now c.token-item.result c.in-len1.len_at_least c.in-len1.len_below c.token-item.is) are)

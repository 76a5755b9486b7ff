use Rattle.std.proofs.Common.{map, ap, sym, ◌∙◌}
use Rattle.zw_lexer.specs.Scan.{raw_seen}
use Rattle.zw_lexer.specs.Scan.{turned}
use Rattle.zw_lexer.proofs.SettleLemmas.{fronted, fronted_all, fronted_last}
use Rattle.zw_lexer.proofs.settle.without_ends_before.Goals as goal

pub tokens-init : goal.tokens-init
tokens-init c = ap (λ ks. fronted (map raw_seen c.args.tokens.items) (turned ks)) c.new-kept.ensures.items ∙ fronted_all (map raw_seen c.args.tokens.items)

pub tokens-preserved : goal.tokens-preserved
tokens-preserved c =
    ap (fronted (map raw_seen c.take_last.new.tokens.items)) c.in_ok-keep.ensures
    ∙ sym (fronted_last (map raw_seen c.take_last.new.tokens.items) (turned c.tokens.kept.items) (raw_seen c.in-Some.raw))
    ∙ ap (λ ts. fronted ts (turned c.tokens.kept.items)) (sym c.in-Some.ensures.some)
    ∙ c.tokens.invariant

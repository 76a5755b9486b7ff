use Rattle.std.proofs.Common.{◌≡◌, true, false, map, ap, sym, subst, ◌∙◌, rules, Ok, Err, None, ◌&&◌}
use Rattle.zw_def_syntax.specs.Lexed.{is_newline, drops_end, settled}
use Rattle.zw_def.proofs.NameLemmas.{OnlyGrows-same, OnlyGrows-trans}
use Rattle.zw_lexer.specs.Token.{token_seen}
use Rattle.zw_lexer.specs.Fault.{Faults}
use Rattle.zw_lexer.specs.Scan.{raw_seen}
use Rattle.zw_lexer.specs.Settle.{last_kind, Settles}
use Rattle.zw_lexer.specs.Scan.{turned}
use Rattle.zw_lexer.proofs.SettleLemmas.{drop_step, settle_step, fault_step, settled_all}
use Rattle.zw_lexer.proofs.settle.settle.Goals as goal

pub tokens-preserved-then-is_dropped : goal.tokens-preserved-then-is_dropped
tokens-preserved-then-is_dropped c = record {
  grows = c.tokens.invariant.grows;
  read = λ all grows.
      let dropped : (is_newline (raw_seen c.in-Some.raw).kind && drops_end (last_kind all c.tokens.settled.items)) ≡ true =
      ap (λ ts. is_newline (raw_seen c.in-Some.raw).kind && drops_end (last_kind all ts)) (sym c.deref.ensures.value) ∙ sym (c.is_dropped.ensures all) ∙ c.if-is_dropped.true in
      drop_step (map (token_seen all) c.tokens.settled.items) (raw_seen c.in-Some.raw) (turned c.take_last.new.tokens.items) (turned c.tokens.left.items) _ dropped c.in-Some.ensures.turned (c.tokens.invariant.read all grows);
}

pub tokens-preserved : goal.tokens-preserved
tokens-preserved c = record {
  grows = OnlyGrows-trans _ _ _ c.tokens.invariant.grows c.settle_token.ensures.grows;
  read = λ all grows.
      let kept : (is_newline (raw_seen c.in-Some.raw).kind && drops_end (last_kind all c.tokens.settled.items)) ≡ false =
      ap (λ ts. is_newline (raw_seen c.in-Some.raw).kind && drops_end (last_kind all ts)) (sym c.deref.ensures.value) ∙ sym (c.is_dropped.ensures all) ∙ c.if-is_dropped.false in
      let steps : Settles (Ok tt) c.settle_token.new.names c.tokens.settled.items c.settle_token.new.settled.items (raw_seen c.in-Some.raw) (turned c.take_last.new.tokens.items) =
      subst (λ rs. Settles (Ok tt) c.settle_token.new.names c.tokens.settled.items c.settle_token.new.settled.items (raw_seen c.in-Some.raw) (turned rs)) c.deref-in-Some.ensures.value c.in_ok-settle_token.ensures.steps in
      let (kind, told, pushed) = steps all grows in
      settle_step (map (token_seen all) c.tokens.settled.items) (map (token_seen all) c.settle_token.new.settled.items) (raw_seen c.in-Some.raw) (turned c.take_last.new.tokens.items) (turned c.tokens.left.items) kind _ kept told pushed c.in-Some.ensures.turned
      (c.tokens.invariant.read all (OnlyGrows-trans _ _ _ c.settle_token.ensures.grows grows));
}

pub returns-in_err-settle_token-clause-fault : goal.returns-in_err-settle_token-clause-fault
returns-in_err-settle_token-clause-fault c =
    let names = c.tokens.names in
    let kept : (is_newline (raw_seen c.in-Some.raw).kind && drops_end (last_kind names c.tokens.settled.items)) ≡ false =
    ap (λ ts. is_newline (raw_seen c.in-Some.raw).kind && drops_end (last_kind names ts)) (sym c.deref.ensures.value) ∙ sym (c.is_dropped.ensures names) ∙ c.if-is_dropped.false in
    let steps : Settles (Err c.in_err-settle_token.field-0.0) c.settle_token.new.names c.tokens.settled.items c.settle_token.new.settled.items (raw_seen c.in-Some.raw) (turned c.take_last.new.tokens.items) =
    subst (λ rs. Settles (Err c.in_err-settle_token.field-0.0) c.settle_token.new.names c.tokens.settled.items c.settle_token.new.settled.items (raw_seen c.in-Some.raw) (turned rs)) c.deref-in-Some.ensures.value c.in_err-settle_token.ensures.steps in
    let faults : Faults c.in_err-settle_token.field-0.0 (settled None (turned c.args.left.items)) = fault_step c.in_err-settle_token.field-0.0 c.settle_token.new.names names c.tokens.settled.items c.settle_token.new.settled.items (raw_seen c.in-Some.raw) (turned c.take_last.new.tokens.items) (turned c.tokens.left.items) _ kept steps c.in-Some.ensures.turned (c.tokens.invariant.read names (OnlyGrows-same names)) in
    search (rules, faults)

pub returns-clause-told : goal.returns-clause-told
returns-clause-told c = λ all grows.
    settled_all (map (token_seen all) c.tokens.settled.items) (turned c.tokens.left.items) _ (search rules) (c.tokens.invariant.read all grows)

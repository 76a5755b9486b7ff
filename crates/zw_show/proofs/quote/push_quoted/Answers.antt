use Rattle.std.proofs.Common.{◌∙◌, ◌++◌, Err, ap, subst, string_bytes}
use Rattle.zw_def_world.specs.Quote.{quoted_rest}
use Rattle.zw_show.specs.Writes.{Writes, quoted_char}
use Rattle.zw_show.proofs.QuoteLemmas.{quoted_rest-char, one_more, stops, err_is}
use Rattle.zw_show.proofs.quote.push_quoted.Goals as goal

pub loop-character-preserved : goal.loop-character-preserved
loop-character-preserved c = record {
  most = c.in_ok-push_quoted_char.ensures.1 ∙ c.loop-character.invariant.most;
  written = one_more _ _ (quoted_rest c.loop-character.rest.rest.now) _ (quoted_char c.in-Some.character c.next.new.self.rest.now) (quoted_rest c.loop-character.rest.rest.now) (quoted_rest c.next.new.self.rest.now)
      c.loop-character.invariant.written (quoted_rest-char c.in-Some.character c.loop-character.rest.rest.now c.next.new.self.rest.now c.in-Some.ensures.steps.0) (c.in_ok-push_quoted_char.ensures.0 ∙ ap (λ r. string_bytes c.loop-character.writer.text ++ quoted_char c.in-Some.character r) c.as_str.ensures);
}

pub returns-in_err-push_quoted_char : goal.returns-in_err-push_quoted_char
returns-in_err-push_quoted_char c =
    stops (Unit {0}) c.args.writer.now c.loop-character.writer c.push_quoted_char.new.writer _ (quoted_rest c.loop-character.rest.rest.now) (quoted_char c.in-Some.character c.next.new.self.rest.now) (quoted_rest c.next.new.self.rest.now)
    c.loop-character.invariant.most c.loop-character.invariant.written (quoted_rest-char c.in-Some.character c.loop-character.rest.rest.now c.next.new.self.rest.now c.in-Some.ensures.steps.0)
    c.in_err-push_quoted_char.field-0.0 c.from_residual-in_err-push_quoted_char.result (err_is _ _ c.from_residual-in_err-push_quoted_char.ensures.1) (subst (λ r. Writes {X = Unit {0}} c.loop-character.writer c.push_quoted_char.new.writer (quoted_char c.in-Some.character r) (Err c.in_err-push_quoted_char.field-0.0)) c.as_str.ensures c.in_err-push_quoted_char.ensures)

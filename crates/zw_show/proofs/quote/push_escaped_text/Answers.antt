use Rattle.std.proofs.Common.{◌∙◌}
use Rattle.zw_def_world.specs.Quote.{escaped_text}
use Rattle.zw_show.specs.Writes.{escaped_char}
use Rattle.zw_show.proofs.QuoteLemmas.{escaped_text-char, one_more, stops, err_is}
use Rattle.zw_show.proofs.quote.push_escaped_text.Goals as goal

pub loop-character-preserved : goal.loop-character-preserved
loop-character-preserved c = record {
  most = c.in_ok-push_escaped.ensures.1 ∙ c.loop-character.invariant.most;
  written = one_more _ _ (escaped_text c.loop-character.rest.rest.now) _ (escaped_char c.in-Some.character) (escaped_text c.loop-character.rest.rest.now) (escaped_text c.next.new.self.rest.now)
      c.loop-character.invariant.written (escaped_text-char c.in-Some.character c.loop-character.rest.rest.now c.next.new.self.rest.now c.in-Some.ensures.steps.0) c.in_ok-push_escaped.ensures.0;
}

pub returns-in_err-push_escaped : goal.returns-in_err-push_escaped
returns-in_err-push_escaped c =
    stops (Unit {0}) c.args.writer.now c.loop-character.writer c.push_escaped.new.writer _ (escaped_text c.loop-character.rest.rest.now) (escaped_char c.in-Some.character) (escaped_text c.next.new.self.rest.now)
    c.loop-character.invariant.most c.loop-character.invariant.written (escaped_text-char c.in-Some.character c.loop-character.rest.rest.now c.next.new.self.rest.now c.in-Some.ensures.steps.0)
    c.in_err-push_escaped.field-0.0 c.from_residual.result (err_is _ _ c.from_residual.ensures.1) c.in_err-push_escaped.ensures

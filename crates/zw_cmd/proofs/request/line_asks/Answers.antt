use Rattle.std.proofs.Common.{sym, ap, ◌∙◌}
use Rattle.zw_cmd.specs.Request.{reading_for}
use Rattle.zw_cmd.proofs.RequestLemmas.{line_by, other_line}
use Rattle.zw_cmd.proofs.request.line_asks.Goals as goal

pub returns-in-Err-clause-reads : goal.returns-in-Err-clause-reads
returns-in-Err-clause-reads c = λ s. ap (λ r. reading_for r s) c.bad.ensures ∙ sym (other_line c.args.line.now s c.in-Err.ensures.cases.0)

pub returns-in-Ok-clause-reads : goal.returns-in-Ok-clause-reads
returns-in-Ok-clause-reads c =
    line_by c.text_asks.result c.args.line.now c.in-Ok.text.now c.in-Ok.ensures.cases.0 c.without_return.result.now c.without_return.utf8 c.without_return.ensures c.text_asks.ensures.reads

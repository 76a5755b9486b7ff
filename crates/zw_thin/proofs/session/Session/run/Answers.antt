use Rattle.std.proofs.Common.{◌∙◌, ap}
use Rattle.zw_def_thin.specs.Evaluation.{line_of_ending}
use Rattle.zw_thin.specs.Expression.{expression_seen}
use Rattle.zw_thin.specs.Held.{ending_in}
use Rattle.zw_thin.proofs.WorldLemmas.{runs_to}
use Rattle.zw_thin.proofs.session.Session.run.Goals as goal

pub returns : goal.returns
returns c = λ world stands.
    let e = expression_seen c.in-Some.expression in
    runs_to world c.args.self.now c.prepare.new.self e _ c.in_ok-path.path _ c.in_ok-path.ensures.state c.in-Some.ensures c.in_ok-path.ensures.path
    (c.in_ok-line.ensures ∙ ap line_of_ending (c.ending.ensures ∙ ap (λ p. ending_in c.prepare.new.self.table p e) c.as_ref.ensures.value)) stands

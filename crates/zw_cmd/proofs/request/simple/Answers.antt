use Rattle.std.proofs.Common.{sym, ap, ◌∙◌}
use Rattle.zw_def_session.specs.Commands.{command_of}
use Rattle.zw_cmd.specs.Request.{reading_for}
use Rattle.zw_cmd.proofs.RequestLemmas.{namespace_reads}
use Rattle.zw_cmd.proofs.request.simple.Goals as goal

pub returns-in_ok-constant_path_in-in-eager_ns-clause-reads :
    goal.returns-in_ok-constant_path_in-in-eager_ns-clause-reads
returns-in_ok-constant_path_in-in-eager_ns-clause-reads c = λ s.
    ap (λ r. reading_for r s) c.with_argument-in-eager_ns.ensures
    ∙ namespace_reads c.in_ok-constant_path_in-in-eager_ns.field-0 c.args.rest.now s c.in_ok-constant_path_in-in-eager_ns.ensures
    ∙ sym (ap (λ w. command_of w c.args.rest.now s) c.in-eager_ns.is)

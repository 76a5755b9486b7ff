use Rattle.std.proofs.Common.{ap, sym, subst, ◌∙◌}
use Rattle.zw_def_world.specs.Act.{gives}
use Rattle.zw_heap.specs.Telling.{tell}
use Rattle.zw_session.specs.Acts.{gives_value, reads_variable}
use Rattle.zw_session.specs.Sense.{world_of}
use Rattle.zw_session.specs.SessionSeen.{session_seen}
use Rattle.zw_session.specs.Step.{Step}
use Rattle.zw_session.specs.Stores.{Stores}
use Rattle.zw_session.proofs.VariableLemmas.{variable-read}
use Rattle.zw_session.proofs.session.Session.ivar.Goals as goal

pub returns-clause-step : goal.returns-clause-step
returns-clause-step c =
    let s : Stores = session_seen c.self.inside in
    subst (λ (u : Stores). Step u u (reads_variable c.args.of c.args.name) (gives_value c.unwrap_or.result)) c.self.view_is (λ J p stands here.
    variable-read J s p here c.args.name.0 c.get_ivar.result c.args.of c.get_ivar.ensures.value
    ∙ ap (λ x. gives (tell J.telling x) (record p { world = world_of J s })) (sym c.unwrap_or.ensures))

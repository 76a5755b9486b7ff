use Rattle.std.proofs.Common.{rules, ◌≡◌, None, Some, Err, refl, ap, sym, subst, ◌∙◌}
use Rattle.std.specs.Option.{option_map}
use Rattle.zw_def_world.specs.Act.{gives}
use Rattle.zw_def_world.specs.Variable.{held_by}
use Rattle.zw_heap.specs.Telling.{tell}
use Rattle.zw_session.specs.Acts.{fails_class_variable, gives_value, id_told, reads_class_variable}
use Rattle.zw_session.specs.Sense.{world_of}
use Rattle.zw_session.specs.SessionSeen.{session_seen}
use Rattle.zw_session.specs.Step.{Step}
use Rattle.zw_session.specs.Stores.{Stores}
use Rattle.zw_session.proofs.VariableLemmas.{class_variable-read, fault-steps, then-steps}
use Rattle.zw_session.proofs.session.Session.class_variable.Goals as goal

pub returns-in_default-clause-steps : goal.returns-in_default-clause-steps
returns-in_default-clause-steps c =
    let s = c.args.self.now in
    let missed = c.in_ok-no_class_variable.field-0 in
    let none : c.in_ok-holder.field-0 ≡ None = search rules in
    then-steps s s (reads_class_variable c.args.scope c.args.name) (fails_class_variable c.args.scope c.args.name) gives_value (Err missed) (λ J stands. stands)
    (λ J p stands here. c.in_ok-holder.ensures.step (held_by (J.telling.name c.args.name.0) (J.telling.module_id c.args.scope.0)) J p stands here
    ∙ ap (λ o. held_by (J.telling.name c.args.name.0) (J.telling.module_id c.args.scope.0) (option_map (id_told J) o) (record p { world = world_of J s })) none)
    (fault-steps s (fails_class_variable c.args.scope c.args.name) gives_value missed c.in_ok-no_class_variable.ensures)

pub returns-clause-steps : goal.returns-clause-steps
returns-clause-steps c =
    let s : Stores = session_seen c.self.inside in
    let first = subst (λ (u : Stores). Step u u (reads_class_variable c.args.scope c.args.name) (λ J. held_by (J.telling.name c.args.name.0) (J.telling.module_id c.args.scope.0) (Some (J.telling.module_id c.in-Some.holder.0)))) (sym c.self.view_is)
    (λ J p stands here. c.in_ok-holder.ensures.step (held_by (J.telling.name c.args.name.0) (J.telling.module_id c.args.scope.0)) J p stands here
    ∙ ap (λ o. held_by (J.telling.name c.args.name.0) (J.telling.module_id c.args.scope.0) (option_map (id_told J) o) (record p { world = world_of J c.args.self.now })) c.in-Some.is) in
    subst (λ (u : Stores). Step u u (reads_class_variable c.args.scope c.args.name) (gives_value c.unwrap_or.result)) c.self.view_is (λ J p stands here.
    let stood = record p { world = world_of J s } in
    first J p stands here
    ∙ class_variable-read J s stood refl c.args.name.0 c.get_cvar.result c.in-Some.holder c.get_cvar.ensures.value
    ∙ ap (λ x. gives (tell J.telling x) stood) (sym c.unwrap_or.ensures))

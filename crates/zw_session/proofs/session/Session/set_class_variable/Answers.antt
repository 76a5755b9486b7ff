use Rattle.std.proofs.Common.{Err, Option, sym, subst}
use Rattle.std.specs.Option.{option_map}
use Rattle.zw_def_world.specs.Act.{Act}
use Rattle.zw_def_world.specs.Id.{Id}
use Rattle.zw_heap.specs.Change.{class_variable_set}
use Rattle.zw_heap.specs.Heap.{is_frozen_in}
use Rattle.zw_heap.specs.Refusal.{AnswersFrozen}
use Rattle.zw_heap.specs.Telling.{OnlyAdds}
use Rattle.zw_heap.specs.declared.value.Value.TheVariants.{Module}
use Rattle.zw_session.specs.Acts.{asks_holder, gives_value, id_told, writes_class_variable}
use Rattle.zw_session.specs.SessionSeen.{session_seen}
use Rattle.zw_session.specs.Step.{Keeps, Step, Steps}
use Rattle.zw_session.specs.Stores.{Stores}
use Rattle.zw_session.proofs.SoundLemmas.{keeps-grown}
use Rattle.zw_session.proofs.VariableLemmas.{class_variable-refused, class_variable-steps}
use Rattle.zw_session.proofs.session.Session.set_class_variable.Goals as goal

pub returns-in-Ok-clause-keeps : goal.returns-in-Ok-clause-keeps
returns-in-Ok-clause-keeps c =
    let s : Stores = session_seen c.self.inside in
    let adds = subst (OnlyAdds s.heap) (sym c.in-Ok.ensures.set) (c.only_adds.ensures (class_variable_set c.unwrap_or-holder.result c.args.name.0 c.args.to)) in
    subst (λ (u : Stores). Keeps u (record s { heap = c.set_cvar.new.self })) c.self.view_is
    (keeps-grown s c.set_cvar.new.self s.constants s.methods adds c.in-Ok.ensures.stays)

pub returns-in-Ok-clause-steps : goal.returns-in-Ok-clause-steps
returns-in-Ok-clause-steps c =
    let s : Stores = session_seen c.self.inside in
    let g = c.set_cvar.new.self in
    let holder = c.unwrap_or-holder.result in
    let found = c.in_ok-class_variable_holder.field-0 in
    let adds = subst (OnlyAdds s.heap) (sym c.in-Ok.ensures.set) (c.only_adds.ensures (class_variable_set holder c.args.name.0 c.args.to)) in
    let asked = subst (λ (u : Stores). (k : Option Id → Act) → Step u u (asks_holder c.args.scope c.args.name k) (λ J. k (option_map (id_told J) found))) (sym c.self.view_is) c.in_ok-class_variable_holder.ensures.step in
    subst (λ (u : Stores). Step u (record s { heap = g }) (writes_class_variable c.args.scope c.args.name c.args.to) (gives_value c.args.to)) c.self.view_is
    (class_variable-steps s g c.args.name c.args.to c.args.scope holder found c.unwrap_or-holder.ensures asked adds c.in-Ok.ensures.set c.in-Ok.ensures.frozen)

pub returns-in_ok-frozen-in-Err-Refused-clause-steps : goal.returns-in_ok-frozen-in-Err-Refused-clause-steps
returns-in_ok-frozen-in-Err-Refused-clause-steps c =
    let s : Stores = session_seen c.self.inside in
    let g = c.set_cvar.new.self in
    let holder = c.unwrap_or-holder.result in
    let found = c.in_ok-class_variable_holder.field-0 in
    let fault = c.in_ok-frozen-in-Err-Refused in
    let asked = subst (λ (u : Stores). (k : Option Id → Act) → Step u u (asks_holder c.args.scope c.args.name k) (λ J. k (option_map (id_told J) found))) (sym c.self.view_is) c.in_ok-class_variable_holder.ensures.step in
    let frozen = (subst (λ f. AnswersFrozen {X = Unit {0}} (is_frozen_in s.heap (Module holder)) (Err f)) c.in-Err-Refused.field-0-is c.in-Err-Refused.ensures.frozen).0 in
    subst (λ (u : Stores). Steps {X = Unit {0}} u (record s { heap = g }) (writes_class_variable c.args.scope c.args.name c.args.to) (λ x. gives_value c.args.to) (Err fault.field-0)) c.self.view_is
    (class_variable-refused s g c.args.name c.args.to c.args.scope holder found c.unwrap_or-holder.ensures asked {X = Unit {0}} (λ x. gives_value c.args.to) fault.field-0 c.in-Err-Refused.ensures.unchanged frozen fault.ensures)

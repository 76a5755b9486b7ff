use Rattle.std.proofs.Common.{Err, ap, sym, subst}
use Rattle.zw_def_world.specs.Act.{Act}
use Rattle.zw_def_world.specs.Call.{sets_in_holder}
use Rattle.zw_def_world.specs.Value.{as_holder}
use Rattle.zw_heap.specs.Change.{variable_set}
use Rattle.zw_heap.specs.Heap.{Held, is_frozen_in}
use Rattle.zw_heap.specs.Refusal.{AnswersFrozen}
use Rattle.zw_heap.specs.Telling.{OnlyAdds}
use Rattle.zw_session.specs.Acts.{gives_value, name_told, value_told, writes_variable}
use Rattle.zw_session.specs.Sense.{Sense, world_of}
use Rattle.zw_session.specs.SessionSeen.{session_seen}
use Rattle.zw_session.specs.Step.{Keeps, Step, Steps}
use Rattle.zw_session.specs.Stores.{Stores}
use Rattle.zw_session.proofs.FaultLemmas.{frozen-refused}
use Rattle.zw_session.proofs.SoundLemmas.{keeps-grown}
use Rattle.zw_session.proofs.VariableLemmas.{set-steps}
use Rattle.zw_session.proofs.session.Session.set_ivar.Goals as goal

pub returns-in-Ok-clause-keeps : goal.returns-in-Ok-clause-keeps
returns-in-Ok-clause-keeps c =
    let s : Stores = session_seen c.self.inside in
    let adds = subst (OnlyAdds s.heap) (sym c.in-Ok.ensures.set) (c.only_adds.ensures (variable_set c.args.of c.args.name.0 c.args.to)) in
    subst (λ (u : Stores). Keeps u (record s { heap = c.set_ivar.new.self })) c.self.view_is
    (keeps-grown s c.set_ivar.new.self s.constants s.methods adds c.in-Ok.ensures.stays)

pub returns-in-Ok-clause-steps : goal.returns-in-Ok-clause-steps
returns-in-Ok-clause-steps c =
    let s : Stores = session_seen c.self.inside in
    subst (λ (u : Stores). Step u (record s { heap = c.set_ivar.new.self }) (writes_variable c.args.of c.args.name c.args.to) (gives_value c.args.to)) c.self.view_is
    (set-steps s c.set_ivar.new.self c.args.name c.args.to c.args.of c.in-Ok.ensures.set c.in-Ok.ensures.frozen)

pub returns-in_ok-frozen-in-Err-Refused-clause-steps : goal.returns-in_ok-frozen-in-Err-Refused-clause-steps
returns-in_ok-frozen-in-Err-Refused-clause-steps c =
    let s : Stores = session_seen c.self.inside in
    let t : Stores = record s { heap = c.set_ivar.new.self } in
    let fault = c.in_ok-frozen-in-Err-Refused in
    let sets : Sense → Act = λ J. sets_in_holder (name_told J c.args.name) (value_told J c.args.to) (as_holder (value_told J c.args.of)) in
    let frozen = (subst (λ f. AnswersFrozen {X = Unit {0}} (is_frozen_in s.heap c.args.of) (Err f)) c.in-Err-Refused.field-0-is c.in-Err-Refused.ensures.frozen).0 in
    subst (λ (u : Stores). Steps {X = Unit {0}} u t (writes_variable c.args.of c.args.name c.args.to) (λ x. gives_value c.args.to) (Err fault.field-0)) c.self.view_is
    (frozen-refused {X = Unit {0}} s t c.args.of sets (λ x. gives_value c.args.to) fault.field-0 (λ J. ap (λ (h : Held). world_of J (record s { heap = h })) c.in-Err-Refused.ensures.unchanged) frozen fault.ensures)

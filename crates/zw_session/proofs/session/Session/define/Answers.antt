use Rattle.std.proofs.Common.{◌<◌, length, Err, sym, subst}
use Rattle.zw_session.specs.SessionSeen.{session_seen}
use Rattle.zw_session.specs.Stores.{Stores}
use Rattle.zw_def_world.specs.Act.{Act, changing_module}
use Rattle.zw_def_world.specs.Fault.{unless_frozen}
use Rattle.zw_def_world.specs.Value.{symbol}
use Rattle.zw_heap.specs.Telling.{tell}
use Rattle.zw_methods.specs.Methods.{AnswersFrozen}
use Rattle.zw_methods.specs.Telling.{told_method}
use Rattle.zw_session.specs.Sense.{Sense}
use Rattle.zw_heap.specs.Heap.{is_frozen_in}
use Rattle.zw_heap.specs.declared.value.Value.TheVariants.{Module}
use Rattle.zw_session.specs.Acts.{defines_method, gives_symbol, with_told_method}
use Rattle.zw_session.specs.Sound.{BodyIn}
use Rattle.zw_session.specs.Step.{Step, Steps}
use Rattle.zw_session.proofs.MethodLemmas.{Sound-method, Sound-tables, method-defined, tables-same}
use Rattle.zw_session.proofs.FaultLemmas.{frozen-refused}
use Rattle.zw_session.proofs.ConstantLemmas.{there-is}
use Rattle.zw_session.proofs.session.Session.define.Goals as goal

pub invariant_of-self : goal.invariant_of-self
invariant_of-self c =
    let view = c.self.view_is in
    Sound-method (session_seen c.self.inside) c.define.new.self c.args.of.0 c.args.singleton c.args.name.0 c.args.method c.in-Ok.ensures.set c.self.invariant
    (subst (λ (s : Stores). c.args.of.0 < length s.heap.modules) (sym view) c.requires.of)
    (subst (λ (s : Stores). BodyIn (length s.names) (length s.bodies) c.args.method.body) (sym view) c.requires.method)

pub invariant_of-self-in-Err-Refused : goal.invariant_of-self-in-Err-Refused
invariant_of-self-in-Err-Refused c = Sound-tables (session_seen c.self.inside) c.define.new.self c.self.invariant c.in-Err-Refused.ensures.unchanged

pub invariant_of-self-in-Err-Memory : goal.invariant_of-self-in-Err-Memory
invariant_of-self-in-Err-Memory c = Sound-tables (session_seen c.self.inside) c.define.new.self c.self.invariant c.in-Err-Memory.ensures.unchanged

pub returns-in-Ok-clause-steps : goal.returns-in-Ok-clause-steps
returns-in-Ok-clause-steps c =
    let s : Stores = session_seen c.self.inside in
    subst (λ (u : Stores). Step u (record s { methods = c.define.new.self }) (defines_method c.args.of c.args.singleton c.args.name c.args.method) (gives_symbol c.args.name)) c.self.view_is (λ J p stands here.
    let m = there-is s.heap.modules c.args.of.0 (subst (λ (u : Stores). c.args.of.0 < length u.heap.modules) (sym c.self.view_is) c.requires.of) in
    method-defined s c.define.new.self c.args.of c.args.singleton c.args.name.0 c.args.method c.in-Ok.ensures.set J m.0 m.1 p here c.in-Ok.ensures.frozen)

pub returns-in_ok-frozen-in-Err-Refused-clause-steps : goal.returns-in_ok-frozen-in-Err-Refused-clause-steps
returns-in_ok-frozen-in-Err-Refused-clause-steps c =
    let s : Stores = session_seen c.self.inside in
    let act : Sense → Act = λ J. changing_module (J.telling.module_id c.args.of.0) (with_told_method c.args.singleton (J.telling.name c.args.name.0) (told_method J.telling J.codes c.args.method)) (symbol (J.telling.name c.args.name.0)) in
    subst (λ (u : Stores). Steps u (record s { methods = c.define.new.self }) (λ J. unless_frozen (tell J.telling (Module c.args.of)) (act J)) (λ (x : Unit {0}). gives_symbol c.args.name) (Err c.in_ok-frozen-in-Err-Refused.field-0)) c.self.view_is
    (frozen-refused {X = Unit {0}} s (record s { methods = c.define.new.self }) (Module c.args.of) act (λ x. gives_symbol c.args.name) c.in_ok-frozen-in-Err-Refused.field-0 (tables-same s c.define.new.self c.in-Err-Refused.ensures.unchanged) (subst (λ f. AnswersFrozen {X = Unit {0}} (is_frozen_in s.heap (Module c.args.of)) (Err f)) c.in-Err-Refused.field-0-is c.in-Err-Refused.ensures.frozen).0 c.in_ok-frozen-in-Err-Refused.ensures)

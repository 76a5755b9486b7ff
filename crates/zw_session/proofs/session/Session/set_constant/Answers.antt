use Rattle.std.proofs.Common.{◌<◌, length, sym, subst}
use Rattle.zw_heap.specs.Heap.{sizes_of}
use Rattle.zw_heap.specs.Sound.{IsIn}
use Rattle.zw_session.specs.Acts.{gives_value, writes_constant}
use Rattle.zw_session.specs.SessionSeen.{session_seen}
use Rattle.zw_session.specs.Step.{Step}
use Rattle.zw_session.specs.Stores.{Stores}
use Rattle.zw_session.proofs.ConstantLemmas.{Sound-constant, Sound-same, constant-set, there-is}
use Rattle.zw_session.proofs.session.Session.set_constant.Goals as goal

pub invariant_of-self : goal.invariant_of-self
invariant_of-self c = Sound-same (session_seen c.self.inside) c.set.new.self c.self.invariant c.in_err-set.ensures.unchanged

pub invariant_of-self-2 : goal.invariant_of-self-2
invariant_of-self-2 c =
    let view = c.self.view_is in
    Sound-constant (session_seen c.self.inside) c.set.new.self c.args.of.0 c.args.name.0 c.args.to c.in_ok-set.ensures.set c.self.invariant
    (subst (λ (s : Stores). c.args.of.0 < length s.heap.modules) (sym view) c.requires.of)
    (subst (λ (s : Stores). c.args.name.0 < length s.names) (sym view) c.requires.name)
    (subst (λ (s : Stores). IsIn (sizes_of s.heap) c.args.to) (sym view) c.requires.to)

pub returns-clause-sets : goal.returns-clause-sets
returns-clause-sets c =
    let s : Stores = session_seen c.self.inside in
    subst (λ (u : Stores). Step u (record s { constants = c.set.new.self }) (writes_constant c.args.of c.args.name c.args.to) (gives_value c.args.to)) c.self.view_is (λ J p stands here.
    let m = there-is s.heap.modules c.args.of.0 (subst (λ (u : Stores). c.args.of.0 < length u.heap.modules) (sym c.self.view_is) c.requires.of) in
    constant-set s c.set.new.self c.args.of.0 c.args.name.0 c.args.to c.in_ok-set.ensures.set J m.0 m.1 p here)

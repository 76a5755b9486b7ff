use Rattle.std.proofs.Common.{rules, ◌≡◌, ◌<◌, ◌≤◌, ℕ, Bool, length, List, map, Option, Some, None, refl, ap, sym, subst, ◌∙◌, arith}
use Rattle.zw_session.specs.SessionSeen.{session_seen}
use Rattle.zw_session.specs.Stores.{Stores}
use Rattle.zw_def_world.specs.Act.{Act}
use Rattle.zw_def_world.specs.Id.{Id}
use Rattle.zw_heap.specs.Change.{module_made}
use Rattle.zw_heap.specs.Heap.{with_module}
use Rattle.zw_heap.specs.Telling.{OnlyAdds}
use Rattle.zw_session.specs.Acts.{IsPlaced, id_told, makes_module_of}
use Rattle.zw_session.specs.Step.{Keeps, Step}
use Rattle.zw_session.proofs.ModuleLemmas.{made-sound, made-told, made-unset}
use Rattle.zw_session.proofs.SoundLemmas.{keeps-grown}
use Rattle.zw_session.proofs.session.Session.make_module.Goals as goal

pub invariant_of-self-in_err-set : goal.invariant_of-self-in_err-set
invariant_of-self-in_err-set c =
    made-unset (session_seen c.self.inside) c.self.invariant c.is_sound.ensures.sound c.args.of
    (subst (λ (s : Stores). c.args.of.0 < length s.heap.modules) (sym c.self.view_is) c.requires.of) c.args.name.0 c.path.result.now c.path.ensures.path
    c.args.kind c.placed-kind.result c.make_module.new.self (c.in_ok-made.ensures.made ∙ ap (λ ns. with_module ns c.placed-kind.result c.self.inside.heap) c.in_ok-path.ensures) c.in_ok-made.ensures.stays c.set.new.self c.in_err-set.ensures.unchanged

pub returns-in_err-set-clause-keeps : goal.returns-in_err-set-clause-keeps
returns-in_err-set-clause-keeps c =
    let s : Stores = session_seen c.self.inside in
    subst (λ (u : Stores). Keeps u (record s { heap = c.make_module.new.self; constants = c.set.new.self })) c.self.view_is
    (keeps-grown s c.make_module.new.self c.set.new.self s.methods (subst (OnlyAdds c.self.inside.heap) (sym c.in_ok-made.ensures.made) (c.only_adds.ensures (module_made c.in_ok-path.path c.placed-kind.result))) c.in_ok-made.ensures.stays)

pub invariant_of-self-2 : goal.invariant_of-self-2
invariant_of-self-2 c =
    made-sound (session_seen c.self.inside) c.self.invariant c.is_sound.ensures.sound c.args.of
    (subst (λ (s : Stores). c.args.of.0 < length s.heap.modules) (sym c.self.view_is) c.requires.of) c.args.name.0 c.path.result.now c.path.ensures.path
    c.args.kind c.placed-kind.result c.make_module.new.self (c.in_ok-made.ensures.made ∙ ap (λ ns. with_module ns c.placed-kind.result c.self.inside.heap) c.in_ok-path.ensures) c.in_ok-made.ensures.stays c.set.new.self c.in_ok-made.made c.in_ok-made.ensures.number c.in_ok-set.ensures.set
    (subst (λ (s : Stores). c.args.name.0 < length s.names) (sym c.self.view_is) c.requires.name)

pub returns-clause-keeps : goal.returns-clause-keeps
returns-clause-keeps c =
    let s : Stores = session_seen c.self.inside in
    subst (λ (u : Stores). Keeps u (record s { heap = c.make_module.new.self; constants = c.set.new.self })) c.self.view_is
    (keeps-grown s c.make_module.new.self c.set.new.self s.methods (subst (OnlyAdds c.self.inside.heap) (sym c.in_ok-made.ensures.made) (c.only_adds.ensures (module_made c.in_ok-path.path c.placed-kind.result))) c.in_ok-made.ensures.stays)

pub returns-clause-makes : goal.returns-clause-makes
returns-clause-makes c =
    let s : Stores = session_seen c.self.inside in
    let placed = subst (λ (u : Stores). IsPlaced c.args.kind c.placed-kind.result) c.self.view_is c.placed-kind.ensures.placed in
    subst (λ (u : Stores). (go_on : Id → Act) → Step u (record s { heap = c.make_module.new.self; constants = c.set.new.self }) (makes_module_of c.args.kind c.args.of c.args.name go_on) (λ J. go_on (id_told J c.in_ok-made.made))) c.self.view_is
    (made-told (session_seen c.self.inside) c.self.invariant c.is_sound.ensures.sound c.args.of
    (subst (λ (s : Stores). c.args.of.0 < length s.heap.modules) (sym c.self.view_is) c.requires.of) c.args.name.0 c.path.result.now c.path.ensures.path
    c.args.kind c.placed-kind.result c.make_module.new.self (c.in_ok-made.ensures.made ∙ ap (λ ns. with_module ns c.placed-kind.result c.self.inside.heap) c.in_ok-path.ensures) c.in_ok-made.ensures.stays c.set.new.self c.in_ok-made.made c.in_ok-made.ensures.number c.in_ok-set.ensures.set placed
    (λ J stands. c.tells_core.ensures.modules J.telling J.names 0 stands.fits (omega arith)) (subst (OnlyAdds c.self.inside.heap) (sym c.in_ok-made.ensures.made) (c.only_adds.ensures (module_made c.in_ok-path.path c.placed-kind.result))))

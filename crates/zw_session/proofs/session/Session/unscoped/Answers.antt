use Rattle.std.proofs.Common.{◌<◌, length, List, map, Some, ap, sym, subst, ◌∙◌}
use Rattle.std.specs.List.{All}
use Rattle.zw_heap.specs.declared.value.ModuleId.{ModuleId}
use Rattle.zw_consts.specs.Ancestor.{numbers_of}
use Rattle.zw_def_world.specs.Act.{Act}
use Rattle.zw_def_world.specs.Id.{Id}
use Rattle.zw_def_world.specs.LookUp.{unscoped_modules}
use Rattle.zw_heap.specs.Telling.{told_ids}
use Rattle.zw_session.specs.Acts.{asks_unscoped}
use Rattle.zw_session.specs.Sense.{world_of}
use Rattle.zw_session.specs.SessionSeen.{session_seen}
use Rattle.zw_session.specs.Step.{Step}
use Rattle.zw_session.specs.Stores.{Stores}
use Rattle.zw_session.proofs.ActLemmas.{reading-found}
use Rattle.zw_session.proofs.ConstantLemmas.{ids-told, numbers-in}
use Rattle.zw_session.proofs.WorldLemmas.{agrees}
use Rattle.zw_session.proofs.session.Session.unscoped.Goals as goal

pub returns-clause-asks : goal.returns-clause-asks
returns-clause-asks c =
    subst (λ (s : Stores). (k : List Id → Act) → Step s s (asks_unscoped c.args.scopes.now k) (λ J. k (told_ids J.telling c.in_ok-asked.asked.items))) c.self.view_is (λ k J p stands here.
    let s : Stores = session_seen c.self.inside in
    let ids = J.telling.module_id in
    let law = c.tells_walk.ensures.unscoped J.telling J.names (world_of J s) (numbers_of c.args.scopes.now) stands.fits (agrees J s) (numbers-in (length s.heap.modules) c.args.scopes.now (subst (λ (u : Stores). All (λ (m : ModuleId). m.0 < length u.heap.modules) c.args.scopes.now) (sym c.self.view_is) c.requires)) in
    let asked = ap (map ids) (sym c.in_ok-asked.ensures.asked) ∙ ids-told ids c.in_ok-asked.asked.items in
    reading-found J s p here (λ w. unscoped_modules w (told_ids J.telling c.args.scopes.now)) (told_ids J.telling c.in_ok-asked.asked.items) k (ap (unscoped_modules (world_of J s)) (sym (ids-told ids c.args.scopes.now)) ∙ law ∙ ap Some asked))

use Rattle.std.proofs.Common.{◌<◌, length, List, map, Some, ap, sym, subst, ◌∙◌}
use Rattle.zw_def_world.specs.Act.{Act}
use Rattle.zw_def_world.specs.Id.{Id}
use Rattle.zw_def_world.specs.LookUp.{scoped_modules}
use Rattle.zw_heap.specs.Telling.{told_ids}
use Rattle.zw_session.specs.Acts.{asks_scoped}
use Rattle.zw_session.specs.Sense.{world_of}
use Rattle.zw_session.specs.SessionSeen.{session_seen}
use Rattle.zw_session.specs.Step.{Step}
use Rattle.zw_session.specs.Stores.{Stores}
use Rattle.zw_session.proofs.ActLemmas.{reading-found}
use Rattle.zw_session.proofs.ConstantLemmas.{ids-told}
use Rattle.zw_session.proofs.WorldLemmas.{agrees}
use Rattle.zw_session.proofs.session.Session.scoped.Goals as goal

pub returns-clause-asks : goal.returns-clause-asks
returns-clause-asks c =
    subst (λ (s : Stores). (k : List Id → Act) → Step s s (asks_scoped c.args.of k) (λ J. k (told_ids J.telling c.in_ok-asked.asked.items))) c.self.view_is (λ k J p stands here.
    let s : Stores = session_seen c.self.inside in
    let ids = J.telling.module_id in
    let law = c.tells_walk.ensures.scoped J.telling J.names (world_of J s) c.args.of.0 stands.fits (agrees J s) (subst (λ (u : Stores). c.args.of.0 < length u.heap.modules) (sym c.self.view_is) c.requires) in
    let asked = ap (map ids) (sym c.in_ok-asked.ensures.asked) ∙ ids-told ids c.in_ok-asked.asked.items in
    reading-found J s p here (λ w. scoped_modules w (ids c.args.of.0)) (told_ids J.telling c.in_ok-asked.asked.items) k (law ∙ ap Some asked))

use Rattle.std.proofs.Common.{◌<◌, length, List, map, Option, Some, ap, sym, subst, ◌∙◌}
use Rattle.std.specs.Option.{option_map}
use Rattle.zw_consts.specs.Ancestor.{numbers_of}
use Rattle.zw_def_world.specs.Act.{Act}
use Rattle.zw_def_world.specs.Id.{Id}
use Rattle.zw_def_world.specs.Variable.{holder_among}
use Rattle.zw_heap.specs.declared.value.ModuleId.{ModuleId}
use Rattle.zw_session.specs.Acts.{asks_holder, id_told}
use Rattle.zw_session.specs.Sense.{world_of}
use Rattle.zw_session.specs.SessionSeen.{session_seen}
use Rattle.zw_session.specs.Step.{Step}
use Rattle.zw_session.specs.Stores.{Stores}
use Rattle.zw_session.proofs.VariableLemmas.{holder-asked}
use Rattle.zw_session.proofs.WorldLemmas.{agrees}
use Rattle.zw_session.proofs.session.Session.class_variable_holder.Goals as goal

pub returns-clause-step : goal.returns-clause-step
returns-clause-step c =
    let s : Stores = session_seen c.self.inside in
    subst (λ (u : Stores). (k : Option Id → Act) → Step u u (asks_holder c.args.scope c.args.name k) (λ J. k (option_map (id_told J) c.cvar_place.result))) c.self.view_is (λ k J p stands here.
    let ids = J.telling.module_id in
    let w = world_of J s in
    let within = subst (λ (u : Stores). c.args.scope.0 < length u.heap.modules) (sym c.self.view_is) c.requires in
    let above = c.tells_ancestors.ensures.line J.telling J.names w c.args.scope.0 stands.fits (agrees J s) within ∙ ap (λ ns. Some (map ids ns)) (sym c.in_ok-line.ensures.line) in
    let among = ap (λ (ms : List ModuleId). holder_among w (J.telling.name c.args.name.0) (map ids (numbers_of ms))) (sym c.deref.ensures.value) ∙ c.cvar_place.ensures.told J.telling J.names w stands.fits (agrees J s) in
    holder-asked J s p here (ids c.args.scope.0) (J.telling.name c.args.name.0) (map ids (numbers_of c.in_ok-line.line.items)) (option_map (id_told J) c.cvar_place.result) k above among)

use Rattle.std.proofs.Common.{rules, ◌≡◌, ◌<◌, ◌≤◌, ℕ, Bool, length, List, map, Option, Some, None, refl, ap, sym, subst, ◌∙◌, arith}
use Rattle.zw_def_world.specs.Act.{Act}
use Rattle.zw_def_world.specs.Id.{Id}
use Rattle.zw_session.specs.Acts.{open_chosen, opens_found}
use Rattle.zw_session.specs.SessionSeen.{session_seen}
use Rattle.zw_session.specs.Stores.{Stores}
use Rattle.zw_session.specs.Step.{Steps}
use Rattle.zw_session.proofs.ModuleLemmas.{open-told}
use Rattle.zw_session.proofs.session.Session.choose_open.Goals as goal

pub returns : goal.returns
returns c = record {
  steps =
      subst (λ (s : Stores). (i : Id) (go_on : Id → Act) → Steps s s (opens_found c.args.kind i c.args.name go_on c.args.found) (open_chosen c.args.kind i c.args.name go_on) c.choose_open.result) c.self.view_is
      (open-told (session_seen c.self.inside) c.args.kind c.args.name c.args.found c.choose_open.result c.choose_open.ensures);
}

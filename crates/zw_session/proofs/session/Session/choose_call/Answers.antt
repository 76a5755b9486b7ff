use Rattle.std.proofs.Common.{List, subst}
use Rattle.zw_def_syntax.specs.Tree.{Tree as Node}
use Rattle.zw_def_world.specs.Act.{Act}
use Rattle.zw_def_world.specs.Value as told
use Rattle.zw_session.specs.Acts.{calls_method, runs_chosen}
use Rattle.zw_session.specs.SessionSeen.{session_seen}
use Rattle.zw_session.specs.Stores.{Stores}
use Rattle.zw_session.specs.Step.{Steps}
use Rattle.zw_session.proofs.MethodLemmas.{call-chosen}
use Rattle.zw_session.proofs.session.Session.choose_call.Goals as goal

pub returns : goal.returns
returns c = record {
  steps =
      subst (λ (s : Stores). (go : Node → Act) (vs : List told.Value) → Steps s s (calls_method go c.args.written c.args.absent c.args.receiver c.args.name vs) (runs_chosen go c.args.written c.args.receiver vs) c.choose_call.result) c.self.view_is
      (call-chosen (session_seen c.self.inside) c.args.written c.args.absent c.args.receiver c.args.name c.choose_call.result c.choose_call.ensures.chooses);
}

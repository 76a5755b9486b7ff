use Rattle.std.proofs.Common.{List, subst}
use Rattle.zw_def_syntax.specs.Tree.{Tree as Node}
use Rattle.zw_def_world.specs.Act.{Act}
use Rattle.zw_def_world.specs.Value as told
use Rattle.zw_ops.specs.declared.written.Written.TheVariants.{AsSelf}
use Rattle.zw_session.specs.Acts.{calls_next, runs_chosen}
use Rattle.zw_session.specs.SessionSeen.{session_seen}
use Rattle.zw_session.specs.Stores.{Stores}
use Rattle.zw_session.specs.Step.{Steps}
use Rattle.zw_session.proofs.MethodLemmas.{next-chosen}
use Rattle.zw_session.proofs.session.Session.choose_super.Goals as goal

pub returns : goal.returns
returns c = record {
  steps =
      subst (λ (s : Stores). (go : Node → Act) (vs : List told.Value) → Steps s s (calls_next go c.args.receiver c.args.running vs) (runs_chosen go AsSelf c.args.receiver vs) c.choose_super.result) c.self.view_is
      (next-chosen (session_seen c.self.inside) c.args.receiver c.args.running c.choose_super.result c.choose_super.ensures.chooses);
}

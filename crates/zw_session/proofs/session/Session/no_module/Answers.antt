use Rattle.std.proofs.Common.{IfOk, subst}
use Rattle.std.proofs.lemmas.Result.{IfOk-weaker}
use Rattle.zw_calls.specs.Fault.{AreSame, fault_seen}
use Rattle.zw_def_world.specs.Fault.{no_module}
use Rattle.zw_heap.specs.Telling.{tell}
use Rattle.zw_session.specs.Acts.{fails_module}
use Rattle.zw_session.specs.SessionSeen.{session_seen}
use Rattle.zw_session.specs.Step.{Step}
use Rattle.zw_session.specs.Stores.{Stores}
use Rattle.zw_session.proofs.FaultLemmas.{same-step}
use Rattle.zw_session.proofs.session.Session.no_module.Goals as goal

pub returns : goal.returns
returns c =
    let s : Stores = session_seen c.self.inside in
    subst (λ (u : Stores). IfOk c.no_module.result (λ raise. Step u u (fails_module c.args.value) (λ J. fault_seen raise))) c.self.view_is
    (IfOk-weaker c.no_module.result (λ raise. AreSame s.heap s.names (λ I. no_module (tell I c.args.value)) (λ I. fault_seen raise)) (λ raise. Step s s (fails_module c.args.value) (λ J. fault_seen raise))
    (λ raise same. same-step s (λ I. no_module (tell I c.args.value)) (λ I. fault_seen raise) same) c.no_module.ensures)

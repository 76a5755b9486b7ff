use Rattle.std.proofs.Common.{subst}
use Rattle.zw_def_world.specs.Fault.{frozen_fault}
use Rattle.zw_calls.specs.Fault.{fault_seen}
use Rattle.zw_heap.specs.Telling.{tell}
use Rattle.zw_session.specs.SessionSeen.{session_seen}
use Rattle.zw_session.specs.Stores.{Stores}
use Rattle.zw_session.specs.Step.{Step}
use Rattle.zw_session.proofs.FaultLemmas.{same-step}
use Rattle.zw_session.proofs.session.Session.frozen.Goals as goal

pub returns : goal.returns
returns c =
    subst (λ (s : Stores). Step s s (λ J. frozen_fault (tell J.telling c.args.value)) (λ J. fault_seen c.in_ok-raise.raise)) c.self.view_is
    (same-step (session_seen c.self.inside) (λ I. frozen_fault (tell I c.args.value)) (λ I. fault_seen c.in_ok-raise.raise) c.in_ok-raise.ensures)

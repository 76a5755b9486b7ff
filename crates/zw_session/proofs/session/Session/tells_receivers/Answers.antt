use Rattle.std.proofs.Common.{subst}
use Rattle.zw_session.specs.Dispatch.{IsDispatched, MakesChosen, ReceivesChosen}
use Rattle.zw_session.specs.SessionSeen.{session_seen}
use Rattle.zw_session.specs.Stores.{Stores}
use Rattle.zw_session.proofs.DispatchLemmas.{makes-chosen, receives-chosen}
use Rattle.zw_session.proofs.session.Session.tells_receivers.Goals as goal

pub returns-clause-receives : goal.returns-clause-receives
returns-clause-receives c =
    subst (λ (s : Stores). IsDispatched s → ReceivesChosen s) c.self.view_is (λ dispatched.
    receives-chosen (session_seen c.self.inside) c.is_sound.ensures.sound dispatched c.ancestors_are_reached.ensures)

pub returns-clause-makes : goal.returns-clause-makes
returns-clause-makes c =
    subst (λ (s : Stores). IsDispatched s → MakesChosen s) c.self.view_is (λ dispatched.
    makes-chosen (session_seen c.self.inside) c.is_sound.ensures.sound dispatched c.ancestors_are_reached.ensures)

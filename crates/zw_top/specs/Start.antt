-- What the start gives.
use Rattle.std.specs.Prelude.{◌≡◌, Result, Ok, Err}
use Rattle.zw_def.specs.Tree.{Tree}
use Rattle.zw_def_thin.specs.Refusal.{Start}
use Rattle.zw_def_thin.specs.Root as defined
use Rattle.zw_def_thin.specs.Session.{Session}
use Rattle.zw_base.specs.declared.fault.Fault.{Fault}
use Rattle.zw_inflect.specs.Layout.{layout_seen}
use Rattle.zw_layout.specs.Expects.{AreNamespacesNamed}
use Rattle.zw_top.specs.Refusal.{Stops}
use Rattle.zw_top.specs.Session.{SessionStands}
use Rattle.zw_top.specs.declared.configuration.Plan.{Plan}
use Rattle.zw_top.specs.declared.refusal.Stop.{Stop}
use Rattle.zw_top.specs.declared.session.Session as code

-- the tree is the one that is defined
abbrev pub GivesTree : Result (Unit {0}) (Fault Stop) → Tree → Start Tree → Type 0
GivesTree (Ok u) tree start = start ≡ Ok tree
GivesTree (Err fault) tree start = Stops fault start

abbrev pub plan_seen : Plan → defined.Plan
plan_seen plan = record { layout = layout_seen plan.names plan.layout; root = plan.root }

-- the names of its namespaces are in its table
abbrev pub IsPlanNamed : Plan → Type 0
IsPlanNamed plan = AreNamespacesNamed plan.names plan.layout

-- the code's session stands for the session that is defined
abbrev pub GivesSession : Result code.Session (Fault Stop) → Start Session → Type 0
GivesSession (Ok held) start = (s : Session) × (start ≡ Ok s) × SessionStands s held
GivesSession (Err fault) start = Stops fault start

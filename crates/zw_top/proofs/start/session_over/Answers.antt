use Rattle.std.proofs.Common.{[], false, refl, string_bytes, option_map, ap, sym, subst, ◌∙◌}
use Rattle.zw_def_thin.specs.Session.{with_namespaces, session_of}
use Rattle.zw_base.specs.declared.fault.Fault.{Fault}
use Rattle.zw_top.specs.Refusal.{Stops}
use Rattle.zw_top.specs.Start.{plan_seen}
use Rattle.zw_top.specs.declared.refusal.Stop.{Stop}
use Rattle.zw_top.proofs.StartLemmas.{all_lead, one_strays}
use Rattle.zw_top.proofs.start.session_over.Goals as goal

pub returns-in-Some-clause-gives : goal.returns-in-Some-clause-gives
returns-in-Some-clause-gives c =
    let plan = plan_seen c.args.plan in
    let stray = c.in_ok-text.ensures plan.layout c.args.tree.now (record { layout = plan.layout; callbacks = []; logs = false }) c.in_ok-view.ensures.told in
    subst (λ (f : Fault Stop). Stops f (with_namespaces c.args.path.now plan c.args.tree.now)) (sym c.refused.ensures)
    (one_strays c.args.path.now plan c.args.tree.now (string_bytes c.in-Some.text) (sym stray ∙ ap (option_map string_bytes) c.in-Some.is))

pub returns-clause-gives : goal.returns-clause-gives
returns-clause-gives c =
    let plan = plan_seen c.args.plan in
    let stray = c.in_ok-text.ensures plan.layout c.args.tree.now (record { layout = plan.layout; callbacks = []; logs = false }) c.in_ok-view.ensures.told in (
      session_of c.args.path.now plan c.args.tree.now,
      all_lead c.args.path.now plan c.args.tree.now (sym stray ∙ ap (option_map string_bytes) c.in_default.is),
      record { view = c.in_ok-view.ensures.told; console = c.in_ok-console.ensures plan refl c.in_ok-view.ensures.told },
    )

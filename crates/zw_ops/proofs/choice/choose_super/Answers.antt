use Rattle.std.proofs.Common.{refl, ap, subst, ◌∙◌}
use Rattle.zw_def_world.specs.Fault.{no_super}
use Rattle.zw_heap.specs.Telling.{tell}
use Rattle.zw_ops.specs.Choice.{IsChosen, told_running}
use Rattle.zw_ops.proofs.CallLemmas.{next-none, next-some}
use Rattle.zw_ops.proofs.choice.choose_super.Goals as goal

pub returns-in_default-clause-chooses : goal.returns-in_default-clause-chooses
returns-in_default-clause-chooses c = λ I codes go vs p tells.
    let running = told_running I c.args.running in
    let found = c.in_ok-chosen.ensures.finds I codes p.world tells in
    next-none I codes go (tell I c.args.receiver) running.name vs p running found.0 refl found.1 (subst (IsChosen I codes running.name found.0) c.in_default.is found.2)
    ∙ ap (λ t. no_super (tell I c.args.receiver) t p) (tells.fits.names_told c.args.running.name.0 c.text.result.now c.text.ensures)
    ∙ c.in_ok-fault.ensures I p tells.fits tells.heap

pub returns-clause-chooses : goal.returns-clause-chooses
returns-clause-chooses c = λ I codes go vs p tells.
    let running = told_running I c.args.running in
    let found = c.in_ok-chosen.ensures.finds I codes p.world tells in
    next-some I codes go (tell I c.args.receiver) running.name vs p running found.0 refl found.1 c.in-Some.chosen (subst (IsChosen I codes running.name found.0) c.in-Some.is found.2)

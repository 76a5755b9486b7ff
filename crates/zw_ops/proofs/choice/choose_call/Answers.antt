use Rattle.std.proofs.Common.{cond, ap, sym, subst, ◌∙◌}
use Rattle.zw_def_world.specs.Call.{is_bare}
use Rattle.zw_def_world.specs.Fault.{private_method}
use Rattle.zw_heap.specs.Telling.{tell}
use Rattle.zw_ops.specs.Choice.{IsChosen, runs_chosen}
use Rattle.zw_ops.specs.Written.{absent_seen, written_seen}
use Rattle.zw_ops.proofs.CallLemmas.{called-none, called-some}
use Rattle.zw_ops.proofs.choice.choose_call.Goals as goal

pub returns-in_default-clause-chooses : goal.returns-in_default-clause-chooses
returns-in_default-clause-chooses c = λ I codes go vs p tells.
    let found = c.in_ok-chosen.ensures.finds I codes p.world tells in
    let x = I.name c.args.name.0 in
    called-none I codes go (tell I c.args.receiver) x vs p (written_seen c.args.written) (absent_seen c.args.absent) found.0 found.1 (subst (IsChosen I codes x found.0) c.in_default.is found.2)
    ∙ ap (λ t. absent_seen c.args.absent (tell I c.args.receiver) t p) (tells.fits.names_told c.args.name.0 c.text-text.result.now c.text-text.ensures)
    ∙ c.in_ok-fault.ensures I p tells.fits tells.heap

pub returns-then-is_hidden-clause-chooses : goal.returns-then-is_hidden-clause-chooses
returns-then-is_hidden-clause-chooses c = λ I codes go vs p tells.
    let found = c.in_ok-chosen.ensures.finds I codes p.world tells in
    let x = I.name c.args.name.0 in
    called-some I codes go (tell I c.args.receiver) x vs p (written_seen c.args.written) (absent_seen c.args.absent) found.0 found.1 c.in-Some.chosen (subst (IsChosen I codes x found.0) c.in-Some.is found.2)
    ∙ ap (λ b. cond b (private_method (tell I c.args.receiver) x) (runs_chosen (is_bare (written_seen c.args.written)) c.args.receiver c.in-Some.chosen I codes go vs) p) (sym c.is_hidden.ensures ∙ c.if-is_hidden.true)
    ∙ ap (λ t. private_method (tell I c.args.receiver) t p) (tells.fits.names_told c.args.name.0 c.text-text.result.now c.text-text.ensures)
    ∙ c.in_ok-fault-2.ensures I p tells.fits tells.heap

pub returns-clause-chooses : goal.returns-clause-chooses
returns-clause-chooses c = λ I codes go vs p tells.
    let found = c.in_ok-chosen.ensures.finds I codes p.world tells in
    let x = I.name c.args.name.0 in
    called-some I codes go (tell I c.args.receiver) x vs p (written_seen c.args.written) (absent_seen c.args.absent) found.0 found.1 c.in-Some.chosen (subst (IsChosen I codes x found.0) c.in-Some.is found.2)
    ∙ ap (λ b. cond b (private_method (tell I c.args.receiver) x) (runs_chosen (is_bare (written_seen c.args.written)) c.args.receiver c.in-Some.chosen I codes go vs) p) (sym c.is_hidden.ensures ∙ c.if-is_hidden.false)

use Rattle.std.proofs.Common.{◌∙◌, sym}
use Rattle.zw_args.proofs.BudgetLemmas.{budget_in-read, budget_in-other}
use Rattle.zw_args.proofs.words.budget_in.Goals as goal

pub returns-in-Ok-clause-value : goal.returns-in-Ok-clause-value
returns-in-Ok-clause-value c =
    c.within.ensures.value ∙ budget_in-read c.args.text.now _ c.in-Ok.ensures.value.0.0 c.in-Ok.ensures.value.0.1

pub returns-in-Err-clause-value : goal.returns-in-Err-clause-value
returns-in-Err-clause-value c = sym (budget_in-other c.args.text.now c.in-Err.ensures.value.0)

use Rattle.std.proofs.Common.{◌≡◌, Err, subst, ◌∙◌, rules}
use Rattle.zw_ops.specs.Open.{Opens}
use Rattle.zw_ops.proofs.OpenLemmas.{opens-found, opens-refused}
use Rattle.zw_ops.proofs.open.choose_open.Goals as goal

pub returns-in_err-module : goal.returns-in_err-module
returns-in_err-module c =
    let same : Err c.in_err-module.field-0.0 ≡ c.from_residual.result = search rules in
    subst (Opens c.args.heap.now c.args.names.now c.args.kind c.args.name.0 c.args.found) same
    (opens-refused c.args.heap.now c.args.names.now c.args.kind c.args.name.0 c.text-text.result.now c.args.found c.text-text.ensures c.in-Some.value c.in-Some.is c.in_err-module.field-0.0 (c.in_err-module.ensures c.args.names.now))

pub returns-in-Some : goal.returns-in-Some
returns-in-Some c = λ i go_on I p fit agrees.
    opens-found c.args.heap.now c.args.names.now c.args.kind c.args.name.0 c.text-text.result.now c.args.found c.text-text.ensures c.in-Some.value c.in-Some.is I i go_on p fit
    ∙ c.in_ok-module.ensures c.args.names.now go_on I p fit agrees

use Rattle.zw_strings.proofs.TextLemmas.{prefix-off, no-prefix}
use Rattle.zw_strings.proofs.text.without_prefix.Goals as goal

pub returns-in-Some : goal.returns-in-Some
returns-in-Some c =
    let found = c.in-Some.ensures.cases in
    prefix-off c.args.prefix.now c.args.text.now c.in-Some.rest.now found.0 found.1.0 found.1.1 found.2

pub returns-in-None : goal.returns-in-None
returns-in-None c = no-prefix c.args.prefix.now c.args.text.now c.in-None.ensures.cases

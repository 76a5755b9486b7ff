use Rattle.zw_strings.proofs.TextLemmas.{suffix-off, no-suffix}
use Rattle.zw_strings.proofs.text.without_suffix.Goals as goal

pub returns-in-Some : goal.returns-in-Some
returns-in-Some c =
    let found = c.in-Some.ensures.cases in
    suffix-off c.args.suffix.now c.args.text.now c.in-Some.rest.now found.0 found.1.0 found.1.1 found.2 found.3

pub returns-in-None : goal.returns-in-None
returns-in-None c = no-suffix c.args.suffix.now c.args.text.now c.in-None.ensures.cases

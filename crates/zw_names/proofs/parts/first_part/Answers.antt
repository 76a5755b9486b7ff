use Rattle.zw_def.proofs.ConstantPathLemmas.{parts_of-none, parts_of-cut}
use Rattle.zw_names.proofs.parts.first_part.Goals as goal

pub returns-in-Some-clause-part : goal.returns-in-Some-clause-part
returns-in-Some-clause-part c =
    parts_of-cut c.args.text.now c.in-Some.part.now c.in-Some.rest.now c.in-Some.ensures.cases

pub returns-in-None-clause-part : goal.returns-in-None-clause-part
returns-in-None-clause-part c = parts_of-none c.args.text.now c.in-None.ensures.cases

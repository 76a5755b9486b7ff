use Rattle.std.proofs.Common.{sym, rules, arith}
use Rattle.zw_cmd.proofs.NumberLemmas.{number_in-other}
use Rattle.zw_cmd.proofs.number.number_in.Goals as goal

pub returns-in-Err : goal.returns-in-Err
returns-in-Err c =
    sym (number_in-other c.in-Err.field-0 c.args.least c.args.most c.args.text.now (omega (arith, c.ranges.most.fits)) (search rules) (rw c.in-Err.is at c.parse.ensures.value.0))

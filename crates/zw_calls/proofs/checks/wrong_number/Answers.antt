use Rattle.std.proofs.Common.{ap, sym, ◌∙◌}
use Rattle.std.specs.Fmt.{decimal}
use Rattle.zw_def_world.specs.CoreClass.{ArgumentError}
use Rattle.zw_def_world.specs.Making.{fails}
use Rattle.zw_calls.proofs.FaultLemmas.{number_pieces, wrong_number-pieces}
use Rattle.zw_calls.proofs.checks.wrong_number.Goals as goal

pub returns : goal.returns
returns c =
    let made = c.in_ok-format.ensures in
    ap (fails ArgumentError) (made.ok ∙ ap (number_pieces (decimal c.args.given)) c.in_ok-expected.ensures)
    ∙ sym (wrong_number-pieces c.args.given c.args.least c.args.most)

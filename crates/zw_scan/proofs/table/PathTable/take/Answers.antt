use Rattle.zw_scan.proofs.TableLemmas.{held_others}
use Rattle.zw_scan.proofs.table.PathTable.take.Goals as goal

pub returns-in-Some-clause-others : goal.returns-in-Some-clause-others
returns-in-Some-clause-others c q other =
    held_others c.args.self.now.rows.entries c.remove.new.self.entries c.args.numbers.now q c.in-Some.ensures.entries other

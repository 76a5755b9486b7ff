use Rattle.std.proofs.Common.{Some, None}
use Rattle.zw_scan.specs.WrongTable.{first_seen}
use Rattle.zw_scan.proofs.NameTableLemmas.{told_others}
use Rattle.zw_scan.proofs.wrong.WrongTable.take.Goals as goal

pub returns-clause-others : goal.returns-clause-others
returns-clause-others c q other =
    told_others (λ f. Some (first_seen f)) None c.args.self.now.rows.entries c.remove.new.self.entries c.args.numbers.now q c.remove.ensures.entries other

use Rattle.std.proofs.Common.{[], map}
use Rattle.zw_scan.specs.NameTable.{entry_told}
use Rattle.zw_scan.proofs.NameTableLemmas.{told_others}
use Rattle.zw_scan.proofs.name_table.NameTable.take.Goals as goal

pub returns-in-Some-clause-others : goal.returns-in-Some-clause-others
returns-in-Some-clause-others c q other =
    told_others (λ kept. map entry_told kept.entries) [] c.args.self.now.rows.entries c.remove.new.self.entries c.args.numbers.now q c.in-Some.ensures.entries other

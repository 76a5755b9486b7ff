use Rattle.std.proofs.Common.{Some, None, ap, ◌∙◌}
use Rattle.zw_scan.specs.Table.{same_numbers}
use Rattle.zw_scan.specs.Wrong.{better}
use Rattle.zw_scan.specs.WrongTable.{first_at, first_seen}
use Rattle.zw_scan.proofs.NameTableLemmas.{told_added}
use Rattle.zw_scan.proofs.wrong.WrongTable.add.Goals as goal

pub returns : goal.returns
returns c q =
    let path = c.args.one.now.path in
    let key = c.in_ok-numbers.ensures ∙ c.names.ensures in
    let slice = c.as_slice.ensures.value ∙ key in
    told_added (λ f. Some (first_seen f)) None c.args.self.now.rows.entries c.take-kept.new.self.rows.entries c.insert.new.self.entries c.args.one.now.names q c.in_ok-numbers.numbers c.in_ok-first.first (λ o. better c.args.root o path)
    c.in_ok-insert.ensures.entries key
    (c.in_ok-first.ensures ∙ ap (λ o. better c.args.root o path) (c.take-kept.ensures.value ∙ ap (λ p. first_at p c.args.self.now) slice))
    (λ r other. c.take-kept.ensures.others r (ap (λ p. same_numbers r p) slice ∙ other))

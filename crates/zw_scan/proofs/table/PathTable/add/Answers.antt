use Rattle.std.proofs.Common.{◌∷◌, [], ◌++◌, ap, ◌∙◌}
use Rattle.zw_scan.specs.Table.{paths_at, same_numbers}
use Rattle.zw_scan.proofs.TableLemmas.{held_added}
use Rattle.zw_scan.proofs.table.PathTable.add.Goals as goal

pub returns : goal.returns
returns c q =
    let key = c.in_ok-numbers.ensures ∙ c.names.ensures in
    let slice = c.as_slice.ensures.value ∙ key in
    held_added c.args.self.now.rows.entries c.take-paths.new.self.rows.entries c.insert.new.self.entries c.args.names.now q c.in_ok-numbers.numbers c.push.new.self c.args.path
    c.in_ok-insert.ensures.entries key
    (c.in_ok-push.ensures.items ∙ ap (λ l. l ++ c.args.path ∷ []) (c.take-paths.ensures.value ∙ ap (λ p. paths_at p c.args.self.now) slice))
    (λ r other. c.take-paths.ensures.others r (ap (λ p. same_numbers r p) slice ∙ other))

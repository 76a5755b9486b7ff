use Rattle.std.proofs.Common.{cond, take, ap, sym, ◌∙◌}
use Rattle.std.specs.List.{fold}
use Rattle.zw_scan.specs.Table.{paths_found, same_numbers}
use Rattle.zw_scan.specs.Wrong.{better}
use Rattle.zw_scan.specs.WrongTable.{first_at}
use Rattle.zw_scan.proofs.TableLemmas.{found_more}
use Rattle.zw_scan.proofs.WrongLemmas.{folded_more}
use Rattle.zw_scan.proofs.wrong.WrongTable.add_all.Goals as goal

pub loop-one-preserved : goal.loop-one-preserved
loop-one-preserved c q =
    let one = c.one-item.result in
    let before = paths_found q (take c.loop-one.one-index c.args.all.now) in
    let first = first_at q c.args.self.now in
    c.in_ok-add.ensures q
    ∙ ap (λ o. cond (same_numbers q one.names) (better c.args.root o one.path) o) (c.loop-one.invariant q)
    ∙ folded_more (better c.args.root) first (same_numbers q one.names) before one.path
    ∙ ap (fold (better c.args.root) first) (sym (found_more q c.args.all.now c.loop-one.one-index one c.loop-one-test.true c.one-item.is))

use Rattle.std.proofs.Common.{◌∙◌, ap, slice_get}
use Rattle.zw_lemmas.proofs.PlaceLemmas.{option_copied-lent}
use Rattle.zw_table.proofs.RowLemmas.{found_in, missed_in}
use Rattle.zw_table.proofs.Table.find.Goals as goal

pub returns-in-Ok : goal.returns-in-Ok
returns-in-Ok g c =
    option_copied-lent c.as_slice-in-Ok.result.now c.in-Ok.row c.get.result c.get.ensures.lookup ∙ ap (λ vs. slice_get vs c.in-Ok.row) c.as_slice-in-Ok.ensures.value
    ∙ found_in c.as_slice.result.now c.self.inside.keys.items c.self.inside.values.items c.args.self.now c.args.key.now c.in-Ok.row c.as_slice.ensures.value c.self.view_is c.self.invariant.0 c.self.invariant.1 c.in-Ok.ensures.bound c.in-Ok.ensures.ok

pub returns-in-Err : goal.returns-in-Err
returns-in-Err g c =
    missed_in c.as_slice.result.now c.self.inside.keys.items c.self.inside.values.items c.args.self.now c.args.key.now c.in-Err.field-0 c.as_slice.ensures.value c.self.view_is c.self.invariant.0 c.in-Err.ensures.position

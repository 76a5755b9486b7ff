use Rattle.std.proofs.Common.{refl}
use Rattle.zw_table.proofs.KeyLemmas.{keys_rise}
use Rattle.zw_table.proofs.Table.of.Goals as goal

pub invariant_of-result : goal.invariant_of-result
invariant_of-result g c =
    keys_rise g.row.N c.args.keys.now c.in_ok-keys.keys.items c.from_array_in.result.items (c.in_ok-keys.ensures.told.0 refl) c.in_ok-keys.ensures.keys c.from_array_in.ensures.len

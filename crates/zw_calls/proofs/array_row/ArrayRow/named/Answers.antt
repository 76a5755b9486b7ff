use Rattle.std.proofs.Common.{refl, ◌∙◌}
use Rattle.zw_def_world.specs.Primitive.{array_rows}
use Rattle.zw_calls.specs.PrimSeen.{array_seen}
use Rattle.zw_calls.proofs.NamedLemmas.{named-in}
use Rattle.zw_calls.proofs.array_row.ArrayRow.named.Goals as goal

pub returns : goal.returns
returns c = named-in array_seen c.args.name.now array_rows c.table-rows.result c.unwrap.result _ c.unwrap.ensures c.table-rows.ensures.rows c.copied.result (c.copied.ensures ∙ c.find.ensures) refl refl

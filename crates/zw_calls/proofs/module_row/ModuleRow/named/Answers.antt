use Rattle.std.proofs.Common.{refl, ◌∙◌}
use Rattle.zw_def_world.specs.Primitive.{module_rows}
use Rattle.zw_calls.specs.PrimSeen.{module_seen}
use Rattle.zw_calls.proofs.NamedLemmas.{named-in}
use Rattle.zw_calls.proofs.module_row.ModuleRow.named.Goals as goal

pub returns : goal.returns
returns c = named-in module_seen c.args.name.now module_rows c.table-rows.result c.unwrap.result _ c.unwrap.ensures c.table-rows.ensures.rows c.copied.result (c.copied.ensures ∙ c.find.ensures) refl refl

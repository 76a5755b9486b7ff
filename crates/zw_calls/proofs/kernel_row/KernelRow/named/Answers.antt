use Rattle.std.proofs.Common.{refl, ◌∙◌}
use Rattle.zw_def_world.specs.Primitive.{kernel_rows}
use Rattle.zw_calls.specs.PrimSeen.{kernel_seen}
use Rattle.zw_calls.proofs.NamedLemmas.{named-in}
use Rattle.zw_calls.proofs.kernel_row.KernelRow.named.Goals as goal

pub returns : goal.returns
returns c = named-in kernel_seen c.args.name.now kernel_rows c.table-rows.result c.unwrap.result _ c.unwrap.ensures c.table-rows.ensures.rows c.copied.result (c.copied.ensures ∙ c.find.ensures) refl refl

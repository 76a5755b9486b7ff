use Rattle.std.proofs.Common.{refl, ◌∙◌}
use Rattle.zw_def_world.specs.Primitive.{integer_rows}
use Rattle.zw_calls.specs.PrimSeen.{integer_seen}
use Rattle.zw_calls.proofs.NamedLemmas.{named-in}
use Rattle.zw_calls.proofs.integer_row.IntegerRow.named.Goals as goal

pub returns : goal.returns
returns c = named-in integer_seen c.args.name.now integer_rows c.table-rows.result c.unwrap.result _ c.unwrap.ensures c.table-rows.ensures.rows c.copied.result (c.copied.ensures ∙ c.find.ensures) refl refl

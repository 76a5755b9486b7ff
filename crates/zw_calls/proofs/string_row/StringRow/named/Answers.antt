use Rattle.std.proofs.Common.{refl, ◌∙◌}
use Rattle.zw_def_world.specs.Primitive.{string_rows}
use Rattle.zw_calls.specs.PrimSeen.{string_seen}
use Rattle.zw_calls.proofs.NamedLemmas.{named-in}
use Rattle.zw_calls.proofs.string_row.StringRow.named.Goals as goal

pub returns : goal.returns
returns c = named-in string_seen c.args.name.now string_rows c.table-rows.result c.unwrap.result _ c.unwrap.ensures c.table-rows.ensures.rows c.copied.result (c.copied.ensures ∙ c.find.ensures) refl refl

use Rattle.std.proofs.Common.{◌∙◌}
use Rattle.std.specs.Str.{bytes_eq}
use Rattle.zw_table.proofs.RowLemmas.{has_row}
use Rattle.zw_table.proofs.Table.contains_key.Goals as goal

pub returns : goal.returns
returns g c = c.is_some.ensures ∙ has_row (bytes_eq c.args.key.now) c.args.self.now c.find.result c.find.ensures

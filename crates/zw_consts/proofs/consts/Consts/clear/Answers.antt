use Rattle.std.proofs.Common.{ap, ◌∙◌}
use Rattle.zw_consts.specs.Table.{tables_of, without_value}
use Rattle.zw_consts.proofs.consts.Consts.clear.Goals as goal

pub returns : goal.returns
returns c = c.clear.ensures ∙ ap (λ ts. without_value c.args.of.0 c.args.name.0 (tables_of ts)) c.self.view_is

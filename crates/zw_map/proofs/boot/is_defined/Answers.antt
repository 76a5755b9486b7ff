use Rattle.std.proofs.Common.{map, ap, ◌∙◌}
use Rattle.std.specs.Option.{is_some}
use Rattle.zw_map.specs.BootSeen.{row_at}
use Rattle.zw_map.proofs.BootLemmas.{row_defined}
use Rattle.zw_map.proofs.boot.is_defined.Goals as goal

pub returns : goal.returns
returns c = c.is_some.ensures ∙ ap is_some c.own_at.ensures ∙ row_defined (row_at c.args.boot.now (map (λ n. n.0) c.args.names.now))

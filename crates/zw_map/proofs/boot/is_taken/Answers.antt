use Rattle.std.proofs.Common.{map, sym, ◌∙◌}
use Rattle.zw_map.specs.BootSeen.{row_at}
use Rattle.zw_map.proofs.BootLemmas.{row_taken, row_not_taken}
use Rattle.zw_map.proofs.boot.is_taken.Goals as goal

pub returns-in-Some : goal.returns-in-Some
returns-in-Some c = row_taken (row_at c.args.boot.now (map (λ n. n.0) c.args.names.now)) c.in-Some.own (sym c.in-Some.is ∙ c.own_at.ensures)

pub returns-in-None : goal.returns-in-None
returns-in-None c = row_not_taken (row_at c.args.boot.now (map (λ n. n.0) c.args.names.now)) (sym c.in-None.is ∙ c.own_at.ensures)

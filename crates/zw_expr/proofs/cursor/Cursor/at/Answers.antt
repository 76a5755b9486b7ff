use Rattle.zw_expr.proofs.ListLemmas.{greatest_got}
use Rattle.zw_expr.specs.Named.{token_bound}
use Rattle.std.proofs.Common.{rules}
use Rattle.zw_expr.proofs.cursor.Cursor.at.Goals as goal

pub returns-clause-named : goal.returns-clause-named
returns-clause-named c =
    greatest_got token_bound c.self.inside.rest.now c.args.place _ c.get.result c.get.ensures.lookup.0 c.get.ensures.lookup.1 (search (rules, c.self.invariant.0, c.self.view_is))

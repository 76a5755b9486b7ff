use Rattle.std.proofs.Common.{rules}
use Rattle.zw_expr.proofs.KnownLemmas.{known_by_text}
use Rattle.zw_def_syntax.specs.Input.{is_known}
use Rattle.zw_expr.proofs.cursor.Cursor.is_known.Goals as goal

pub returns : goal.returns
unfolding is_known
returns c =
    let known = known_by_text c.self.inside.names.now c.args.name.0 c.self.inside.known c.are_distinct.ensures (search (rules, c.requires, c.self.view_is)) c.self.invariant.1 in
    search (rules, known, c.contains.ensures, c.self.view_is)

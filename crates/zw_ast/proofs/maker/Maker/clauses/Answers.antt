use Rattle.std.proofs.Common.{rules, arith}
use Rattle.zw_ast.proofs.KindLemmas.{begin_bound}
use Rattle.zw_ast.proofs.maker.Maker.clauses.Goals as goal

pub raise-requires : goal.raise-requires
raise-requires c =
    let e = begin_bound c.in_ok-body.body.form c.in_ok-rescues.rescues.form c.in_ok-other.other.form c.in_ok-ensured.ensured.form in
    record { named = search (rules, e, arith) }

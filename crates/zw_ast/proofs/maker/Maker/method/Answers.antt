use Rattle.std.proofs.Common.{◌≡◌, true, false, rules, arith}
use Rattle.zw_ast.proofs.KindLemmas.{def_bound, sdef_bound}
use Rattle.zw_ast.proofs.FormLemmas.{method_of_self, method_of_objects}
use Rattle.zw_ast.proofs.maker.Maker.method.Goals as goal

pub raise-requires : goal.raise-requires
raise-requires c =
    let e = sdef_bound c.args.name c.from_vec-required.result c.in_ok-defaults.defaults.form c.in_ok-body.body.form in
    record { named = search (rules, e, arith) }

pub raise-requires-else-on_self : goal.raise-requires-else-on_self
raise-requires-else-on_self c =
    let e = def_bound c.args.name c.from_vec-required.result c.in_ok-defaults.defaults.form c.in_ok-body.body.form in
    record { named = search (rules, e, arith) }

pub returns-then-on_self-clause-told : goal.returns-then-on_self-clause-told
returns-then-on_self-clause-told c =
    rw c.if-on_self.true
    (method_of_self _ c.args.name c.args.params c.args.clauses c.in_ok-defaults.defaults c.in_ok-body.body _
    c.in_ok-defaults.ensures.told c.in_ok-body.ensures.told _ _ c.from_vec-required.ensures c.max-height.ensures c.raise.ensures.told)

pub returns-else-on_self-clause-told : goal.returns-else-on_self-clause-told
returns-else-on_self-clause-told c =
    rw c.if-on_self.false
    (method_of_objects _ c.args.name c.args.params c.args.clauses c.in_ok-defaults.defaults c.in_ok-body.body _
    c.in_ok-defaults.ensures.told c.in_ok-body.ensures.told _ _ c.from_vec-required.ensures c.max-height.ensures c.raise-else-on_self.ensures.told)

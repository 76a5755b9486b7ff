use Rattle.std.proofs.Common.{rules, arith, subst, sym}
use Rattle.zw_def_syntax.specs.Tree as t
use Rattle.zw_ast.specs.Gives.{Gives}
use Rattle.zw_ast.specs.Grown.{grown_seen}
use Rattle.zw_ast.proofs.KindLemmas.{interp_told, interp_bound, raised_as}
use Rattle.zw_ast.proofs.maker.Maker.interpolation.Goals as goal

pub raise-requires : goal.raise-requires
raise-requires c = let e = interp_bound c.in_ok-parts.parts.form in record { named = search (rules, e, arith) }

pub returns-clause-told : goal.returns-clause-told
returns-clause-told c =
    subst (λ g. Gives (grown_seen c.args.self.now.names.now) (t.over t.interp_node g) c.raise.result)
    (sym c.in_ok-parts.ensures.told)
    (raised_as _ _ _ _ _ (interp_told _ c.in_ok-parts.parts.form) c.raise.ensures.told)

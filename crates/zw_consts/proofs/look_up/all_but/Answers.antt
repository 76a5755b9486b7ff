use Rattle.std.proofs.Common.{◌≡◌, ap, ◌∙◌, arith}
use Rattle.std.proofs.lemmas.List.{take_all}
use Rattle.zw_consts.specs.Ancestor.{numbers_of}
use Rattle.zw_consts.specs.LookUp.{without}
use Rattle.zw_consts.proofs.LookUpLemmas.{All-without}
use Rattle.zw_consts.proofs.look_up.all_but.Goals as goal

pub returns-clause-held : goal.returns-clause-held
returns-clause-held c =
    let all : numbers_of c.loop-module.others.items ≡ without c.args.one.0 (numbers_of c.args.modules.now) =
    c.loop-module.invariant ∙ ap (λ l. without c.args.one.0 (numbers_of l)) (take_all c.loop-module.module-index c.args.modules.now (omega arith)) in
    λ b held. All-without b c.args.one.0 c.args.modules.now c.loop-module.others.items all held

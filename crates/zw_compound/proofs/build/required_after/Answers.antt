use Rattle.zw_compound.proofs.NamedLemmas.{required_behind}
use Rattle.zw_compound.proofs.build.required_after.Goals as goal

pub returns-clause-named : goal.returns-clause-named
returns-clause-named c = required_behind _ _ c.args.name _ _ c.in_ok-push.ensures.items c.requires.params c.requires.name

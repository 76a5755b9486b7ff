use Rattle.std.proofs.Common.{[], codes, subst}
use Rattle.zw_def.specs.Names.{texts_of}
use Rattle.zw_def_config.specs.Value.{constant_path_in, or_else}
use Rattle.zw_config.specs.Fault.{Gives}
use Rattle.zw_config.proofs.roots.root_namespace.Goals as goal

pub returns-in-Some-clause-told : goal.returns-in-Some-clause-told
returns-in-Some-clause-told c =
    subst (λ o. Gives (texts_of c.cpath_in.new.names) c.cpath_in.result (or_else [] (constant_path_in (codes "root.namespace")) o)) c.in-Some.ensures c.cpath_in.ensures.told

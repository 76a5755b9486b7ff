use Rattle.std.proofs.Common.{sym, subst}
use Rattle.zw_def_world.specs.Value.{as_module}
use Rattle.zw_heap.specs.Telling.{tell}
use Rattle.zw_ops.specs.Open.{Reopens, reopens}
use Rattle.zw_ops.proofs.open.reopen.Goals as goal

pub returns-in-Module : goal.returns-in-Module
returns-in-Module c = λ names.
    subst (λ kind. Reopens c.args.heap.now names (λ I. reopens kind I c.args.name.now) (λ I. as_module (tell I c.args.found)) c.reopen_module.result) (sym c.in-Module.is) (c.reopen_module.ensures names)

pub returns-in-Class : goal.returns-in-Class
returns-in-Class c = λ names.
    subst (λ kind. Reopens c.args.heap.now names (λ I. reopens kind I c.args.name.now) (λ I. as_module (tell I c.args.found)) c.reopen_class.result) (sym c.in-Class.is) (c.reopen_class.ensures names)

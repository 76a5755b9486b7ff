use Rattle.std.proofs.Common.{◌<◌, length, sym, subst}
use Rattle.std.specs.List.{All}
use Rattle.zw_heap.specs.declared.value.ModuleId.{ModuleId}
use Rattle.zw_consts.proofs.LookUpLemmas.{All-passed}
use Rattle.zw_consts.proofs.look_up.walk_below.Goals as goal

pub returns-clause-held : goal.returns-clause-held
returns-clause-held c =
    let b = length c.args.heap.now.modules in
    let line = subst (All (λ (i : ModuleId). i.0 < b)) (sym c.deref.ensures.value) c.in_ok-line.ensures.held in
    let below = subst (All (λ (i : ModuleId). i.0 < b)) (sym c.deref-2.ensures.value) (c.in_ok-below.ensures.held b line) in
    All-passed (λ v. v.items) c.all_but-2.result c.deref-2.result.now b c.all_but-2.ensures.held below

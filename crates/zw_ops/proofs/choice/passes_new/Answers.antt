use Rattle.std.proofs.Common.{◌≡◌, true, codes, ap, sym, subst, ◌∙◌, rules}
use Rattle.std.specs.List.{list_any}
use Rattle.std.specs.Str.{bytes_eq}
use Rattle.zw_consts.specs.Ancestor.{is_among, numbers_of, ancestors_of}
use Rattle.zw_def_world.specs.MethodLine.{passes_new}
use Rattle.zw_def_world.specs.Value as told_value
use Rattle.zw_heap.specs.Heap.{sizes_of}
use Rattle.zw_heap.specs.Sound.{IsIn}
use Rattle.zw_heap.specs.Telling.{tell}
use Rattle.zw_ops.specs.Choice.{without_new}
use Rattle.zw_ops.proofs.ChoiceLemmas.{without_new-told, passes-told}
use Rattle.zw_ops.proofs.choice.passes_new.Goals as goal

pub returns-clause-told : goal.returns-clause-told
returns-clause-told c = λ I w fit agrees.
    let n = c.in-Module.of.0 in
    let within = subst (IsIn (sizes_of c.args.heap.now)) c.in-Module.is c.requires.receiver in
    let new : bytes_eq c.text.result.now (codes "new") ≡ true = search rules in
    ap (λ x. passes_new w (tell I x) (I.name c.args.name.0)) c.in-Module.is
    ∙ ap (passes_new w (told_value.module_at (I.module_id n))) (fit.names_told c.args.name.0 c.text.result.now c.text.ensures)
    ∙ passes-told w (I.module_id n) c.text.result.now _ _ new (c.tells_ancestors.ensures.line I c.args.names.now w n fit agrees within)
    (without_new-told I (λ m lt. c.tells_core.ensures.modules I c.args.names.now m fit lt) (ancestors_of c.args.heap.now.modules n)
    ∙ ap (λ ns. list_any (is_among ns) without_new) (sym (ap numbers_of c.deref.ensures.value ∙ c.in_ok-line.ensures.line))
    ∙ sym c.holds_any.ensures)

use Rattle.std.proofs.Common.{◌≡◌, ◌∙◌, sym, ap, Some, IfSome, option_map, nat_eq, subst, Vec, Global}
use Rattle.std.proofs.lemmas.Map.Entries.{All-lookup}
use Rattle.std.proofs.lemmas.Option.{slice_get_within, same_Some}
use Rattle.std.proofs.lemmas.List.Elements.{All-weaker}
use Rattle.zw_thin.specs.ClassFile.{methods_seen, MethodsNamed}
use Rattle.zw_thin.specs.Class.{open_seen, EntryNamed}
use Rattle.zw_thin.specs.declared.class_file.Method.{Method}
use Rattle.zw_thin.proofs.LookUpLemmas.{class_by, class_as, class_nowhere}
use Rattle.zw_thin.proofs.table.class_of.Goals as goal

pub returns-in_err-name-clause-told : goal.returns-in_err-name-clause-told
returns-in_err-name-clause-told c =
    ap (option_map (open_seen c.args.names.now)) c.from_residual.ensures ∙ sym (class_nowhere c.args.names.now c.args.name.now (sym c.in_err-name.ensures.found) c.args.classes.now.entries c.requires)

pub returns-in_err-methods-clause-told : goal.returns-in_err-methods-clause-told
returns-in_err-methods-clause-told c =
    let names = c.args.names.now in
    ap (option_map (open_seen names)) c.from_residual-in_err-methods.ensures
    ∙ ap (option_map (class_by names c.args.name.now)) c.in_err-methods.ensures.value
    ∙ class_as names c.in_ok-name.name.0 c.args.name.now c.in_ok-name.ensures.distinct c.in_ok-name.ensures.named c.args.classes.now.entries c.requires

pub text-requires : goal.text-requires
text-requires c = slice_get_within _ _ _ c.in_ok-name.ensures.named

pub returns-clause-told : goal.returns-clause-told
returns-clause-told c =
    let names = c.args.names.now in
    let text : c.text.result.now ≡ c.args.name.now = same_Some _ _ (sym c.text.ensures ∙ c.in_ok-name.ensures.named) in
    (λ i. Some (record { name = text i; methods = methods_seen names (c.as_slice.ensures.value i) }))
    ∙ ap (option_map (class_by names c.args.name.now)) c.in_ok-methods.ensures.value
    ∙ class_as names c.in_ok-name.name.0 c.args.name.now c.in_ok-name.ensures.distinct c.in_ok-name.ensures.named c.args.classes.now.entries c.requires

pub returns-clause-named : goal.returns-clause-named
returns-clause-named c =
    let names = c.args.names.now in
    let cs = c.args.classes.now.entries in
    let found = All-lookup (λ (ms : Vec Method Global). MethodsNamed names ms.items) (λ m. nat_eq c.in_ok-name.name.0 m.0) cs (All-weaker (EntryNamed names) _ (λ e h. h.1) cs c.requires) in
    subst (MethodsNamed names) (sym c.as_slice.ensures.value) (subst (λ o. IfSome o (λ (ms : Vec Method Global). MethodsNamed names ms.items)) (sym c.in_ok-methods.ensures.value) found)

use Rattle.std.proofs.Common.{◌∙◌, sym, ap, reverse, nat_eq, rules, tests}
use Rattle.std.specs.List.{find}
use Rattle.std.specs.Option.{option_map}
use Rattle.std.specs.Str.{bytes_eq}
use Rattle.std.proofs.lemmas.Iterator.Adapters.{YieldsList-from_rev_slice}
use Rattle.std.proofs.lemmas.Iterator.Search.{find_from_yields_List}
use Rattle.zw_lemmas.proofs.FindLemmas.{find-told}
use Rattle.zw_lemmas.proofs.OptionLemmas.{behind-map, option_map-id}
use Rattle.zw_thin.specs.ClassFile.{method_seen}
use Rattle.zw_thin.specs.declared.class_file.Method.{Method}
use Rattle.zw_thin.proofs.LookUpLemmas.{last_as, method_nowhere}
use Rattle.zw_lemmas.proofs.ListLemmas.{reverse-map}
use Rattle.zw_thin.proofs.table.value_of.Goals as goal

pub returns-in_err-name : goal.returns-in_err-name
returns-in_err-name c = c.from_residual.ensures ∙ sym (ap (option_map (λ m. m.value)) (method_nowhere c.args.names.now c.args.name.now (sym c.in_err-name.ensures.found) c.args.methods.now c.requires))

pub returns : goal.returns
returns c =
    let names = c.args.names.now in
    let text = c.args.name.now in
    let methods = c.args.methods.now in
    let found = find_from_yields_List (λ (m : Method). nat_eq m.name.0 c.in_ok-name.name.0) _ _ c.find-2.result c.find-2.ensures.ran (YieldsList-from_rev_slice methods (ap (λ it. it.rest.now) c.rev.ensures.source ∙ c.iter.ensures.rest)) (λ x b q k. search (rules, tests)) in
    sym (option_map-id c.map.result)
    ∙ behind-map (λ x. x.now.value) (λ y. y) _ c.find-2.result c.map.result c.map.ensures.cases (λ x y k. search (rules, tests))
    ∙ find-told (method_seen names) (λ m. bytes_eq m.name text) (λ m. m.value) (λ x. x.now) (reverse methods) c.find-2.result (found ∙ last_as names c.in_ok-name.name.0 text c.in_ok-name.ensures.distinct c.in_ok-name.ensures.named methods c.requires)
    ∙ ap (λ ms. option_map (λ m. m.value) (find (λ m. bytes_eq m.name text) ms)) (sym (reverse-map (method_seen names) methods))

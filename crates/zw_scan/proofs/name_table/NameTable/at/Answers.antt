use Rattle.std.proofs.Common.{[], map, ap, ◌∙◌}
use Rattle.std.specs.Option.{option_map_or}
use Rattle.std.proofs.lemmas.Result.{IfOk-weaker}
use Rattle.zw_names.specs.declared.names.Name.{Name}
use Rattle.zw_scan.specs.NameTable.{entry_told, names_at}
use Rattle.zw_scan.proofs.NameTableLemmas.{numbers_told}
use Rattle.zw_scan.proofs.name_table.NameTable.at.Goals as goal

pub returns-in-Some : goal.returns-in-Some
returns-in-Some c =
    let slice = c.as_slice.ensures.value ∙ c.in_ok-numbers.ensures ∙ c.names.ensures in
    let held = ap (λ o. option_map_or (λ kept. map entry_told kept.entries) o []) c.in-Some.ensures.value in
    IfOk-weaker c.names_of.result _ _ (λ names is.
    ap (map (λ (n : Name). n.0)) is ∙ numbers_told c.in-Some.kept.now.entries ∙ ap (map (λ e. e.1)) (held ∙ ap (λ p. names_at p c.args.self.now) slice))
    c.names_of.ensures

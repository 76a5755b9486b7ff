use Rattle.std.proofs.Common.{List, map, ap, sym, subst, ◌∙◌}
use Rattle.std.specs.List.{All}
use Rattle.std.proofs.lemmas.Result.{IfOk-weaker}
use Rattle.zw_def.specs.ConstantPath.{ConstantPath}
use Rattle.zw_def.specs.Names.{AreNamed, texts_of}
use Rattle.zw_def.specs.Map.{with_path, names_of}
use Rattle.zw_map.specs.Order.{sorted_told}
use Rattle.zw_map.proofs.SortedLemmas.{told_paths, told_named, names_found, folded}
use Rattle.zw_map.proofs.sorted.order.Goals as goal

pub returns-clause-told : goal.returns-clause-told
returns-clause-told c =
    let names = c.args.names.now in
    IfOk-weaker c.paths_of.result _ _ (λ paths is layout tree scan.
    ap (map (texts_of names)) is
    ∙ told_paths names c.add_all-2.new.sorted.entries
    ∙ folded (λ (ps : List ConstantPath) p. with_path p ps) _ _ _ _ _ (ap (sorted_told names) c.new-sorted.ensures.empty) c.in_ok-add_all.ensures.told c.in_ok-add_all-2.ensures.told
    (names_found names c.files.result.now ∙ ap names_of (c.files.ensures.told names layout tree scan))
    (names_found names c.directories.result.now ∙ ap names_of (c.directories.ensures.told names layout tree scan)))
    c.paths_of.ensures

pub returns-clause-named : goal.returns-clause-named
returns-clause-named c =
    let names = c.args.names.now in
    IfOk-weaker c.paths_of.result _ _ (λ paths is.
    subst (All (AreNamed names)) (sym is) (told_named names c.add_all-2.new.sorted.entries c.in_ok-add_all-2.ensures.keyed))
    c.paths_of.ensures

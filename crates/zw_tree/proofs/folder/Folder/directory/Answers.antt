use Rattle.std.proofs.Common.{◌≡◌, ◌+◌, Some, ◌∷◌, map, drop, string_bytes, ap, sym, ◌∙◌}
use Rattle.zw_def.specs.Path.{Path}
use Rattle.zw_tree.specs.Row.{told}
use Rattle.zw_tree.specs.Lookup.{folder_at}
use Rattle.zw_tree.specs.Entries.{tree_below}
use Rattle.zw_tree.proofs.ListLemmas.{drop_told}
use Rattle.zw_tree.proofs.SeekLemmas.{folder_sound}
use Rattle.zw_tree.proofs.ListingLemmas.{below_gap, below_file, below_folder}
use Rattle.zw_tree.proofs.folder.Folder.directory.Goals as goal

pub returns-in_default-clause-files : goal.returns-in_default-clause-files
returns-in_default-clause-files c =
    let here = c.loop-name.here.now in
    let name = c.as_str.result.now in
    let rest : Path = map (λ s. string_bytes s) (drop (c.loop-name.name-index + 1) c.args.components.now) in
    let path : map (λ s. string_bytes s) (drop c.loop-name.name-index c.args.components.now) ≡ name ∷ rest = drop_told (λ s. string_bytes s) c.args.components.now c.loop-name.name-index c.name-item.result name c.loop-name-test.true c.name-item.is c.as_str.ensures.value in
    let files = ap (λ p. tree_below p (told here)) (sym path) ∙ c.loop-name.invariant.files in
    sym (below_gap here name c.in_default.field-0 c.in_default.ensures rest) ∙ files

pub returns-in_default-folder-clause-files : goal.returns-in_default-folder-clause-files
returns-in_default-folder-clause-files c =
    let here = c.loop-name.here.now in
    let name = c.as_str.result.now in
    let rest : Path = map (λ s. string_bytes s) (drop (c.loop-name.name-index + 1) c.args.components.now) in
    let path : map (λ s. string_bytes s) (drop c.loop-name.name-index c.args.components.now) ≡ name ∷ rest = drop_told (λ s. string_bytes s) c.args.components.now c.loop-name.name-index c.name-item.result name c.loop-name-test.true c.name-item.is c.as_str.ensures.value in
    let files = ap (λ p. tree_below p (told here)) (sym path) ∙ c.loop-name.invariant.files in
    sym (below_file here name c.in-Ok.at c.in-Ok.ensures rest (sym c.in_default-folder.ensures)) ∙ files

pub loop-name-preserved : goal.loop-name-preserved
loop-name-preserved c =
    let here = c.loop-name.here.now in
    let name = c.as_str.result.now in
    let rest : Path = map (λ s. string_bytes s) (drop (c.loop-name.name-index + 1) c.args.components.now) in
    let path : map (λ s. string_bytes s) (drop c.loop-name.name-index c.args.components.now) ≡ name ∷ rest = drop_told (λ s. string_bytes s) c.args.components.now c.loop-name.name-index c.name-item.result name c.loop-name-test.true c.name-item.is c.as_str.ensures.value in
    let files = ap (λ p. tree_below p (told here)) (sym path) ∙ c.loop-name.invariant.files in
    let below = c.in-Some.below.now in
    let at : folder_at here c.in-Ok.at ≡ Some below = sym c.in-Some.ensures in
    record {
      sound = folder_sound here name c.in-Ok.at c.in-Ok.ensures below at c.loop-name.invariant.sound;
      files = sym (below_folder here name c.in-Ok.at c.in-Ok.ensures rest below at) ∙ files;
    }

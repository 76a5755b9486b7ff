use Rattle.std.proofs.Common.{◌≡◌, ◌+◌, Some, [], ◌∷◌, length, map, drop, string_bytes, ap, sym, ◌∙◌, arith}
use Rattle.zw_def.specs.Path.{Path}
use Rattle.zw_tree.specs.Row.{told}
use Rattle.zw_tree.specs.Text.{text_at}
use Rattle.zw_tree.specs.Edit.{is_blocked}
use Rattle.zw_tree.specs.Lookup.{file_at, folder_at}
use Rattle.zw_tree.proofs.ListLemmas.{drop_told, drop_last, drop_more, same_number, other_number}
use Rattle.zw_tree.proofs.EditLemmas.{gap_text, gap_blocked}
use Rattle.zw_tree.proofs.SeekLemmas.{file_text, file_blocked, folder_text, folder_blocked, folder_sound, folder_text-end, folder_blocked-end}
use Rattle.zw_tree.proofs.folder.Folder.seek.Goals as goal

pub returns-in_default-clause-text : goal.returns-in_default-clause-text
returns-in_default-clause-text c =
    let here = c.down.here.now in
    let name = c.as_str.result.now in
    let rest : Path = map (λ s. string_bytes s) (drop (c.down.depth + 1) c.args.components.now) in
    let path : map (λ s. string_bytes s) (drop c.down.depth c.args.components.now) ≡ name ∷ rest = drop_told (λ s. string_bytes s) c.args.components.now c.down.depth c.index-components-depth.result name c.down.invariant.within c.index-components-depth.is c.as_str.ensures.value in
    let text = ap (λ p. text_at p (told here)) (sym path) ∙ c.down.invariant.text in
    sym (gap_text here name c.in_default.field-0 c.in_default.ensures rest) ∙ text

pub returns-in_default-clause-blocked : goal.returns-in_default-clause-blocked
returns-in_default-clause-blocked c =
    let here = c.down.here.now in
    let name = c.as_str.result.now in
    let rest : Path = map (λ s. string_bytes s) (drop (c.down.depth + 1) c.args.components.now) in
    let path : map (λ s. string_bytes s) (drop c.down.depth c.args.components.now) ≡ name ∷ rest = drop_told (λ s. string_bytes s) c.args.components.now c.down.depth c.index-components-depth.result name c.down.invariant.within c.index-components-depth.is c.as_str.ensures.value in
    let blocked = ap (λ p. is_blocked (told here) p) (sym path) ∙ c.down.invariant.blocked in
    sym (gap_blocked here name c.in_default.field-0 c.in_default.ensures rest) ∙ blocked

pub returns-in-Some-clause-text : goal.returns-in-Some-clause-text
returns-in-Some-clause-text c =
    let here = c.down.here.now in
    let name = c.as_str.result.now in
    let rest : Path = map (λ s. string_bytes s) (drop (c.down.depth + 1) c.args.components.now) in
    let path : map (λ s. string_bytes s) (drop c.down.depth c.args.components.now) ≡ name ∷ rest = drop_told (λ s. string_bytes s) c.args.components.now c.down.depth c.index-components-depth.result name c.down.invariant.within c.index-components-depth.is c.as_str.ensures.value in
    let text = ap (λ p. text_at p (told here)) (sym path) ∙ c.down.invariant.text in
    let at : file_at here c.in-Ok.at ≡ Some c.in-Some.bytes.now = sym c.in-Some.ensures in
    c.file_or_blocked.ensures.text ∙ file_text here name c.in-Ok.at c.in-Ok.ensures c.in-Some.bytes.now at rest _
    (λ e. drop_last (λ s. string_bytes s) c.args.components.now c.down.depth (same_number (c.down.depth + 1) (length c.args.components.now) e))
    (λ e. drop_more (λ s. string_bytes s) c.args.components.now c.down.depth (omega (arith, other_number (c.down.depth + 1) (length c.args.components.now) e, c.down.invariant.within)))
    ∙ text

pub returns-in-Some-clause-blocked : goal.returns-in-Some-clause-blocked
returns-in-Some-clause-blocked c =
    let here = c.down.here.now in
    let name = c.as_str.result.now in
    let rest : Path = map (λ s. string_bytes s) (drop (c.down.depth + 1) c.args.components.now) in
    let path : map (λ s. string_bytes s) (drop c.down.depth c.args.components.now) ≡ name ∷ rest = drop_told (λ s. string_bytes s) c.args.components.now c.down.depth c.index-components-depth.result name c.down.invariant.within c.index-components-depth.is c.as_str.ensures.value in
    let blocked = ap (λ p. is_blocked (told here) p) (sym path) ∙ c.down.invariant.blocked in
    let at : file_at here c.in-Ok.at ≡ Some c.in-Some.bytes.now = sym c.in-Some.ensures in
    c.file_or_blocked.ensures.blocked ∙ file_blocked here name c.in-Ok.at c.in-Ok.ensures c.in-Some.bytes.now at rest _
    (λ e. drop_last (λ s. string_bytes s) c.args.components.now c.down.depth (same_number (c.down.depth + 1) (length c.args.components.now) e))
    (λ e. drop_more (λ s. string_bytes s) c.args.components.now c.down.depth (omega (arith, other_number (c.down.depth + 1) (length c.args.components.now) e, c.down.invariant.within)))
    ∙ blocked

pub returns-then-is_last-clause-text : goal.returns-then-is_last-clause-text
returns-then-is_last-clause-text c =
    let here = c.down.here.now in
    let name = c.as_str.result.now in
    let rest : Path = map (λ s. string_bytes s) (drop (c.down.depth + 1) c.args.components.now) in
    let path : map (λ s. string_bytes s) (drop c.down.depth c.args.components.now) ≡ name ∷ rest = drop_told (λ s. string_bytes s) c.args.components.now c.down.depth c.index-components-depth.result name c.down.invariant.within c.index-components-depth.is c.as_str.ensures.value in
    let below = c.in-Some-folder.below.now in
    let at : folder_at here c.in-Ok.at ≡ Some below = sym c.in-Some-folder.ensures in
    let text = ap (λ p. text_at p (told here)) (sym path) ∙ c.down.invariant.text in
    let end : rest ≡ [] = drop_last (λ s. string_bytes s) c.args.components.now c.down.depth c.if-is_last.true in
    folder_text-end here name c.in-Ok.at c.in-Ok.ensures below at c.down.invariant.sound ∙ ap (λ p. text_at (name ∷ p) (told here)) (sym end) ∙ text

pub returns-then-is_last-clause-blocked : goal.returns-then-is_last-clause-blocked
returns-then-is_last-clause-blocked c =
    let here = c.down.here.now in
    let name = c.as_str.result.now in
    let rest : Path = map (λ s. string_bytes s) (drop (c.down.depth + 1) c.args.components.now) in
    let path : map (λ s. string_bytes s) (drop c.down.depth c.args.components.now) ≡ name ∷ rest = drop_told (λ s. string_bytes s) c.args.components.now c.down.depth c.index-components-depth.result name c.down.invariant.within c.index-components-depth.is c.as_str.ensures.value in
    let below = c.in-Some-folder.below.now in
    let at : folder_at here c.in-Ok.at ≡ Some below = sym c.in-Some-folder.ensures in
    let blocked = ap (λ p. is_blocked (told here) p) (sym path) ∙ c.down.invariant.blocked in
    let end : rest ≡ [] = drop_last (λ s. string_bytes s) c.args.components.now c.down.depth c.if-is_last.true in
    folder_blocked-end here name c.in-Ok.at c.in-Ok.ensures below at c.down.invariant.sound ∙ ap (λ p. is_blocked (told here) (name ∷ p)) (sym end) ∙ blocked

pub down-preserved : goal.down-preserved
down-preserved c =
    let here = c.down.here.now in
    let name = c.as_str.result.now in
    let rest : Path = map (λ s. string_bytes s) (drop (c.down.depth + 1) c.args.components.now) in
    let path : map (λ s. string_bytes s) (drop c.down.depth c.args.components.now) ≡ name ∷ rest = drop_told (λ s. string_bytes s) c.args.components.now c.down.depth c.index-components-depth.result name c.down.invariant.within c.index-components-depth.is c.as_str.ensures.value in
    let below = c.in-Some-folder.below.now in
    let at : folder_at here c.in-Ok.at ≡ Some below = sym c.in-Some-folder.ensures in
    let text = ap (λ p. text_at p (told here)) (sym path) ∙ c.down.invariant.text in
    let blocked = ap (λ p. is_blocked (told here) p) (sym path) ∙ c.down.invariant.blocked in
    record {
      sound = folder_sound here name c.in-Ok.at c.in-Ok.ensures below at c.down.invariant.sound;
      within = omega (arith, c.if-is_last.false, c.down.invariant.within);
      text = folder_text here name c.in-Ok.at c.in-Ok.ensures below at rest ∙ text;
      blocked = folder_blocked here name c.in-Ok.at c.in-Ok.ensures below at rest ∙ blocked;
    }

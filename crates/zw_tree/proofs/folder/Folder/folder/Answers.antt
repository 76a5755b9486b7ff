use Rattle.std.proofs.Common.{◌≡◌, Some, ap, sym, ◌∙◌, arith}
use Rattle.std.specs.Option.{option_and_then}
use Rattle.zw_tree.specs.Row.{Row}
use Rattle.zw_tree.specs.Seen.{rows_seen, node_seen}
use Rattle.zw_tree.specs.Lookup.{rows_in, folder_at}
use Rattle.zw_tree.specs.declared.folder.Entry.{Entry}
use Rattle.zw_tree.specs.Code.{listed_rows}
use Rattle.zw_tree.proofs.SeenLemmas.{row_at}
use Rattle.zw_tree.proofs.folder.Folder.folder.Goals as goal

pub returns-in-Directory : goal.returns-in-Directory
returns-in-Directory c =
    let es = c.deref.result.now in
    let at = c.in_ok-entry.ensures.lookup in
    let row = row_at es c.args.at c.in_ok-entry.entry.now (omega (arith, at.3.0)) at.1 in
    let are : rows_seen es ≡ c.args.self.now = ap rows_seen c.deref.ensures.value ∙ c.self.view_is in
    let node = c.in-Directory.is in
    ap Some (sym (listed_rows c.in-Directory.folder))
    ∙ sym (ap (λ rs. folder_at rs c.args.at) (sym are) ∙ ap (option_and_then (λ (r : Row). rows_in r.node)) row ∙ ap (λ (x : Entry). rows_in (node_seen x.node)) (sym c.deref-2.ensures) ∙ ap (λ n. rows_in (node_seen n)) node)

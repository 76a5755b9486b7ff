use Rattle.std.proofs.Common.{ap, ◌∙◌}
use Rattle.std.specs.Global.{Box}
use Rattle.std.specs.List.{insert}
use Rattle.zw_tree.specs.Seen.{row_seen, rows_seen}
use Rattle.zw_tree.specs.declared.folder.Entry.{Entry}
use Rattle.zw_lemmas.proofs.ListLemmas.{insert-map}
use Rattle.zw_tree.proofs.folder.Folder.insert.Goals as goal

pub returns-clause-ok : goal.returns-clause-ok
returns-clause-ok c =
    ap rows_seen c.in_ok-insert.ensures.items
    ∙ insert-map (λ (e : Box Entry). row_seen e.value) c.self.inside.entries.items c.args.at c.in_ok-entry.entry
    ∙ (λ i. insert (c.self.view_is i) c.args.at (c.in_ok-entry.ensures i))

use Rattle.std.proofs.Common.{ap, sym, ◌∙◌}
use Rattle.zw_tree.specs.Row.{rows_within}
use Rattle.zw_tree.specs.Seen.{node_seen}
use Rattle.zw_tree.specs.Code.{listed_rows}
use Rattle.zw_tree.proofs.folder.Node.into_entries.Goals as goal

pub returns-in-Directory : goal.returns-in-Directory
returns-in-Directory c =
    c.into_entries.ensures
    ∙ sym (listed_rows c.in-Directory.folder)
    ∙ ap (λ node. rows_within (node_seen node)) (sym c.in-Directory.is)

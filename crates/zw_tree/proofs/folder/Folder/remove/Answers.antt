use Rattle.std.proofs.Common.{ap, ◌∙◌}
use Rattle.std.specs.List.{remove}
use Rattle.zw_tree.specs.Seen.{rows_seen}
use Rattle.zw_tree.proofs.SeenLemmas.{rows-remove}
use Rattle.zw_tree.proofs.folder.Folder.remove.Goals as goal

pub returns : goal.returns
returns c =
    ap rows_seen c.remove.ensures.items
    ∙ rows-remove c.self.inside.entries.items c.args.at
    ∙ ap (λ rs. remove rs c.args.at) c.self.view_is

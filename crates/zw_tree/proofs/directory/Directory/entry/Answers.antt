use Rattle.std.proofs.Common.{ap, ◌∙◌}
use Rattle.std.specs.List.{slice_get}
use Rattle.zw_tree.specs.Entries.{first_names}
use Rattle.zw_tree.proofs.ListingLemmas.{listed_told}
use Rattle.zw_tree.proofs.directory.Directory.entry.Goals as goal

pub returns-clause-entry : goal.returns-clause-entry
returns-clause-entry g c =
    c.entry.ensures
    ∙ listed_told c.self.inside.folder.now c.args.k c.self.invariant
    ∙ ap (λ t. slice_get (first_names t) c.args.k) c.self.view_is

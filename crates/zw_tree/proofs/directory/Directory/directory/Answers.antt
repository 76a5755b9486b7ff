use Rattle.std.proofs.Common.{ap, sym, ◌∙◌}
use Rattle.std.specs.Option.{option_map}
use Rattle.zw_tree.specs.Row.{told}
use Rattle.zw_tree.specs.Entries.{child_at}
use Rattle.zw_tree.proofs.ListingLemmas.{child_told, child_sound}
use Rattle.zw_tree.proofs.directory.Directory.directory.Goals as goal

pub invariant_of-result : goal.invariant_of-result
invariant_of-result c = child_sound c.self.inside.folder.now c.args.k c.in-Some.folder.now c.self.invariant (sym c.in-Some.ensures)

pub returns-in-Some : goal.returns-in-Some
returns-in-Some c =
    ap (option_map told) c.in-Some.ensures
    ∙ child_told c.self.inside.folder.now c.args.k c.self.invariant
    ∙ ap (child_at c.args.k) c.self.view_is

pub returns-in-None : goal.returns-in-None
returns-in-None c =
    ap (option_map told) (c.in-None.ensures)
    ∙ child_told c.self.inside.folder.now c.args.k c.self.invariant
    ∙ ap (child_at c.args.k) c.self.view_is

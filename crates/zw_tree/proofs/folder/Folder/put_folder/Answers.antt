use Rattle.std.proofs.Common.{ap}
use Rattle.std.specs.Box.{with_value}
use Rattle.zw_tree.specs.Seen.{row_seen}
use Rattle.zw_tree.specs.declared.folder.Entry.{Entry}
use Rattle.zw_tree.specs.declared.folder.Node.TheVariants.{Directory}
use Rattle.zw_tree.proofs.SeenLemmas.{changed}
use Rattle.zw_tree.proofs.folder.Folder.put_folder.Goals as goal

pub returns : goal.returns
returns c =
    let new : Entry = record { name = c.deref_mut.result.now.name; node = Directory c.args.child } in
    changed c.self.inside.entries.items c.args.self.now c.self.view_is c.args.at c.requires c.index_mut.result.now c.index_mut.ensures.value (with_value c.index_mut.result.now new) (ap (λ (x : Entry). (row_seen x).name) c.deref_mut.ensures.value)

use Rattle.std.proofs.Common.{Some, ap, sym, ◌∙◌}
use Rattle.std.specs.Option.{option_and_then}
use Rattle.std.specs.Box.{with_value}
use Rattle.zw_tree.specs.Row.{Row, folder, rows_of}
use Rattle.zw_tree.specs.Seen.{row_seen, node_seen}
use Rattle.zw_tree.specs.Lookup.{rows_in, with_node}
use Rattle.zw_tree.specs.Code.{listed_rows}
use Rattle.zw_tree.specs.declared.folder.Entry.{Entry}
use Rattle.zw_tree.specs.declared.folder.Node.TheVariants.{Directory}
use Rattle.zw_tree.proofs.SeenLemmas.{looked_up, changed, with_node-same}
use Rattle.zw_tree.proofs.folder.Folder.take_folder.Goals as goal
use Rattle.zw_tree.proofs.folder.Folder.take_folder.Goals.{in-File, in-Directory}

pub returns-clause-answer : goal.returns-clause-answer
returns-clause-answer c =
    let e = c.index_mut.result.now in
    let row = looked_up c.self.inside.entries.items c.args.self.now c.self.view_is c.args.at c.requires e c.index_mut.ensures.value in
    let at = ap (option_and_then (λ (r : Row). rows_in r.node)) row ∙ ap (λ (x : Entry). rows_in (node_seen x.node)) (sym c.deref_mut.ensures.value) in
    elim c.match-deref_mut.branch [
      | in-File w ↦ rw w.result-is (sym (at ∙ ap (λ node. rows_in (node_seen node)) w.in-File.is))
      | in-Directory w ↦ rw w.result-is (ap Some (w.replace.ensures.value ∙ sym (listed_rows _)) ∙ sym (at ∙ ap (λ node. rows_in (node_seen node)) w.in-Directory.is))
    ]

pub returns-clause-rows : goal.returns-clause-rows
returns-clause-rows c =
    let es = c.self.inside.entries.items in
    let e = c.index_mut.result.now in
    let rows = c.args.self.now in
    let name = ap (λ (x : Entry). (row_seen x).name) c.deref_mut.ensures.value in
    let row = looked_up es rows c.self.view_is c.args.at c.requires e c.index_mut.ensures.value in
    elim c.match-deref_mut.branch [
      | in-File w ↦ rw (w.result-is, w.self-inside-is) (
          changed es rows c.self.view_is c.args.at c.requires e c.index_mut.ensures.value (with_value e c.deref_mut.result.now) name
          ∙ ap (λ (x : Entry). with_node rows c.args.at (node_seen x.node)) c.deref_mut.ensures.value
          ∙ with_node-same rows c.args.at (row_seen e.value) row)
      | in-Directory w ↦ rw (w.result-is, w.self-inside-is) (
          let new : Entry = record { name = c.deref_mut.result.now.name; node = Directory w.replace.new.dest } in
          changed es rows c.self.view_is c.args.at c.requires e c.index_mut.ensures.value (with_value e new) name
          ∙ ap (λ f. with_node rows c.args.at (folder (rows_of f))) (w.replace.ensures.after ∙ w.new.ensures))
    ]

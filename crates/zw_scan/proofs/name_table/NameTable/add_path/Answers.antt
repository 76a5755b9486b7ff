use Rattle.std.proofs.Common.{◌≡◌, ◌∷◌, [], ◌++◌, map, ap, sym, ◌∙◌}
use Rattle.std.proofs.lemmas.List.{map-append}
use Rattle.zw_names.specs.declared.names.Name.{Name}
use Rattle.zw_scan.specs.NameTable.{names_at}
use Rattle.zw_scan.proofs.NameTableLemmas.{on_ok, path_added, path_entries}
use Rattle.zw_scan.proofs.name_table.NameTable.add_path.Goals as goal

pub returns-in-Some-clause-texts : goal.returns-in-Some-clause-texts
returns-in-Some-clause-texts c =
    let parent = map (λ (n : Name). n.0) c.in-Some.parent.now in
    let last = c.in-Some.last.now.0 in
    let is : c.args.path.now ≡ parent ++ last ∷ [] = sym c.names.ensures ∙ ap (map (λ (n : Name). n.0)) c.in-Some.ensures.cases.0 ∙ map-append (λ (n : Name). n.0) c.in-Some.parent.now (c.in-Some.last.now ∷ []) in
    on_ok c.add.result c.add.ensures (λ added later grows distinct q named.
    path_added c.args.names.now parent last c.args.path.now is c.requires later grows distinct q named (names_at q c.args.self.now) (names_at q c.add.new.self) (added q))

pub returns-in-Some-clause-entries : goal.returns-in-Some-clause-entries
returns-in-Some-clause-entries c =
    let parent = map (λ (n : Name). n.0) c.in-Some.parent.now in
    let last = c.in-Some.last.now.0 in
    let is : c.args.path.now ≡ parent ++ last ∷ [] = sym c.names.ensures ∙ ap (map (λ (n : Name). n.0)) c.in-Some.ensures.cases.0 ∙ map-append (λ (n : Name). n.0) c.in-Some.parent.now (c.in-Some.last.now ∷ []) in
    on_ok c.add.result c.add.ensures (λ added old q.
    path_entries c.args.names.now parent last c.args.path.now is c.requires q (names_at q c.args.self.now) (names_at q c.add.new.self) (added q) (old q))

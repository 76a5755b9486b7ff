use Rattle.std.proofs.Common.{[], map, ap, sym, ◌++◌, ◌∙◌}
use Rattle.std.specs.List.{fold}
use Rattle.zw_def.specs.Names.{texts_of}
use Rattle.zw_scan.specs.Children.{below_more}
use Rattle.zw_scan.proofs.NameTableLemmas.{fold_append, below_folded}
use Rattle.zw_scan.proofs.name_table.NameTable.of.Goals as goal

pub returns-clause-texts : goal.returns-clause-texts
returns-clause-texts c later more distinct q named =
    let p = texts_of later q in
    let files = map (λ f. texts_of later f.names) c.args.files.now in
    let directories = map (λ f. texts_of later f.names) c.args.directories.now in
    c.in_ok-add_all-2.ensures.texts later more distinct q named
    ∙ ap (λ ns. fold (below_more p) ns directories) (c.in_ok-add_all.ensures.texts later more distinct q named ∙ ap (λ es. fold (below_more p) (map (λ e. e.0) es) files) (c.new-table.ensures q))
    ∙ sym (fold_append (below_more p) [] files directories)
    ∙ below_folded p [] (files ++ directories)

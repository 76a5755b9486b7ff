use Rattle.std.proofs.Common.{◌∷◌, [], drop, ap, sym, subst, ◌∙◌}
use Rattle.std.proofs.lemmas.List.{map-append}
use Rattle.zw_def.specs.Names.{AreNamed, text_of, texts_of}
use Rattle.zw_def.specs.Map.{all_expecting, expecting_files, expecting_directories, paths_of}
use Rattle.zw_def.proofs.NameLemmas.{AreNamed-pushed, is_there}
use Rattle.zw_scan.specs.Children.{first_of}
use Rattle.zw_scan.proofs.scan.Scan.child_row.Goals as goal

pub returns : goal.returns
returns c names layout tree scan distinct named lt =
    let p = c.args.path.now in
    let n = c.args.name.0 in
    let child_named = subst (AreNamed names) (sym c.in_ok-child.ensures) (AreNamed-pushed names p n (text_of names n) (is_there names n lt) named) in
    let texts = ap (texts_of names) c.in_ok-child.ensures ∙ map-append (λ k. text_of names k) p (n ∷ []) in
    let files = c.in_ok-files.ensures names layout tree scan distinct child_named ∙ ap (λ q. paths_of (all_expecting q (expecting_files layout tree))) texts in
    let directories = c.in_ok-directories_at.ensures names layout tree scan distinct child_named ∙ ap (λ q. paths_of (all_expecting q (expecting_directories layout tree))) texts in
    let winner = c.in_ok-winner.ensures ∙ ap first_of files in
    let shadowed = c.in_ok-shadowed.ensures ∙ ap (drop 1) files in
    let kept = c.in_ok-directories.ensures ∙ directories in
    λ i. record { name = text_of names n; winner = winner i; directories = kept i; shadowed = shadowed i }

use Rattle.std.proofs.Common.{map, filter_map, refl, subst, ap, sym, ◌++◌, ◌∙◌}
use Rattle.std.specs.List.{list_any, All}
use Rattle.zw_def.specs.Path.{same_path}
use Rattle.zw_def.specs.Names.{texts_of}
use Rattle.zw_def.specs.Map.{names_of}
use Rattle.zw_def.specs.Visible.{keys_of}
use Rattle.zw_inflect.specs.Layout.{layout_seen}
use Rattle.zw_scan.specs.ClaimSeen.{IsNamed, claim_seen}
use Rattle.zw_scan.specs.Children.{names_below}
use Rattle.zw_scan.specs.Table.{paths_found}
use Rattle.zw_scan.specs.FileCount.{count_below}
use Rattle.zw_scan.specs.FoundTold.{found_told, own_all}
use Rattle.zw_scan.proofs.ClaimLemmas.{seen_paths}
use Rattle.zw_scan.proofs.ScanLemmas.{named_later, entries_later, names_found}
use Rattle.zw_scan.proofs.ExpectingLemmas.{files_found, directories_found}
use Rattle.zw_scan.proofs.scan.Scan.of.Goals as goal

pub returns-clause-named : goal.returns-clause-named
returns-clause-named c =
    let names = c.args.names.now in
    let named = c.requires.claims in
    let above_named = c.requires.above in
    record {
      claims = named;
      files = c.in_ok-files.ensures.named names (subst (All (IsNamed names)) (sym c.deref-2.ensures.value) named);
      directories = c.in_ok-directories.ensures.named names above_named;
    }

pub returns-clause-told : goal.returns-clause-told
returns-clause-told c names tree grows told above_told first =
    let layout = layout_seen names c.args.layout.now in
    let files = c.in_ok-files.ensures.told names ∙ ap (λ cs. own_all layout (map (claim_seen names) cs)) c.deref-2.ensures.value ∙ ap (own_all layout) told ∙ files_found layout tree in
    let directories = c.in_ok-directories.ensures.told names ∙ ap (filter_map found_told) above_told ∙ directories_found layout tree in
    record {
      named = named_later c.args.names.now names grows _ (returns-clause-named c);
      claims_told = told;
      shown = λ p. c.in_ok-visible.ensures p ∙ ap (λ cs. list_any (same_path p) (map (λ c. c.path) cs)) c.deref.ensures.value ∙ ap (list_any (same_path p)) (seen_paths (λ f. f.path) (claim_seen names) c.args.claims.items layout (keys_of tree) (λ f. refl) told);
      files_found = files;
      directories_found = directories;
      by_file = λ q. c.in_ok-files_at.ensures q ∙ ap (paths_found q) c.deref-3.ensures.value;
      by_directory = λ q. c.in_ok-directories_at.ensures q ∙ ap (paths_found q) c.deref-4.ensures.value;
      below = λ distinct q named.
          c.in_ok-below.ensures.texts names grows distinct q named
          ∙ (λ i. names_below (texts_of names q)
          ((ap (map (λ f. texts_of names f.names)) c.deref-5.ensures.value ∙ names_found names c.in_ok-files.files.items ∙ ap names_of files) i
          ++ (ap (map (λ f. texts_of names f.names)) c.deref-6.ensures.value ∙ names_found names c.in_ok-directories.directories.items ∙ ap names_of directories) i));
      entries = entries_later c.args.names.now names grows c.in_ok-below.below c.in_ok-below.ensures.entries;
      wrong = first;
      counted = λ d. c.in_ok-counts.ensures d ∙ ap (λ cs. count_below (map (λ c. c.path) cs) d) c.deref-7.ensures.value ∙ ap (λ ps. count_below ps d) (seen_paths (λ f. f.path) (claim_seen names) c.args.claims.items layout (keys_of tree) (λ f. refl) told);
    }

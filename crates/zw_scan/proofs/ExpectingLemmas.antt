-- What is found is what the definitions say is expecting.
use Rattle.std.proofs.Common.{◌≡◌, Bool, true, false, cond, List, [], ◌∷◌, filter_map, Option, Some, None, refl, ap, sym, ◌∙◌}
use Rattle.std.specs.List.{cons_option, filter, flat_map}
use Rattle.std.specs.Option.{option_map, option_and_then}
use Rattle.zw_def.specs.Path.{Path}
use Rattle.zw_def.specs.Tree.{Tree}
use Rattle.zw_def.specs.Layout.{Layout, Root, belongs_to}
use Rattle.zw_def.specs.Visible.{is_visible, keys_of, visible_files}
use Rattle.zw_def.specs.Expected.{Expected, expected_path, directory_path}
use Rattle.zw_def.specs.Map.{expecting_at, expecting, expecting_files, expecting_directories, named_directories}
use Rattle.zw_scan.specs.ClaimTold.{ClaimTold, told_with, told_at, file_told, files_told, directories_told}
use Rattle.zw_scan.specs.FoundTold.{found_told, own_told, own_all}
use Rattle.zw_scan.proofs.ClaimDirectoryLemmas.{filter_map-flat}

module _ (layout : Layout) (root : Root) (p : Path) (claims : List ClaimTold) (right : List Path) (more : filter_map (own_told layout root) claims ≡ filter_map (expecting (expected_path layout)) right) where
  with_root : (e : Option Expected) → expected_path layout p ≡ e → filter_map (own_told layout root) (cons_option (option_map (told_with p) e) claims) ≡ filter_map (expecting (expected_path layout)) (cond (belongs_to layout root p) (p ∷ right) right)
  with_root None told = at (belongs_to layout root p) where
    at : (c : Bool) → filter_map (own_told layout root) claims ≡ filter_map (expecting (expected_path layout)) (cond c (p ∷ right) right)
    at true = more ∙ ap (λ o. cons_option (option_and_then (expecting_at p) o) (filter_map (expecting (expected_path layout)) right)) (sym told)
    at false = more
  with_root (Some e) told = at (belongs_to layout root p) where
    at : (c : Bool) → cons_option (cond c (expecting_at p e) None) (filter_map (own_told layout root) claims) ≡ filter_map (expecting (expected_path layout)) (cond c (p ∷ right) right)
    at true = ap (cons_option (expecting_at p e)) more ∙ ap (λ o. cons_option (option_and_then (expecting_at p) o) (filter_map (expecting (expected_path layout)) right)) (sym told)
    at false = more

own_found : (layout : Layout) (root : Root) (keys : List Path) → filter_map (own_told layout root) (filter_map (file_told layout) keys) ≡ filter_map (expecting (expected_path layout)) (filter (belongs_to layout root) (filter (is_visible layout) keys))
own_found layout root [] = refl
own_found layout root (p ∷ keys) = by (is_visible layout p) (own_found layout root keys) where
  by : (v : Bool) → filter_map (own_told layout root) (filter_map (file_told layout) keys) ≡ filter_map (expecting (expected_path layout)) (filter (belongs_to layout root) (filter (is_visible layout) keys)) → filter_map (own_told layout root) (cons_option (cond v (option_map (told_with p) (expected_path layout p)) None) (filter_map (file_told layout) keys)) ≡ filter_map (expecting (expected_path layout)) (filter (belongs_to layout root) (cond v (p ∷ filter (is_visible layout) keys) (filter (is_visible layout) keys)))
  by false more = more
  by true more = with_root layout root p (filter_map (file_told layout) keys) (filter (belongs_to layout root) (filter (is_visible layout) keys)) more (expected_path layout p) refl

module _ (layout : Layout) where
  pub files_found : (tree : Tree) → own_all layout (files_told layout (keys_of tree)) ≡ expecting_files layout tree
  files_found tree =
      ap (λ f. flat_map f layout.roots) (λ i root. own_found layout root (keys_of tree) i)
      ∙ sym (filter_map-flat (expecting (expected_path layout)) (λ root. filter (belongs_to layout root) (visible_files layout tree)) layout.roots)

  told_found : (ds : List Path) → filter_map found_told (filter_map (told_at (directory_path layout)) ds) ≡ filter_map (expecting (directory_path layout)) ds
  told_found [] = refl
  told_found (d ∷ ds) = by (directory_path layout d) (told_found ds) where
    by : (e : Option Expected) → filter_map found_told (filter_map (told_at (directory_path layout)) ds) ≡ filter_map (expecting (directory_path layout)) ds → filter_map found_told (cons_option (option_map (told_with d) e) (filter_map (told_at (directory_path layout)) ds)) ≡ cons_option (option_and_then (expecting_at d) e) (filter_map (expecting (directory_path layout)) ds)
    by None more = more
    by (Some e) more = ap (cons_option (expecting_at d e)) more

  pub directories_found : (tree : Tree) → filter_map found_told (directories_told layout tree) ≡ expecting_directories layout tree
  directories_found tree = told_found (named_directories layout tree)

-- What a scan of a tree keeps.
use Rattle.std.specs.Prelude.{◌≡◌, ℕ, List, ◌++◌, map, option_map}
use Rattle.std.specs.List.{list_any, All}
use Rattle.std.specs.BTreeSet.{contains}
use Rattle.zw_def.specs.Text.{Text}
use Rattle.zw_def.specs.Path.{Path, same_path, path_cmp}
use Rattle.zw_def.specs.Tree.{Tree}
use Rattle.zw_def.specs.Layout.{Layout}
use Rattle.zw_def.specs.Names.{AreNamed, IsDistinct, texts_of}
use Rattle.zw_def.specs.Visible.{keys_of, visible_files}
use Rattle.zw_def.specs.Map.{expecting_files, expecting_directories, names_of}
use Rattle.zw_scan.specs.ClaimTold.{files_told}
use Rattle.zw_scan.specs.ClaimSeen.{IsNamed, claim_seen}
use Rattle.zw_scan.specs.FoundSeen.{IsFoundNamed, found_seen}
use Rattle.zw_scan.specs.Table.{paths_at, paths_found}
use Rattle.zw_scan.specs.Children.{names_below, wrong_of}
use Rattle.zw_scan.specs.NameTable.{AreEntries, texts_at}
use Rattle.zw_scan.specs.WrongTable.{first_at}
use Rattle.zw_scan.specs.FileCount.{count_of, files_below}
use Rattle.zw_scan.specs.declared.wrong.WrongTable.{WrongTable}
use Rattle.zw_scan.specs.declared.scan.Scan.{Scan}

-- the names of the scan are among these
pub record IsScanNamed (names : List Text) (scan : Scan) : Type 0 where
  pub claims : All (IsNamed names) scan.claims.items
  pub files : All (IsFoundNamed names) scan.files.items
  pub directories : All (IsFoundNamed names) scan.directories.items

-- the first wrong names of the tree directly below each namespace
abbrev pub AreFirst : List Text → Layout → Tree → WrongTable → Type 0
AreFirst names layout tree table =
    IsDistinct names → (q : List ℕ) → AreNamed names q → option_map (λ f. f.path) (first_at q table) ≡ wrong_of layout tree (texts_of names q)

-- the scan is that of the tree under the layout, where the names have these texts
pub record IsScan (names : List Text) (layout : Layout) (tree : Tree) (scan : Scan) : Type 0 where
  pub named : IsScanNamed names scan
  pub claims_told : map (claim_seen names) scan.claims.items ≡ files_told layout (keys_of tree)
  pub shown : (p : Path) → contains path_cmp scan.visible p ≡ list_any (same_path p) (visible_files layout tree)
  pub files_found : map (found_seen names) scan.files.items ≡ expecting_files layout tree
  pub directories_found : map (found_seen names) scan.directories.items ≡ expecting_directories layout tree
  pub by_file : (q : List ℕ) → paths_at q scan.files_at ≡ paths_found q scan.files.items
  pub by_directory : (q : List ℕ) → paths_at q scan.directories_at ≡ paths_found q scan.directories.items
  pub below : IsDistinct names → (q : List ℕ) → AreNamed names q → texts_at q scan.below ≡ names_below (texts_of names q) (names_of (expecting_files layout tree) ++ names_of (expecting_directories layout tree))
  pub entries : AreEntries names scan.below
  pub wrong : AreFirst names layout tree scan.wrong
  pub counted : (d : Path) → count_of scan.counts d ≡ files_below layout tree d

-- Constant paths in map order.
use Rattle.std.specs.Prelude.{◌≡◌, ℕ, List, ◌++◌, String, map, string_bytes}
use Rattle.std.specs.List.{All}
use Rattle.std.specs.Global.{Vec, Global}
use Rattle.zw_def.specs.Text.{Text}
use Rattle.zw_def.specs.ConstantPath.{ConstantPath}
use Rattle.zw_def.specs.Names.{AreNamed, texts_of}
use Rattle.zw_def.specs.Tree.{Tree}
use Rattle.zw_def.specs.Layout.{Layout}
use Rattle.zw_def.specs.Map.{expecting_files, expecting_directories, names_of, in_map_order}
use Rattle.zw_scan.specs.declared.found.Found.{Found}

-- the constant paths that some file or directory is expected to define
abbrev pub all_paths : Layout → Tree → List ConstantPath
all_paths layout tree = in_map_order (names_of (expecting_files layout tree) ++ names_of (expecting_directories layout tree))

-- ---- as the code keeps them

abbrev pub names_told : List Text → List Found → List ConstantPath
names_told names found = map (λ f. texts_of names f.names) found

abbrev pub sorted_told : List Text → List (Vec (String Global) × List ℕ) → List ConstantPath
sorted_told names entries = map (λ e. texts_of names e.1) entries

-- each path stands under the texts of its names, which are among these
pub record IsKeyed (names : List Text) (e : Vec (String Global) × List ℕ) : Type 0 where
  pub texts : map string_bytes e.0.items ≡ texts_of names e.1
  pub named : AreNamed names e.1

abbrev pub AreKeyed : List Text → List (Vec (String Global) × List ℕ) → Type 0
AreKeyed names entries = All (IsKeyed names) entries

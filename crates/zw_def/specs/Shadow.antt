-- Files that no key loads although they are expected to define a constant (Zeitwerk README, "Shadowed files").
use Rattle.std.specs.Prelude.{List, [], ◌∷◌, filter_map, if◌then◌else◌, Option, Some, None, Ok, Err}
use Rattle.std.specs.Option.{option_and_then}
use Rattle.zw_def.specs.Path.{Path, same_path}
use Rattle.zw_def.specs.Tree.{Tree}
use Rattle.zw_def.specs.ConstantPath.{ConstantPath}
use Rattle.zw_def.specs.Layout.{Layout}
use Rattle.zw_def.specs.Visible.{visible_files}
use Rattle.zw_def.specs.Expected.{Expected, expected_path}
use Rattle.zw_def.specs.Map.{Boot, Expecting, all_expecting, expecting_files, kept_out_by}

-- why a file is not loaded: another one wins, or boot defines the constant or one above it
pub data Shade : Type 0 where
  shadowed_by : Path → Shade
  already_defined : ConstantPath → Shade

pub record Shadowed : Type 0 where
  pub path : Path
  pub shade : Shade

abbrev pub shaded : Path → Shade → Option Shadowed
shaded path shade = Some (record { path = path; shade = shade })

-- the winner is the first file that is expected to define the constant
abbrev pub unless_winner : Path → List Expecting → Option Shadowed
unless_winner path [] = None
unless_winner path (first ∷ more) =
    if same_path first.path path then None else shaded path (shadowed_by first.path)

abbrev pub unless_defined : List Expecting → Path → ConstantPath → Option ConstantPath → Option Shadowed
unless_defined files path p None = unless_winner path (all_expecting p files)
unless_defined files path p (Some q) = shaded path (already_defined q)

abbrev pub shadowed_as : Boot → List Expecting → Path → Expected → Option Shadowed
shadowed_as boot files path (Ok p) = unless_defined files path p (kept_out_by boot p)
shadowed_as boot files path (Err wrong) = None

abbrev pub shadowed_file : Layout → Boot → List Expecting → Path → Option Shadowed
shadowed_file layout boot files path = option_and_then (shadowed_as boot files path) (expected_path layout path)

-- in path order
abbrev pub shadowed : Layout → Tree → Boot → List Shadowed
shadowed layout tree boot =
    filter_map (shadowed_file layout boot (expecting_files layout tree)) (visible_files layout tree)

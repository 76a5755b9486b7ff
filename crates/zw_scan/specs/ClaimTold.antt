-- Visible files and directories that count, and what each is expected to define.
use Rattle.std.specs.Prelude.{List, filter_map, flat_map, if◌then◌else◌, Option, None, option_map}
use Rattle.zw_def.specs.Path.{Path}
use Rattle.zw_def.specs.Layout.{Layout, is_collapsed}
use Rattle.zw_def.specs.Tree.{Tree}
use Rattle.zw_def.specs.Map.{named_directories}
use Rattle.zw_def.specs.Visible.{is_visible}
use Rattle.zw_def.specs.Expected.{Expected, expected_path, directory_path}
use Rattle.zw_scan.specs.Directories.{directories_below}

pub record ClaimTold : Type 0 where
  pub path : Path
  pub expected : Expected

abbrev pub told_with : Path → Expected → ClaimTold
told_with path expected = record { path = path; expected = expected }

-- the file at the path, if it is visible
abbrev pub file_told : Layout → Path → Option ClaimTold
file_told layout path =
    if is_visible layout path then option_map (told_with path) (expected_path layout path) else None

-- those of the paths that are visible, in the order of the paths
abbrev pub files_told : Layout → List Path → List ClaimTold
files_told layout paths = filter_map (file_told layout) paths

-- ---- directories

-- what a path is expected to define, if it stands below a root
abbrev pub told_at : (Path → Option Expected) → Path → Option ClaimTold
told_at expected path = option_map (told_with path) (expected path)

-- the directories that count and are not collapsed, in root order, then in path order
abbrev pub directories_told : Layout → Tree → List ClaimTold
directories_told layout tree = filter_map (told_at (directory_path layout)) (named_directories layout tree)

-- the directory, unless it is collapsed
abbrev pub directory_told : Layout → Path → Option ClaimTold
directory_told layout directory =
    if is_collapsed layout directory then None else told_at (directory_path layout) directory

-- those above these files, root by root
abbrev pub directories_above_told : Layout → List Path → List ClaimTold
directories_above_told layout files =
    flat_map (λ root. filter_map (directory_told layout) (directories_below layout root files)) layout.roots

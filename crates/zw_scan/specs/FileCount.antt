-- How many visible files stand below a directory.
use Rattle.std.specs.Prelude.{ℕ, Bool, List, length, filter}
use Rattle.std.specs.List.{list_any}
use Rattle.std.specs.Option.{unwrap_or}
use Rattle.std.specs.BTreeMap.{get}
use Rattle.zw_def.specs.Path.{Path, same_path, path_cmp}
use Rattle.zw_def.specs.Tree.{Tree}
use Rattle.zw_def.specs.Layout.{Layout}
use Rattle.zw_def.specs.Nesting.{proper_beginnings}
use Rattle.zw_def.specs.Visible.{visible_files}
use Rattle.zw_scan.specs.declared.file_count.FileCounts.{FileCounts}

-- the directory is one of those above the file
abbrev pub is_above : Path → Path → Bool
is_above directory file = list_any (same_path directory) (proper_beginnings file)

abbrev pub count_below : List Path → Path → ℕ
count_below files directory = length (filter (is_above directory) files)

abbrev pub files_below : Layout → Tree → Path → ℕ
files_below layout tree directory = count_below (visible_files layout tree) directory

-- the number that is kept for the directory
abbrev pub count_of : FileCounts → Path → ℕ
count_of counts directory = unwrap_or (get path_cmp counts.rows directory) 0

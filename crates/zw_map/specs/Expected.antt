-- What the visible files of a tree are expected to define.
use Rattle.std.specs.Prelude.{List, filter_map, if◌then◌else◌, Option, None}
use Rattle.std.specs.List.{list_any}
use Rattle.zw_def.specs.Path.{Path, same_path}
use Rattle.zw_def.specs.Tree.{Tree}
use Rattle.zw_def.specs.Layout.{Layout}
use Rattle.zw_def.specs.Visible.{visible_files}
use Rattle.zw_def.specs.Expected.{Expected, expected_path}
use Rattle.zw_def.specs.Map.{Expecting, expecting}

-- none where the path is not that of a visible file
abbrev pub expected_of : Layout → Tree → Path → Option Expected
expected_of layout tree path =
    if list_any (same_path path) (visible_files layout tree) then expected_path layout path else None

-- those without a wrong name, in path order
abbrev pub all_expected : Layout → Tree → List Expecting
all_expected layout tree = filter_map (expecting (expected_path layout)) (visible_files layout tree)

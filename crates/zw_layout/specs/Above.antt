-- The namespace in which a file or a directory stands.
use Rattle.std.specs.Prelude.{Option, option_map}
use Rattle.zw_def.specs.Path.{Path}
use Rattle.zw_def.specs.Nesting.{parent_of}
use Rattle.zw_def.specs.Layout.{Layout, root_of}
use Rattle.zw_def.specs.Expected.{Expected, namespace_of}

-- that of the files of the directory above it, if it stands below a root
abbrev pub namespace_above : Layout → Path → Option Expected
namespace_above layout path = option_map (λ root. namespace_of layout root (parent_of path)) (root_of layout path)

use Rattle.std.proofs.Common.{◌≡◌, ◌++◌, List, drop, map}
use Rattle.std.specs.List.{filter}
use Rattle.zw_def.specs.Text.{Text}
use Rattle.zw_def.specs.Layout.{belongs_to}
use Rattle.zw_inflect.specs.Layout.{layout_seen, root_seen}
use Rattle.zw_scan.specs.Directories.{all_above, directories_below}
use Rattle.zw_scan.proofs.directory.directories_of.Given as goal

abbrev pub invariant-loop-file : goal.invariant-loop-file
invariant-loop-file l = (names : List Text) →
    l.directories.items ++ all_above l.previous (filter (belongs_to (layout_seen names l.layout) (root_seen names l.root)) (map (λ f. f.path) (drop l.file-index l.files)))
    ≡ directories_below (layout_seen names l.layout) (root_seen names l.root) (map (λ f. f.path) l.files)

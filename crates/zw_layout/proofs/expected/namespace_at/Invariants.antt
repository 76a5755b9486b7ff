use Rattle.std.proofs.Common.{◌≡◌, ◌≤◌, [], drop, length, take}
use Rattle.zw_def.specs.Names.{AreNamed, OnlyGrows, texts_of}
use Rattle.zw_def.specs.Expected.{namespace_from}
use Rattle.zw_inflect.specs.Layout.{layout_seen}
use Rattle.zw_layout.specs.Progress.{progress_of}
use Rattle.zw_layout.proofs.expected.namespace_at.Given as goal

-- what is left is told from here as all is from the root
abbrev pub invariant-loop-depth : goal.invariant-loop-depth
invariant-loop-depth l =
    (l.progress ≡ progress_of l.layout.collapse.items (take l.depth l.path)) ×
    AreNamed l.names l.namespace ×
    OnlyGrows l.fn.names l.names ×
    (namespace_from (layout_seen [] l.layout) (take l.depth l.path) (drop l.depth (take l.end l.path)) (texts_of l.names l.namespace)
    ≡ namespace_from (layout_seen [] l.layout) l.root.path (drop (length l.root.path) (take l.end l.path)) (texts_of l.fn.names l.root.namespace)) ×
    (length l.root.path ≤ l.depth)

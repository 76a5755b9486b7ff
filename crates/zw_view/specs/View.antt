-- What a view of a tree shows.
use Rattle.std.specs.Prelude.{◌≡◌, List}
use Rattle.zw_def.specs.Text.{Text}
use Rattle.zw_def.specs.Layout.{Layout}
use Rattle.zw_def.specs.Names.{OnlyGrows}
use Rattle.zw_def.specs.Tree.{Tree}
use Rattle.zw_inflect.specs.Layout.{layout_seen}
use Rattle.zw_layout.specs.Expects.{AreNamespacesNamed}
use Rattle.zw_map.specs.BootSeen.{AreBootNamed}
use Rattle.zw_scan.specs.IsScan.{IsScan, IsScanNamed}
use Rattle.zw_view.specs.Core.{IsCore}
use Rattle.zw_view.specs.declared.view.View.{View}

-- all names that it holds are in its table
pub record IsNamed (v : View) : Type 0 where
  pub namespaces : AreNamespacesNamed v.names v.layout
  pub scan : IsScanNamed v.names v.scan
  pub boot : AreBootNamed v.names v.boot.items

-- the view is that of the tree under the layout, whatever names are still to come; boot left the core classes alone
pub record IsView (layout : Layout) (tree : Tree) (v : View) : Type 0 where
  pub under : (later : List Text) → OnlyGrows v.names later → layout_seen later v.layout ≡ layout
  pub scan : (later : List Text) → OnlyGrows v.names later → IsScan later layout tree v.scan
  pub boot : IsCore v.names v.boot.items

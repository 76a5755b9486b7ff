-- What the code's children stand for. Their names are told by a list of texts.
use Rattle.std.specs.Prelude.{◌≡◌, ◌<◌, ℕ, List, ◌++◌, length, map}
use Rattle.std.specs.List.{All}
use Rattle.zw_def.specs.Text.{Text}
use Rattle.zw_def.specs.Tree.{Tree}
use Rattle.zw_def.specs.Layout.{Layout}
use Rattle.zw_def.specs.Names.{text_of, texts_of}
use Rattle.zw_def.specs.Map.{names_of, expecting_files, expecting_directories}
use Rattle.zw_names.specs.declared.names.Name.{Name}
use Rattle.zw_scan.specs.Children as told
use Rattle.zw_scan.specs.Children.{Child, names_below}
use Rattle.zw_scan.specs.declared.children.ChildRow.{ChildRow}
use Rattle.zw_scan.specs.declared.children.Children.{Children}

abbrev pub child_seen : List Text → ChildRow → Child
child_seen names row = record {
  name = text_of names row.name.0;
  winner = row.winner;
  directories = row.directories.items;
  shadowed = row.shadowed.items;
}

abbrev pub children_seen : List Text → Children → told.Children
children_seen names children = record {
  rows = map (child_seen names) children.rows.items;
  wrong = children.wrong;
}

-- these are the names directly below the path
pub record AreBelow (names : List Text) (layout : Layout) (tree : Tree) (path : List ℕ) (below : List Name) : Type 0 where
  pub named : All (λ n. n.0 < length names) below
  pub texts : map (λ n. text_of names n.0) below ≡ names_below (texts_of names path) (names_of (expecting_files layout tree) ++ names_of (expecting_directories layout tree))

-- Nodes with their heights, as the definitions have them.
use Rattle.std.specs.Prelude.{ℕ, max, List, [], ◌∷◌, map}
use Rattle.zw_def.specs.Text.{Text}
use Rattle.zw_def_syntax.specs.Tree as t
use Rattle.zw_def_syntax.specs.Tree.{Tree, Trees}
use Rattle.sqlite_items.specs.declared.Items.{Items}
use Rattle.zw_ast.specs.declared.grown.Grown.{Grown}
use Rattle.zw_ast.specs.declared.node.Node.{Node}
use Rattle.zw_ast.specs.Node.{tree_seen, trees_of}

abbrev pub grown_seen : List Text → Grown Node → t.Grown Tree
grown_seen names g = record { form = tree_seen names g.form; height = g.height }

abbrev pub all_seen : List Text → List (Grown Node) → List (t.Grown Tree)
all_seen names gs = map (grown_seen names) gs

abbrev pub row_seen : List Text → Grown (List Node) → t.Grown Trees
row_seen names g = record { form = trees_of (map (tree_seen names) g.form); height = g.height }

-- ---- nodes in a row

abbrev pub forms : List (Grown Node) → List Node
forms gs = map (λ g. g.form) gs

abbrev pub tallest : List (Grown Node) → ℕ
tallest [] = 0
tallest (g ∷ gs) = max g.height (tallest gs)

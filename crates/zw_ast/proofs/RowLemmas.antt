-- A row of nodes: its trees, and the height of the highest.
use Rattle.std.proofs.Common.{◌≡◌, ℕ, max, List, [], ◌∷◌, map, refl, ap, ◌∙◌, sym}
use Rattle.zw_def.specs.Text.{Text}
use Rattle.zw_def_syntax.specs.Tree as t
use Rattle.zw_ast.specs.declared.grown.Grown.{Grown}
use Rattle.zw_ast.specs.declared.node.Node.{Node}
use Rattle.zw_ast.specs.Node.{tree_seen, trees_of}
use Rattle.zw_ast.specs.Grown.{all_seen, row_seen, tallest, forms}

pub row_of_seen : (names : List Text) (gs : List (Grown Node)) →
    t.row_of (all_seen names gs) ≡ record { form = trees_of (map (tree_seen names) (forms gs)); height = tallest gs }
row_of_seen names [] = refl
row_of_seen names (g ∷ gs) =
    ap (λ r. record { form = t.tree_then (tree_seen names g.form) r.form; height = max g.height r.height }) (row_of_seen names gs)

pub row_made : (names : List Text) (gs : List (Grown Node)) (nodes : List Node) (h : ℕ) → nodes ≡ forms gs → h ≡ tallest gs
    → t.row_of (all_seen names gs) ≡ row_seen names (record { form = nodes; height = h })
row_made names gs nodes h e d =
    row_of_seen names gs ∙ sym (ap (λ ns. record { form = trees_of (map (tree_seen names) ns); height = tallest gs }) e)
    ∙ sym (ap (λ n. record { form = trees_of (map (tree_seen names) nodes); height = n }) d)

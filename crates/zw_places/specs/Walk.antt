-- Whether a node breaks a rule, in what is looked through.
use Rattle.std.specs.Prelude.{Bool, false, ◌||◌, List, Option, map}
use Rattle.std.specs.Option.{option_map}
use Rattle.zw_def.specs.Text.{Text}
use Rattle.zw_def_syntax.specs.Places as d
use Rattle.zw_ast.specs.declared.node.Node.{Node}
use Rattle.zw_ast.specs.declared.node.Part.{Part}
use Rattle.zw_ast.specs.declared.node.Part.TheVariants as p
use Rattle.zw_ast.specs.declared.node.Rescue.{Rescue}
use Rattle.zw_ast.specs.declared.node.Default.{Default}
use Rattle.zw_ast.specs.declared.node.Base.{Base}
use Rattle.zw_ast.specs.Node.{tree_seen, row_of_nodes, parts_of, part_seen, rescues_of, rescue_seen, defaults_of, default_seen, branch_of, base_seen, perhaps_of}
use Rattle.zw_places.specs.declared.check.Check.{Check}
use Rattle.zw_places.specs.Check.{test_seen}

module _ (check : Check) (place : d.Place) (names : List Text) where
  -- the node itself breaks the rule
  abbrev pub is_broken : Node → Bool
  is_broken n = test_seen check place (tree_seen names n)

  -- the node or one within it does
  abbrev pub in_node : Node → Bool
  in_node n = d.some_node (test_seen check) place (tree_seen names n)

  -- and so in what stands beside nodes
  abbrev pub in_row : List Node → Bool
  in_row ns = d.some_tree (test_seen check) place (row_of_nodes names ns)

  abbrev pub in_part : Part Node → Bool
  in_part (p.Text text) = false
  in_part (p.Program ns) = in_row ns

  abbrev pub in_parts : List (Part Node) → Bool
  in_parts ps = d.some_part (test_seen check) place (parts_of (map (part_seen names) ps))

  abbrev pub in_rescue : Rescue Node → Bool
  in_rescue r = in_row r.paths || in_row r.body

  abbrev pub in_rescues : List (Rescue Node) → Bool
  in_rescues rs =
      d.some_rescue (test_seen check) place (rescues_of names (map (rescue_seen names) rs))

  abbrev pub in_default : Default Node → Bool
  in_default d = in_node d.value

  abbrev pub in_defaults : List (Default Node) → Bool
  in_defaults ds =
      d.some_default (test_seen check) place (defaults_of names (map (default_seen names) ds))

  abbrev pub in_branch : Option (List Node) → Bool
  in_branch o =
      d.some_branch (test_seen check) place (branch_of (option_map (map (tree_seen names)) o))

  abbrev pub in_base : Base Node → Bool
  in_base b = d.some_base (test_seen check) place (base_seen names b)

  abbrev pub in_option : Option Node → Bool
  in_option o =
      d.some_perhaps (test_seen check) place (perhaps_of (option_map (tree_seen names) o))

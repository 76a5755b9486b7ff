-- What a node stands for: a tree of the definitions, where a name is told by its text in a list of names.
use Rattle.std.specs.Prelude.{ℕ, List, [], ◌∷◌, ◌++◌, codes, map, Option, Some, None, string_bytes}
use Rattle.std.specs.Option.{option_map}
use Rattle.zw_def.specs.Text.{Text}
use Rattle.zw_def.specs.Names.{text_of}
use Rattle.zw_def_syntax.specs.Tree as t
use Rattle.zw_def_syntax.specs.Tree.{Tree, Trees, Parts, Rescues, Defaults, Perhaps, Branch}
use Rattle.zw_names.specs.declared.names.Name.{Name}
use Rattle.zw_ast.specs.declared.node.Node.{Node, fold-Node}
use Rattle.zw_ast.specs.declared.node.Node.TheOpen.{Node-F}
use Rattle.zw_ast.specs.declared.node.Order.{Order}
use Rattle.zw_ast.specs.declared.node.Order.TheVariants as o
use Rattle.zw_ast.specs.declared.node.Part.{Part}
use Rattle.zw_ast.specs.declared.node.Part.TheVariants as p
use Rattle.zw_ast.specs.declared.node.Base.{Base}
use Rattle.zw_ast.specs.declared.node.Base.TheVariants as b
use Rattle.zw_ast.specs.declared.node.Rescue.{Rescue}
use Rattle.zw_ast.specs.declared.node.Default.{Default}
use Rattle.zw_ast.specs.declared.node.MethodName.{MethodName}
use Rattle.zw_ast.specs.declared.node.MethodName.TheVariants as m

-- ---- what stands beside nodes

abbrev pub order_seen : Order → t.Order
order_seen o.TestFirst = t.test_first
order_seen o.BodyFirst = t.body_first

abbrev pub trees_of : List Tree → Trees
trees_of [] = t.no_trees
trees_of (u ∷ us) = t.tree_then u (trees_of us)

abbrev pub perhaps_of : Option Tree → Perhaps
perhaps_of None = t.absent
perhaps_of (Some u) = t.present u

abbrev pub branch_of : Option (List Tree) → Branch
branch_of None = t.no_branch
branch_of (Some us) = t.branch (trees_of us)

abbrev pub base_of : Base Tree → t.Base
base_of b.Innermost = t.innermost
base_of b.Topmost = t.topmost
base_of (b.Within u) = t.within_node u

abbrev pub parts_of : List (Part Tree) → Parts
parts_of [] = t.no_parts
parts_of (p.Text text ∷ more) = t.text_then (string_bytes text) (parts_of more)
parts_of (p.Program us ∷ more) = t.program_then (trees_of us) (parts_of more)

module _ (names : List Text) where
  abbrev pub name_seen : Name → Text
  name_seen name = text_of names name.0

  abbrev pub method_seen : MethodName → Text
  method_seen (m.Named name) = name_seen name
  method_seen (m.Setter name) = name_seen name ++ codes "="

  abbrev pub rescues_of : List (Rescue Tree) → Rescues
  rescues_of [] = t.no_rescues
  rescues_of (r ∷ rs) =
      t.rescue_then (trees_of r.paths) (option_map name_seen r.variable) (trees_of r.body) (rescues_of rs)

  abbrev pub defaults_of : List (Default Tree) → Defaults
  defaults_of [] = t.no_defaults
  defaults_of (d ∷ ds) = t.default_then (name_seen d.name) d.value (defaults_of ds)

  -- ---- nodes

  -- a node over what its parts stand for
  abbrev pub tree_step : Node-F Tree → Tree
  tree_step Node-F.Nil = t.nil_node
  tree_step Node-F.True = t.true_node
  tree_step Node-F.False = t.false_node
  tree_step Node-F.SelfNode = t.self_node
  tree_step (Node-F.Int i) = t.int_node i
  tree_step (Node-F.Str text) = t.str_node (string_bytes text)
  tree_step (Node-F.Sym x) = t.sym_node (name_seen x)
  tree_step (Node-F.Interp parts) = t.interp_node (parts_of parts)
  tree_step (Node-F.Array us) = t.array_node (trees_of us)
  tree_step (Node-F.Local x) = t.local_node (name_seen x)
  tree_step (Node-F.Ident x) = t.ident_node (name_seen x)
  tree_step (Node-F.InstanceVariable x) = t.ivar_node (name_seen x)
  tree_step (Node-F.ClassVariable x) = t.cvar_node (name_seen x)
  tree_step (Node-F.Const x) = t.const_node (name_seen x)
  tree_step (Node-F.Scoped u x) = t.scoped_node u (name_seen x)
  tree_step (Node-F.TopConst x) = t.top_const_node (name_seen x)
  tree_step (Node-F.SetLocal x u) = t.set_local (name_seen x) u
  tree_step (Node-F.SetInstanceVariable x u) = t.set_ivar (name_seen x) u
  tree_step (Node-F.SetClassVariable x u) = t.set_cvar (name_seen x) u
  tree_step (Node-F.SetConst x u) = t.set_const (name_seen x) u
  tree_step (Node-F.SetScoped u x v) = t.set_scoped u (name_seen x) v
  tree_step (Node-F.SetAttribute u x v) = t.set_attr u (name_seen x) v
  tree_step (Node-F.Call u x us) = t.call_node u (name_seen x) (trees_of us)
  tree_step (Node-F.SelfCall x us) = t.self_call (name_seen x) (trees_of us)
  tree_step (Node-F.Super us) = t.super_node (trees_of us)
  tree_step Node-F.ZSuper = t.zsuper_node
  tree_step (Node-F.Not u) = t.not_node u
  tree_step (Node-F.And u v) = t.and_node u v
  tree_step (Node-F.Or u v) = t.or_node u v
  tree_step (Node-F.If order u us vs) = t.if_node (order_seen order) u (trees_of us) (trees_of vs)
  tree_step (Node-F.While order u us) = t.while_node (order_seen order) u (trees_of us)
  tree_step Node-F.Break = t.break_node
  tree_step Node-F.Next = t.next_node
  tree_step (Node-F.Return u) = t.return_node (perhaps_of u)
  tree_step (Node-F.Seq us) = t.seq_node (trees_of us)
  tree_step (Node-F.Begin us rs other ensured) =
      t.begin_node (trees_of us) (rescues_of rs) (branch_of other) (branch_of ensured)
  tree_step (Node-F.Def x required ds us) =
      t.def_node (method_seen x) (map name_seen required) (defaults_of ds) (trees_of us)
  tree_step (Node-F.SDef x required ds us) =
      t.sdef_node (method_seen x) (map name_seen required) (defaults_of ds) (trees_of us)
  tree_step (Node-F.Class base x above us) =
      t.class_node (base_of base) (name_seen x) (perhaps_of above) (trees_of us)
  tree_step (Node-F.Module base x us) = t.module_node (base_of base) (name_seen x) (trees_of us)

  abbrev pub tree_seen : Node → Tree
  tree_seen = fold-Node Tree tree_step

  -- ---- what stands beside nodes, over nodes

  abbrev pub row_of_nodes : List Node → Trees
  row_of_nodes ns = trees_of (map tree_seen ns)

  abbrev pub part_seen : Part Node → Part Tree
  part_seen (p.Text text) = p.Text text
  part_seen (p.Program ns) = p.Program (map tree_seen ns)

  abbrev pub rescue_seen : Rescue Node → Rescue Tree
  rescue_seen r =
      record { paths = map tree_seen r.paths; variable = r.variable; body = map tree_seen r.body }

  abbrev pub default_seen : Default Node → Default Tree
  default_seen d = record { name = d.name; value = tree_seen d.value }

  abbrev pub base_seen : Base Node → t.Base
  base_seen b.Innermost = t.innermost
  base_seen b.Topmost = t.topmost
  base_seen (b.Within n) = t.within_node (tree_seen n)

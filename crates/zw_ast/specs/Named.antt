-- The names that a node holds. What reads a name's text asks that all of them are in the table.
use Rattle.std.specs.Prelude.{ℕ, ◌+◌, ◌<◌, ◌≤◌, max, List, [], ◌∷◌, Option, Some, None, length, map}
use Rattle.std.specs.Option.{option_map_or}
use Rattle.zw_def.specs.Text.{Text}
use Rattle.zw_names.specs.declared.names.Name.{Name}
use Rattle.zw_ast.specs.declared.node.Node.{Node, fold-Node}
use Rattle.zw_ast.specs.declared.node.Node.TheOpen.{Node-F}
use Rattle.zw_ast.specs.declared.node.Part.{Part}
use Rattle.zw_ast.specs.declared.node.Part.TheVariants as p
use Rattle.zw_ast.specs.declared.node.Base.{Base}
use Rattle.zw_ast.specs.declared.node.Base.TheVariants as b
use Rattle.zw_ast.specs.declared.node.Rescue.{Rescue}
use Rattle.zw_ast.specs.declared.node.Default.{Default}
use Rattle.zw_ast.specs.declared.node.MethodName.{MethodName}
use Rattle.zw_ast.specs.declared.node.MethodName.TheVariants as m
use Rattle.zw_ast.specs.declared.grown.Grown.{Grown}
use Rattle.zw_ast.specs.Grown.{forms}

-- one more than a name's number, and the greatest of numbers
abbrev pub after : Name → ℕ
after name = name.0 + 1

abbrev pub after_method : MethodName → ℕ
after_method (m.Named name) = after name
after_method (m.Setter name) = after name

abbrev pub greatest : {A : Type 0} → (A → ℕ) → List A → ℕ
greatest f [] = 0
greatest f (x ∷ xs) = max (f x) (greatest f xs)

abbrev pub self : ℕ → ℕ
self n = n

abbrev pub if_any : {A : Type 0} → (A → ℕ) → Option A → ℕ
if_any f o = option_map_or f o 0

abbrev pub all : List ℕ → ℕ
all ns = greatest self ns

abbrev pub base_bound : Base ℕ → ℕ
base_bound b.Innermost = 0
base_bound b.Topmost = 0
base_bound (b.Within n) = n

abbrev pub part_bound : Part ℕ → ℕ
part_bound (p.Text text) = 0
part_bound (p.Program ns) = all ns

abbrev pub rescue_bound : Rescue ℕ → ℕ
rescue_bound r = max (max (all r.paths) (if_any after r.variable)) (all r.body)

abbrev pub default_bound : Default ℕ → ℕ
default_bound d = max (after d.name) d.value

-- over what its parts give: a number that no name of the node reaches
abbrev pub bound_step : Node-F ℕ → ℕ
bound_step Node-F.Nil = 0
bound_step Node-F.True = 0
bound_step Node-F.False = 0
bound_step Node-F.SelfNode = 0
bound_step (Node-F.Int i) = 0
bound_step (Node-F.Str text) = 0
bound_step (Node-F.Sym x) = after x
bound_step (Node-F.Interp parts) = greatest part_bound parts
bound_step (Node-F.Array ns) = all ns
bound_step (Node-F.Local x) = after x
bound_step (Node-F.Ident x) = after x
bound_step (Node-F.InstanceVariable x) = after x
bound_step (Node-F.ClassVariable x) = after x
bound_step (Node-F.Const x) = after x
bound_step (Node-F.Scoped n x) = max n (after x)
bound_step (Node-F.TopConst x) = after x
bound_step (Node-F.SetLocal x n) = max (after x) n
bound_step (Node-F.SetInstanceVariable x n) = max (after x) n
bound_step (Node-F.SetClassVariable x n) = max (after x) n
bound_step (Node-F.SetConst x n) = max (after x) n
bound_step (Node-F.SetScoped m x n) = max (max m (after x)) n
bound_step (Node-F.SetAttribute m x n) = max (max m (after x)) n
bound_step (Node-F.Call n x ns) = max (max n (after x)) (all ns)
bound_step (Node-F.SelfCall x ns) = max (after x) (all ns)
bound_step (Node-F.Super ns) = all ns
bound_step Node-F.ZSuper = 0
bound_step (Node-F.Not n) = n
bound_step (Node-F.And m n) = max m n
bound_step (Node-F.Or m n) = max m n
bound_step (Node-F.If order n ms ns) = max (max n (all ms)) (all ns)
bound_step (Node-F.While order n ns) = max n (all ns)
bound_step Node-F.Break = 0
bound_step Node-F.Next = 0
bound_step (Node-F.Return o) = if_any self o
bound_step (Node-F.Seq ns) = all ns
bound_step (Node-F.Begin ns rs other ensured) =
    max (max (all ns) (greatest rescue_bound rs)) (max (if_any all other) (if_any all ensured))
bound_step (Node-F.Def x required ds ns) =
    max (max (after_method x) (greatest after required)) (max (greatest default_bound ds) (all ns))
bound_step (Node-F.SDef x required ds ns) =
    max (max (after_method x) (greatest after required)) (max (greatest default_bound ds) (all ns))
bound_step (Node-F.Class base x above ns) = max (max (base_bound base) (after x)) (max (if_any self above) (all ns))
bound_step (Node-F.Module base x ns) = max (max (base_bound base) (after x)) (all ns)

abbrev pub bound_of : Node → ℕ
bound_of = fold-Node ℕ bound_step

-- ---- of what stands beside nodes, over nodes

abbrev pub all_names : List Node → ℕ
all_names ns = all (map bound_of ns)

abbrev pub part_names : Part Node → ℕ
part_names (p.Text text) = 0
part_names (p.Program ns) = all_names ns

abbrev pub rescue_names : Rescue Node → ℕ
rescue_names r = max (max (all_names r.paths) (if_any after r.variable)) (all_names r.body)

abbrev pub default_names : Default Node → ℕ
default_names d = max (after d.name) (bound_of d.value)

abbrev pub base_names : Base Node → ℕ
base_names b.Innermost = 0
base_names b.Topmost = 0
base_names (b.Within n) = bound_of n

-- ---- what is in the table

-- all names of the node are in the table
abbrev pub IsNamed : List Text → Grown Node → Type 0
IsNamed names g = bound_of g.form ≤ length names

abbrev pub AreNamed : List Text → List (Grown Node) → Type 0
AreNamed names gs = all (map bound_of (forms gs)) ≤ length names

abbrev pub IsNamedRow : List Text → Grown (List Node) → Type 0
IsNamedRow names g = all (map bound_of g.form) ≤ length names

-- the name is in the table
abbrev pub IsName : List Text → Name → Type 0
IsName names name = name.0 < length names

abbrev pub IsNameIfAny : List Text → Option Name → Type 0
IsNameIfAny names name = if_any after name ≤ length names

abbrev pub AreNames : List Text → List Name → Type 0
AreNames names xs = greatest after xs ≤ length names

-- What each kind of node stands for, and which names it holds.
use Rattle.std.proofs.Common.{◌≡◌, List, [], ◌∷◌, ap, sym, ◌∙◌, refl}
use Rattle.std.specs.Prelude.{ℕ, ℤ, max, map, Option, Some, None, String, string_bytes}
use Rattle.std.specs.declared.alloc.Global.{Global}
use Rattle.std.specs.Option.{option_map}
use Rattle.zw_def.specs.Text.{Text}
use Rattle.zw_def_syntax.specs.Tree as t
use Rattle.zw_def_syntax.specs.Tree.{Tree}
use Rattle.zw_names.specs.declared.names.Name.{Name}
use Rattle.zw_ast.specs.declared.node.Node.{Node, fold-roll-Node}
use Rattle.zw_ast.specs.declared.node.Node.TheOpen.{Node-F}
use Rattle.zw_ast.specs.declared.node.Node.TheVariants as n
use Rattle.zw_ast.specs.declared.node.Part.{Part}
use Rattle.zw_ast.specs.declared.node.Rescue.{Rescue}
use Rattle.zw_ast.specs.declared.node.Default.{Default}
use Rattle.zw_ast.specs.declared.node.Base.{Base}
use Rattle.zw_ast.specs.declared.node.MethodName.{MethodName}
use Rattle.zw_ast.specs.declared.node.Order.{Order}
use Rattle.zw_ast.specs.declared.node.Node.TheShapes.{former-Node-Interp-0-at-3}
use Rattle.zw_ast.specs.declared.node.Part.TheVariants as p
use Rattle.zw_ast.specs.declared.node.Base.TheVariants as b
use Rattle.zw_ast.specs.Named.{bound_of, bound_step, after, after_method, greatest, if_any, all, part_bound, part_names, rescue_names, default_names, base_names, all_names}
use Rattle.zw_ast.specs.Node.{tree_seen, tree_step, name_seen, method_seen, order_seen, perhaps_of, branch_of, parts_of, part_seen, rescues_of, rescue_seen, defaults_of, default_seen, base_seen, row_of_nodes}

-- two maps that agree on each item
pub maps_alike : {A B : Type 0} (f g : A → B) → ((a : A) → f a ≡ g a) → (xs : List A) → map f xs ≡ map g xs
maps_alike f g same [] = refl
maps_alike f g same (x ∷ xs) = ap (λ y. y ∷ map f xs) (same x) ∙ ap (λ ys. g x ∷ ys) (maps_alike f g same xs)

pub greatest_alike : {A B : Type 0} (h : A → B) (f : B → ℕ) (g : A → ℕ) → ((a : A) → f (h a) ≡ g a) → (xs : List A)
    → greatest f (map h xs) ≡ greatest g xs
greatest_alike h f g same [] = refl
greatest_alike h f g same (x ∷ xs) =
    ap (λ n. max n (greatest f (map h xs))) (same x) ∙ ap (λ n. max (g x) n) (greatest_alike h f g same xs)

module _ (names : List Text) where
  pub nil_told : tree_seen names n.Nil ≡ t.nil_node
  nil_told = ap (tree_seen names) (sym n.rolls-Nil) ∙ fold-roll-Node Tree (tree_step names) Node-F.Nil

  pub true_told : tree_seen names n.True ≡ t.true_node
  true_told = ap (tree_seen names) (sym n.rolls-True) ∙ fold-roll-Node Tree (tree_step names) Node-F.True

  pub false_told : tree_seen names n.False ≡ t.false_node
  false_told = ap (tree_seen names) (sym n.rolls-False) ∙ fold-roll-Node Tree (tree_step names) Node-F.False

  pub self_told : tree_seen names n.SelfNode ≡ t.self_node
  self_told = ap (tree_seen names) (sym n.rolls-SelfNode) ∙ fold-roll-Node Tree (tree_step names) Node-F.SelfNode

  pub int_told : (i : ℤ) → tree_seen names (n.Int i) ≡ t.int_node i
  int_told i = ap (tree_seen names) (sym (n.rolls-Int i)) ∙ fold-roll-Node Tree (tree_step names) (Node-F.Int i)

  pub str_told : (text : String Global) → tree_seen names (n.Str text) ≡ t.str_node (string_bytes text)
  str_told text = ap (tree_seen names) (sym (n.rolls-Str text)) ∙ fold-roll-Node Tree (tree_step names) (Node-F.Str text)

  pub sym_told : (x : Name) → tree_seen names (n.Sym x) ≡ t.sym_node (name_seen names x)
  sym_told x = ap (tree_seen names) (sym (n.rolls-Sym x)) ∙ fold-roll-Node Tree (tree_step names) (Node-F.Sym x)

  pub array_told : (us : List Node) → tree_seen names (n.Array us) ≡ t.array_node (row_of_nodes names us)
  array_told us = ap (tree_seen names) (sym (n.rolls-Array us)) ∙ fold-roll-Node Tree (tree_step names) (Node-F.Array us)

  pub local_told : (x : Name) → tree_seen names (n.Local x) ≡ t.local_node (name_seen names x)
  local_told x = ap (tree_seen names) (sym (n.rolls-Local x)) ∙ fold-roll-Node Tree (tree_step names) (Node-F.Local x)

  pub ident_told : (x : Name) → tree_seen names (n.Ident x) ≡ t.ident_node (name_seen names x)
  ident_told x = ap (tree_seen names) (sym (n.rolls-Ident x)) ∙ fold-roll-Node Tree (tree_step names) (Node-F.Ident x)

  pub ivar_told : (x : Name) → tree_seen names (n.InstanceVariable x) ≡ t.ivar_node (name_seen names x)
  ivar_told x = ap (tree_seen names) (sym (n.rolls-InstanceVariable x)) ∙ fold-roll-Node Tree (tree_step names) (Node-F.InstanceVariable x)

  pub cvar_told : (x : Name) → tree_seen names (n.ClassVariable x) ≡ t.cvar_node (name_seen names x)
  cvar_told x = ap (tree_seen names) (sym (n.rolls-ClassVariable x)) ∙ fold-roll-Node Tree (tree_step names) (Node-F.ClassVariable x)

  pub const_told : (x : Name) → tree_seen names (n.Const x) ≡ t.const_node (name_seen names x)
  const_told x = ap (tree_seen names) (sym (n.rolls-Const x)) ∙ fold-roll-Node Tree (tree_step names) (Node-F.Const x)

  pub scoped_told : (m : Node) (x : Name) → tree_seen names (n.Scoped m x) ≡ t.scoped_node (tree_seen names m) (name_seen names x)
  scoped_told m x = ap (tree_seen names) (sym (n.rolls-Scoped m x)) ∙ fold-roll-Node Tree (tree_step names) (Node-F.Scoped m x)

  pub top_const_told : (x : Name) → tree_seen names (n.TopConst x) ≡ t.top_const_node (name_seen names x)
  top_const_told x = ap (tree_seen names) (sym (n.rolls-TopConst x)) ∙ fold-roll-Node Tree (tree_step names) (Node-F.TopConst x)

  pub set_local_told : (x : Name) (m : Node) → tree_seen names (n.SetLocal x m) ≡ t.set_local (name_seen names x) (tree_seen names m)
  set_local_told x m = ap (tree_seen names) (sym (n.rolls-SetLocal x m)) ∙ fold-roll-Node Tree (tree_step names) (Node-F.SetLocal x m)

  pub set_ivar_told : (x : Name) (m : Node) → tree_seen names (n.SetInstanceVariable x m) ≡ t.set_ivar (name_seen names x) (tree_seen names m)
  set_ivar_told x m = ap (tree_seen names) (sym (n.rolls-SetInstanceVariable x m)) ∙ fold-roll-Node Tree (tree_step names) (Node-F.SetInstanceVariable x m)

  pub set_cvar_told : (x : Name) (m : Node) → tree_seen names (n.SetClassVariable x m) ≡ t.set_cvar (name_seen names x) (tree_seen names m)
  set_cvar_told x m = ap (tree_seen names) (sym (n.rolls-SetClassVariable x m)) ∙ fold-roll-Node Tree (tree_step names) (Node-F.SetClassVariable x m)

  pub set_const_told : (x : Name) (m : Node) → tree_seen names (n.SetConst x m) ≡ t.set_const (name_seen names x) (tree_seen names m)
  set_const_told x m = ap (tree_seen names) (sym (n.rolls-SetConst x m)) ∙ fold-roll-Node Tree (tree_step names) (Node-F.SetConst x m)

  pub set_scoped_told : (m : Node) (x : Name) (k : Node) → tree_seen names (n.SetScoped m x k) ≡ t.set_scoped (tree_seen names m) (name_seen names x) (tree_seen names k)
  set_scoped_told m x k = ap (tree_seen names) (sym (n.rolls-SetScoped m x k)) ∙ fold-roll-Node Tree (tree_step names) (Node-F.SetScoped m x k)

  pub set_attr_told : (m : Node) (x : Name) (k : Node) → tree_seen names (n.SetAttribute m x k) ≡ t.set_attr (tree_seen names m) (name_seen names x) (tree_seen names k)
  set_attr_told m x k = ap (tree_seen names) (sym (n.rolls-SetAttribute m x k)) ∙ fold-roll-Node Tree (tree_step names) (Node-F.SetAttribute m x k)

  pub call_told : (m : Node) (x : Name) (us : List Node) → tree_seen names (n.Call m x us) ≡ t.call_node (tree_seen names m) (name_seen names x) (row_of_nodes names us)
  call_told m x us = ap (tree_seen names) (sym (n.rolls-Call m x us)) ∙ fold-roll-Node Tree (tree_step names) (Node-F.Call m x us)

  pub self_call_told : (x : Name) (us : List Node) → tree_seen names (n.SelfCall x us) ≡ t.self_call (name_seen names x) (row_of_nodes names us)
  self_call_told x us = ap (tree_seen names) (sym (n.rolls-SelfCall x us)) ∙ fold-roll-Node Tree (tree_step names) (Node-F.SelfCall x us)

  pub super_told : (us : List Node) → tree_seen names (n.Super us) ≡ t.super_node (row_of_nodes names us)
  super_told us = ap (tree_seen names) (sym (n.rolls-Super us)) ∙ fold-roll-Node Tree (tree_step names) (Node-F.Super us)

  pub zsuper_told : tree_seen names n.ZSuper ≡ t.zsuper_node
  zsuper_told = ap (tree_seen names) (sym n.rolls-ZSuper) ∙ fold-roll-Node Tree (tree_step names) Node-F.ZSuper

  pub not_told : (m : Node) → tree_seen names (n.Not m) ≡ t.not_node (tree_seen names m)
  not_told m = ap (tree_seen names) (sym (n.rolls-Not m)) ∙ fold-roll-Node Tree (tree_step names) (Node-F.Not m)

  pub and_told : (m : Node) (k : Node) → tree_seen names (n.And m k) ≡ t.and_node (tree_seen names m) (tree_seen names k)
  and_told m k = ap (tree_seen names) (sym (n.rolls-And m k)) ∙ fold-roll-Node Tree (tree_step names) (Node-F.And m k)

  pub or_told : (m : Node) (k : Node) → tree_seen names (n.Or m k) ≡ t.or_node (tree_seen names m) (tree_seen names k)
  or_told m k = ap (tree_seen names) (sym (n.rolls-Or m k)) ∙ fold-roll-Node Tree (tree_step names) (Node-F.Or m k)

  pub if_told : (order : Order) (m : Node) (us : List Node) (vs : List Node) → tree_seen names (n.If order m us vs) ≡ t.if_node (order_seen order) (tree_seen names m) (row_of_nodes names us) (row_of_nodes names vs)
  if_told order m us vs = ap (tree_seen names) (sym (n.rolls-If order m us vs)) ∙ fold-roll-Node Tree (tree_step names) (Node-F.If order m us vs)

  pub while_told : (order : Order) (m : Node) (us : List Node) → tree_seen names (n.While order m us) ≡ t.while_node (order_seen order) (tree_seen names m) (row_of_nodes names us)
  while_told order m us = ap (tree_seen names) (sym (n.rolls-While order m us)) ∙ fold-roll-Node Tree (tree_step names) (Node-F.While order m us)

  pub break_told : tree_seen names n.Break ≡ t.break_node
  break_told = ap (tree_seen names) (sym n.rolls-Break) ∙ fold-roll-Node Tree (tree_step names) Node-F.Break

  pub next_told : tree_seen names n.Next ≡ t.next_node
  next_told = ap (tree_seen names) (sym n.rolls-Next) ∙ fold-roll-Node Tree (tree_step names) Node-F.Next

  pub seq_told : (us : List Node) → tree_seen names (n.Seq us) ≡ t.seq_node (row_of_nodes names us)
  seq_told us = ap (tree_seen names) (sym (n.rolls-Seq us)) ∙ fold-roll-Node Tree (tree_step names) (Node-F.Seq us)

  pub return_told : (o : Option Node) →
      tree_seen names (n.Return o) ≡ t.return_node (perhaps_of (option_map (tree_seen names) o))
  return_told None = ap (tree_seen names) (sym (n.rolls-Return None)) ∙ fold-roll-Node Tree (tree_step names) (Node-F.Return None)
  return_told (Some m) =
      ap (tree_seen names) (sym (n.rolls-Return (Some m))) ∙ fold-roll-Node Tree (tree_step names) (Node-F.Return (Some m))

  pub interp_told : (ps : List (Part Node)) →
      tree_seen names (n.Interp ps) ≡ t.interp_node (parts_of (map (part_seen names) ps))
  interp_told ps =
      ap (tree_seen names) (sym (n.rolls-Interp ps)) ∙ fold-roll-Node Tree (tree_step names) (Node-F.Interp ps)
      ∙ ap (λ qs. t.interp_node (parts_of qs)) (maps_alike _ (part_seen names) same ps)
    where
      same : (p : Part Node) → former-Node-Interp-0-at-3.map Node Tree (tree_seen names) p ≡ part_seen names p
      same (p.Text text) = refl
      same (p.Program ns) = refl

  pub begin_told : (us : List Node) (rs : List (Rescue Node)) (o e : Option (List Node)) →
      tree_seen names (n.Begin us rs o e)
      ≡ t.begin_node (row_of_nodes names us) (rescues_of names (map (rescue_seen names) rs))
      (branch_of (option_map (map (tree_seen names)) o)) (branch_of (option_map (map (tree_seen names)) e))
  begin_told us rs None None =
      ap (tree_seen names) (sym (n.rolls-Begin us rs None None)) ∙ fold-roll-Node Tree (tree_step names) (Node-F.Begin us rs None None)
  begin_told us rs None (Some es) =
      ap (tree_seen names) (sym (n.rolls-Begin us rs None (Some es))) ∙ fold-roll-Node Tree (tree_step names) (Node-F.Begin us rs None (Some es))
  begin_told us rs (Some os) None =
      ap (tree_seen names) (sym (n.rolls-Begin us rs (Some os) None)) ∙ fold-roll-Node Tree (tree_step names) (Node-F.Begin us rs (Some os) None)
  begin_told us rs (Some os) (Some es) =
      ap (tree_seen names) (sym (n.rolls-Begin us rs (Some os) (Some es))) ∙ fold-roll-Node Tree (tree_step names) (Node-F.Begin us rs (Some os) (Some es))

  pub def_told : (x : MethodName) (required : List Name) (ds : List (Default Node)) (us : List Node) →
      tree_seen names (n.Def x required ds us)
      ≡ t.def_node (method_seen names x) (map (name_seen names) required)
      (defaults_of names (map (default_seen names) ds)) (row_of_nodes names us)
  def_told x required ds us =
      ap (tree_seen names) (sym (n.rolls-Def x required ds us))
      ∙ fold-roll-Node Tree (tree_step names) (Node-F.Def x required ds us)

  pub sdef_told : (x : MethodName) (required : List Name) (ds : List (Default Node)) (us : List Node) →
      tree_seen names (n.SDef x required ds us)
      ≡ t.sdef_node (method_seen names x) (map (name_seen names) required)
      (defaults_of names (map (default_seen names) ds)) (row_of_nodes names us)
  sdef_told x required ds us =
      ap (tree_seen names) (sym (n.rolls-SDef x required ds us))
      ∙ fold-roll-Node Tree (tree_step names) (Node-F.SDef x required ds us)

  pub class_told : (base : Base Node) (x : Name) (o : Option Node) (us : List Node) →
      tree_seen names (n.Class base x o us)
      ≡ t.class_node (base_seen names base) (name_seen names x) (perhaps_of (option_map (tree_seen names) o))
      (row_of_nodes names us)
  class_told b.Innermost x None us =
      ap (tree_seen names) (sym (n.rolls-Class b.Innermost x None us)) ∙ fold-roll-Node Tree (tree_step names) (Node-F.Class b.Innermost x None us)
  class_told b.Innermost x (Some above) us =
      ap (tree_seen names) (sym (n.rolls-Class b.Innermost x (Some above) us)) ∙ fold-roll-Node Tree (tree_step names) (Node-F.Class b.Innermost x (Some above) us)
  class_told b.Topmost x None us =
      ap (tree_seen names) (sym (n.rolls-Class b.Topmost x None us)) ∙ fold-roll-Node Tree (tree_step names) (Node-F.Class b.Topmost x None us)
  class_told b.Topmost x (Some above) us =
      ap (tree_seen names) (sym (n.rolls-Class b.Topmost x (Some above) us)) ∙ fold-roll-Node Tree (tree_step names) (Node-F.Class b.Topmost x (Some above) us)
  class_told (b.Within m) x None us =
      ap (tree_seen names) (sym (n.rolls-Class (b.Within m) x None us)) ∙ fold-roll-Node Tree (tree_step names) (Node-F.Class (b.Within m) x None us)
  class_told (b.Within m) x (Some above) us =
      ap (tree_seen names) (sym (n.rolls-Class (b.Within m) x (Some above) us)) ∙ fold-roll-Node Tree (tree_step names) (Node-F.Class (b.Within m) x (Some above) us)

  pub module_told : (base : Base Node) (x : Name) (us : List Node) →
      tree_seen names (n.Module base x us)
      ≡ t.module_node (base_seen names base) (name_seen names x) (row_of_nodes names us)
  module_told b.Innermost x us =
      ap (tree_seen names) (sym (n.rolls-Module b.Innermost x us))
      ∙ fold-roll-Node Tree (tree_step names) (Node-F.Module b.Innermost x us)
  module_told b.Topmost x us =
      ap (tree_seen names) (sym (n.rolls-Module b.Topmost x us))
      ∙ fold-roll-Node Tree (tree_step names) (Node-F.Module b.Topmost x us)
  module_told (b.Within m) x us =
      ap (tree_seen names) (sym (n.rolls-Module (b.Within m) x us))
      ∙ fold-roll-Node Tree (tree_step names) (Node-F.Module (b.Within m) x us)

-- ---- the names of each kind

pub nil_bound : bound_of n.Nil ≡ 0
nil_bound = ap bound_of (sym n.rolls-Nil) ∙ fold-roll-Node ℕ bound_step Node-F.Nil

pub true_bound : bound_of n.True ≡ 0
true_bound = ap bound_of (sym n.rolls-True) ∙ fold-roll-Node ℕ bound_step Node-F.True

pub false_bound : bound_of n.False ≡ 0
false_bound = ap bound_of (sym n.rolls-False) ∙ fold-roll-Node ℕ bound_step Node-F.False

pub self_bound : bound_of n.SelfNode ≡ 0
self_bound = ap bound_of (sym n.rolls-SelfNode) ∙ fold-roll-Node ℕ bound_step Node-F.SelfNode

pub int_bound : (i : ℤ) → bound_of (n.Int i) ≡ 0
int_bound i = ap bound_of (sym (n.rolls-Int i)) ∙ fold-roll-Node ℕ bound_step (Node-F.Int i)

pub str_bound : (text : String Global) → bound_of (n.Str text) ≡ 0
str_bound text = ap bound_of (sym (n.rolls-Str text)) ∙ fold-roll-Node ℕ bound_step (Node-F.Str text)

pub sym_bound : (x : Name) → bound_of (n.Sym x) ≡ after x
sym_bound x = ap bound_of (sym (n.rolls-Sym x)) ∙ fold-roll-Node ℕ bound_step (Node-F.Sym x)

pub array_bound : (us : List Node) → bound_of (n.Array us) ≡ all_names us
array_bound us = ap bound_of (sym (n.rolls-Array us)) ∙ fold-roll-Node ℕ bound_step (Node-F.Array us)

pub local_bound : (x : Name) → bound_of (n.Local x) ≡ after x
local_bound x = ap bound_of (sym (n.rolls-Local x)) ∙ fold-roll-Node ℕ bound_step (Node-F.Local x)

pub ident_bound : (x : Name) → bound_of (n.Ident x) ≡ after x
ident_bound x = ap bound_of (sym (n.rolls-Ident x)) ∙ fold-roll-Node ℕ bound_step (Node-F.Ident x)

pub ivar_bound : (x : Name) → bound_of (n.InstanceVariable x) ≡ after x
ivar_bound x = ap bound_of (sym (n.rolls-InstanceVariable x)) ∙ fold-roll-Node ℕ bound_step (Node-F.InstanceVariable x)

pub cvar_bound : (x : Name) → bound_of (n.ClassVariable x) ≡ after x
cvar_bound x = ap bound_of (sym (n.rolls-ClassVariable x)) ∙ fold-roll-Node ℕ bound_step (Node-F.ClassVariable x)

pub const_bound : (x : Name) → bound_of (n.Const x) ≡ after x
const_bound x = ap bound_of (sym (n.rolls-Const x)) ∙ fold-roll-Node ℕ bound_step (Node-F.Const x)

pub scoped_bound : (m : Node) (x : Name) → bound_of (n.Scoped m x) ≡ max (bound_of m) (after x)
scoped_bound m x = ap bound_of (sym (n.rolls-Scoped m x)) ∙ fold-roll-Node ℕ bound_step (Node-F.Scoped m x)

pub top_const_bound : (x : Name) → bound_of (n.TopConst x) ≡ after x
top_const_bound x = ap bound_of (sym (n.rolls-TopConst x)) ∙ fold-roll-Node ℕ bound_step (Node-F.TopConst x)

pub set_local_bound : (x : Name) (m : Node) → bound_of (n.SetLocal x m) ≡ max (after x) (bound_of m)
set_local_bound x m = ap bound_of (sym (n.rolls-SetLocal x m)) ∙ fold-roll-Node ℕ bound_step (Node-F.SetLocal x m)

pub set_ivar_bound : (x : Name) (m : Node) → bound_of (n.SetInstanceVariable x m) ≡ max (after x) (bound_of m)
set_ivar_bound x m = ap bound_of (sym (n.rolls-SetInstanceVariable x m)) ∙ fold-roll-Node ℕ bound_step (Node-F.SetInstanceVariable x m)

pub set_cvar_bound : (x : Name) (m : Node) → bound_of (n.SetClassVariable x m) ≡ max (after x) (bound_of m)
set_cvar_bound x m = ap bound_of (sym (n.rolls-SetClassVariable x m)) ∙ fold-roll-Node ℕ bound_step (Node-F.SetClassVariable x m)

pub set_const_bound : (x : Name) (m : Node) → bound_of (n.SetConst x m) ≡ max (after x) (bound_of m)
set_const_bound x m = ap bound_of (sym (n.rolls-SetConst x m)) ∙ fold-roll-Node ℕ bound_step (Node-F.SetConst x m)

pub set_scoped_bound : (m : Node) (x : Name) (k : Node) → bound_of (n.SetScoped m x k) ≡ max (max (bound_of m) (after x)) (bound_of k)
set_scoped_bound m x k = ap bound_of (sym (n.rolls-SetScoped m x k)) ∙ fold-roll-Node ℕ bound_step (Node-F.SetScoped m x k)

pub set_attr_bound : (m : Node) (x : Name) (k : Node) → bound_of (n.SetAttribute m x k) ≡ max (max (bound_of m) (after x)) (bound_of k)
set_attr_bound m x k = ap bound_of (sym (n.rolls-SetAttribute m x k)) ∙ fold-roll-Node ℕ bound_step (Node-F.SetAttribute m x k)

pub call_bound : (m : Node) (x : Name) (us : List Node) → bound_of (n.Call m x us) ≡ max (max (bound_of m) (after x)) (all_names us)
call_bound m x us = ap bound_of (sym (n.rolls-Call m x us)) ∙ fold-roll-Node ℕ bound_step (Node-F.Call m x us)

pub self_call_bound : (x : Name) (us : List Node) → bound_of (n.SelfCall x us) ≡ max (after x) (all_names us)
self_call_bound x us = ap bound_of (sym (n.rolls-SelfCall x us)) ∙ fold-roll-Node ℕ bound_step (Node-F.SelfCall x us)

pub super_bound : (us : List Node) → bound_of (n.Super us) ≡ all_names us
super_bound us = ap bound_of (sym (n.rolls-Super us)) ∙ fold-roll-Node ℕ bound_step (Node-F.Super us)

pub zsuper_bound : bound_of n.ZSuper ≡ 0
zsuper_bound = ap bound_of (sym n.rolls-ZSuper) ∙ fold-roll-Node ℕ bound_step Node-F.ZSuper

pub not_bound : (m : Node) → bound_of (n.Not m) ≡ bound_of m
not_bound m = ap bound_of (sym (n.rolls-Not m)) ∙ fold-roll-Node ℕ bound_step (Node-F.Not m)

pub and_bound : (m : Node) (k : Node) → bound_of (n.And m k) ≡ max (bound_of m) (bound_of k)
and_bound m k = ap bound_of (sym (n.rolls-And m k)) ∙ fold-roll-Node ℕ bound_step (Node-F.And m k)

pub or_bound : (m : Node) (k : Node) → bound_of (n.Or m k) ≡ max (bound_of m) (bound_of k)
or_bound m k = ap bound_of (sym (n.rolls-Or m k)) ∙ fold-roll-Node ℕ bound_step (Node-F.Or m k)

pub if_bound : (order : Order) (m : Node) (us : List Node) (vs : List Node) → bound_of (n.If order m us vs) ≡ max (max (bound_of m) (all_names us)) (all_names vs)
if_bound order m us vs = ap bound_of (sym (n.rolls-If order m us vs)) ∙ fold-roll-Node ℕ bound_step (Node-F.If order m us vs)

pub while_bound : (order : Order) (m : Node) (us : List Node) → bound_of (n.While order m us) ≡ max (bound_of m) (all_names us)
while_bound order m us = ap bound_of (sym (n.rolls-While order m us)) ∙ fold-roll-Node ℕ bound_step (Node-F.While order m us)

pub break_bound : bound_of n.Break ≡ 0
break_bound = ap bound_of (sym n.rolls-Break) ∙ fold-roll-Node ℕ bound_step Node-F.Break

pub next_bound : bound_of n.Next ≡ 0
next_bound = ap bound_of (sym n.rolls-Next) ∙ fold-roll-Node ℕ bound_step Node-F.Next

pub seq_bound : (us : List Node) → bound_of (n.Seq us) ≡ all_names us
seq_bound us = ap bound_of (sym (n.rolls-Seq us)) ∙ fold-roll-Node ℕ bound_step (Node-F.Seq us)

pub return_bound : (o : Option Node) → bound_of (n.Return o) ≡ if_any bound_of o
return_bound None = ap bound_of (sym (n.rolls-Return None)) ∙ fold-roll-Node ℕ bound_step (Node-F.Return None)
return_bound (Some m) = ap bound_of (sym (n.rolls-Return (Some m))) ∙ fold-roll-Node ℕ bound_step (Node-F.Return (Some m))

pub interp_bound : (ps : List (Part Node)) → bound_of (n.Interp ps) ≡ greatest part_names ps
interp_bound ps =
    ap bound_of (sym (n.rolls-Interp ps)) ∙ fold-roll-Node ℕ bound_step (Node-F.Interp ps) ∙ greatest_alike _ _ _ same ps
  where
    same : (p : Part Node) → part_bound (former-Node-Interp-0-at-3.map Node ℕ bound_of p) ≡ part_names p
    same (p.Text text) = refl
    same (p.Program ns) = refl

pub begin_bound : (us : List Node) (rs : List (Rescue Node)) (o e : Option (List Node)) →
    bound_of (n.Begin us rs o e)
    ≡ max (max (all (map bound_of us)) (greatest rescue_names rs)) (max (if_any all_names o) (if_any all_names e))
begin_bound us rs None None =
    ap bound_of (sym (n.rolls-Begin us rs None None)) ∙ fold-roll-Node ℕ bound_step (Node-F.Begin us rs None None)
    ∙ ap (λ m. max (max (all (map bound_of us)) m) (max (if_any all_names None) (if_any all_names None))) (greatest_alike _ _ _ (λ r. refl) rs)
begin_bound us rs None (Some es) =
    ap bound_of (sym (n.rolls-Begin us rs None (Some es))) ∙ fold-roll-Node ℕ bound_step (Node-F.Begin us rs None (Some es))
    ∙ ap (λ m. max (max (all (map bound_of us)) m) (max (if_any all_names None) (if_any all_names (Some es)))) (greatest_alike _ _ _ (λ r. refl) rs)
begin_bound us rs (Some os) None =
    ap bound_of (sym (n.rolls-Begin us rs (Some os) None)) ∙ fold-roll-Node ℕ bound_step (Node-F.Begin us rs (Some os) None)
    ∙ ap (λ m. max (max (all (map bound_of us)) m) (max (if_any all_names (Some os)) (if_any all_names None))) (greatest_alike _ _ _ (λ r. refl) rs)
begin_bound us rs (Some os) (Some es) =
    ap bound_of (sym (n.rolls-Begin us rs (Some os) (Some es))) ∙ fold-roll-Node ℕ bound_step (Node-F.Begin us rs (Some os) (Some es))
    ∙ ap (λ m. max (max (all (map bound_of us)) m) (max (if_any all_names (Some os)) (if_any all_names (Some es)))) (greatest_alike _ _ _ (λ r. refl) rs)

pub def_bound : (x : MethodName) (required : List Name) (ds : List (Default Node)) (us : List Node) →
    bound_of (n.Def x required ds us)
    ≡ max (max (after_method x) (greatest after required)) (max (greatest default_names ds) (all (map bound_of us)))
def_bound x required ds us =
    ap bound_of (sym (n.rolls-Def x required ds us)) ∙ fold-roll-Node ℕ bound_step (Node-F.Def x required ds us)
    ∙ ap (λ m. max (max (after_method x) (greatest after required)) (max m (all (map bound_of us)))) (greatest_alike _ _ _ (λ d. refl) ds)

pub sdef_bound : (x : MethodName) (required : List Name) (ds : List (Default Node)) (us : List Node) →
    bound_of (n.SDef x required ds us)
    ≡ max (max (after_method x) (greatest after required)) (max (greatest default_names ds) (all (map bound_of us)))
sdef_bound x required ds us =
    ap bound_of (sym (n.rolls-SDef x required ds us)) ∙ fold-roll-Node ℕ bound_step (Node-F.SDef x required ds us)
    ∙ ap (λ m. max (max (after_method x) (greatest after required)) (max m (all (map bound_of us)))) (greatest_alike _ _ _ (λ d. refl) ds)

pub class_bound : (base : Base Node) (x : Name) (o : Option Node) (us : List Node) →
    bound_of (n.Class base x o us)
    ≡ max (max (base_names base) (after x)) (max (if_any bound_of o) (all (map bound_of us)))
class_bound b.Innermost x None us =
    ap bound_of (sym (n.rolls-Class b.Innermost x None us)) ∙ fold-roll-Node ℕ bound_step (Node-F.Class b.Innermost x None us)
class_bound b.Innermost x (Some above) us =
    ap bound_of (sym (n.rolls-Class b.Innermost x (Some above) us)) ∙ fold-roll-Node ℕ bound_step (Node-F.Class b.Innermost x (Some above) us)
class_bound b.Topmost x None us =
    ap bound_of (sym (n.rolls-Class b.Topmost x None us)) ∙ fold-roll-Node ℕ bound_step (Node-F.Class b.Topmost x None us)
class_bound b.Topmost x (Some above) us =
    ap bound_of (sym (n.rolls-Class b.Topmost x (Some above) us)) ∙ fold-roll-Node ℕ bound_step (Node-F.Class b.Topmost x (Some above) us)
class_bound (b.Within m) x None us =
    ap bound_of (sym (n.rolls-Class (b.Within m) x None us)) ∙ fold-roll-Node ℕ bound_step (Node-F.Class (b.Within m) x None us)
class_bound (b.Within m) x (Some above) us =
    ap bound_of (sym (n.rolls-Class (b.Within m) x (Some above) us)) ∙ fold-roll-Node ℕ bound_step (Node-F.Class (b.Within m) x (Some above) us)

pub module_bound : (base : Base Node) (x : Name) (us : List Node) →
    bound_of (n.Module base x us) ≡ max (max (base_names base) (after x)) (all (map bound_of us))
module_bound b.Innermost x us =
    ap bound_of (sym (n.rolls-Module b.Innermost x us)) ∙ fold-roll-Node ℕ bound_step (Node-F.Module b.Innermost x us)
module_bound b.Topmost x us =
    ap bound_of (sym (n.rolls-Module b.Topmost x us)) ∙ fold-roll-Node ℕ bound_step (Node-F.Module b.Topmost x us)
module_bound (b.Within m) x us =
    ap bound_of (sym (n.rolls-Module (b.Within m) x us)) ∙ fold-roll-Node ℕ bound_step (Node-F.Module (b.Within m) x us)

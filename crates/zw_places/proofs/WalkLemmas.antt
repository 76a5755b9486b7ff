-- What a walk finds in a node of each kind, where the node itself breaks no rule.
use Rattle.std.proofs.Common.{◌≡◌, ◌≤◌, ℕ, max, ◌||◌, ◌⊎◌, inl, inr, Bool, true, false, List, [], ◌∷◌, map, Option, Some, None, Result, Ok, Err, String, refl, ap, sym, ◌∙◌, subst, arith, ℤ}
use Rattle.std.specs.Option.{option_map}
use Rattle.std.specs.declared.alloc.AllocError.{AllocError}
use Rattle.std.specs.declared.alloc.Global.{Global}
use Rattle.zw_def.specs.Text.{Text}
use Rattle.zw_def_syntax.specs.Places as d
use Rattle.zw_def_syntax.specs.Tree.{Tree}
use Rattle.zw_def_syntax.specs.Places.{some_node, some_tree, some_part, some_rescue, some_default, some_branch, some_base, some_perhaps}
use Rattle.zw_names.specs.declared.names.Name.{Name}
use Rattle.zw_ast.specs.declared.node.Node.{Node}
use Rattle.zw_ast.specs.declared.node.Node.TheVariants as n
use Rattle.zw_ast.specs.declared.node.Order.{Order}
use Rattle.zw_ast.specs.declared.node.MethodName.{MethodName}
use Rattle.zw_ast.specs.declared.node.Part.{Part}
use Rattle.zw_ast.specs.declared.node.Part.TheVariants as p
use Rattle.zw_ast.specs.declared.node.Base.TheVariants as b
use Rattle.zw_ast.specs.declared.node.Rescue.{Rescue}
use Rattle.zw_ast.specs.declared.node.Default.{Default}
use Rattle.zw_ast.specs.declared.node.Base.{Base}
use Rattle.zw_ast.specs.Named.{bound_of, all_names, greatest, if_any, part_names, rescue_names, default_names, base_names}
use Rattle.zw_ast.specs.Node.{tree_seen, row_of_nodes, name_seen, method_seen, order_seen, parts_of, part_seen, rescues_of, rescue_seen, branch_of, perhaps_of, defaults_of, default_seen, base_seen}
use Rattle.zw_kinds.proofs.KindLemmas as k
use Rattle.zw_places.specs.declared.check.Check.{Check}
use Rattle.zw_places.specs.Check.{test_seen}
use Rattle.zw_places.specs.Tells.{Tells, TellsWithin, Finds, FindsWithin}
use Rattle.zw_places.specs.Walk as spec
use Rattle.zw_places.proofs.LoopLemmas.{Finder, Rows}
use Rattle.zw_places.proofs.TreeLemmas as w

-- ---- what is found in one part after another

-- something was found in the first part, and nothing else was looked through
pub found_first : (f g : Finder) (m k : ℕ) (a v : Bool) → Finds f m a → a ≡ true → v ≡ a
    → Finds (λ names. f names || g names) (max m k) v
found_first f g m k a v first e same = λ names d le.
    same ∙ e ∙ ap (λ b. b || g names) (sym e ∙ first names d (omega (arith, le)))

-- nothing was found in the first part
pub found_second : (f g : Finder) (m k : ℕ) (a b v : Bool) → Finds f m a → a ≡ false → Finds g k b → v ≡ b
    → Finds (λ names. f names || g names) (max m k) v
found_second f g m k a b v first e second same = λ names d le.
    same ∙ second names d (omega (arith, le)) ∙ ap (λ c. c || g names) (sym e ∙ first names d (omega (arith, le)))

-- ---- what is found within a node

module _ (check : Check) (place : d.Place) where
  -- whatever is found in some parts of it is what is found in the node
  pub record Within (node : Node) (bound : ℕ) (f : Finder) : Type 0 where
    pub bounded : bound ≤ bound_of node
    pub found : (names : List Text) → spec.is_broken check place names node ≡ false → spec.in_node check place names node ≡ f names

  abbrev pub Given : Node → Bool → Type 0
  Given node v = FindsWithin (λ names. spec.is_broken check place names node) (λ names. spec.in_node check place names node) (bound_of node) v

  pub finds_within : (node : Node) (bound : ℕ) (f : Finder) (v : Bool) → Within node bound f → Finds f bound v → Given node v
  finds_within node bound f v w found = λ names d le e.
      found names d (omega (arith, le, w.bounded)) ∙ sym (w.found names e)

  pub tells_within : (node : Node) (bound : ℕ) (f : Finder) (r : Result Bool AllocError) → Within node bound f → Tells f bound r
      → TellsWithin (λ names. spec.is_broken check place names node) (λ names. spec.in_node check place names node) (bound_of node) r
  tells_within node bound f (Ok v) w told = finds_within node bound f v w told
  tells_within node bound f (Err e) w told = tt

  along : (node other : Node) (bound : ℕ) (f : Finder) → node ≡ other → Within other bound f → Within node bound f
  along node other bound f e = subst (λ m. Within m bound f) (sym e)

  -- a node by what it stands for
  told_as : (node : Node) (bound : ℕ) (f : Finder) (tree : List Text → Tree) → ((names : List Text) → tree_seen names node ≡ tree names)
      → bound ≤ bound_of node
      → ((names : List Text) → test_seen check place (tree names) ≡ false → d.some_node (test_seen check) place (tree names) ≡ f names)
      → Within node bound f
  told_as node bound f tree told bounded found = record {
    bounded = bounded;
    found = λ names e. ap (d.some_node (test_seen check) place) (told names)
        ∙ found names (ap (test_seen check place) (sym (told names)) ∙ e);
  }

  -- ---- nodes with one part

  abbrev pub IsOver : Node → Node → Type 0
  IsOver node m = ((x : Name) × (node ≡ n.Scoped m x)) ⊎ (((x : Name) × (node ≡ n.SetLocal x m)) ⊎ (((x : Name) × (node ≡ n.SetInstanceVariable x m)) ⊎ (((x : Name) × (node ≡ n.SetClassVariable x m)) ⊎ (((x : Name) × (node ≡ n.SetConst x m)) ⊎ ((node ≡ n.Not m))))))

  pub within_one : (node : Node) (m : Node) → IsOver node m → Within node (bound_of m) (λ names. spec.in_node check place names m)
  within_one node m (inl (x, e)) =
      along node (n.Scoped m x) _ _ e (told_as (n.Scoped m x) _ _ _ (λ names. k.scoped_told names m x) (let b = k.scoped_bound m x in omega (arith, b)) (λ names e. w.within_scoped (test_seen check) place (tree_seen names m) (name_seen names x) e))
  within_one node m (inr (inl (x, e))) =
      along node (n.SetLocal x m) _ _ e (told_as (n.SetLocal x m) _ _ _ (λ names. k.set_local_told names x m) (let b = k.set_local_bound x m in omega (arith, b)) (λ names e. w.within_local (test_seen check) place (name_seen names x) (tree_seen names m) e))
  within_one node m (inr (inr (inl (x, e)))) =
      along node (n.SetInstanceVariable x m) _ _ e (told_as (n.SetInstanceVariable x m) _ _ _ (λ names. k.set_ivar_told names x m) (let b = k.set_ivar_bound x m in omega (arith, b)) (λ names e. w.within_ivar (test_seen check) place (name_seen names x) (tree_seen names m) e))
  within_one node m (inr (inr (inr (inl (x, e))))) =
      along node (n.SetClassVariable x m) _ _ e (told_as (n.SetClassVariable x m) _ _ _ (λ names. k.set_cvar_told names x m) (let b = k.set_cvar_bound x m in omega (arith, b)) (λ names e. w.within_cvar (test_seen check) place (name_seen names x) (tree_seen names m) e))
  within_one node m (inr (inr (inr (inr (inl (x, e)))))) =
      along node (n.SetConst x m) _ _ e (told_as (n.SetConst x m) _ _ _ (λ names. k.set_const_told names x m) (let b = k.set_const_bound x m in omega (arith, b)) (λ names e. w.within_constant (test_seen check) place (name_seen names x) (tree_seen names m) e))
  within_one node m (inr (inr (inr (inr (inr e))))) =
      along node (n.Not m) _ _ e (told_as (n.Not m) _ _ _ (λ names. k.not_told names m) (let b = k.not_bound m in omega (arith, b)) (λ names e. w.within_not (test_seen check) place (tree_seen names m) e))

  -- ---- nodes with two parts

  abbrev pub IsOverBoth : Node → Node → Node → Type 0
  IsOverBoth node l r = ((x : Name) × (node ≡ n.SetScoped l x r)) ⊎ (((x : Name) × (node ≡ n.SetAttribute l x r)) ⊎ ((node ≡ n.And l r) ⊎ ((node ≡ n.Or l r))))

  pub within_two : (node : Node) (l r : Node) → IsOverBoth node l r → Within node (max (bound_of l) (bound_of r)) (λ names. spec.in_node check place names l || spec.in_node check place names r)
  within_two node l r (inl (x, e)) =
      along node (n.SetScoped l x r) _ _ e (told_as (n.SetScoped l x r) _ _ _ (λ names. k.set_scoped_told names l x r) (let b = k.set_scoped_bound l x r in omega (arith, b)) (λ names e. w.within_scoped_constant (test_seen check) place (tree_seen names l) (name_seen names x) (tree_seen names r) e))
  within_two node l r (inr (inl (x, e))) =
      along node (n.SetAttribute l x r) _ _ e (told_as (n.SetAttribute l x r) _ _ _ (λ names. k.set_attr_told names l x r) (let b = k.set_attr_bound l x r in omega (arith, b)) (λ names e. w.within_attribute (test_seen check) place (tree_seen names l) (name_seen names x) (tree_seen names r) e))
  within_two node l r (inr (inr (inl e))) =
      along node (n.And l r) _ _ e (told_as (n.And l r) _ _ _ (λ names. k.and_told names l r) (let b = k.and_bound l r in omega (arith, b)) (λ names e. w.within_and (test_seen check) place (tree_seen names l) (tree_seen names r) e))
  within_two node l r (inr (inr (inr e))) =
      along node (n.Or l r) _ _ e (told_as (n.Or l r) _ _ _ (λ names. k.or_told names l r) (let b = k.or_bound l r in omega (arith, b)) (λ names e. w.within_or (test_seen check) place (tree_seen names l) (tree_seen names r) e))

  -- ---- nodes with a row of parts

  abbrev pub IsRow : Node → List Node → Type 0
  IsRow node us = (node ≡ n.Array us) ⊎ ((node ≡ n.Super us) ⊎ ((node ≡ n.Seq us) ⊎ (((x : Name) × (node ≡ n.SelfCall x us)))))

  pub within_row : (node : Node) (us : List Node) → IsRow node us → Within node (all_names us) (λ names. spec.in_row check place names us)
  within_row node us (inl e) =
      along node (n.Array us) _ _ e (told_as (n.Array us) _ _ _ (λ names. k.array_told names us) (let b = k.array_bound us in omega (arith, b)) (λ names e. w.within_array (test_seen check) place (row_of_nodes names us) e))
  within_row node us (inr (inl e)) =
      along node (n.Super us) _ _ e (told_as (n.Super us) _ _ _ (λ names. k.super_told names us) (let b = k.super_bound us in omega (arith, b)) (λ names e. w.within_super (test_seen check) place (row_of_nodes names us) e))
  within_row node us (inr (inr (inl e))) =
      along node (n.Seq us) _ _ e (told_as (n.Seq us) _ _ _ (λ names. k.seq_told names us) (let b = k.seq_bound us in omega (arith, b)) (λ names e. w.within_seq (test_seen check) place (row_of_nodes names us) e))
  within_row node us (inr (inr (inr (x, e)))) =
      along node (n.SelfCall x us) _ _ e (told_as (n.SelfCall x us) _ _ _ (λ names. k.self_call_told names x us) (let b = k.self_call_bound x us in omega (arith, b)) (λ names e. w.within_self_call (test_seen check) place (name_seen names x) (row_of_nodes names us) e))

  -- ---- nodes without parts

  abbrev pub IsLeaf : Node → Type 0
  IsLeaf node = (node ≡ n.Nil) ⊎ ((node ≡ n.True) ⊎ ((node ≡ n.False) ⊎ ((node ≡ n.SelfNode) ⊎ (((i : ℤ) × (node ≡ n.Int i)) ⊎ (((text : String Global) × (node ≡ n.Str text)) ⊎ (((x : Name) × (node ≡ n.Sym x)) ⊎ (((x : Name) × (node ≡ n.Local x)) ⊎ (((x : Name) × (node ≡ n.Ident x)) ⊎ (((x : Name) × (node ≡ n.InstanceVariable x)) ⊎ (((x : Name) × (node ≡ n.ClassVariable x)) ⊎ (((x : Name) × (node ≡ n.Const x)) ⊎ (((x : Name) × (node ≡ n.TopConst x)) ⊎ ((node ≡ n.ZSuper) ⊎ ((node ≡ n.Break) ⊎ ((node ≡ n.Next))))))))))))))))

  -- nothing is found within a node that is found itself where it breaks the rule, and else not
  leaf_as : (node : Node) (tree : List Text → Tree) → ((names : List Text) → tree_seen names node ≡ tree names)
      → ((names : List Text) → d.some_node (test_seen check) place (tree names) ≡ test_seen check place (tree names)) → Given node false
  leaf_as node tree told itself = λ names distinct within e.
      sym (ap (d.some_node (test_seen check) place) (told names) ∙ itself names ∙ ap (test_seen check place) (sym (told names)) ∙ e)

  pub within_leaf : (node : Node) → IsLeaf node → Given node false
  unfolding some_node
  within_leaf node (inl e) = leaf_as node _ (λ names. ap (tree_seen names) e ∙ k.nil_told names) (λ names. refl)
  within_leaf node (inr (inl e)) = leaf_as node _ (λ names. ap (tree_seen names) e ∙ k.true_told names) (λ names. refl)
  within_leaf node (inr (inr (inl e))) = leaf_as node _ (λ names. ap (tree_seen names) e ∙ k.false_told names) (λ names. refl)
  within_leaf node (inr (inr (inr (inl e)))) = leaf_as node _ (λ names. ap (tree_seen names) e ∙ k.self_told names) (λ names. refl)
  within_leaf node (inr (inr (inr (inr (inl (i, e)))))) = leaf_as node _ (λ names. ap (tree_seen names) e ∙ k.int_told names i) (λ names. refl)
  within_leaf node (inr (inr (inr (inr (inr (inl (text, e))))))) = leaf_as node _ (λ names. ap (tree_seen names) e ∙ k.str_told names text) (λ names. refl)
  within_leaf node (inr (inr (inr (inr (inr (inr (inl (x, e)))))))) = leaf_as node _ (λ names. ap (tree_seen names) e ∙ k.sym_told names x) (λ names. refl)
  within_leaf node (inr (inr (inr (inr (inr (inr (inr (inl (x, e))))))))) = leaf_as node _ (λ names. ap (tree_seen names) e ∙ k.local_told names x) (λ names. refl)
  within_leaf node (inr (inr (inr (inr (inr (inr (inr (inr (inl (x, e)))))))))) = leaf_as node _ (λ names. ap (tree_seen names) e ∙ k.ident_told names x) (λ names. refl)
  within_leaf node (inr (inr (inr (inr (inr (inr (inr (inr (inr (inl (x, e))))))))))) = leaf_as node _ (λ names. ap (tree_seen names) e ∙ k.ivar_told names x) (λ names. refl)
  within_leaf node (inr (inr (inr (inr (inr (inr (inr (inr (inr (inr (inl (x, e)))))))))))) = leaf_as node _ (λ names. ap (tree_seen names) e ∙ k.cvar_told names x) (λ names. refl)
  within_leaf node (inr (inr (inr (inr (inr (inr (inr (inr (inr (inr (inr (inl (x, e))))))))))))) = leaf_as node _ (λ names. ap (tree_seen names) e ∙ k.const_told names x) (λ names. refl)
  within_leaf node (inr (inr (inr (inr (inr (inr (inr (inr (inr (inr (inr (inr (inl (x, e)))))))))))))) = leaf_as node _ (λ names. ap (tree_seen names) e ∙ k.top_const_told names x) (λ names. refl)
  within_leaf node (inr (inr (inr (inr (inr (inr (inr (inr (inr (inr (inr (inr (inr (inl e)))))))))))))) = leaf_as node _ (λ names. ap (tree_seen names) e ∙ k.zsuper_told names) (λ names. refl)
  within_leaf node (inr (inr (inr (inr (inr (inr (inr (inr (inr (inr (inr (inr (inr (inr (inl e))))))))))))))) = leaf_as node _ (λ names. ap (tree_seen names) e ∙ k.break_told names) (λ names. refl)
  within_leaf node (inr (inr (inr (inr (inr (inr (inr (inr (inr (inr (inr (inr (inr (inr (inr e))))))))))))))) = leaf_as node _ (λ names. ap (tree_seen names) e ∙ k.next_told names) (λ names. refl)

  -- ---- the other kinds

  pub within_call : (m : Node) (x : Name) (us : List Node) → Within (n.Call m x us) (max (bound_of m) (all_names us)) (λ names. spec.in_node check place names m || spec.in_row check place names us)
  within_call m x us = told_as (n.Call m x us) _ _ _ (λ names. k.call_told names m x us) (let b = k.call_bound m x us in omega (arith, b)) (λ names e. w.within_call (test_seen check) place (tree_seen names m) (name_seen names x) (row_of_nodes names us) e)

  pub within_if : (order : Order) (m : Node) (us vs : List Node) → Within (n.If order m us vs) (max (max (bound_of m) (all_names us)) (all_names vs)) (λ names. spec.in_node check place names m || spec.in_row check place names us || spec.in_row check place names vs)
  within_if order m us vs = told_as (n.If order m us vs) _ _ _ (λ names. k.if_told names order m us vs) (let b = k.if_bound order m us vs in omega (arith, b)) (λ names e. w.within_if (test_seen check) place (order_seen order) (tree_seen names m) (row_of_nodes names us) (row_of_nodes names vs) e)

  pub within_while : (order : Order) (m : Node) (us : List Node) → Within (n.While order m us) (max (bound_of m) (all_names us)) (λ names. spec.in_node check place names m || spec.in_row check (d.loop_body place) names us)
  within_while order m us = told_as (n.While order m us) _ _ _ (λ names. k.while_told names order m us) (let b = k.while_bound order m us in omega (arith, b)) (λ names e. w.within_while (test_seen check) place (order_seen order) (tree_seen names m) (row_of_nodes names us) e)

  pub within_return : (o : Option Node) → Within (n.Return o) (if_any bound_of o) (λ names. spec.in_option check place names o)
  within_return o = told_as (n.Return o) _ _ _ (λ names. k.return_told names o) (let b = k.return_bound o in omega (arith, b)) (λ names e. w.within_return (test_seen check) place (perhaps_of (option_map (tree_seen names) o)) e)

  pub within_interp : (ps : List (Part Node)) → Within (n.Interp ps) (greatest part_names ps) (λ names. spec.in_parts check place names ps)
  within_interp ps = told_as (n.Interp ps) _ _ _ (λ names. k.interp_told names ps) (let b = k.interp_bound ps in omega (arith, b)) (λ names e. w.within_interp (test_seen check) place (parts_of (map (part_seen names) ps)) e)

  pub within_begin : (us : List Node) (rs : List (Rescue Node)) (o g : Option (List Node)) → Within (n.Begin us rs o g) (max (max (max (all_names us) (greatest rescue_names rs)) (if_any all_names o)) (if_any all_names g)) (λ names. spec.in_row check place names us || spec.in_rescues check place names rs || spec.in_branch check place names o || spec.in_branch check place names g)
  within_begin us rs o g = told_as (n.Begin us rs o g) _ _ _ (λ names. k.begin_told names us rs o g) (let b = k.begin_bound us rs o g in omega (arith, b)) (λ names e. w.within_begin (test_seen check) place (row_of_nodes names us) (rescues_of names (map (rescue_seen names) rs)) (branch_of (option_map (map (tree_seen names)) o)) (branch_of (option_map (map (tree_seen names)) g)) e)

  pub within_class : (base : Base Node) (x : Name) (o : Option Node) (us : List Node) → Within (n.Class base x o us) (max (max (base_names base) (if_any bound_of o)) (all_names us)) (λ names. spec.in_base check place names base || spec.in_option check place names o || spec.in_row check (d.class_body place) names us)
  within_class base x o us = told_as (n.Class base x o us) _ _ _ (λ names. k.class_told names base x o us) (let b = k.class_bound base x o us in omega (arith, b)) (λ names e. w.within_class (test_seen check) place (base_seen names base) (name_seen names x) (perhaps_of (option_map (tree_seen names) o)) (row_of_nodes names us) e)

  pub within_module : (base : Base Node) (x : Name) (us : List Node) → Within (n.Module base x us) (max (base_names base) (all_names us)) (λ names. spec.in_base check place names base || spec.in_row check (d.class_body place) names us)
  within_module base x us = told_as (n.Module base x us) _ _ _ (λ names. k.module_told names base x us) (let b = k.module_bound base x us in omega (arith, b)) (λ names e. w.within_module (test_seen check) place (base_seen names base) (name_seen names x) (row_of_nodes names us) e)

  -- a method with these defaults and this body
  abbrev pub IsMethod : Node → List (Default Node) → List Node → Type 0
  IsMethod node ds us =
      ((x : MethodName) × (required : List Name) × (node ≡ n.Def x required ds us))
      ⊎ ((x : MethodName) × (required : List Name) × (node ≡ n.SDef x required ds us))

  pub within_method : (node : Node) (ds : List (Default Node)) (us : List Node) → IsMethod node ds us
      → Within node (max (greatest default_names ds) (all_names us))
      (λ names. spec.in_defaults check (d.method_body place) names ds || spec.in_row check (d.method_body place) names us)
  within_method node ds us (inl (x, required, e)) =
      along node (n.Def x required ds us) _ _ e (told_as (n.Def x required ds us) _ _ _ (λ names. k.def_told names x required ds us) (let b = k.def_bound x required ds us in omega (arith, b)) (λ names e. w.within_def (test_seen check) place (method_seen names x) (map (name_seen names) required) (defaults_of names (map (default_seen names) ds)) (row_of_nodes names us) e))
  within_method node ds us (inr (x, required, e)) =
      along node (n.SDef x required ds us) _ _ e (told_as (n.SDef x required ds us) _ _ _ (λ names. k.sdef_told names x required ds us) (let b = k.sdef_bound x required ds us in omega (arith, b)) (λ names e. w.within_sdef (test_seen check) place (method_seen names x) (map (name_seen names) required) (defaults_of names (map (default_seen names) ds)) (row_of_nodes names us) e))

  -- ---- what stands beside nodes

  pub nodes_none : (names : List Text) → spec.in_row check place names [] ≡ false
  unfolding some_tree some_part some_rescue some_default
  nodes_none names = refl

  pub nodes_more : (m : Node) (ms : List Node) (names : List Text) →
      spec.in_row check place names (m ∷ ms) ≡ (spec.in_node check place names m || spec.in_row check place names ms)
  unfolding some_tree some_part some_rescue some_default
  nodes_more m ms names = refl

  abbrev pub nodes : Rows Node
  nodes = record {
    item = λ m names. spec.in_node check place names m;
    row = λ ms names. spec.in_row check place names ms;
    bound = bound_of;
    total = all_names;
    none = nodes_none;
    more = nodes_more;
    totals = λ m ms. refl;
  }

  pub parts_more : (m : Part Node) (ms : List (Part Node)) (names : List Text) →
      spec.in_parts check place names (m ∷ ms) ≡ (spec.in_part check place names m || spec.in_parts check place names ms)
  unfolding some_part
  parts_more (p.Text text) ms names = refl
  parts_more (p.Program us) ms names = refl

  pub parts_none : (names : List Text) → spec.in_parts check place names [] ≡ false
  unfolding some_tree some_part some_rescue some_default
  parts_none names = refl

  abbrev pub parts : Rows (Part Node)
  parts = record {
    item = λ m names. spec.in_part check place names m;
    row = λ ms names. spec.in_parts check place names ms;
    bound = part_names;
    total = greatest part_names;
    none = parts_none;
    more = parts_more;
    totals = λ m ms. refl;
  }

  pub rescues_none : (names : List Text) → spec.in_rescues check place names [] ≡ false
  unfolding some_tree some_part some_rescue some_default
  rescues_none names = refl

  pub rescues_more : (m : Rescue Node) (ms : List (Rescue Node)) (names : List Text) →
      spec.in_rescues check place names (m ∷ ms) ≡ (spec.in_rescue check place names m || spec.in_rescues check place names ms)
  unfolding some_tree some_part some_rescue some_default
  rescues_more m ms names = refl

  abbrev pub rescues : Rows (Rescue Node)
  rescues = record {
    item = λ m names. spec.in_rescue check place names m;
    row = λ ms names. spec.in_rescues check place names ms;
    bound = rescue_names;
    total = greatest rescue_names;
    none = rescues_none;
    more = rescues_more;
    totals = λ m ms. refl;
  }

  pub defaults_none : (names : List Text) → spec.in_defaults check place names [] ≡ false
  unfolding some_tree some_part some_rescue some_default
  defaults_none names = refl

  pub defaults_more : (m : Default Node) (ms : List (Default Node)) (names : List Text) →
      spec.in_defaults check place names (m ∷ ms) ≡ (spec.in_default check place names m || spec.in_defaults check place names ms)
  unfolding some_tree some_part some_rescue some_default
  defaults_more m ms names = refl

  abbrev pub defaults : Rows (Default Node)
  defaults = record {
    item = λ m names. spec.in_default check place names m;
    row = λ ms names. spec.in_defaults check place names ms;
    bound = default_names;
    total = greatest default_names;
    none = defaults_none;
    more = defaults_more;
    totals = λ m ms. refl;
  }

  pub at_default : (m : Default Node) (v : Bool) → Finds (λ names. spec.in_node check place names m.value) (bound_of m.value) v
      → Finds (λ names. spec.in_default check place names m) (default_names m) v
  at_default m v found = λ names distinct within. found names distinct (omega (arith, within))

  pub node_itself : (node : Node) (v : Bool) → Finds (λ names. spec.is_broken check place names node) (bound_of node) v → v ≡ true
      → Finds (λ names. spec.in_node check place names node) (bound_of node) true
  node_itself node v found e = λ names distinct within.
      sym (w.node_itself (test_seen check) place (tree_seen names node) (sym (found names distinct within) ∙ e))

  pub in_arm : (node other : Node) (bound : ℕ) (f : Finder) (v : Bool) → node ≡ other → Within other bound f → Finds f bound v → Given node v
  in_arm node other bound f v e within = finds_within node bound f v (along node other bound f e within)

  pub whole_arm : (node other : Node) (bound : ℕ) (f : Finder) (r : Result Bool AllocError) → node ≡ other → Within other bound f → Tells f bound r
      → TellsWithin (λ names. spec.is_broken check place names node) (λ names. spec.in_node check place names node) (bound_of node) r
  whole_arm node other bound f r e within = tells_within node bound f r (along node other bound f e within)

  -- ---- what may be absent

  pub option_told : (o : Option Node) (m : Node) (r : Result Bool AllocError) → o ≡ Some m
      → Tells (λ names. spec.in_node check place names m) (bound_of m) r → Tells (λ names. spec.in_option check place names o) (if_any bound_of o) r
  unfolding some_perhaps
  option_told o m r e = subst (λ q. Tells (λ names. spec.in_option check place names q) (if_any bound_of q) r) (sym e)

  pub option_none : (o : Option Node) → o ≡ None → Finds (λ names. spec.in_option check place names o) (if_any bound_of o) false
  unfolding some_perhaps
  option_none o e = λ names distinct within. sym (ap (spec.in_option check place names) e)

  pub branch_told : (o : Option (List Node)) (us : List Node) (r : Result Bool AllocError) → o ≡ Some us
      → Tells (λ names. spec.in_row check place names us) (all_names us) r → Tells (λ names. spec.in_branch check place names o) (if_any all_names o) r
  unfolding some_branch
  branch_told o us r e = subst (λ q. Tells (λ names. spec.in_branch check place names q) (if_any all_names q) r) (sym e)

  pub branch_none : (o : Option (List Node)) → o ≡ None → Finds (λ names. spec.in_branch check place names o) (if_any all_names o) false
  unfolding some_branch
  branch_none o e = λ names distinct within. sym (ap (spec.in_branch check place names) e)

  pub base_told : (base : Base Node) (m : Node) (r : Result Bool AllocError) → base ≡ b.Within m
      → Tells (λ names. spec.in_node check place names m) (bound_of m) r → Tells (λ names. spec.in_base check place names base) (base_names base) r
  unfolding some_base
  base_told base m r e = subst (λ q. Tells (λ names. spec.in_base check place names q) (base_names q) r) (sym e)

  pub base_none : (base : Base Node) → (base ≡ b.Innermost) ⊎ (base ≡ b.Topmost)
      → Finds (λ names. spec.in_base check place names base) (base_names base) false
  unfolding some_base
  base_none base (inl e) = λ names distinct within. sym (ap (spec.in_base check place names) e)
  base_none base (inr e) = λ names distinct within. sym (ap (spec.in_base check place names) e)

-- ---- the same parts, at the same place, as the code has them

module _ (check : Check) (p q : d.Place) where
  pub at_node : (m k : Node) (v : Bool) → p ≡ q → m ≡ k → Finds (λ names. spec.in_node check p names m) (bound_of m) v
      → Finds (λ names. spec.in_node check q names k) (bound_of k) v
  at_node m k v e f found =
      subst (λ j. Finds (λ names. spec.in_node check q names j) (bound_of j) v) f (subst (λ x. Finds (λ names. spec.in_node check x names m) (bound_of m) v) e found)

  pub at_row : (ms ks : List Node) (v : Bool) → p ≡ q → ms ≡ ks → Finds (λ names. spec.in_row check p names ms) (all_names ms) v
      → Finds (λ names. spec.in_row check q names ks) (all_names ks) v
  at_row ms ks v e f found =
      subst (λ js. Finds (λ names. spec.in_row check q names js) (all_names js) v) f (subst (λ x. Finds (λ names. spec.in_row check x names ms) (all_names ms) v) e found)

  pub at_rescues : (ms ks : List (Rescue Node)) (v : Bool) → p ≡ q → ms ≡ ks
      → Finds (λ names. spec.in_rescues check p names ms) (greatest rescue_names ms) v
      → Finds (λ names. spec.in_rescues check q names ks) (greatest rescue_names ks) v
  at_rescues ms ks v e f found =
      subst (λ js. Finds (λ names. spec.in_rescues check q names js) (greatest rescue_names js) v) f
      (subst (λ x. Finds (λ names. spec.in_rescues check x names ms) (greatest rescue_names ms) v) e found)

  pub at_defaults : (ms ks : List (Default Node)) (v : Bool) → p ≡ q → ms ≡ ks
      → Finds (λ names. spec.in_defaults check p names ms) (greatest default_names ms) v
      → Finds (λ names. spec.in_defaults check q names ks) (greatest default_names ks) v
  at_defaults ms ks v e f found =
      subst (λ js. Finds (λ names. spec.in_defaults check q names js) (greatest default_names js) v) f
      (subst (λ x. Finds (λ names. spec.in_defaults check x names ms) (greatest default_names ms) v) e found)

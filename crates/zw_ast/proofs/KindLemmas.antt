-- What each kind of node stands for, where its parts are no nodes and rows of nodes alone.
use Rattle.std.proofs.Common.{◌≡◌, List, [], ◌∷◌, subst, ap, sym, ◌∙◌, refl}
use Rattle.std.specs.Prelude.{ℕ, max, map, Option, Some, None, Result}
use Rattle.std.specs.Option.{option_map}
use Rattle.zw_def.specs.Text.{Text}
use Rattle.zw_def_syntax.specs.Tree as t
use Rattle.zw_def_syntax.specs.Tree.{Tree}
use Rattle.zw_names.specs.declared.names.Name.{Name}
use Rattle.zw_ast.specs.declared.node.Node.{Node, fold-roll-Node}
use Rattle.zw_ast.specs.declared.node.Node.TheOpen.{Node-F}
use Rattle.zw_ast.specs.declared.node.Node.TheVariants as n
use Rattle.zw_ast.specs.declared.node.Part.{Part}
use Rattle.zw_ast.specs.declared.node.Rescue.{Rescue}
use Rattle.zw_ast.specs.declared.node.Default.{Default}
use Rattle.zw_ast.specs.declared.node.Base.{Base}
use Rattle.zw_ast.specs.declared.node.MethodName.{MethodName}
use Rattle.zw_ast.specs.declared.node.Node.TheShapes.{former-Node-Interp-0-at-3}
use Rattle.zw_ast.specs.declared.node.Part.TheVariants as p
use Rattle.zw_ast.specs.declared.node.Base.TheVariants as b
use Rattle.zw_base.specs.declared.fault.Fault.{Fault}
use Rattle.zw_ast.specs.declared.grown.Grown.{Grown}
use Rattle.zw_ast.specs.declared.grown.Malformed.{Malformed}
use Rattle.zw_ast.specs.Gives.{Gives}
use Rattle.zw_ast.specs.Grown.{grown_seen}
use Rattle.zw_ast.specs.Named.{bound_of, bound_step, after, after_method, greatest, if_any, all, part_bound, part_names, rescue_names, default_names, base_names, all_names}
use Rattle.zw_ast.specs.Node.{tree_seen, tree_step, name_seen, method_seen, perhaps_of, branch_of, parts_of, part_seen, rescues_of, rescue_seen, defaults_of, default_seen, base_seen, row_of_nodes}

-- two maps that agree on each item
pub maps_alike : {A B : Type 0} (f g : A → B) → ((a : A) → f a ≡ g a) → (xs : List A) → map f xs ≡ map g xs
maps_alike f g same [] = refl
maps_alike f g same (x ∷ xs) = ap (λ y. y ∷ map f xs) (same x) ∙ ap (λ ys. g x ∷ ys) (maps_alike f g same xs)

pub greatest_alike : {A B : Type 0} (h : A → B) (f : B → ℕ) (g : A → ℕ) → ((a : A) → f (h a) ≡ g a) → (xs : List A)
    → greatest f (map h xs) ≡ greatest g xs
greatest_alike h f g same [] = refl
greatest_alike h f g same (x ∷ xs) =
    ap (λ n. max n (greatest f (map h xs))) (same x) ∙ ap (λ n. max (g x) n) (greatest_alike h f g same xs)

module _ (names : List Text) where
  pub return_told : (o : Option Node) →
      tree_seen names (n.Return o) ≡ t.return_node (perhaps_of (option_map (tree_seen names) o))
  return_told None = ap (tree_seen names) (sym (n.rolls-Return None)) ∙ fold-roll-Node Tree (tree_step names) (Node-F.Return None)
  return_told (Some m) =
      ap (tree_seen names) (sym (n.rolls-Return (Some m))) ∙ fold-roll-Node Tree (tree_step names) (Node-F.Return (Some m))

  pub interp_told : (ps : List (Part Node)) →
      tree_seen names (n.Interp ps) ≡ t.interp_node (parts_of (map (part_seen names) ps))
  interp_told ps =
      ap (tree_seen names) (sym (n.rolls-Interp ps)) ∙ fold-roll-Node Tree (tree_step names) (Node-F.Interp ps)
      ∙ ap (λ qs. t.interp_node (parts_of qs)) (maps_alike _ (part_seen names) same ps)
    where
      same : (p : Part Node) → former-Node-Interp-0-at-3.map Node Tree (tree_seen names) p ≡ part_seen names p
      same (p.Text text) = refl
      same (p.Program ns) = refl

  pub begin_told : (us : List Node) (rs : List (Rescue Node)) (o e : Option (List Node)) →
      tree_seen names (n.Begin us rs o e)
      ≡ t.begin_node (row_of_nodes names us) (rescues_of names (map (rescue_seen names) rs))
      (branch_of (option_map (map (tree_seen names)) o)) (branch_of (option_map (map (tree_seen names)) e))
  begin_told us rs None None =
      ap (tree_seen names) (sym (n.rolls-Begin us rs None None)) ∙ fold-roll-Node Tree (tree_step names) (Node-F.Begin us rs None None)
  begin_told us rs None (Some es) =
      ap (tree_seen names) (sym (n.rolls-Begin us rs None (Some es))) ∙ fold-roll-Node Tree (tree_step names) (Node-F.Begin us rs None (Some es))
  begin_told us rs (Some os) None =
      ap (tree_seen names) (sym (n.rolls-Begin us rs (Some os) None)) ∙ fold-roll-Node Tree (tree_step names) (Node-F.Begin us rs (Some os) None)
  begin_told us rs (Some os) (Some es) =
      ap (tree_seen names) (sym (n.rolls-Begin us rs (Some os) (Some es))) ∙ fold-roll-Node Tree (tree_step names) (Node-F.Begin us rs (Some os) (Some es))

  pub def_told : (x : MethodName) (required : List Name) (ds : List (Default Node)) (us : List Node) →
      tree_seen names (n.Def x required ds us)
      ≡ t.def_node (method_seen names x) (map (name_seen names) required)
      (defaults_of names (map (default_seen names) ds)) (row_of_nodes names us)
  def_told x required ds us =
      ap (tree_seen names) (sym (n.rolls-Def x required ds us))
      ∙ fold-roll-Node Tree (tree_step names) (Node-F.Def x required ds us)

  pub sdef_told : (x : MethodName) (required : List Name) (ds : List (Default Node)) (us : List Node) →
      tree_seen names (n.SDef x required ds us)
      ≡ t.sdef_node (method_seen names x) (map (name_seen names) required)
      (defaults_of names (map (default_seen names) ds)) (row_of_nodes names us)
  sdef_told x required ds us =
      ap (tree_seen names) (sym (n.rolls-SDef x required ds us))
      ∙ fold-roll-Node Tree (tree_step names) (Node-F.SDef x required ds us)

  pub class_told : (base : Base Node) (x : Name) (o : Option Node) (us : List Node) →
      tree_seen names (n.Class base x o us)
      ≡ t.class_node (base_seen names base) (name_seen names x) (perhaps_of (option_map (tree_seen names) o))
      (row_of_nodes names us)
  class_told b.Innermost x None us =
      ap (tree_seen names) (sym (n.rolls-Class b.Innermost x None us)) ∙ fold-roll-Node Tree (tree_step names) (Node-F.Class b.Innermost x None us)
  class_told b.Innermost x (Some above) us =
      ap (tree_seen names) (sym (n.rolls-Class b.Innermost x (Some above) us)) ∙ fold-roll-Node Tree (tree_step names) (Node-F.Class b.Innermost x (Some above) us)
  class_told b.Topmost x None us =
      ap (tree_seen names) (sym (n.rolls-Class b.Topmost x None us)) ∙ fold-roll-Node Tree (tree_step names) (Node-F.Class b.Topmost x None us)
  class_told b.Topmost x (Some above) us =
      ap (tree_seen names) (sym (n.rolls-Class b.Topmost x (Some above) us)) ∙ fold-roll-Node Tree (tree_step names) (Node-F.Class b.Topmost x (Some above) us)
  class_told (b.Within m) x None us =
      ap (tree_seen names) (sym (n.rolls-Class (b.Within m) x None us)) ∙ fold-roll-Node Tree (tree_step names) (Node-F.Class (b.Within m) x None us)
  class_told (b.Within m) x (Some above) us =
      ap (tree_seen names) (sym (n.rolls-Class (b.Within m) x (Some above) us)) ∙ fold-roll-Node Tree (tree_step names) (Node-F.Class (b.Within m) x (Some above) us)

  pub module_told : (base : Base Node) (x : Name) (us : List Node) →
      tree_seen names (n.Module base x us)
      ≡ t.module_node (base_seen names base) (name_seen names x) (row_of_nodes names us)
  module_told b.Innermost x us =
      ap (tree_seen names) (sym (n.rolls-Module b.Innermost x us))
      ∙ fold-roll-Node Tree (tree_step names) (Node-F.Module b.Innermost x us)
  module_told b.Topmost x us =
      ap (tree_seen names) (sym (n.rolls-Module b.Topmost x us))
      ∙ fold-roll-Node Tree (tree_step names) (Node-F.Module b.Topmost x us)
  module_told (b.Within m) x us =
      ap (tree_seen names) (sym (n.rolls-Module (b.Within m) x us))
      ∙ fold-roll-Node Tree (tree_step names) (Node-F.Module (b.Within m) x us)

-- a made node, told otherwise
pub raised_as : (names : List Text) (form : Node) (tree : Tree) (height : ℕ) (result : Result (Grown Node) (Fault Malformed))
    → tree_seen names form ≡ tree
    → Gives (grown_seen names) (t.node (record { form = tree_seen names form; height = height })) result
    → Gives (grown_seen names) (t.node (record { form = tree; height = height })) result
raised_as names form tree height result same =
    subst (λ u. Gives (grown_seen names) (t.node (record { form = u; height = height })) result) same

-- ---- the names of each kind

pub return_bound : (o : Option Node) → bound_of (n.Return o) ≡ if_any bound_of o
return_bound None = ap bound_of (sym (n.rolls-Return None)) ∙ fold-roll-Node ℕ bound_step (Node-F.Return None)
return_bound (Some m) = ap bound_of (sym (n.rolls-Return (Some m))) ∙ fold-roll-Node ℕ bound_step (Node-F.Return (Some m))

pub interp_bound : (ps : List (Part Node)) → bound_of (n.Interp ps) ≡ greatest part_names ps
interp_bound ps =
    ap bound_of (sym (n.rolls-Interp ps)) ∙ fold-roll-Node ℕ bound_step (Node-F.Interp ps) ∙ greatest_alike _ _ _ same ps
  where
    same : (p : Part Node) → part_bound (former-Node-Interp-0-at-3.map Node ℕ bound_of p) ≡ part_names p
    same (p.Text text) = refl
    same (p.Program ns) = refl

pub begin_bound : (us : List Node) (rs : List (Rescue Node)) (o e : Option (List Node)) →
    bound_of (n.Begin us rs o e)
    ≡ max (max (all (map bound_of us)) (greatest rescue_names rs)) (max (if_any all_names o) (if_any all_names e))
begin_bound us rs None None =
    ap bound_of (sym (n.rolls-Begin us rs None None)) ∙ fold-roll-Node ℕ bound_step (Node-F.Begin us rs None None)
    ∙ ap (λ m. max (max (all (map bound_of us)) m) (max (if_any all_names None) (if_any all_names None))) (greatest_alike _ _ _ (λ r. refl) rs)
begin_bound us rs None (Some es) =
    ap bound_of (sym (n.rolls-Begin us rs None (Some es))) ∙ fold-roll-Node ℕ bound_step (Node-F.Begin us rs None (Some es))
    ∙ ap (λ m. max (max (all (map bound_of us)) m) (max (if_any all_names None) (if_any all_names (Some es)))) (greatest_alike _ _ _ (λ r. refl) rs)
begin_bound us rs (Some os) None =
    ap bound_of (sym (n.rolls-Begin us rs (Some os) None)) ∙ fold-roll-Node ℕ bound_step (Node-F.Begin us rs (Some os) None)
    ∙ ap (λ m. max (max (all (map bound_of us)) m) (max (if_any all_names (Some os)) (if_any all_names None))) (greatest_alike _ _ _ (λ r. refl) rs)
begin_bound us rs (Some os) (Some es) =
    ap bound_of (sym (n.rolls-Begin us rs (Some os) (Some es))) ∙ fold-roll-Node ℕ bound_step (Node-F.Begin us rs (Some os) (Some es))
    ∙ ap (λ m. max (max (all (map bound_of us)) m) (max (if_any all_names (Some os)) (if_any all_names (Some es)))) (greatest_alike _ _ _ (λ r. refl) rs)

pub def_bound : (x : MethodName) (required : List Name) (ds : List (Default Node)) (us : List Node) →
    bound_of (n.Def x required ds us)
    ≡ max (max (after_method x) (greatest after required)) (max (greatest default_names ds) (all (map bound_of us)))
def_bound x required ds us =
    ap bound_of (sym (n.rolls-Def x required ds us)) ∙ fold-roll-Node ℕ bound_step (Node-F.Def x required ds us)
    ∙ ap (λ m. max (max (after_method x) (greatest after required)) (max m (all (map bound_of us)))) (greatest_alike _ _ _ (λ d. refl) ds)

pub sdef_bound : (x : MethodName) (required : List Name) (ds : List (Default Node)) (us : List Node) →
    bound_of (n.SDef x required ds us)
    ≡ max (max (after_method x) (greatest after required)) (max (greatest default_names ds) (all (map bound_of us)))
sdef_bound x required ds us =
    ap bound_of (sym (n.rolls-SDef x required ds us)) ∙ fold-roll-Node ℕ bound_step (Node-F.SDef x required ds us)
    ∙ ap (λ m. max (max (after_method x) (greatest after required)) (max m (all (map bound_of us)))) (greatest_alike _ _ _ (λ d. refl) ds)

pub class_bound : (base : Base Node) (x : Name) (o : Option Node) (us : List Node) →
    bound_of (n.Class base x o us)
    ≡ max (max (base_names base) (after x)) (max (if_any bound_of o) (all (map bound_of us)))
class_bound b.Innermost x None us =
    ap bound_of (sym (n.rolls-Class b.Innermost x None us)) ∙ fold-roll-Node ℕ bound_step (Node-F.Class b.Innermost x None us)
class_bound b.Innermost x (Some above) us =
    ap bound_of (sym (n.rolls-Class b.Innermost x (Some above) us)) ∙ fold-roll-Node ℕ bound_step (Node-F.Class b.Innermost x (Some above) us)
class_bound b.Topmost x None us =
    ap bound_of (sym (n.rolls-Class b.Topmost x None us)) ∙ fold-roll-Node ℕ bound_step (Node-F.Class b.Topmost x None us)
class_bound b.Topmost x (Some above) us =
    ap bound_of (sym (n.rolls-Class b.Topmost x (Some above) us)) ∙ fold-roll-Node ℕ bound_step (Node-F.Class b.Topmost x (Some above) us)
class_bound (b.Within m) x None us =
    ap bound_of (sym (n.rolls-Class (b.Within m) x None us)) ∙ fold-roll-Node ℕ bound_step (Node-F.Class (b.Within m) x None us)
class_bound (b.Within m) x (Some above) us =
    ap bound_of (sym (n.rolls-Class (b.Within m) x (Some above) us)) ∙ fold-roll-Node ℕ bound_step (Node-F.Class (b.Within m) x (Some above) us)

pub module_bound : (base : Base Node) (x : Name) (us : List Node) →
    bound_of (n.Module base x us) ≡ max (max (base_names base) (after x)) (all (map bound_of us))
module_bound b.Innermost x us =
    ap bound_of (sym (n.rolls-Module b.Innermost x us)) ∙ fold-roll-Node ℕ bound_step (Node-F.Module b.Innermost x us)
module_bound b.Topmost x us =
    ap bound_of (sym (n.rolls-Module b.Topmost x us)) ∙ fold-roll-Node ℕ bound_step (Node-F.Module b.Topmost x us)
module_bound (b.Within m) x us =
    ap bound_of (sym (n.rolls-Module (b.Within m) x us)) ∙ fold-roll-Node ℕ bound_step (Node-F.Module (b.Within m) x us)

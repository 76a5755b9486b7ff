-- Programs are told alike while names are added.
use Rattle.std.proofs.Common.{◌≡◌, ℕ, ◌≤◌, List, [], ◌∷◌, ◌++◌, codes, Option, Some, None, length, map, option_map, string_bytes, refl, ap, sym, ◌∙◌, arith, subst}
use Rattle.zw_def.specs.Text.{Text}
use Rattle.zw_def.specs.Names.{OnlyGrows}
use Rattle.zw_def.proofs.NameLemmas.{text_grown}
use Rattle.zw_def_syntax.specs.Tree as t
use Rattle.zw_names.specs.declared.names.Name.{Name}
use Rattle.zw_ast.specs.declared.node.Node.{Node, roll-Node}
use Rattle.zw_ast.specs.declared.node.Node.TheFolds.{ind-Node, map-Node}
use Rattle.zw_ast.specs.declared.node.Node.TheOpen.{Node-F}
use Rattle.zw_ast.specs.declared.node.Node.TheShapes.{former-Node-Interp-0-at-3}
use Rattle.zw_ast.specs.declared.node.Node.TheVariants as n
use Rattle.zw_ast.specs.declared.node.Part.{Part}
use Rattle.zw_ast.specs.declared.node.Part.TheVariants as p
use Rattle.zw_ast.specs.declared.node.Base.TheVariants as b
use Rattle.zw_ast.specs.declared.node.Rescue.{Rescue}
use Rattle.zw_ast.specs.declared.node.Default.{Default}
use Rattle.zw_ast.specs.declared.node.MethodName.{MethodName}
use Rattle.zw_ast.specs.declared.node.MethodName.TheVariants as m
use Rattle.zw_ast.specs.Named.{bound_of, after, after_method, greatest, if_any, all_names, part_names, rescue_names, default_names}
use Rattle.zw_ast.specs.Node.{tree_seen, name_seen, method_seen, order_seen, row_of_nodes, parts_of, part_seen, rescues_of, rescue_seen, defaults_of, default_seen}
use Rattle.zw_kinds.proofs.KindLemmas as kind

-- the node's bound, by its kind
bounded : {a b c : ℕ} → a ≡ b → a ≤ c → b ≤ c
bounded is h = omega (arith, is, h)

module _ (old new : List Text) (grows : OnlyGrows old new) where
  abbrev IsKept : Node → Type 0
  IsKept n = bound_of n ≤ length old → tree_seen new n ≡ tree_seen old n

  abbrev Kept : Type 0
  Kept = (n : Node) × IsKept n

  abbrev node : Kept → Node
  node u = u.0

  -- ---- names

  name_kept : (x : Name) → after x ≤ length old → name_seen new x ≡ name_seen old x
  name_kept x h = text_grown old new x.0 grows (omega (arith, h))

  pub names_kept : (xs : List Name) → greatest after xs ≤ length old → map (name_seen new) xs ≡ map (name_seen old) xs
  names_kept [] h = refl
  names_kept (x ∷ xs) h = λ i. name_kept x (omega (arith, h)) i ∷ names_kept xs (omega (arith, h)) i

  variable_kept : (o : Option Name) → if_any after o ≤ length old → option_map (name_seen new) o ≡ option_map (name_seen old) o
  variable_kept None h = refl
  variable_kept (Some x) h = ap Some (name_kept x h)

  method_kept : (x : MethodName) → after_method x ≤ length old → method_seen new x ≡ method_seen old x
  method_kept (m.Named x) h = name_kept x h
  method_kept (m.Setter x) h = ap (λ text. text ++ codes "=") (name_kept x h)

  -- ---- rows

  row_kept : (us : List Kept) → all_names (map node us) ≤ length old → row_of_nodes new (map node us) ≡ row_of_nodes old (map node us)
  row_kept [] h = refl
  row_kept (u ∷ us) h = λ i. t.tree_then (u.1 (omega (arith, h)) i) (row_kept us (omega (arith, h)) i)

  abbrev part_node : Part Kept → Part Node
  part_node (p.Text text) = p.Text text
  part_node (p.Program us) = p.Program (map node us)

  parts_kept : (ps : List (Part Kept)) → greatest part_names (map part_node ps) ≤ length old
      → parts_of (map (part_seen new) (map part_node ps)) ≡ parts_of (map (part_seen old) (map part_node ps))
  parts_kept [] h = refl
  parts_kept (p.Text text ∷ ps) h = ap (t.text_then (string_bytes text)) (parts_kept ps (omega (arith, h)))
  parts_kept (p.Program us ∷ ps) h = λ i. t.program_then (row_kept us (omega (arith, h)) i) (parts_kept ps (omega (arith, h)) i)

  parts_alike : (ps : List (Part Kept)) → map (former-Node-Interp-0-at-3.map Kept Node node) ps ≡ map part_node ps
  parts_alike ps = kind.maps_alike _ part_node same ps
    where
      same : (q : Part Kept) → former-Node-Interp-0-at-3.map Kept Node node q ≡ part_node q
      same (p.Text text) = refl
      same (p.Program us) = refl

  abbrev rescue_node : Rescue Kept → Rescue Node
  rescue_node r = record { paths = map node r.paths; variable = r.variable; body = map node r.body }

  rescues_kept : (rs : List (Rescue Kept)) → greatest rescue_names (map rescue_node rs) ≤ length old
      → rescues_of new (map (rescue_seen new) (map rescue_node rs)) ≡ rescues_of old (map (rescue_seen old) (map rescue_node rs))
  rescues_kept [] h = refl
  rescues_kept (r ∷ rs) h =
      λ i. t.rescue_then (row_kept r.paths (omega (arith, h)) i) (variable_kept r.variable (omega (arith, h)) i) (row_kept r.body (omega (arith, h)) i) (rescues_kept rs (omega (arith, h)) i)

  abbrev default_node : Default Kept → Default Node
  default_node d = record { name = d.name; value = d.value.0 }

  defaults_kept : (ds : List (Default Kept)) → greatest default_names (map default_node ds) ≤ length old
      → defaults_of new (map (default_seen new) (map default_node ds)) ≡ defaults_of old (map (default_seen old) (map default_node ds))
  defaults_kept [] h = refl
  defaults_kept (d ∷ ds) h =
      λ i. t.default_then (name_kept d.name (omega (arith, h)) i) (d.value.1 (omega (arith, h)) i) (defaults_kept ds (omega (arith, h)) i)

  -- ---- nodes, by their kinds

  by : (y : Node-F Kept) → IsKept (roll-Node (map-Node Kept Node node y))
  by Node-F.Nil = subst IsKept (sym n.rolls-Nil) (λ le. kind.nil_told new ∙ sym (kind.nil_told old))
  by Node-F.True = subst IsKept (sym n.rolls-True) (λ le. kind.true_told new ∙ sym (kind.true_told old))
  by Node-F.False = subst IsKept (sym n.rolls-False) (λ le. kind.false_told new ∙ sym (kind.false_told old))
  by Node-F.SelfNode = subst IsKept (sym n.rolls-SelfNode) (λ le. kind.self_told new ∙ sym (kind.self_told old))
  by (Node-F.Sym x) = subst IsKept (sym (n.rolls-Sym x)) (λ le. let h = bounded (kind.sym_bound x) le in kind.sym_told new x ∙ (λ i. t.sym_node (name_kept x (omega (arith, h)) i)) ∙ sym (kind.sym_told old x))
  by (Node-F.Interp ps) =
      subst (λ qs. IsKept (roll-Node (Node-F.Interp qs))) (sym (parts_alike ps))
      (subst IsKept (sym (n.rolls-Interp (map part_node ps))) (λ le. let h = bounded (kind.interp_bound (map part_node ps)) le in kind.interp_told new (map part_node ps) ∙ (λ i. t.interp_node (parts_kept ps (omega (arith, h)) i)) ∙ sym (kind.interp_told old (map part_node ps))))
  by (Node-F.Array us) = subst IsKept (sym (n.rolls-Array (map node us))) (λ le. let h = bounded (kind.array_bound (map node us)) le in kind.array_told new (map node us) ∙ (λ i. t.array_node (row_kept us (omega (arith, h)) i)) ∙ sym (kind.array_told old (map node us)))
  by (Node-F.Local x) = subst IsKept (sym (n.rolls-Local x)) (λ le. let h = bounded (kind.local_bound x) le in kind.local_told new x ∙ (λ i. t.local_node (name_kept x (omega (arith, h)) i)) ∙ sym (kind.local_told old x))
  by (Node-F.Ident x) = subst IsKept (sym (n.rolls-Ident x)) (λ le. let h = bounded (kind.ident_bound x) le in kind.ident_told new x ∙ (λ i. t.ident_node (name_kept x (omega (arith, h)) i)) ∙ sym (kind.ident_told old x))
  by (Node-F.InstanceVariable x) = subst IsKept (sym (n.rolls-InstanceVariable x)) (λ le. let h = bounded (kind.ivar_bound x) le in kind.ivar_told new x ∙ (λ i. t.ivar_node (name_kept x (omega (arith, h)) i)) ∙ sym (kind.ivar_told old x))
  by (Node-F.ClassVariable x) = subst IsKept (sym (n.rolls-ClassVariable x)) (λ le. let h = bounded (kind.cvar_bound x) le in kind.cvar_told new x ∙ (λ i. t.cvar_node (name_kept x (omega (arith, h)) i)) ∙ sym (kind.cvar_told old x))
  by (Node-F.Const x) = subst IsKept (sym (n.rolls-Const x)) (λ le. let h = bounded (kind.const_bound x) le in kind.const_told new x ∙ (λ i. t.const_node (name_kept x (omega (arith, h)) i)) ∙ sym (kind.const_told old x))
  by (Node-F.Scoped u x) = subst IsKept (sym (n.rolls-Scoped u.0 x)) (λ le. let h = bounded (kind.scoped_bound u.0 x) le in kind.scoped_told new u.0 x ∙ (λ i. t.scoped_node (u.1 (omega (arith, h)) i) (name_kept x (omega (arith, h)) i)) ∙ sym (kind.scoped_told old u.0 x))
  by (Node-F.TopConst x) = subst IsKept (sym (n.rolls-TopConst x)) (λ le. let h = bounded (kind.top_const_bound x) le in kind.top_const_told new x ∙ (λ i. t.top_const_node (name_kept x (omega (arith, h)) i)) ∙ sym (kind.top_const_told old x))
  by (Node-F.SetLocal x u) = subst IsKept (sym (n.rolls-SetLocal x u.0)) (λ le. let h = bounded (kind.set_local_bound x u.0) le in kind.set_local_told new x u.0 ∙ (λ i. t.set_local (name_kept x (omega (arith, h)) i) (u.1 (omega (arith, h)) i)) ∙ sym (kind.set_local_told old x u.0))
  by (Node-F.SetInstanceVariable x u) = subst IsKept (sym (n.rolls-SetInstanceVariable x u.0)) (λ le. let h = bounded (kind.set_ivar_bound x u.0) le in kind.set_ivar_told new x u.0 ∙ (λ i. t.set_ivar (name_kept x (omega (arith, h)) i) (u.1 (omega (arith, h)) i)) ∙ sym (kind.set_ivar_told old x u.0))
  by (Node-F.SetClassVariable x u) = subst IsKept (sym (n.rolls-SetClassVariable x u.0)) (λ le. let h = bounded (kind.set_cvar_bound x u.0) le in kind.set_cvar_told new x u.0 ∙ (λ i. t.set_cvar (name_kept x (omega (arith, h)) i) (u.1 (omega (arith, h)) i)) ∙ sym (kind.set_cvar_told old x u.0))
  by (Node-F.SetConst x u) = subst IsKept (sym (n.rolls-SetConst x u.0)) (λ le. let h = bounded (kind.set_const_bound x u.0) le in kind.set_const_told new x u.0 ∙ (λ i. t.set_const (name_kept x (omega (arith, h)) i) (u.1 (omega (arith, h)) i)) ∙ sym (kind.set_const_told old x u.0))
  by (Node-F.SetScoped u x v) = subst IsKept (sym (n.rolls-SetScoped u.0 x v.0)) (λ le. let h = bounded (kind.set_scoped_bound u.0 x v.0) le in kind.set_scoped_told new u.0 x v.0 ∙ (λ i. t.set_scoped (u.1 (omega (arith, h)) i) (name_kept x (omega (arith, h)) i) (v.1 (omega (arith, h)) i)) ∙ sym (kind.set_scoped_told old u.0 x v.0))
  by (Node-F.SetAttribute u x v) = subst IsKept (sym (n.rolls-SetAttribute u.0 x v.0)) (λ le. let h = bounded (kind.set_attr_bound u.0 x v.0) le in kind.set_attr_told new u.0 x v.0 ∙ (λ i. t.set_attr (u.1 (omega (arith, h)) i) (name_kept x (omega (arith, h)) i) (v.1 (omega (arith, h)) i)) ∙ sym (kind.set_attr_told old u.0 x v.0))
  by (Node-F.Call u x us) = subst IsKept (sym (n.rolls-Call u.0 x (map node us))) (λ le. let h = bounded (kind.call_bound u.0 x (map node us)) le in kind.call_told new u.0 x (map node us) ∙ (λ i. t.call_node (u.1 (omega (arith, h)) i) (name_kept x (omega (arith, h)) i) (row_kept us (omega (arith, h)) i)) ∙ sym (kind.call_told old u.0 x (map node us)))
  by (Node-F.SelfCall x us) = subst IsKept (sym (n.rolls-SelfCall x (map node us))) (λ le. let h = bounded (kind.self_call_bound x (map node us)) le in kind.self_call_told new x (map node us) ∙ (λ i. t.self_call (name_kept x (omega (arith, h)) i) (row_kept us (omega (arith, h)) i)) ∙ sym (kind.self_call_told old x (map node us)))
  by (Node-F.Super us) = subst IsKept (sym (n.rolls-Super (map node us))) (λ le. let h = bounded (kind.super_bound (map node us)) le in kind.super_told new (map node us) ∙ (λ i. t.super_node (row_kept us (omega (arith, h)) i)) ∙ sym (kind.super_told old (map node us)))
  by Node-F.ZSuper = subst IsKept (sym n.rolls-ZSuper) (λ le. kind.zsuper_told new ∙ sym (kind.zsuper_told old))
  by (Node-F.Not u) = subst IsKept (sym (n.rolls-Not u.0)) (λ le. let h = bounded (kind.not_bound u.0) le in kind.not_told new u.0 ∙ (λ i. t.not_node (u.1 (omega (arith, h)) i)) ∙ sym (kind.not_told old u.0))
  by (Node-F.And u v) = subst IsKept (sym (n.rolls-And u.0 v.0)) (λ le. let h = bounded (kind.and_bound u.0 v.0) le in kind.and_told new u.0 v.0 ∙ (λ i. t.and_node (u.1 (omega (arith, h)) i) (v.1 (omega (arith, h)) i)) ∙ sym (kind.and_told old u.0 v.0))
  by (Node-F.Or u v) = subst IsKept (sym (n.rolls-Or u.0 v.0)) (λ le. let h = bounded (kind.or_bound u.0 v.0) le in kind.or_told new u.0 v.0 ∙ (λ i. t.or_node (u.1 (omega (arith, h)) i) (v.1 (omega (arith, h)) i)) ∙ sym (kind.or_told old u.0 v.0))
  by (Node-F.If order u us vs) = subst IsKept (sym (n.rolls-If order u.0 (map node us) (map node vs))) (λ le. let h = bounded (kind.if_bound order u.0 (map node us) (map node vs)) le in kind.if_told new order u.0 (map node us) (map node vs) ∙ (λ i. t.if_node (order_seen order) (u.1 (omega (arith, h)) i) (row_kept us (omega (arith, h)) i) (row_kept vs (omega (arith, h)) i)) ∙ sym (kind.if_told old order u.0 (map node us) (map node vs)))
  by (Node-F.While order u us) = subst IsKept (sym (n.rolls-While order u.0 (map node us))) (λ le. let h = bounded (kind.while_bound order u.0 (map node us)) le in kind.while_told new order u.0 (map node us) ∙ (λ i. t.while_node (order_seen order) (u.1 (omega (arith, h)) i) (row_kept us (omega (arith, h)) i)) ∙ sym (kind.while_told old order u.0 (map node us)))
  by Node-F.Break = subst IsKept (sym n.rolls-Break) (λ le. kind.break_told new ∙ sym (kind.break_told old))
  by Node-F.Next = subst IsKept (sym n.rolls-Next) (λ le. kind.next_told new ∙ sym (kind.next_told old))
  by (Node-F.Seq us) = subst IsKept (sym (n.rolls-Seq (map node us))) (λ le. let h = bounded (kind.seq_bound (map node us)) le in kind.seq_told new (map node us) ∙ (λ i. t.seq_node (row_kept us (omega (arith, h)) i)) ∙ sym (kind.seq_told old (map node us)))
  by (Node-F.Def x required ds us) = subst IsKept (sym (n.rolls-Def x required (map default_node ds) (map node us))) (λ le. let h = bounded (kind.def_bound x required (map default_node ds) (map node us)) le in kind.def_told new x required (map default_node ds) (map node us) ∙ (λ i. t.def_node (method_kept x (omega (arith, h)) i) (names_kept required (omega (arith, h)) i) (defaults_kept ds (omega (arith, h)) i) (row_kept us (omega (arith, h)) i)) ∙ sym (kind.def_told old x required (map default_node ds) (map node us)))
  by (Node-F.SDef x required ds us) = subst IsKept (sym (n.rolls-SDef x required (map default_node ds) (map node us))) (λ le. let h = bounded (kind.sdef_bound x required (map default_node ds) (map node us)) le in kind.sdef_told new x required (map default_node ds) (map node us) ∙ (λ i. t.sdef_node (method_kept x (omega (arith, h)) i) (names_kept required (omega (arith, h)) i) (defaults_kept ds (omega (arith, h)) i) (row_kept us (omega (arith, h)) i)) ∙ sym (kind.sdef_told old x required (map default_node ds) (map node us)))
  by (Node-F.Int i) = subst IsKept (sym (n.rolls-Int i)) (λ le. kind.int_told new i ∙ sym (kind.int_told old i))
  by (Node-F.Str text) = subst IsKept (sym (n.rolls-Str text)) (λ le. kind.str_told new text ∙ sym (kind.str_told old text))
  by (Node-F.Return None) = subst IsKept (sym (n.rolls-Return None)) (λ le. let h = bounded (kind.return_bound None) le in kind.return_told new None ∙ (λ i. t.return_node t.absent) ∙ sym (kind.return_told old None))
  by (Node-F.Return (Some above)) = subst IsKept (sym (n.rolls-Return (Some above.0))) (λ le. let h = bounded (kind.return_bound (Some above.0)) le in kind.return_told new (Some above.0) ∙ (λ i. t.return_node (t.present (above.1 (omega (arith, h)) i))) ∙ sym (kind.return_told old (Some above.0)))
  by (Node-F.Begin us rs None None) = subst IsKept (sym (n.rolls-Begin (map node us) (map rescue_node rs) None None)) (λ le. let h = bounded (kind.begin_bound (map node us) (map rescue_node rs) None None) le in kind.begin_told new (map node us) (map rescue_node rs) None None ∙ (λ i. t.begin_node (row_kept us (omega (arith, h)) i) (rescues_kept rs (omega (arith, h)) i) t.no_branch t.no_branch) ∙ sym (kind.begin_told old (map node us) (map rescue_node rs) None None))
  by (Node-F.Begin us rs None (Some es)) = subst IsKept (sym (n.rolls-Begin (map node us) (map rescue_node rs) None (Some (map node es)))) (λ le. let h = bounded (kind.begin_bound (map node us) (map rescue_node rs) None (Some (map node es))) le in kind.begin_told new (map node us) (map rescue_node rs) None (Some (map node es)) ∙ (λ i. t.begin_node (row_kept us (omega (arith, h)) i) (rescues_kept rs (omega (arith, h)) i) t.no_branch (t.branch (row_kept es (omega (arith, h)) i))) ∙ sym (kind.begin_told old (map node us) (map rescue_node rs) None (Some (map node es))))
  by (Node-F.Begin us rs (Some os) None) = subst IsKept (sym (n.rolls-Begin (map node us) (map rescue_node rs) (Some (map node os)) None)) (λ le. let h = bounded (kind.begin_bound (map node us) (map rescue_node rs) (Some (map node os)) None) le in kind.begin_told new (map node us) (map rescue_node rs) (Some (map node os)) None ∙ (λ i. t.begin_node (row_kept us (omega (arith, h)) i) (rescues_kept rs (omega (arith, h)) i) (t.branch (row_kept os (omega (arith, h)) i)) t.no_branch) ∙ sym (kind.begin_told old (map node us) (map rescue_node rs) (Some (map node os)) None))
  by (Node-F.Begin us rs (Some os) (Some es)) = subst IsKept (sym (n.rolls-Begin (map node us) (map rescue_node rs) (Some (map node os)) (Some (map node es)))) (λ le. let h = bounded (kind.begin_bound (map node us) (map rescue_node rs) (Some (map node os)) (Some (map node es))) le in kind.begin_told new (map node us) (map rescue_node rs) (Some (map node os)) (Some (map node es)) ∙ (λ i. t.begin_node (row_kept us (omega (arith, h)) i) (rescues_kept rs (omega (arith, h)) i) (t.branch (row_kept os (omega (arith, h)) i)) (t.branch (row_kept es (omega (arith, h)) i))) ∙ sym (kind.begin_told old (map node us) (map rescue_node rs) (Some (map node os)) (Some (map node es))))
  by (Node-F.Class b.Innermost x None us) = subst IsKept (sym (n.rolls-Class b.Innermost x None (map node us))) (λ le. let h = bounded (kind.class_bound b.Innermost x None (map node us)) le in kind.class_told new b.Innermost x None (map node us) ∙ (λ i. t.class_node t.innermost (name_kept x (omega (arith, h)) i) t.absent (row_kept us (omega (arith, h)) i)) ∙ sym (kind.class_told old b.Innermost x None (map node us)))
  by (Node-F.Class b.Innermost x (Some above) us) = subst IsKept (sym (n.rolls-Class b.Innermost x (Some above.0) (map node us))) (λ le. let h = bounded (kind.class_bound b.Innermost x (Some above.0) (map node us)) le in kind.class_told new b.Innermost x (Some above.0) (map node us) ∙ (λ i. t.class_node t.innermost (name_kept x (omega (arith, h)) i) (t.present (above.1 (omega (arith, h)) i)) (row_kept us (omega (arith, h)) i)) ∙ sym (kind.class_told old b.Innermost x (Some above.0) (map node us)))
  by (Node-F.Module b.Innermost x us) = subst IsKept (sym (n.rolls-Module b.Innermost x (map node us))) (λ le. let h = bounded (kind.module_bound b.Innermost x (map node us)) le in kind.module_told new b.Innermost x (map node us) ∙ (λ i. t.module_node t.innermost (name_kept x (omega (arith, h)) i) (row_kept us (omega (arith, h)) i)) ∙ sym (kind.module_told old b.Innermost x (map node us)))
  by (Node-F.Class b.Topmost x None us) = subst IsKept (sym (n.rolls-Class b.Topmost x None (map node us))) (λ le. let h = bounded (kind.class_bound b.Topmost x None (map node us)) le in kind.class_told new b.Topmost x None (map node us) ∙ (λ i. t.class_node t.topmost (name_kept x (omega (arith, h)) i) t.absent (row_kept us (omega (arith, h)) i)) ∙ sym (kind.class_told old b.Topmost x None (map node us)))
  by (Node-F.Class b.Topmost x (Some above) us) = subst IsKept (sym (n.rolls-Class b.Topmost x (Some above.0) (map node us))) (λ le. let h = bounded (kind.class_bound b.Topmost x (Some above.0) (map node us)) le in kind.class_told new b.Topmost x (Some above.0) (map node us) ∙ (λ i. t.class_node t.topmost (name_kept x (omega (arith, h)) i) (t.present (above.1 (omega (arith, h)) i)) (row_kept us (omega (arith, h)) i)) ∙ sym (kind.class_told old b.Topmost x (Some above.0) (map node us)))
  by (Node-F.Module b.Topmost x us) = subst IsKept (sym (n.rolls-Module b.Topmost x (map node us))) (λ le. let h = bounded (kind.module_bound b.Topmost x (map node us)) le in kind.module_told new b.Topmost x (map node us) ∙ (λ i. t.module_node t.topmost (name_kept x (omega (arith, h)) i) (row_kept us (omega (arith, h)) i)) ∙ sym (kind.module_told old b.Topmost x (map node us)))
  by (Node-F.Class (b.Within m) x None us) = subst IsKept (sym (n.rolls-Class (b.Within m.0) x None (map node us))) (λ le. let h = bounded (kind.class_bound (b.Within m.0) x None (map node us)) le in kind.class_told new (b.Within m.0) x None (map node us) ∙ (λ i. t.class_node (t.within_node (m.1 (omega (arith, h)) i)) (name_kept x (omega (arith, h)) i) t.absent (row_kept us (omega (arith, h)) i)) ∙ sym (kind.class_told old (b.Within m.0) x None (map node us)))
  by (Node-F.Class (b.Within m) x (Some above) us) = subst IsKept (sym (n.rolls-Class (b.Within m.0) x (Some above.0) (map node us))) (λ le. let h = bounded (kind.class_bound (b.Within m.0) x (Some above.0) (map node us)) le in kind.class_told new (b.Within m.0) x (Some above.0) (map node us) ∙ (λ i. t.class_node (t.within_node (m.1 (omega (arith, h)) i)) (name_kept x (omega (arith, h)) i) (t.present (above.1 (omega (arith, h)) i)) (row_kept us (omega (arith, h)) i)) ∙ sym (kind.class_told old (b.Within m.0) x (Some above.0) (map node us)))
  by (Node-F.Module (b.Within m) x us) = subst IsKept (sym (n.rolls-Module (b.Within m.0) x (map node us))) (λ le. let h = bounded (kind.module_bound (b.Within m.0) x (map node us)) le in kind.module_told new (b.Within m.0) x (map node us) ∙ (λ i. t.module_node (t.within_node (m.1 (omega (arith, h)) i)) (name_kept x (omega (arith, h)) i) (row_kept us (omega (arith, h)) i)) ∙ sym (kind.module_told old (b.Within m.0) x (map node us)))

  pub tree_kept : (n : Node) → IsKept n
  tree_kept = ind-Node IsKept (λ x y is. subst (λ z. IsKept (roll-Node z)) is (by y))

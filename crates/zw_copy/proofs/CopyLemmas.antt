-- A node of each kind over copies is a copy of the node over what was copied.
use Rattle.std.proofs.Common.{◌≡◌, ℕ, max, List, [], ◌∷◌, map, Option, Some, None, refl, ap, sym, ◌∙◌, subst}
use Rattle.std.specs.Prelude.{string_bytes}
use Rattle.std.specs.Option.{option_map, option_map_or}
use Rattle.zw_def.specs.Text.{Text}
use Rattle.zw_def_syntax.specs.Tree as t
use Rattle.zw_names.specs.declared.names.Name.{Name}
use Rattle.zw_ast.specs.declared.node.Node.{Node}
use Rattle.zw_ast.specs.declared.node.Node.TheVariants as n
use Rattle.zw_ast.specs.declared.node.Order.{Order}
use Rattle.zw_ast.specs.declared.node.MethodName.{MethodName}
use Rattle.zw_ast.specs.declared.node.Part.{Part}
use Rattle.zw_ast.specs.declared.node.Part.TheVariants as p
use Rattle.zw_ast.specs.declared.node.Rescue.{Rescue}
use Rattle.zw_ast.specs.declared.node.Default.{Default}
use Rattle.zw_ast.specs.declared.node.Base.{Base}
use Rattle.zw_ast.specs.declared.node.Base.TheVariants as b
use Rattle.zw_ast.specs.declared.program.Program.{Program}
use Rattle.zw_ast.specs.declared.program.Statement.{Statement}
use Rattle.zw_ast.specs.Program.{statement_seen, statement_names}
use Rattle.zw_ast.specs.Named.{bound_of, after, after_method, greatest, if_any, all, self, all_names, part_names, rescue_names, default_names, base_names}
use Rattle.zw_ast.specs.Node.{tree_seen, name_seen, method_seen, order_seen, row_of_nodes, trees_of, parts_of, part_seen, rescues_of, rescue_seen, branch_of, perhaps_of, defaults_of, default_seen, base_seen}
use Rattle.zw_kinds.proofs.KindLemmas as kind
use Rattle.zw_kinds.proofs.KindLemmas.{greatest_alike}
use Rattle.zw_copy.specs.Copy.{IsSame, IsCopy, AreCopies, IsCopyIfAny, AreCopiesIfAny, part_told, ArePartCopies, AreRescueCopies, AreDefaultCopies, IsBaseCopy, AreStatementCopies, IsProgramCopy}

-- what is a copy of a value is a copy of its equals
pub same_as : {A X N : Type 0} {tell : List Text → A → X} {holds : A → N} (x y z : A) → x ≡ y → IsSame tell holds y z
    → IsSame tell holds x z
same_as {tell} {holds} x y z e = subst (λ w. IsSame tell holds w z) (sym e)

-- ---- what rows tell

-- a row tells its greatest number by the numbers of its items
by_numbers : {A : Type 0} (f : A → ℕ) (xs ys : List A) → map f ys ≡ map f xs → greatest f ys ≡ greatest f xs
by_numbers f xs ys e = sym (greatest_alike f self f (λ x. refl) ys) ∙ ap all e ∙ greatest_alike f self f (λ x. refl) xs

if_any_by : {A : Type 0} (f : A → ℕ) (x y : Option A) → option_map f y ≡ option_map f x → if_any f y ≡ if_any f x
if_any_by f x y e = sym (as_map y) ∙ ap (λ o. option_map_or self o 0) e ∙ as_map x
  where
    as_map : (o : Option _) → option_map_or self (option_map f o) 0 ≡ if_any f o
    as_map None = refl
    as_map (Some a) = refl

-- the parts of a text, by each of them
joined : t.Parts → t.Parts → t.Parts
joined t.no_parts more = more
joined (t.text_then text rest) more = t.text_then text (joined rest more)
joined (t.program_then us rest) more = t.program_then us (joined rest more)

all_joined : List t.Parts → t.Parts
all_joined [] = t.no_parts
all_joined (x ∷ xs) = joined x (all_joined xs)

parts_joined : (names : List Text) (ps : List (Part Node)) → parts_of (map (part_seen names) ps) ≡ all_joined (map (part_told names) ps)
unfolding joined all_joined
parts_joined names [] = refl
parts_joined names (p.Text text ∷ ps) = ap (t.text_then (string_bytes text)) (parts_joined names ps)
parts_joined names (p.Program us ∷ ps) = ap (t.program_then (row_of_nodes names us)) (parts_joined names ps)

module _ (old new : List Node) (same : AreCopies old new) where
  row_told : (names : List Text) → row_of_nodes names new ≡ row_of_nodes names old
  row_told names = ap trees_of (same.told names)

  row_named : all_names new ≡ all_names old
  row_named = ap all same.named

module _ (old new : List (Part Node)) (same : ArePartCopies old new) where
  parts_told : (names : List Text) → parts_of (map (part_seen names) new) ≡ parts_of (map (part_seen names) old)
  parts_told names = parts_joined names new ∙ ap all_joined (same.told names) ∙ sym (parts_joined names old)

  parts_named : greatest part_names new ≡ greatest part_names old
  parts_named = by_numbers part_names old new same.named

module _ (old new : List (Rescue Node)) (same : AreRescueCopies old new) where
  rescues_told : (names : List Text) → rescues_of names (map (rescue_seen names) new) ≡ rescues_of names (map (rescue_seen names) old)
  rescues_told names = ap (rescues_of names) (same.told names)

  rescues_named : greatest rescue_names new ≡ greatest rescue_names old
  rescues_named = by_numbers rescue_names old new same.named

module _ (old new : List (Default Node)) (same : AreDefaultCopies old new) where
  defaults_told : (names : List Text) → defaults_of names (map (default_seen names) new) ≡ defaults_of names (map (default_seen names) old)
  defaults_told names = ap (defaults_of names) (same.told names)

  defaults_named : greatest default_names new ≡ greatest default_names old
  defaults_named = by_numbers default_names old new same.named

module _ (old new : Option Node) (same : IsCopyIfAny old new) where
  option_told : (names : List Text) → perhaps_of (option_map (tree_seen names) new) ≡ perhaps_of (option_map (tree_seen names) old)
  option_told names = ap perhaps_of (same.told names)

  option_named : if_any bound_of new ≡ if_any bound_of old
  option_named = if_any_by bound_of old new same.named

module _ (old new : Option (List Node)) (same : AreCopiesIfAny old new) where
  branch_told : (names : List Text) →
      branch_of (option_map (map (tree_seen names)) new) ≡ branch_of (option_map (map (tree_seen names)) old)
  branch_told names = ap branch_of (same.told names)

  branch_named : if_any all_names new ≡ if_any all_names old
  branch_named = branch_by old new same.named
    where
      branch_by : (x y : Option (List Node)) → option_map (map bound_of) y ≡ option_map (map bound_of) x → if_any all_names y ≡ if_any all_names x
      branch_by x y e = sym (as_map y) ∙ ap (λ o. option_map_or all o 0) e ∙ as_map x
        where
          as_map : (o : Option (List Node)) → option_map_or all (option_map (map bound_of) o) 0 ≡ if_any all_names o
          as_map None = refl
          as_map (Some a) = refl

-- ---- nodes, by their kinds

pub interp_copied : (ps ps' : List (Part Node)) → ArePartCopies ps ps' → IsCopy (n.Interp ps) (n.Interp ps')
interp_copied ps ps' same_ps = record {
  told = λ names. kind.interp_told names ps'
      ∙ ap (λ z. t.interp_node z) (parts_told ps ps' same_ps names)
      ∙ sym (kind.interp_told names ps);
  named = kind.interp_bound ps'
      ∙ ap (λ z. z) (parts_named ps ps' same_ps)
      ∙ sym (kind.interp_bound ps);
}

pub array_copied : (us us' : List Node) → AreCopies us us' → IsCopy (n.Array us) (n.Array us')
array_copied us us' same_us = record {
  told = λ names. kind.array_told names us'
      ∙ ap (λ z. t.array_node z) (row_told us us' same_us names)
      ∙ sym (kind.array_told names us);
  named = kind.array_bound us'
      ∙ ap (λ z. z) (row_named us us' same_us)
      ∙ sym (kind.array_bound us);
}

pub scoped_copied : (x : Name) (m m' : Node) → IsCopy m m' → IsCopy (n.Scoped m x) (n.Scoped m' x)
scoped_copied x m m' same_m = record {
  told = λ names. kind.scoped_told names m' x
      ∙ ap (λ z. t.scoped_node z (name_seen names x)) (same_m.told names)
      ∙ sym (kind.scoped_told names m x);
  named = kind.scoped_bound m' x
      ∙ ap (λ z. max z (after x)) same_m.named
      ∙ sym (kind.scoped_bound m x);
}

pub set_local_copied : (x : Name) (m m' : Node) → IsCopy m m' → IsCopy (n.SetLocal x m) (n.SetLocal x m')
set_local_copied x m m' same_m = record {
  told = λ names. kind.set_local_told names x m'
      ∙ ap (λ z. t.set_local (name_seen names x) z) (same_m.told names)
      ∙ sym (kind.set_local_told names x m);
  named = kind.set_local_bound x m'
      ∙ ap (λ z. max (after x) z) same_m.named
      ∙ sym (kind.set_local_bound x m);
}

pub set_ivar_copied : (x : Name) (m m' : Node) → IsCopy m m' → IsCopy (n.SetInstanceVariable x m) (n.SetInstanceVariable x m')
set_ivar_copied x m m' same_m = record {
  told = λ names. kind.set_ivar_told names x m'
      ∙ ap (λ z. t.set_ivar (name_seen names x) z) (same_m.told names)
      ∙ sym (kind.set_ivar_told names x m);
  named = kind.set_ivar_bound x m'
      ∙ ap (λ z. max (after x) z) same_m.named
      ∙ sym (kind.set_ivar_bound x m);
}

pub set_cvar_copied : (x : Name) (m m' : Node) → IsCopy m m' → IsCopy (n.SetClassVariable x m) (n.SetClassVariable x m')
set_cvar_copied x m m' same_m = record {
  told = λ names. kind.set_cvar_told names x m'
      ∙ ap (λ z. t.set_cvar (name_seen names x) z) (same_m.told names)
      ∙ sym (kind.set_cvar_told names x m);
  named = kind.set_cvar_bound x m'
      ∙ ap (λ z. max (after x) z) same_m.named
      ∙ sym (kind.set_cvar_bound x m);
}

pub set_const_copied : (x : Name) (m m' : Node) → IsCopy m m' → IsCopy (n.SetConst x m) (n.SetConst x m')
set_const_copied x m m' same_m = record {
  told = λ names. kind.set_const_told names x m'
      ∙ ap (λ z. t.set_const (name_seen names x) z) (same_m.told names)
      ∙ sym (kind.set_const_told names x m);
  named = kind.set_const_bound x m'
      ∙ ap (λ z. max (after x) z) same_m.named
      ∙ sym (kind.set_const_bound x m);
}

pub set_scoped_copied : (x : Name) (m m' : Node) (k k' : Node) → IsCopy m m' → IsCopy k k' → IsCopy (n.SetScoped m x k) (n.SetScoped m' x k')
set_scoped_copied x m m' k k' same_m same_k = record {
  told = λ names. kind.set_scoped_told names m' x k'
      ∙ ap (λ z. t.set_scoped z (name_seen names x) (tree_seen names k')) (same_m.told names)
      ∙ ap (λ z. t.set_scoped (tree_seen names m) (name_seen names x) z) (same_k.told names)
      ∙ sym (kind.set_scoped_told names m x k);
  named = kind.set_scoped_bound m' x k'
      ∙ ap (λ z. max (max z (after x)) (bound_of k')) same_m.named
      ∙ ap (λ z. max (max (bound_of m) (after x)) z) same_k.named
      ∙ sym (kind.set_scoped_bound m x k);
}

pub set_attr_copied : (x : Name) (m m' : Node) (k k' : Node) → IsCopy m m' → IsCopy k k' → IsCopy (n.SetAttribute m x k) (n.SetAttribute m' x k')
set_attr_copied x m m' k k' same_m same_k = record {
  told = λ names. kind.set_attr_told names m' x k'
      ∙ ap (λ z. t.set_attr z (name_seen names x) (tree_seen names k')) (same_m.told names)
      ∙ ap (λ z. t.set_attr (tree_seen names m) (name_seen names x) z) (same_k.told names)
      ∙ sym (kind.set_attr_told names m x k);
  named = kind.set_attr_bound m' x k'
      ∙ ap (λ z. max (max z (after x)) (bound_of k')) same_m.named
      ∙ ap (λ z. max (max (bound_of m) (after x)) z) same_k.named
      ∙ sym (kind.set_attr_bound m x k);
}

pub call_copied : (x : Name) (m m' : Node) (us us' : List Node) → IsCopy m m' → AreCopies us us' → IsCopy (n.Call m x us) (n.Call m' x us')
call_copied x m m' us us' same_m same_us = record {
  told = λ names. kind.call_told names m' x us'
      ∙ ap (λ z. t.call_node z (name_seen names x) (row_of_nodes names us')) (same_m.told names)
      ∙ ap (λ z. t.call_node (tree_seen names m) (name_seen names x) z) (row_told us us' same_us names)
      ∙ sym (kind.call_told names m x us);
  named = kind.call_bound m' x us'
      ∙ ap (λ z. max (max z (after x)) (all_names us')) same_m.named
      ∙ ap (λ z. max (max (bound_of m) (after x)) z) (row_named us us' same_us)
      ∙ sym (kind.call_bound m x us);
}

pub self_call_copied : (x : Name) (us us' : List Node) → AreCopies us us' → IsCopy (n.SelfCall x us) (n.SelfCall x us')
self_call_copied x us us' same_us = record {
  told = λ names. kind.self_call_told names x us'
      ∙ ap (λ z. t.self_call (name_seen names x) z) (row_told us us' same_us names)
      ∙ sym (kind.self_call_told names x us);
  named = kind.self_call_bound x us'
      ∙ ap (λ z. max (after x) z) (row_named us us' same_us)
      ∙ sym (kind.self_call_bound x us);
}

pub super_copied : (us us' : List Node) → AreCopies us us' → IsCopy (n.Super us) (n.Super us')
super_copied us us' same_us = record {
  told = λ names. kind.super_told names us'
      ∙ ap (λ z. t.super_node z) (row_told us us' same_us names)
      ∙ sym (kind.super_told names us);
  named = kind.super_bound us'
      ∙ ap (λ z. z) (row_named us us' same_us)
      ∙ sym (kind.super_bound us);
}

pub not_copied : (m m' : Node) → IsCopy m m' → IsCopy (n.Not m) (n.Not m')
not_copied m m' same_m = record {
  told = λ names. kind.not_told names m'
      ∙ ap (λ z. t.not_node z) (same_m.told names)
      ∙ sym (kind.not_told names m);
  named = kind.not_bound m'
      ∙ ap (λ z. z) same_m.named
      ∙ sym (kind.not_bound m);
}

pub and_copied : (m m' : Node) (k k' : Node) → IsCopy m m' → IsCopy k k' → IsCopy (n.And m k) (n.And m' k')
and_copied m m' k k' same_m same_k = record {
  told = λ names. kind.and_told names m' k'
      ∙ ap (λ z. t.and_node z (tree_seen names k')) (same_m.told names)
      ∙ ap (λ z. t.and_node (tree_seen names m) z) (same_k.told names)
      ∙ sym (kind.and_told names m k);
  named = kind.and_bound m' k'
      ∙ ap (λ z. max z (bound_of k')) same_m.named
      ∙ ap (λ z. max (bound_of m) z) same_k.named
      ∙ sym (kind.and_bound m k);
}

pub or_copied : (m m' : Node) (k k' : Node) → IsCopy m m' → IsCopy k k' → IsCopy (n.Or m k) (n.Or m' k')
or_copied m m' k k' same_m same_k = record {
  told = λ names. kind.or_told names m' k'
      ∙ ap (λ z. t.or_node z (tree_seen names k')) (same_m.told names)
      ∙ ap (λ z. t.or_node (tree_seen names m) z) (same_k.told names)
      ∙ sym (kind.or_told names m k);
  named = kind.or_bound m' k'
      ∙ ap (λ z. max z (bound_of k')) same_m.named
      ∙ ap (λ z. max (bound_of m) z) same_k.named
      ∙ sym (kind.or_bound m k);
}

pub if_copied : (order : Order) (m m' : Node) (us us' : List Node) (vs vs' : List Node) → IsCopy m m' → AreCopies us us' → AreCopies vs vs' → IsCopy (n.If order m us vs) (n.If order m' us' vs')
if_copied order m m' us us' vs vs' same_m same_us same_vs = record {
  told = λ names. kind.if_told names order m' us' vs'
      ∙ ap (λ z. t.if_node (order_seen order) z (row_of_nodes names us') (row_of_nodes names vs')) (same_m.told names)
      ∙ ap (λ z. t.if_node (order_seen order) (tree_seen names m) z (row_of_nodes names vs')) (row_told us us' same_us names)
      ∙ ap (λ z. t.if_node (order_seen order) (tree_seen names m) (row_of_nodes names us) z) (row_told vs vs' same_vs names)
      ∙ sym (kind.if_told names order m us vs);
  named = kind.if_bound order m' us' vs'
      ∙ ap (λ z. max (max z (all_names us')) (all_names vs')) same_m.named
      ∙ ap (λ z. max (max (bound_of m) z) (all_names vs')) (row_named us us' same_us)
      ∙ ap (λ z. max (max (bound_of m) (all_names us)) z) (row_named vs vs' same_vs)
      ∙ sym (kind.if_bound order m us vs);
}

pub while_copied : (order : Order) (m m' : Node) (us us' : List Node) → IsCopy m m' → AreCopies us us' → IsCopy (n.While order m us) (n.While order m' us')
while_copied order m m' us us' same_m same_us = record {
  told = λ names. kind.while_told names order m' us'
      ∙ ap (λ z. t.while_node (order_seen order) z (row_of_nodes names us')) (same_m.told names)
      ∙ ap (λ z. t.while_node (order_seen order) (tree_seen names m) z) (row_told us us' same_us names)
      ∙ sym (kind.while_told names order m us);
  named = kind.while_bound order m' us'
      ∙ ap (λ z. max z (all_names us')) same_m.named
      ∙ ap (λ z. max (bound_of m) z) (row_named us us' same_us)
      ∙ sym (kind.while_bound order m us);
}

pub return_copied : (o o' : Option Node) → IsCopyIfAny o o' → IsCopy (n.Return o) (n.Return o')
return_copied o o' same_o = record {
  told = λ names. kind.return_told names o'
      ∙ ap (λ z. t.return_node z) (option_told o o' same_o names)
      ∙ sym (kind.return_told names o);
  named = kind.return_bound o'
      ∙ ap (λ z. z) (option_named o o' same_o)
      ∙ sym (kind.return_bound o);
}

pub seq_copied : (us us' : List Node) → AreCopies us us' → IsCopy (n.Seq us) (n.Seq us')
seq_copied us us' same_us = record {
  told = λ names. kind.seq_told names us'
      ∙ ap (λ z. t.seq_node z) (row_told us us' same_us names)
      ∙ sym (kind.seq_told names us);
  named = kind.seq_bound us'
      ∙ ap (λ z. z) (row_named us us' same_us)
      ∙ sym (kind.seq_bound us);
}

pub begin_copied : (us us' : List Node) (rs rs' : List (Rescue Node)) (o o' : Option (List Node)) (e e' : Option (List Node)) → AreCopies us us' → AreRescueCopies rs rs' → AreCopiesIfAny o o' → AreCopiesIfAny e e' → IsCopy (n.Begin us rs o e) (n.Begin us' rs' o' e')
begin_copied us us' rs rs' o o' e e' same_us same_rs same_o same_e = record {
  told = λ names. kind.begin_told names us' rs' o' e'
      ∙ ap (λ z. t.begin_node z (rescues_of names (map (rescue_seen names) rs')) (branch_of (option_map (map (tree_seen names)) o')) (branch_of (option_map (map (tree_seen names)) e'))) (row_told us us' same_us names)
      ∙ ap (λ z. t.begin_node (row_of_nodes names us) z (branch_of (option_map (map (tree_seen names)) o')) (branch_of (option_map (map (tree_seen names)) e'))) (rescues_told rs rs' same_rs names)
      ∙ ap (λ z. t.begin_node (row_of_nodes names us) (rescues_of names (map (rescue_seen names) rs)) z (branch_of (option_map (map (tree_seen names)) e'))) (branch_told o o' same_o names)
      ∙ ap (λ z. t.begin_node (row_of_nodes names us) (rescues_of names (map (rescue_seen names) rs)) (branch_of (option_map (map (tree_seen names)) o)) z) (branch_told e e' same_e names)
      ∙ sym (kind.begin_told names us rs o e);
  named = kind.begin_bound us' rs' o' e'
      ∙ ap (λ z. max (max z (greatest rescue_names rs')) (max (if_any all_names o') (if_any all_names e'))) (row_named us us' same_us)
      ∙ ap (λ z. max (max (all_names us) z) (max (if_any all_names o') (if_any all_names e'))) (rescues_named rs rs' same_rs)
      ∙ ap (λ z. max (max (all_names us) (greatest rescue_names rs)) (max z (if_any all_names e'))) (branch_named o o' same_o)
      ∙ ap (λ z. max (max (all_names us) (greatest rescue_names rs)) (max (if_any all_names o) z)) (branch_named e e' same_e)
      ∙ sym (kind.begin_bound us rs o e);
}

pub def_copied : (x : MethodName) (required : List Name) (ds ds' : List (Default Node)) (us us' : List Node) → AreDefaultCopies ds ds' → AreCopies us us' → IsCopy (n.Def x required ds us) (n.Def x required ds' us')
def_copied x required ds ds' us us' same_ds same_us = record {
  told = λ names. kind.def_told names x required ds' us'
      ∙ ap (λ z. t.def_node (method_seen names x) (map (name_seen names) required) z (row_of_nodes names us')) (defaults_told ds ds' same_ds names)
      ∙ ap (λ z. t.def_node (method_seen names x) (map (name_seen names) required) (defaults_of names (map (default_seen names) ds)) z) (row_told us us' same_us names)
      ∙ sym (kind.def_told names x required ds us);
  named = kind.def_bound x required ds' us'
      ∙ ap (λ z. max (max (after_method x) (greatest after required)) (max z (all_names us'))) (defaults_named ds ds' same_ds)
      ∙ ap (λ z. max (max (after_method x) (greatest after required)) (max (greatest default_names ds) z)) (row_named us us' same_us)
      ∙ sym (kind.def_bound x required ds us);
}

pub sdef_copied : (x : MethodName) (required : List Name) (ds ds' : List (Default Node)) (us us' : List Node) → AreDefaultCopies ds ds' → AreCopies us us' → IsCopy (n.SDef x required ds us) (n.SDef x required ds' us')
sdef_copied x required ds ds' us us' same_ds same_us = record {
  told = λ names. kind.sdef_told names x required ds' us'
      ∙ ap (λ z. t.sdef_node (method_seen names x) (map (name_seen names) required) z (row_of_nodes names us')) (defaults_told ds ds' same_ds names)
      ∙ ap (λ z. t.sdef_node (method_seen names x) (map (name_seen names) required) (defaults_of names (map (default_seen names) ds)) z) (row_told us us' same_us names)
      ∙ sym (kind.sdef_told names x required ds us);
  named = kind.sdef_bound x required ds' us'
      ∙ ap (λ z. max (max (after_method x) (greatest after required)) (max z (all_names us'))) (defaults_named ds ds' same_ds)
      ∙ ap (λ z. max (max (after_method x) (greatest after required)) (max (greatest default_names ds) z)) (row_named us us' same_us)
      ∙ sym (kind.sdef_bound x required ds us);
}

pub class_copied : (x : Name) (b b' : Base Node) (o o' : Option Node) (us us' : List Node) → IsBaseCopy b b' → IsCopyIfAny o o' → AreCopies us us' → IsCopy (n.Class b x o us) (n.Class b' x o' us')
class_copied x b b' o o' us us' same_b same_o same_us = record {
  told = λ names. kind.class_told names b' x o' us'
      ∙ ap (λ z. t.class_node z (name_seen names x) (perhaps_of (option_map (tree_seen names) o')) (row_of_nodes names us')) (same_b.told names)
      ∙ ap (λ z. t.class_node (base_seen names b) (name_seen names x) z (row_of_nodes names us')) (option_told o o' same_o names)
      ∙ ap (λ z. t.class_node (base_seen names b) (name_seen names x) (perhaps_of (option_map (tree_seen names) o)) z) (row_told us us' same_us names)
      ∙ sym (kind.class_told names b x o us);
  named = kind.class_bound b' x o' us'
      ∙ ap (λ z. max (max z (after x)) (max (if_any bound_of o') (all_names us'))) same_b.named
      ∙ ap (λ z. max (max (base_names b) (after x)) (max z (all_names us'))) (option_named o o' same_o)
      ∙ ap (λ z. max (max (base_names b) (after x)) (max (if_any bound_of o) z)) (row_named us us' same_us)
      ∙ sym (kind.class_bound b x o us);
}

pub module_copied : (x : Name) (b b' : Base Node) (us us' : List Node) → IsBaseCopy b b' → AreCopies us us' → IsCopy (n.Module b x us) (n.Module b' x us')
module_copied x b b' us us' same_b same_us = record {
  told = λ names. kind.module_told names b' x us'
      ∙ ap (λ z. t.module_node z (name_seen names x) (row_of_nodes names us')) (same_b.told names)
      ∙ ap (λ z. t.module_node (base_seen names b) (name_seen names x) z) (row_told us us' same_us names)
      ∙ sym (kind.module_told names b x us);
  named = kind.module_bound b' x us'
      ∙ ap (λ z. max (max z (after x)) (all_names us')) same_b.named
      ∙ ap (λ z. max (max (base_names b) (after x)) z) (row_named us us' same_us)
      ∙ sym (kind.module_bound b x us);
}

-- ---- what stands beside nodes

pub interpolation_copied : (us us' : List Node) → AreCopies us us' → IsSame part_told part_names (p.Program us) (p.Program us')
interpolation_copied us us' same = record {
  told = λ names. ap (λ vs. t.program_then vs t.no_parts) (row_told us us' same names);
  named = row_named us us' same;
}

pub rescue_copied : (old new : Rescue Node) → AreCopies old.paths new.paths → new.variable ≡ old.variable → AreCopies old.body new.body
    → IsSame rescue_seen rescue_names old new
rescue_copied old new paths variable body = record {
  told = λ names. λ i. record { paths = paths.told names i; variable = variable i; body = body.told names i };
  named = λ i. max (max (row_named old.paths new.paths paths i) (if_any after (variable i))) (row_named old.body new.body body i);
}

pub default_copied : (old new : Default Node) → new.name ≡ old.name → IsCopy old.value new.value
    → IsSame default_seen default_names old new
default_copied old new name value = record {
  told = λ names. λ i. record { name = name i; value = value.told names i };
  named = λ i. max (after (name i)) (value.named i);
}

pub base_copied : (m k : Node) → IsCopy m k → IsBaseCopy (b.Within m) (b.Within k)
base_copied m k same = record { told = λ names. ap t.within_node (same.told names); named = same.named }

pub some_copied : (m k : Node) → IsCopy m k → IsCopyIfAny (Some m) (Some k)
some_copied m k same = record { told = λ names. ap Some (same.told names); named = ap Some same.named }

pub branch_copied : (us us' : List Node) → AreCopies us us' → AreCopiesIfAny (Some us) (Some us')
branch_copied us us' same = record { told = λ names. ap Some (same.told names); named = ap Some same.named }

-- ---- statements

pub statement_copied : (old new : Statement) → new.line ≡ old.line → IsCopy old.node new.node
    → IsSame statement_seen statement_names old new
statement_copied old new line node = record {
  told = λ names. λ i. record { line = line i; tree = node.told names i };
  named = node.named;
}

pub program_copied : (old new : Program) → AreStatementCopies old.statements.items new.statements.items → IsProgramCopy old new
program_copied old new same = record {
  told = same.told;
  named = by_numbers statement_names old.statements.items new.statements.items same.named;
}

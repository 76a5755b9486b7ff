-- The definition's walk, a node at a time: what is found in a node that breaks the rule itself, and what is found in one
-- that does not, by its kind.
use Rattle.std.proofs.Common.{◌≡◌, Bool, true, false, ◌||◌, List, refl}
use Rattle.zw_def.specs.Text.{Text}
use Rattle.zw_def_syntax.specs.Places.{Place, loop_body, method_body, class_body, some_node, some_tree, some_perhaps, some_branch, some_base, some_part, some_rescue, some_default}
use Rattle.zw_def_syntax.specs.Tree.{Order, Tree, Trees, Perhaps, Branch, Base, Parts, Rescues, Defaults, interp_node, array_node, scoped_node, set_local, set_ivar, set_cvar, set_const, set_scoped, set_attr, call_node, self_call, super_node, not_node, and_node, or_node, if_node, while_node, return_node, seq_node, begin_node, def_node, sdef_node, class_node, module_node}

module _ (test : Place → Tree → Bool) (p : Place) where
  pub node_itself : (t : Tree) → test p t ≡ true → some_node test p t ≡ true
  unfolding some_node some_tree some_perhaps some_branch some_base some_part some_rescue some_default
  node_itself (interp_node parts) e = rw e refl
  node_itself (array_node items) e = rw e refl
  node_itself (scoped_node b n) e = rw e refl
  node_itself (set_local x u) e = rw e refl
  node_itself (set_ivar x u) e = rw e refl
  node_itself (set_cvar x u) e = rw e refl
  node_itself (set_const x u) e = rw e refl
  node_itself (set_scoped b n u) e = rw e refl
  node_itself (set_attr b n u) e = rw e refl
  node_itself (call_node r x args) e = rw e refl
  node_itself (self_call x args) e = rw e refl
  node_itself (super_node args) e = rw e refl
  node_itself (not_node u) e = rw e refl
  node_itself (and_node a b) e = rw e refl
  node_itself (or_node a b) e = rw e refl
  node_itself (if_node order c a b) e = rw e refl
  node_itself (while_node order c body) e = rw e refl
  node_itself (return_node u) e = rw e refl
  node_itself (seq_node all) e = rw e refl
  node_itself (begin_node body clauses other ensured) e = rw e refl
  node_itself (def_node x required ds body) e = rw e refl
  node_itself (sdef_node x required ds body) e = rw e refl
  node_itself (class_node base n superclass body) e = rw e refl
  node_itself (module_node base n body) e = rw e refl
  node_itself _ e = e

  -- ---- within a node that breaks nothing

  pub within_array : (items : Trees) → test p (array_node items) ≡ false
      → some_node test p (array_node items) ≡ some_tree test p items
  unfolding some_node
  within_array items e = rw e refl

  pub within_scoped : (b : Tree) (n : Text) → test p (scoped_node b n) ≡ false
      → some_node test p (scoped_node b n) ≡ some_node test p b
  unfolding some_node
  within_scoped b n e = rw e refl

  pub within_local : (x : Text) (u : Tree) → test p (set_local x u) ≡ false
      → some_node test p (set_local x u) ≡ some_node test p u
  unfolding some_node
  within_local x u e = rw e refl

  pub within_ivar : (x : Text) (u : Tree) → test p (set_ivar x u) ≡ false
      → some_node test p (set_ivar x u) ≡ some_node test p u
  unfolding some_node
  within_ivar x u e = rw e refl

  pub within_cvar : (x : Text) (u : Tree) → test p (set_cvar x u) ≡ false
      → some_node test p (set_cvar x u) ≡ some_node test p u
  unfolding some_node
  within_cvar x u e = rw e refl

  pub within_constant : (n : Text) (u : Tree) → test p (set_const n u) ≡ false
      → some_node test p (set_const n u) ≡ some_node test p u
  unfolding some_node
  within_constant n u e = rw e refl

  pub within_scoped_constant : (b : Tree) (n : Text) (u : Tree) → test p (set_scoped b n u) ≡ false
      → some_node test p (set_scoped b n u) ≡ (some_node test p b || some_node test p u)
  unfolding some_node
  within_scoped_constant b n u e = rw e refl

  pub within_attribute : (r : Tree) (x : Text) (u : Tree) → test p (set_attr r x u) ≡ false
      → some_node test p (set_attr r x u) ≡ (some_node test p r || some_node test p u)
  unfolding some_node
  within_attribute r x u e = rw e refl

  pub within_call : (r : Tree) (x : Text) (args : Trees) → test p (call_node r x args) ≡ false
      → some_node test p (call_node r x args) ≡ (some_node test p r || some_tree test p args)
  unfolding some_node
  within_call r x args e = rw e refl

  pub within_self_call : (x : Text) (args : Trees) → test p (self_call x args) ≡ false
      → some_node test p (self_call x args) ≡ some_tree test p args
  unfolding some_node
  within_self_call x args e = rw e refl

  pub within_super : (args : Trees) → test p (super_node args) ≡ false
      → some_node test p (super_node args) ≡ some_tree test p args
  unfolding some_node
  within_super args e = rw e refl

  pub within_not : (u : Tree) → test p (not_node u) ≡ false
      → some_node test p (not_node u) ≡ some_node test p u
  unfolding some_node
  within_not u e = rw e refl

  pub within_and : (a b : Tree) → test p (and_node a b) ≡ false
      → some_node test p (and_node a b) ≡ (some_node test p a || some_node test p b)
  unfolding some_node
  within_and a b e = rw e refl

  pub within_or : (a b : Tree) → test p (or_node a b) ≡ false
      → some_node test p (or_node a b) ≡ (some_node test p a || some_node test p b)
  unfolding some_node
  within_or a b e = rw e refl

  pub within_if : (order : Order) (c : Tree) (a b : Trees) → test p (if_node order c a b) ≡ false
      → some_node test p (if_node order c a b) ≡ (some_node test p c || some_tree test p a || some_tree test p b)
  unfolding some_node
  within_if order c a b e = rw e refl

  pub within_while : (order : Order) (c : Tree) (body : Trees) → test p (while_node order c body) ≡ false
      → some_node test p (while_node order c body) ≡ (some_node test p c || some_tree test (loop_body p) body)
  unfolding some_node
  within_while order c body e = rw e refl

  pub within_return : (u : Perhaps) → test p (return_node u) ≡ false
      → some_node test p (return_node u) ≡ some_perhaps test p u
  unfolding some_node
  within_return u e = rw e refl

  pub within_seq : (all : Trees) → test p (seq_node all) ≡ false
      → some_node test p (seq_node all) ≡ some_tree test p all
  unfolding some_node
  within_seq all e = rw e refl

  pub within_begin : (body : Trees) (clauses : Rescues) (other ensured : Branch) → test p (begin_node body clauses other ensured) ≡ false
      → some_node test p (begin_node body clauses other ensured) ≡ (some_tree test p body || some_rescue test p clauses || some_branch test p other || some_branch test p ensured)
  unfolding some_node
  within_begin body clauses other ensured e = rw e refl

  pub within_def : (x : Text) (required : List Text) (ds : Defaults) (body : Trees) → test p (def_node x required ds body) ≡ false
      → some_node test p (def_node x required ds body) ≡ (some_default test (method_body p) ds || some_tree test (method_body p) body)
  unfolding some_node
  within_def x required ds body e = rw e refl

  pub within_sdef : (x : Text) (required : List Text) (ds : Defaults) (body : Trees) → test p (sdef_node x required ds body) ≡ false
      → some_node test p (sdef_node x required ds body) ≡ (some_default test (method_body p) ds || some_tree test (method_body p) body)
  unfolding some_node
  within_sdef x required ds body e = rw e refl

  pub within_class : (base : Base) (n : Text) (superclass : Perhaps) (body : Trees) → test p (class_node base n superclass body) ≡ false
      → some_node test p (class_node base n superclass body) ≡ (some_base test p base || some_perhaps test p superclass || some_tree test (class_body p) body)
  unfolding some_node
  within_class base n superclass body e = rw e refl

  pub within_module : (base : Base) (n : Text) (body : Trees) → test p (module_node base n body) ≡ false
      → some_node test p (module_node base n body) ≡ (some_base test p base || some_tree test (class_body p) body)
  unfolding some_node
  within_module base n body e = rw e refl

  pub within_interp : (parts : Parts) → test p (interp_node parts) ≡ false
      → some_node test p (interp_node parts) ≡ some_part test p parts
  unfolding some_node
  within_interp parts e = rw e refl

-- Where no node of a tree passes a test, the tree does not, and none of its parts does.
use Rattle.std.specs.Prelude.{◌≡◌, ◌&&◌, ◌||◌, Bool, true, false, Option}
use Rattle.std.proofs.Common.{refl, sym}
use Rattle.zw_def.specs.Text.{Text}
use Rattle.zw_def_syntax.specs.Tree.{Tree, Trees, Parts, Rescues, nil_node, true_node, false_node, self_node, int_node, str_node, sym_node, interp_node, array_node, local_node, ident_node, ivar_node, cvar_node, const_node, scoped_node, top_const_node, set_local, set_ivar, set_cvar, set_const, set_scoped, set_attr, call_node, self_call, super_node, zsuper_node, not_node, and_node, or_node, if_node, while_node, break_node, next_node, return_node, seq_node, begin_node, def_node, sdef_node, class_node, module_node, tree_then, present, branch, text_then, program_then, rescue_then}
use Rattle.zw_def_syntax.specs.Places.{Place, loop_body, method_body, class_body, some_node, some_tree, some_perhaps, some_branch, some_base, some_part, some_rescue, some_default}
use Rattle.zw_fresh.proofs.NameLemmas.{apart}

pub both_true : (a b : Bool) → (a && b) ≡ true → (a ≡ true) × (b ≡ true)
both_true true b e = (refl, e)
both_true false b e = absurd (apart (sym e))

pub or2 : (a b : Bool) → (a || b) ≡ false → (a ≡ false) × (b ≡ false)
or2 true b e = absurd (apart e)
or2 false b e = (refl, e)

or3 : (a b c : Bool) → (a || b || c) ≡ false → (a ≡ false) × (b ≡ false) × (c ≡ false)
or3 a b c e = let x = or2 (a || b) c e in let y = or2 a b x.0 in (y.0, y.1, x.1)

or4 : (a b c d : Bool) → (a || b || c || d) ≡ false → (a ≡ false) × (b ≡ false) × (c ≡ false) × (d ≡ false)
or4 a b c d e = let x = or2 (a || b || c) d e in let y = or3 a b c x.0 in (y.0, y.1, y.2, x.1)

or5 : (a b c d f : Bool) → (a || b || c || d || f) ≡ false
    → (a ≡ false) × (b ≡ false) × (c ≡ false) × (d ≡ false) × (f ≡ false)
or5 a b c d f e = let x = or2 (a || b || c || d) f e in let y = or4 a b c d x.0 in (y.0, y.1, y.2, y.3, x.1)

module _ (test : Place → Tree → Bool) (p : Place) where
  -- of the parts that an expression has; of a definition, itself alone
  abbrev pub NonePasses : Tree → Type 0
  NonePasses (interp_node parts) = (test p (interp_node parts) ≡ false) × (some_part test p parts ≡ false)
  NonePasses (array_node items) = (test p (array_node items) ≡ false) × (some_tree test p items ≡ false)
  NonePasses (scoped_node b n) = (test p (scoped_node b n) ≡ false) × (some_node test p b ≡ false)
  NonePasses (set_local x e) = (test p (set_local x e) ≡ false) × (some_node test p e ≡ false)
  NonePasses (set_ivar x e) = (test p (set_ivar x e) ≡ false) × (some_node test p e ≡ false)
  NonePasses (set_cvar x e) = (test p (set_cvar x e) ≡ false) × (some_node test p e ≡ false)
  NonePasses (set_attr r x e) =
      (test p (set_attr r x e) ≡ false) × (some_node test p r ≡ false) × (some_node test p e ≡ false)
  NonePasses (call_node r x args) =
      (test p (call_node r x args) ≡ false) × (some_node test p r ≡ false) × (some_tree test p args ≡ false)
  NonePasses (self_call x args) = (test p (self_call x args) ≡ false) × (some_tree test p args ≡ false)
  NonePasses (super_node args) = (test p (super_node args) ≡ false) × (some_tree test p args ≡ false)
  NonePasses (not_node e) = (test p (not_node e) ≡ false) × (some_node test p e ≡ false)
  NonePasses (and_node a b) = (test p (and_node a b) ≡ false) × (some_node test p a ≡ false) × (some_node test p b ≡ false)
  NonePasses (or_node a b) = (test p (or_node a b) ≡ false) × (some_node test p a ≡ false) × (some_node test p b ≡ false)
  NonePasses (if_node order c a b) = (test p (if_node order c a b) ≡ false) × (some_node test p c ≡ false)
      × (some_tree test p a ≡ false) × (some_tree test p b ≡ false)
  NonePasses (while_node order c body) = (test p (while_node order c body) ≡ false) × (some_node test p c ≡ false)
      × (some_tree test (loop_body p) body ≡ false)
  NonePasses (return_node e) = (test p (return_node e) ≡ false) × (some_perhaps test p e ≡ false)
  NonePasses (seq_node all) = (test p (seq_node all) ≡ false) × (some_tree test p all ≡ false)
  NonePasses (begin_node body clauses other ensured) = (test p (begin_node body clauses other ensured) ≡ false)
      × (some_tree test p body ≡ false) × (some_rescue test p clauses ≡ false) × (some_branch test p other ≡ false)
      × (some_branch test p ensured ≡ false)
  NonePasses t = (test p t ≡ false)

  pub none_passes : (t : Tree) → some_node test p t ≡ false → NonePasses t
  unfolding some_node
  none_passes (interp_node parts) e = or2 (test p (interp_node parts)) (some_part test p parts) e
  none_passes (array_node items) e = or2 (test p (array_node items)) (some_tree test p items) e
  none_passes (scoped_node b n) e = or2 (test p (scoped_node b n)) (some_node test p b) e
  none_passes (set_local x v) e = or2 (test p (set_local x v)) (some_node test p v) e
  none_passes (set_ivar x v) e = or2 (test p (set_ivar x v)) (some_node test p v) e
  none_passes (set_cvar x v) e = or2 (test p (set_cvar x v)) (some_node test p v) e
  none_passes (set_const n v) e = (or2 (test p (set_const n v)) (some_node test p v) e).0
  none_passes (set_scoped b n v) e = (or3 (test p (set_scoped b n v)) (some_node test p b) (some_node test p v) e).0
  none_passes (set_attr r x v) e = or3 (test p (set_attr r x v)) (some_node test p r) (some_node test p v) e
  none_passes (call_node r x args) e = or3 (test p (call_node r x args)) (some_node test p r) (some_tree test p args) e
  none_passes (self_call x args) e = or2 (test p (self_call x args)) (some_tree test p args) e
  none_passes (super_node args) e = or2 (test p (super_node args)) (some_tree test p args) e
  none_passes (not_node v) e = or2 (test p (not_node v)) (some_node test p v) e
  none_passes (and_node a b) e = or3 (test p (and_node a b)) (some_node test p a) (some_node test p b) e
  none_passes (or_node a b) e = or3 (test p (or_node a b)) (some_node test p a) (some_node test p b) e
  none_passes (if_node order c a b) e =
      or4 (test p (if_node order c a b)) (some_node test p c) (some_tree test p a) (some_tree test p b) e
  none_passes (while_node order c body) e =
      or3 (test p (while_node order c body)) (some_node test p c) (some_tree test (loop_body p) body) e
  none_passes (return_node v) e = or2 (test p (return_node v)) (some_perhaps test p v) e
  none_passes (seq_node all) e = or2 (test p (seq_node all)) (some_tree test p all) e
  none_passes (begin_node body clauses other ensured) e = or5 (test p (begin_node body clauses other ensured))
      (some_tree test p body) (some_rescue test p clauses) (some_branch test p other) (some_branch test p ensured) e
  none_passes (def_node x required defaults body) e = (or3 (test p (def_node x required defaults body))
      (some_default test (method_body p) defaults) (some_tree test (method_body p) body) e).0
  none_passes (sdef_node x required defaults body) e = (or3 (test p (sdef_node x required defaults body))
      (some_default test (method_body p) defaults) (some_tree test (method_body p) body) e).0
  none_passes (class_node base n superclass body) e = (or4 (test p (class_node base n superclass body))
      (some_base test p base) (some_perhaps test p superclass) (some_tree test (class_body p) body) e).0
  none_passes (module_node base n body) e = (or3 (test p (module_node base n body)) (some_base test p base)
      (some_tree test (class_body p) body) e).0
  none_passes nil_node e = e
  none_passes true_node e = e
  none_passes false_node e = e
  none_passes self_node e = e
  none_passes (int_node z) e = e
  none_passes (str_node t) e = e
  none_passes (sym_node t) e = e
  none_passes (local_node x) e = e
  none_passes (ident_node x) e = e
  none_passes (ivar_node x) e = e
  none_passes (cvar_node x) e = e
  none_passes (const_node c) e = e
  none_passes (top_const_node c) e = e
  none_passes zsuper_node e = e
  none_passes break_node e = e
  none_passes next_node e = e

-- ---- lists of parts

module _ (test : Place → Tree → Bool) (p : Place) where
  pub none_of_trees : (t : Tree) (ts : Trees) → some_tree test p (tree_then t ts) ≡ false
      → (some_node test p t ≡ false) × (some_tree test p ts ≡ false)
  unfolding some_tree
  none_of_trees t ts e = or2 (some_node test p t) (some_tree test p ts) e

  pub none_of_present : (t : Tree) → some_perhaps test p (present t) ≡ false → some_node test p t ≡ false
  unfolding some_perhaps
  none_of_present t e = e

  pub none_of_branch : (ts : Trees) → some_branch test p (branch ts) ≡ false → some_tree test p ts ≡ false
  unfolding some_branch
  none_of_branch ts e = e

  pub none_of_text : (t : Text) (more : Parts) → some_part test p (text_then t more) ≡ false → some_part test p more ≡ false
  unfolding some_part
  none_of_text t more e = e

  pub none_of_program : (ts : Trees) (more : Parts) → some_part test p (program_then ts more) ≡ false
      → (some_tree test p ts ≡ false) × (some_part test p more ≡ false)
  unfolding some_part
  none_of_program ts more e = or2 (some_tree test p ts) (some_part test p more) e

  pub none_of_rescue : (paths : Trees) (x : Option Text) (body : Trees) (more : Rescues)
      → some_rescue test p (rescue_then paths x body more) ≡ false
      → (some_tree test p paths ≡ false) × (some_tree test p body ≡ false) × (some_rescue test p more ≡ false)
  unfolding some_rescue
  none_of_rescue paths x body more e = or3 (some_tree test p paths) (some_tree test p body) (some_rescue test p more) e

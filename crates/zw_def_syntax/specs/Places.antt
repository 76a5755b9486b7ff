-- Where jumps and definitions may stand in a statement, and the fault of one in which a node is out of place.
use Rattle.std.specs.Prelude.{Bool, true, false, not, ◌||◌, if◌then◌else◌, List, [], ◌∷◌, ◌++◌, Option, Some, None}
use Rattle.std.specs.List.{list_any}
use Rattle.std.specs.Str.{bytes_eq}
use Rattle.zw_def.specs.Text.{Text}
use Rattle.zw_def_syntax.specs.Token.{Reason, misplaced_jump, misplaced_def, definition_in_method, repeated_parameter}
use Rattle.zw_def_syntax.specs.Tree.{Tree, Trees, Perhaps, Branch, Base, Parts, Rescues, Defaults, interp_node, array_node, scoped_node, set_local, set_ivar, set_cvar, set_const, set_scoped, set_attr, call_node, self_call, super_node, zsuper_node, not_node, and_node, or_node, if_node, while_node, break_node, next_node, return_node, seq_node, begin_node, def_node, sdef_node, class_node, module_node, no_trees, tree_then, absent, present, no_branch, branch, innermost, topmost, within_node, no_parts, text_then, program_then, no_rescues, rescue_then, no_defaults, default_then}

-- what stands around a node
pub record Place : Type 0 where
  -- a method's body, however far out
  pub in_method : Bool
  -- a loop's body, with no class, module or method body between
  pub in_loop : Bool
  -- a class or module body
  pub in_class : Bool

abbrev pub at_top : Place
at_top = record { in_method = false; in_loop = false; in_class = false }

abbrev pub loop_body : Place → Place
loop_body p = record p { in_loop = true }

-- the defaults of a method's parameters stand there, too
abbrev pub method_body : Place → Place
method_body p = record p { in_method = true; in_loop = false }

abbrev pub class_body : Place → Place
class_body p = record p { in_loop = false; in_class = true }

-- ---- what is out of place

-- `return` and `super` stand in a method's body, `break` and `next` in a loop's (ISO/IEC 30170, 11.5.2.4 and 11.3.4)
abbrev pub is_misplaced_jump : Place → Tree → Bool
is_misplaced_jump p (return_node e) = not p.in_method
is_misplaced_jump p (super_node args) = not p.in_method
is_misplaced_jump p zsuper_node = not p.in_method
is_misplaced_jump p break_node = not p.in_loop
is_misplaced_jump p next_node = not p.in_loop
is_misplaced_jump p _ = false

-- `def` stands in a class or module body, and not in a method's (a rule of this language)
abbrev pub is_misplaced_def : Place → Tree → Bool
is_misplaced_def p (def_node x required optional body) = p.in_method || not p.in_class
is_misplaced_def p (sdef_node x required optional body) = p.in_method || not p.in_class
is_misplaced_def p _ = false

-- no class, module or assignment to a constant stands in a method's body (13.1.2, 13.2.2 and 11.4.2.2)
abbrev pub is_definition_in_method : Place → Tree → Bool
is_definition_in_method p (class_node base n superclass body) = p.in_method
is_definition_in_method p (module_node base n body) = p.in_method
is_definition_in_method p (set_const n e) = p.in_method
is_definition_in_method p (set_scoped base n e) = p.in_method
is_definition_in_method p _ = false

abbrev pub default_names : Defaults → List Text
default_names no_defaults = []
default_names (default_then x e more) = x ∷ default_names more

abbrev pub has_repeat : List Text → Bool
has_repeat [] = false
has_repeat (x ∷ xs) = list_any (bytes_eq x) xs || has_repeat xs

-- no two parameters of a method have one name (13.3.2)
abbrev pub repeats_parameter : Place → Tree → Bool
repeats_parameter p (def_node x required defaults body) = has_repeat (required ++ default_names defaults)
repeats_parameter p (sdef_node x required defaults body) = has_repeat (required ++ default_names defaults)
repeats_parameter p _ = false

-- ---- a statement

-- some node passes the test at its place
module _ (test : Place → Tree → Bool) where
  unfoldable mutual
    pub some_node : Place → Tree → Bool
    some_node p (interp_node parts) = test p (interp_node parts) || some_part p parts
    some_node p (array_node items) = test p (array_node items) || some_tree p items
    some_node p (scoped_node b n) = test p (scoped_node b n) || some_node p b
    some_node p (set_local x e) = test p (set_local x e) || some_node p e
    some_node p (set_ivar x e) = test p (set_ivar x e) || some_node p e
    some_node p (set_cvar x e) = test p (set_cvar x e) || some_node p e
    some_node p (set_const n e) = test p (set_const n e) || some_node p e
    some_node p (set_scoped b n e) = test p (set_scoped b n e) || some_node p b || some_node p e
    some_node p (set_attr r x e) = test p (set_attr r x e) || some_node p r || some_node p e
    some_node p (call_node r x args) = test p (call_node r x args) || some_node p r || some_tree p args
    some_node p (self_call x args) = test p (self_call x args) || some_tree p args
    some_node p (super_node args) = test p (super_node args) || some_tree p args
    some_node p (not_node e) = test p (not_node e) || some_node p e
    some_node p (and_node a b) = test p (and_node a b) || some_node p a || some_node p b
    some_node p (or_node a b) = test p (or_node a b) || some_node p a || some_node p b
    some_node p (if_node order c a b) = test p (if_node order c a b) || some_node p c || some_tree p a || some_tree p b
    some_node p (while_node order c body) =
        test p (while_node order c body) || some_node p c || some_tree (loop_body p) body
    some_node p (return_node e) = test p (return_node e) || some_perhaps p e
    some_node p (seq_node all) = test p (seq_node all) || some_tree p all
    some_node p (begin_node body clauses other ensured) =
        test p (begin_node body clauses other ensured) || some_tree p body || some_rescue p clauses
        || some_branch p other || some_branch p ensured
    some_node p (def_node x required defaults body) =
        test p (def_node x required defaults body) || some_default (method_body p) defaults
        || some_tree (method_body p) body
    some_node p (sdef_node x required defaults body) =
        test p (sdef_node x required defaults body) || some_default (method_body p) defaults
        || some_tree (method_body p) body
    some_node p (class_node base n superclass body) =
        test p (class_node base n superclass body) || some_base p base || some_perhaps p superclass
        || some_tree (class_body p) body
    some_node p (module_node base n body) =
        test p (module_node base n body) || some_base p base || some_tree (class_body p) body
    some_node p leaf = test p leaf

    pub some_tree : Place → Trees → Bool
    some_tree p no_trees = false
    some_tree p (tree_then t ts) = some_node p t || some_tree p ts

    pub some_perhaps : Place → Perhaps → Bool
    some_perhaps p absent = false
    some_perhaps p (present t) = some_node p t

    pub some_branch : Place → Branch → Bool
    some_branch p no_branch = false
    some_branch p (branch ts) = some_tree p ts

    pub some_base : Place → Base → Bool
    some_base p innermost = false
    some_base p topmost = false
    some_base p (within_node t) = some_node p t

    pub some_part : Place → Parts → Bool
    some_part p no_parts = false
    some_part p (text_then t more) = some_part p more
    some_part p (program_then ts more) = some_tree p ts || some_part p more

    pub some_rescue : Place → Rescues → Bool
    some_rescue p no_rescues = false
    some_rescue p (rescue_then paths x body more) = some_tree p paths || some_tree p body || some_rescue p more

    pub some_default : Place → Defaults → Bool
    some_default p no_defaults = false
    some_default p (default_then x e more) = some_node p e || some_default p more

-- the least reason for which a statement is refused, where there is one
abbrev pub fault_of : Tree → Option Reason
fault_of statement =
    if some_node is_misplaced_jump at_top statement then Some misplaced_jump
    else if some_node is_misplaced_def at_top statement then Some misplaced_def
    else if some_node is_definition_in_method at_top statement then Some definition_in_method
    else if some_node repeats_parameter at_top statement then Some repeated_parameter
    else None

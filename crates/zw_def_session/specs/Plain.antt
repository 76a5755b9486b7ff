-- Plain programs: they change no module (this project's own notion).
use Rattle.std.specs.Prelude.{Bool, true, false, not, ◌&&◌, ◌||◌, List, codes}
use Rattle.std.specs.List.{list_any, list_all}
use Rattle.std.specs.Str.{bytes_eq}
use Rattle.zw_def.specs.Text.{Text, pieces}
use Rattle.zw_def_syntax.specs.Tree.{Tree, Trees, no_trees, tree_then, sym_node, Defaults, Program, ident_node, set_const, set_scoped, call_node, self_call, super_node, zsuper_node, def_node, sdef_node, class_node, module_node}
use Rattle.zw_def_syntax.specs.Places.{Place, at_top, some_node, some_tree, some_default}

-- the methods that change a module, or ask for what is not loaded
abbrev pub special_names : Text
special_names =
    codes "include extend attr_reader attr_writer attr_accessor private public private_class_method freeze autoload?"

abbrev pub is_special : Text → Bool
is_special x = list_any (bytes_eq x) (pieces 32 special_names)

abbrev pub is_super : Place → Tree → Bool
is_super place (super_node args) = true
is_super place zsuper_node = true
is_super place _ = false

-- `super` in a method of one of these names calls a method of that name
abbrev pub has_special_super : Text → Defaults → Trees → Bool
has_special_super x defaults body =
    is_special x && (some_default is_super at_top defaults || some_tree is_super at_top body)

-- the node calls one of them; a bare name counts
abbrev pub is_special_call : Place → Tree → Bool
is_special_call place (call_node r x args) = is_special x
is_special_call place (self_call x args) = is_special x
is_special_call place (ident_node x) = is_special x
is_special_call place (def_node x required defaults body) = has_special_super x defaults body
is_special_call place (sdef_node x required defaults body) = has_special_super x defaults body
is_special_call place _ = false

abbrev pub calls_special : Tree → Bool
calls_special tree = some_node is_special_call at_top tree

-- it assigns a constant, or opens a class or module
abbrev pub is_definition : Place → Tree → Bool
is_definition place (set_const n e) = true
is_definition place (set_scoped base n e) = true
is_definition place (class_node base n superclass body) = true
is_definition place (module_node base n body) = true
is_definition place _ = false

abbrev pub is_plain_tree : Tree → Bool
is_plain_tree tree = not (some_node is_definition at_top tree) && not (calls_special tree)

-- a program that assigns no constant, opens no class or module and calls none of these methods
unfoldable pub is_plain : Program → Bool
is_plain program = list_all (λ s. is_plain_tree s.tree) program

-- ---- straight sessions

-- what makes a reader of each name that it is given
abbrev pub makes_readers : Text → Bool
makes_readers x = bytes_eq x (codes "attr_reader") || bytes_eq x (codes "attr_accessor")

abbrev pub has_special_symbol : Trees → Bool
has_special_symbol no_trees = false
has_special_symbol (tree_then (sym_node x) more) = is_special x || has_special_symbol more
has_special_symbol (tree_then t more) = has_special_symbol more

-- it defines a method of one of these names, also as a reader
abbrev pub defines_special : Place → Tree → Bool
defines_special place (def_node x required optional body) = is_special x
defines_special place (sdef_node x required optional body) = is_special x
defines_special place (self_call x args) = makes_readers x && has_special_symbol args
defines_special place (call_node r x args) = makes_readers x && has_special_symbol args
defines_special place _ = false

abbrev pub has_special_method : Program → Bool
has_special_method program = list_any (λ s. some_node defines_special at_top s.tree) program

-- it calls one of these methods in a method's body or in a default
abbrev pub calls_special_within : Place → Tree → Bool
calls_special_within place tree = place.in_method && is_special_call place tree

abbrev pub has_special_call_within : Program → Bool
has_special_call_within program = list_any (λ s. some_node calls_special_within at_top s.tree) program

-- neither boot nor a key's file defines a method of one of these names, and no method of boot calls one
abbrev pub is_straight : Program → List Program → Bool
is_straight boot files =
    not (has_special_method boot) && not (has_special_call_within boot) && not (list_any has_special_method files)

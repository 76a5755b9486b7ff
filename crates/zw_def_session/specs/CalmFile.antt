-- Calm files: they define their constant and do nothing else that another file could see (this project's own notion).
use Prim.Native.String.{String}
use Rattle.std.specs.Prelude.{Bool, true, false, not, ◌&&◌, ◌||◌, List, [], ◌∷◌, ◌++◌, codes, if◌then◌else◌, Option, Some, None}
use Rattle.std.specs.List.{list_any}
use Rattle.std.specs.Option.{option_map}
use Rattle.std.specs.Str.{bytes_eq}
use Rattle.zw_def.specs.Text.{Text}
use Rattle.zw_def.specs.ConstantPath.{ConstantPath}
use Rattle.zw_def.specs.Nesting.{same_names, child}
use Rattle.zw_def_syntax.specs.Tree.{Tree, Trees, Perhaps, Base, Program, nil_node, true_node, false_node, int_node, str_node, sym_node, array_node, ident_node, const_node, scoped_node, top_const_node, set_ivar, set_const, self_call, def_node, sdef_node, class_node, module_node, no_trees, tree_then, absent, present, innermost, topmost, within_node}
use Rattle.zw_def_session.specs.Plain.{calls_special}

-- ---- literals and constant paths

abbrev mutual
  -- nil, true, false, an integer, a text without interpolation, a symbol, or an array of literals
  pub is_literal : Tree → Bool
  is_literal nil_node = true
  is_literal true_node = true
  is_literal false_node = true
  is_literal (int_node z) = true
  is_literal (str_node t) = true
  is_literal (sym_node t) = true
  is_literal (array_node items) = are_literals items
  is_literal _ = false

  pub are_literals : Trees → Bool
  are_literals no_trees = true
  are_literals (tree_then t ts) = is_literal t && are_literals ts

abbrev pub is_constant_path : Tree → Bool
is_constant_path (const_node n) = true
is_constant_path (top_const_node n) = true
is_constant_path (scoped_node e n) = is_constant_path e
is_constant_path _ = false

abbrev pub is_path_or_absent : Perhaps → Bool
is_path_or_absent absent = true
is_path_or_absent (present e) = is_constant_path e

abbrev pub is_absent : Perhaps → Bool
is_absent absent = true
is_absent (present e) = false

-- the names of a constant path; a leading `::` where that is allowed
abbrev pub names_of_path : Bool → Tree → Option ConstantPath
names_of_path leading (const_node n) = Some (n ∷ [])
names_of_path leading (top_const_node n) = if leading then Some (n ∷ []) else None
names_of_path leading (scoped_node e n) = option_map (λ p. child p n) (names_of_path leading e)
names_of_path leading _ = None

-- the names that a class or module statement writes
abbrev pub written_names : Bool → Base → Text → Option ConstantPath
written_names leading innermost n = Some (n ∷ [])
written_names leading topmost n = if leading then Some (n ∷ []) else None
written_names leading (within_node e) n = option_map (λ p. child p n) (names_of_path leading e)

-- ---- calls that are allowed in a body

abbrev pub is_symbol : Tree → Bool
is_symbol (sym_node t) = true
is_symbol _ = false

abbrev pub are_symbols : Trees → Bool
are_symbols no_trees = true
are_symbols (tree_then t ts) = is_symbol t && are_symbols ts

abbrev pub are_some_symbols : Trees → Bool
are_some_symbols no_trees = false
are_some_symbols (tree_then t ts) = is_symbol t && are_symbols ts

abbrev pub is_def : Tree → Bool
is_def (def_node x required optional body) = true
is_def _ = false

-- a method that calls none of the special methods
abbrev pub is_quiet : Tree → Bool
is_quiet tree = not (calls_special tree)

abbrev pub is_quiet_def : Tree → Bool
is_quiet_def tree = is_def tree && is_quiet tree

abbrev pub are_symbols_or_def : Trees → Bool
are_symbols_or_def (tree_then t no_trees) = is_symbol t || is_quiet_def t
are_symbols_or_def ts = are_symbols ts

abbrev pub is_one_path : Trees → Bool
is_one_path (tree_then t no_trees) = is_constant_path t
is_one_path _ = false

abbrev pub is_named : Text → String → Bool
is_named x name = bytes_eq x (codes name)

abbrev pub is_attribute_name : Text → Bool
is_attribute_name x = is_named x "attr_reader" || is_named x "attr_writer" || is_named x "attr_accessor"

abbrev pub is_privacy_name : Text → Bool
is_privacy_name x = is_named x "private" || is_named x "public"

abbrev pub is_include_name : Text → Bool
is_include_name x = is_named x "include" || is_named x "extend"

abbrev pub is_calm_call : Text → Trees → Bool
is_calm_call x args =
    (is_attribute_name x && are_some_symbols args)
    || (is_privacy_name x && are_symbols_or_def args)
    || (is_include_name x && is_one_path args)

-- ---- bodies

-- the keys of the map, and what the file assigns
pub record Around : Type 0 where
  pub keys : List ConstantPath
  pub assigned : List ConstantPath

abbrev pub is_key : Around → ConstantPath → Bool
is_key around p = list_any (same_names p) around.keys

abbrev pub is_assigned : Around → ConstantPath → Bool
is_assigned around p = list_any (same_names p) around.assigned

abbrev pub is_calm_value : Tree → Bool
is_calm_value e = is_literal e || is_constant_path e

-- a class or module that is no key and no assigned constant
abbrev pub is_own : Around → ConstantPath → Bool
is_own around p = not (is_key around p) && not (is_assigned around p)

abbrev mutual
  -- a statement in the body of the module of that path
  pub is_calm_statement : Around → ConstantPath → Tree → Bool
  is_calm_statement around p (def_node x required optional body) = is_quiet (def_node x required optional body)
  is_calm_statement around p (sdef_node x required optional body) = is_quiet (sdef_node x required optional body)
  is_calm_statement around p (ident_node x) = is_privacy_name x
  is_calm_statement around p (self_call x args) = is_calm_call x args
  is_calm_statement around p (set_const n e) = not (is_key around (child p n)) && is_calm_value e
  is_calm_statement around p (set_ivar x e) = is_calm_value e
  is_calm_statement around p (class_node innermost n superclass body) =
      is_own around (child p n) && is_path_or_absent superclass && is_calm_body around (child p n) body
  is_calm_statement around p (module_node innermost n body) =
      is_own around (child p n) && is_calm_body around (child p n) body
  is_calm_statement around p _ = false

  pub is_calm_body : Around → ConstantPath → Trees → Bool
  is_calm_body around p no_trees = true
  is_calm_body around p (tree_then t ts) = is_calm_statement around p t && is_calm_body around p ts

-- ---- the file

abbrev mutual
  -- the constants that a statement assigns in the module of that path, nested bodies among them
  pub assigned_by : ConstantPath → Tree → List ConstantPath
  assigned_by p (set_const n e) = child p n ∷ []
  assigned_by p (class_node base n superclass body) = assigned_in (child p n) body
  assigned_by p (module_node base n body) = assigned_in (child p n) body
  assigned_by p _ = []

  pub assigned_in : ConstantPath → Trees → List ConstantPath
  assigned_in p no_trees = []
  assigned_in p (tree_then t ts) = assigned_by p t ++ assigned_in p ts

abbrev pub is_calm_inside : List ConstantPath → ConstantPath → Trees → Bool
is_calm_inside keys p body = is_calm_body (record { keys = keys; assigned = assigned_in p body }) p body

-- what is left of a path behind these names
abbrev pub names_after : ConstantPath → ConstantPath → Option ConstantPath
names_after [] p = Some p
names_after (n ∷ ns) [] = None
names_after (n ∷ ns) (o ∷ p) = if bytes_eq n o then names_after ns p else None

abbrev pub rest_after : Option ConstantPath → ConstantPath → Option ConstantPath
rest_after None p = None
rest_after (Some names) p = names_after names p

abbrev mutual
  -- the statement opens the rest of the path by itself, or through outer statements
  pub is_calm_opening : List ConstantPath → ConstantPath → Bool → ConstantPath → Tree → Bool
  is_calm_opening keys p leading rest (class_node base n superclass body) =
      is_calm_opened keys p superclass body (rest_after (written_names leading base n) rest)
  is_calm_opening keys p leading rest (module_node base n body) =
      is_calm_opened keys p absent body (rest_after (written_names leading base n) rest)
  is_calm_opening keys p leading rest _ = false

  -- the innermost statement, or an outer one, which has no superclass and one statement in its body
  pub is_calm_opened : List ConstantPath → ConstantPath → Perhaps → Trees → Option ConstantPath → Bool
  is_calm_opened keys p superclass body None = false
  is_calm_opened keys p superclass body (Some []) = is_path_or_absent superclass && is_calm_inside keys p body
  is_calm_opened keys p superclass (tree_then t no_trees) (Some (n ∷ rest)) =
      is_absent superclass && is_calm_opening keys p false (n ∷ rest) t
  is_calm_opened keys p superclass body (Some (n ∷ rest)) = false

-- one statement at the top, which opens the path
unfoldable pub is_calm_file : List ConstantPath → ConstantPath → Program → Bool
is_calm_file keys p (statement ∷ []) = is_calm_opening keys p true p statement.tree
is_calm_file keys p _ = false

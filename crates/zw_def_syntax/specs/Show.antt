-- A text of a program, which is read back as that program. Each operand and each statement stands in parentheses, so
-- that no level of signs and no command comes into question; a node so takes two brackets at most.
use Prim.Native.String.{String}
use Rattle.std.specs.Prelude.{◌≡◌, ℤ, pos, negsuc, suc, ◌-◌, Bool, true, false, if◌then◌else◌, List, [], ◌∷◌, ◌++◌, codes, map, length, take, decimal, Option, Some, None, Result, Ok, Err}
use Rattle.std.specs.Str.{bytes_eq}
use Rattle.zw_def.specs.Text.{Text, is_upper}
use Rattle.zw_def_syntax.specs.Token.{Kind, Fault, newline, identifier, constant, integer, instance_variable, class_variable, symbol, text, text_begin, text_middle, text_end, keyword, sign}
use Rattle.zw_def_syntax.specs.Character.{first_is, backslash}
use Rattle.zw_def_syntax.specs.Word.{is_equals}
use Rattle.zw_def_syntax.specs.Content.{is_own_escape}
use Rattle.zw_def_syntax.specs.Lexed.{is_among}
use Rattle.zw_def_syntax.specs.Tree.{body_first, Tree, Trees, Perhaps, Branch, Base, Parts, Rescues, Defaults, Program, nil_node, true_node, false_node, self_node, int_node, str_node, sym_node, interp_node, array_node, local_node, ident_node, ivar_node, cvar_node, const_node, scoped_node, top_const_node, set_local, set_ivar, set_cvar, set_const, set_scoped, set_attr, call_node, self_call, super_node, zsuper_node, not_node, and_node, or_node, if_node, while_node, break_node, next_node, return_node, seq_node, begin_node, def_node, sdef_node, class_node, module_node, no_trees, tree_then, absent, present, no_branch, branch, innermost, topmost, within_node, no_parts, text_then, program_then, no_rescues, rescue_then, no_defaults, default_then}
use Rattle.zw_def_syntax.specs.Program.{Parsed, program_of}

-- ---- words

-- a token that is written, with a blank before it unless it is tight
pub record Written : Type 0 where
  pub kind : Kind
  pub tight : Bool

-- some tokens before others
abbrev pub Spelling : Type 0
Spelling = List Written → List Written

infixr 20 ◌<>◌
abbrev pub ◌<>◌ : Spelling → Spelling → Spelling
f <> g = λ ws. f (g ws)

abbrev pub nothing : Spelling
nothing = λ ws. ws

abbrev pub token : Kind → Spelling
token kind = λ ws. record { kind = kind; tight = false } ∷ ws

abbrev pub tight_token : Kind → Spelling
tight_token kind = λ ws. record { kind = kind; tight = true } ∷ ws

abbrev pub word : String → Spelling
word k = token (keyword (codes k))

abbrev pub mark : String → Spelling
mark s = token (sign (codes s))

abbrev pub tight : String → Spelling
tight s = tight_token (sign (codes s))

abbrev pub line_end : Spelling
line_end = tight_token newline

-- a name by its first character
abbrev pub name_kind : Text → Kind
name_kind x = if first_is is_upper x then constant x else identifier x

abbrev pub group : Spelling → Spelling
group f = mark "(" <> f <> mark ")"

-- with commas between
abbrev pub listed : List Spelling → Spelling
listed [] = nothing
listed (f ∷ []) = f
listed (f ∷ g ∷ more) = f <> mark "," <> listed (g ∷ more)

-- parentheses of a call
abbrev pub parens : List Spelling → Spelling
parens args = tight "(" <> listed args <> mark ")"

abbrev pub number : ℤ → Spelling
number (pos n) = token (integer n)
number (negsuc n) = mark "-" <> tight_token (integer (suc n))

-- ---- calls and methods' names

-- a call, by its method's name; operators, an index and a unary `-` have forms of their own
abbrev pub called : Text → Spelling → List Spelling → Spelling
called x r args =
    if bytes_eq x (codes "[]") then r <> tight "[" <> listed args <> mark "]"
    else if bytes_eq x (codes "-@") then mark "-" <> r
    else if is_among (codes "== != <=> < <= > >= + - * / %") x then r <> token (sign x) <> listed args
    else r <> mark "." <> tight_token (name_kind x) <> parens args

abbrev pub ends_with_equals : Text → Bool
ends_with_equals [] = false
ends_with_equals (b ∷ []) = is_equals b
ends_with_equals (b ∷ c ∷ more) = ends_with_equals (c ∷ more)

-- a name that a method is defined by, where `named` writes a word
abbrev pub method_name : (Kind → Spelling) → Text → Spelling
method_name named x =
    if bytes_eq x (codes "[]") then mark "[" <> tight "]"
    else if is_among (codes "== < <= > >= <=> + - * / %") x then token (sign x)
    else if ends_with_equals x then named (name_kind (take (length x - 1) x)) <> tight "="
    else named (name_kind x)

abbrev pub of_self : Text → Spelling
of_self x = word "self" <> tight "." <> method_name tight_token x

-- `x ||= e` makes its variable known before it asks for it, as `x || (x = e)` does not
abbrev pub updated : String → String → Text → Text → Spelling → Spelling
updated between update x y e =
    if bytes_eq x y then token (identifier x) <> mark update <> e
    else group (token (identifier x)) <> mark between <> group (token (identifier y) <> mark "=" <> e)

-- the variable of a rescue clause
abbrev pub rescued : Option Text → Spelling
rescued None = nothing
rescued (Some x) = mark "=>" <> token (identifier x)

-- ---- trees

unfoldable mutual
  -- the tokens of a node, which are a statement
  pub spelled : Tree → Spelling
  spelled nil_node = word "nil"
  spelled true_node = word "true"
  spelled false_node = word "false"
  spelled self_node = word "self"
  spelled (int_node n) = number n
  spelled (str_node t) = token (text t)
  spelled (sym_node t) = token (symbol t)
  spelled (interp_node parts) = spelled_first parts
  spelled (array_node items) = mark "[" <> listed (spelled_each items) <> mark "]"
  spelled (local_node x) = token (identifier x)
  spelled (ident_node x) = token (identifier x)
  spelled (ivar_node x) = token (instance_variable x)
  spelled (cvar_node x) = token (class_variable x)
  spelled (const_node n) = token (constant n)
  spelled (scoped_node b n) = group (spelled b) <> mark "::" <> token (constant n)
  spelled (top_const_node n) = mark "::" <> token (constant n)
  spelled (set_local x e) = token (identifier x) <> mark "=" <> group (spelled e)
  spelled (set_ivar x e) = token (instance_variable x) <> mark "=" <> group (spelled e)
  spelled (set_cvar x e) = token (class_variable x) <> mark "=" <> group (spelled e)
  spelled (set_const n e) = token (constant n) <> mark "=" <> group (spelled e)
  spelled (set_scoped b n e) = group (spelled b) <> mark "::" <> token (constant n) <> mark "=" <> group (spelled e)
  spelled (set_attr r x e) =
      group (spelled r) <> mark "." <> tight_token (identifier x) <> mark "=" <> group (spelled e)
  spelled (call_node r x args) = called x (group (spelled r)) (spelled_each args)
  spelled (self_call x args) = token (identifier x) <> parens (spelled_each args)
  spelled (super_node args) = word "super" <> parens (spelled_each args)
  spelled zsuper_node = word "super"
  spelled (not_node e) = mark "!" <> group (spelled e)
  spelled (and_node (local_node x) (set_local y e)) = updated "&&" "&&=" x y (group (spelled e))
  spelled (and_node a b) = group (spelled a) <> mark "&&" <> group (spelled b)
  spelled (or_node (local_node x) (set_local y e)) = updated "||" "||=" x y (group (spelled e))
  spelled (or_node a b) = group (spelled a) <> mark "||" <> group (spelled b)
  spelled (if_node body_first c (tree_then a no_trees) no_trees) = group (spelled a) <> word "if" <> group (spelled c)
  spelled (if_node body_first c no_trees (tree_then a no_trees)) =
      group (spelled a) <> word "unless" <> group (spelled c)
  spelled (if_node order c a b) =
      word "if" <> group (spelled c) <> word "then" <> spelled_body a <> word "else" <> spelled_body b <> word "end"
  spelled (while_node body_first c (tree_then a no_trees)) = group (spelled a) <> word "while" <> group (spelled c)
  spelled (while_node order c body) = word "while" <> group (spelled c) <> word "do" <> spelled_body body <> word "end"
  spelled break_node = word "break"
  spelled next_node = word "next"
  spelled (return_node e) = word "return" <> spelled_value e
  spelled (seq_node all) = word "begin" <> spelled_body all <> word "end"
  spelled (begin_node body clauses other ensured) =
      word "begin" <> spelled_body body <> spelled_clauses clauses <> spelled_branch "else" other
      <> spelled_branch "ensure" ensured <> word "end"
  spelled (def_node x required defaults body) =
      word "def" <> method_name token x
      <> parens (map (λ y. token (identifier y)) required ++ spelled_defaults defaults)
      <> line_end <> spelled_body body
      <> word "end"
  spelled (sdef_node x required defaults body) =
      word "def" <> of_self x
      <> parens (map (λ y. token (identifier y)) required ++ spelled_defaults defaults)
      <> line_end <> spelled_body body
      <> word "end"
  spelled (class_node base n superclass body) =
      word "class" <> spelled_base base <> token (constant n) <> spelled_superclass superclass <> line_end
      <> spelled_body body <> word "end"
  spelled (module_node base n body) =
      word "module" <> spelled_base base <> token (constant n) <> line_end <> spelled_body body <> word "end"

  -- a path of constants
  pub spelled_path : Tree → Spelling
  spelled_path (const_node n) = token (constant n)
  spelled_path (top_const_node n) = mark "::" <> token (constant n)
  spelled_path (scoped_node b n) = spelled_path b <> mark "::" <> token (constant n)
  spelled_path t = nothing

  -- statements, each on its line
  pub spelled_body : Trees → Spelling
  spelled_body no_trees = nothing
  spelled_body (tree_then t ts) = group (spelled t) <> line_end <> spelled_body ts

  pub spelled_each : Trees → List Spelling
  spelled_each no_trees = []
  spelled_each (tree_then t ts) = group (spelled t) ∷ spelled_each ts

  pub spelled_paths : Trees → List Spelling
  spelled_paths no_trees = []
  spelled_paths (tree_then t ts) = spelled_path t ∷ spelled_paths ts

  pub spelled_value : Perhaps → Spelling
  spelled_value absent = nothing
  spelled_value (present e) = group (spelled e)

  pub spelled_superclass : Perhaps → Spelling
  spelled_superclass absent = nothing
  spelled_superclass (present e) = mark "<" <> group (spelled e)

  pub spelled_branch : String → Branch → Spelling
  spelled_branch k no_branch = nothing
  spelled_branch k (branch ts) = word k <> spelled_body ts

  pub spelled_base : Base → Spelling
  spelled_base innermost = nothing
  spelled_base topmost = mark "::"
  spelled_base (within_node b) = spelled_path b <> mark "::"

  -- the parts of a text: up to the first `#{`, and from a `}` on
  pub spelled_first : Parts → Spelling
  spelled_first no_parts = nothing
  spelled_first (text_then t no_parts) = token (text t)
  spelled_first (text_then t (program_then p more)) = token (text_begin t) <> spelled_body p <> spelled_rest more
  spelled_first _ = nothing

  pub spelled_rest : Parts → Spelling
  spelled_rest (text_then t no_parts) = token (text_end t)
  spelled_rest (text_then t (program_then p more)) = token (text_middle t) <> spelled_body p <> spelled_rest more
  spelled_rest _ = nothing

  pub spelled_clauses : Rescues → Spelling
  spelled_clauses no_rescues = nothing
  spelled_clauses (rescue_then paths x body more) =
      word "rescue" <> listed (spelled_paths paths) <> rescued x <> word "then" <> spelled_body body
      <> spelled_clauses more

  pub spelled_defaults : Defaults → List Spelling
  spelled_defaults no_defaults = []
  spelled_defaults (default_then x e more) =
      (token (identifier x) <> mark "=" <> group (spelled e)) ∷ spelled_defaults more

abbrev pub spelled_program : Program → Spelling
spelled_program [] = nothing
spelled_program (s ∷ more) = group (spelled s.tree) <> line_end <> spelled_program more

-- ---- texts

-- in double quotes a quote, a backslash and a `#` are written by escapes, and all else as it is
abbrev pub escaped : Text → Text
escaped [] = []
escaped (b ∷ bs) = if is_own_escape b then backslash ∷ b ∷ escaped bs else b ∷ escaped bs

abbrev pub text_of : Kind → Text
text_of newline = codes "\n"
text_of (identifier x) = x
text_of (constant x) = x
text_of (integer n) = decimal n
text_of (instance_variable x) = codes "@" ++ x
text_of (class_variable x) = codes "@@" ++ x
text_of (symbol x) = codes ":" ++ x
text_of (text t) = codes "\"" ++ escaped t ++ codes "\""
text_of (text_begin t) = codes "\"" ++ escaped t ++ codes "#{"
text_of (text_middle t) = codes "}" ++ escaped t ++ codes "#{"
text_of (text_end t) = codes "}" ++ escaped t ++ codes "\""
text_of (keyword k) = k
text_of (sign s) = s

abbrev pub written : List Written → Text
written [] = []
written (w ∷ ws) = (if w.tight then [] else codes " ") ++ text_of w.kind ++ written ws

unfoldable pub show : Program → Text
show program = written (spelled_program program [])

-- ---- the law

abbrev pub trees_of : Program → List Tree
trees_of program = map (λ s. s.tree) program

abbrev pub without_lines : Parsed → Result (List Tree) Fault
without_lines (Ok program) = Ok (trees_of program)
without_lines (Err fault) = Err fault

-- the program of the text that is shown is the same, lines aside
abbrev pub IsReadBack : Program → List Text → Type 0
IsReadBack program known = without_lines (program_of known (show program)) ≡ Ok (trees_of program)

-- every program that a text is, with these variables known at its start, is read back
abbrev pub IsAlwaysReadBack : Type 0
IsAlwaysReadBack =
    (known : List Text) (text : Text) (program : Program) → program_of known text ≡ Ok program
    → IsReadBack program known

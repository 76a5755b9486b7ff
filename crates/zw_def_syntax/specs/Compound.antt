-- The grammar of the forms that begin with a keyword and end with `end` (ISO/IEC 30170, 11.5.2, control structures,
-- and 13, classes and modules). An optional part is there exactly where its first token fits, and nothing is tried a
-- second time.
use Prim.Native.String.{String}
use Rattle.std.specs.Prelude.{Bool, true, false, ◌==◌, ◌&&◌, ◌||◌, if◌then◌else◌, List, [], ◌∷◌, ◌++◌, codes, map, Option, Some, None, option_map, option_and_then}
use Rattle.std.specs.Str.{bytes_eq}
use Rattle.zw_def.specs.Text.{Text}
use Rattle.zw_def_syntax.specs.Token.{Kind, Token, sign}
use Rattle.zw_def_syntax.specs.Lexed.{is_among}
use Rattle.zw_def_syntax.specs.Tree.{Order, test_first, Tree, Trees, Perhaps, Branch, Base, Rescues, Defaults, Grown, const_node, scoped_node, top_const_node, not_node, if_node, while_node, seq_node, begin_node, def_node, sdef_node, class_node, module_node, absent, present, no_branch, branch, innermost, topmost, within_node, no_rescues, rescue_then, no_defaults, default_then, flat, ◌<$>◌, ◌<*>◌, node, over, over_both, over_three, row_of, only}
use Rattle.zw_def_syntax.specs.Input.{Input, Parser, ◌>>=◌, ◌>>◌, pure, refuse, given, if_here, repeated, token_at, kind_is, sign_at, sign_next, keyword_next, is_sign_of, is_separator, is_constant, is_variable_name, take_token, take_if, take_sign, take_keyword, take_name, word_of, constant_of, variable_of, open_bracket, close_sign, learn, know, apart}

-- the forms that stand within other forms
pub data Form : Type 0 where
  line_form : Form
  inverse_form : Form
  value_form : Form
  ternary_form : Form
  unary_form : Form

-- what reads those forms, and programs, which are lists of nodes
pub record Reader : Type 0 where
  pub tree : Form → Parser (Grown Tree)
  pub program : Parser (List (Grown Tree))

-- ---- separators

abbrev pub separator_next : Input → Bool
separator_next = kind_is is_separator 0

-- [seps]
unfoldable pub skip_separators : Parser (Unit {0})
skip_separators = repeated separator_next (λ _. take_token) tt

-- seps = (NL | ";") {NL | ";"}
unfoldable pub separators : Parser (Unit {0})
separators = take_if separator_next >> skip_separators

-- then = "then" | seps ["then"]
unfoldable pub then_word : Parser (Unit {0})
then_word = if_here (keyword_next "then") take_token (separators >> if_here (keyword_next "then") take_token (pure tt))

-- "do" | seps
unfoldable pub do_word : Parser (Unit {0})
do_word = if_here (keyword_next "do") take_token separators

-- ---- paths of constants (11.5.4.2 and 13.2.2)

-- the place where the path's last constant stands, and the name of that
pub record Path : Type 0 where
  pub base : Grown Base
  pub name : Text

abbrev pub named_in : Text → Base → Tree
named_in n innermost = const_node n
named_in n topmost = top_const_node n
named_in n (within_node b) = scoped_node b n

-- the path as a node
abbrev pub path_node : Path → Option (Grown Tree)
path_node p = over (named_in p.name) p.base

-- "::" CONST
unfoldable pub longer_path : Path → Parser Path
longer_path p = do
  take_token
  e ← given (path_node p)
  n ← take_name constant_of
  pure (record { base = within_node <$> e; name = n })

-- cpath = path          path = ["::"] CONST {"::" CONST}
unfoldable pub cpath : Parser Path
cpath = do
  base ← if_here (sign_next "::") (take_token >> pure topmost) (pure innermost)
  n ← take_name constant_of
  repeated (sign_next "::") longer_path (record { base = flat base; name = n })

unfoldable pub path : Parser (Grown Tree)
path = cpath >>= λ p. given (path_node p)

abbrev pub path_next : Input → Bool
path_next i = sign_next "::" i || kind_is is_constant 0 i

-- paths = path {"," path}
unfoldable pub paths : Parser (List (Grown Tree))
paths = do
  first ← path
  repeated (sign_next ",") (λ found. take_token >> path >>= λ p. pure (found ++ p ∷ [])) (first ∷ [])

-- ---- the trees of the forms

-- a test, and the body for where it holds
pub record Arm : Type 0 where
  pub test : Grown Tree
  pub body : List (Grown Tree)

-- an `elsif` is an `if` in the `else` of the one before it
abbrev pub chosen : Arm → List Arm → List (Grown Tree) → Option (Grown Tree)
chosen arm [] other = over_three (if_node test_first) arm.test (row_of arm.body) (row_of other)
chosen arm (second ∷ more) other =
    option_and_then (λ rest. over_three (if_node test_first) arm.test (row_of arm.body) (only rest))
    (chosen second more other)

-- `unless` is an `if` with its bodies exchanged
abbrev pub unless_tree : Arm → List (Grown Tree) → Option (Grown Tree)
unless_tree arm other = over_three (if_node test_first) arm.test (row_of other) (row_of arm.body)

abbrev pub while_tree : Order → Grown Tree → Grown Trees → Option (Grown Tree)
while_tree order test body = over_both (while_node order) test body

-- `until` is a `while` over `not`
abbrev pub until_tree : Order → Grown Tree → Grown Trees → Option (Grown Tree)
until_tree order test body = option_and_then (λ negated. while_tree order negated body) (over not_node test)

pub record Rescue : Type 0 where
  pub paths : List (Grown Tree)
  pub variable : Option Text
  pub body : List (Grown Tree)

pub record Clauses : Type 0 where
  pub body : List (Grown Tree)
  pub rescues : List Rescue
  pub other : Option (List (Grown Tree))
  pub ensured : Option (List (Grown Tree))

abbrev pub rescues_of : List Rescue → Grown Rescues
rescues_of [] = flat no_rescues
rescues_of (r ∷ rs) =
    (λ ps body more. rescue_then ps r.variable body more) <$> row_of r.paths <*> row_of r.body <*> rescues_of rs

abbrev pub branch_of : Option (List (Grown Tree)) → Grown Branch
branch_of None = flat no_branch
branch_of (Some all) = branch <$> row_of all

-- no rescue clause and no `ensure`
abbrev pub is_bare : List Rescue → Option (List (Grown Tree)) → Bool
is_bare [] None = true
is_bare _ _ = false

abbrev pub clauses_tree : Clauses → Option (Grown Tree)
clauses_tree c =
    node (
    (λ body rescues other ensured. begin_node body rescues other ensured)
    <$> row_of c.body <*> rescues_of c.rescues <*> branch_of c.other <*> branch_of c.ensured)

-- `begin .. end`
abbrev pub begin_tree : Clauses → Option (Grown Tree)
begin_tree c = if is_bare c.rescues c.ensured then over seq_node (row_of c.body) else clauses_tree c

-- a method's body
abbrev pub method_body : Clauses → Option (Grown Trees)
method_body c = if is_bare c.rescues c.ensured then Some (row_of c.body) else option_map only (clauses_tree c)

pub record Default : Type 0 where
  pub name : Text
  pub value : Grown Tree

pub record Params : Type 0 where
  pub required : List Text
  pub optional : List Default

abbrev pub no_params : Params
no_params = record { required = []; optional = [] }

abbrev pub names_of : Params → List Text
names_of p = p.required ++ map (λ d. d.name) p.optional

-- a parameter without a default comes before those with one
abbrev pub required_after : List Default → Params → Text → Option Params
required_after [] p x = Some (record p { required = p.required ++ x ∷ [] })
required_after (d ∷ ds) p x = None

abbrev pub with_default : Params → Text → Grown Tree → Params
with_default p x e = record p { optional = p.optional ++ record { name = x; value = e } ∷ [] }

abbrev pub defaults_of : List Default → Grown Defaults
defaults_of [] = flat no_defaults
defaults_of (d ∷ ds) = (λ e more. default_then d.name e more) <$> d.value <*> defaults_of ds

pub record Method : Type 0 where
  pub params : Params
  pub clauses : Clauses

abbrev pub def_tree : Bool → Text → Method → Option (Grown Tree)
def_tree on_self x m =
    option_and_then (λ body. node (
    (λ ds all. (if on_self then sdef_node else def_node) x m.params.required ds all)
    <$> defaults_of m.params.optional <*> body))
    (method_body m.clauses)

abbrev pub class_tree : Path → Grown Perhaps → List (Grown Tree) → Option (Grown Tree)
class_tree p above body =
    node ((λ base superclass all. class_node base p.name superclass all) <$> p.base <*> above <*> row_of body)

abbrev pub module_tree : Path → List (Grown Tree) → Option (Grown Tree)
module_tree p body = node ((λ base all. module_node base p.name all) <$> p.base <*> row_of body)

-- ---- methods' names and parameters

-- the token directly after this one, with nothing between, is that one
abbrev pub adjoins : Option Token → Option Token → Bool
adjoins (Some a) (Some b) = a.stop == b.start
adjoins _ _ = false

-- a NAME directly followed by `=` directly followed by `(`
abbrev pub setter_next : Input → Bool
setter_next i =
    sign_at "=" 1 i && sign_at "(" 2 i
    && adjoins (token_at 0 i) (token_at 1 i) && adjoins (token_at 1 i) (token_at 2 i)

-- the signs that name methods
abbrev pub operators : String
operators = "== < <= > >= <=> + - * / %"

abbrev pub operator_of : Kind → Option Text
operator_of (sign s) = if is_among (codes operators) s then Some s else None
operator_of _ = None

unfoldable pub word_method : Parser Text
word_method = if_here setter_next (do x ← take_name word_of; take_token; pure (x ++ codes "=")) (take_name word_of)

-- METHOD; `[]` is two tokens (13.3.1)
unfoldable pub method_name : Parser Text
method_name =
    if_here (sign_next "[") (do open_bracket; close_sign "]"; pure (codes "[]"))
    (if_here (kind_is (is_sign_of operators) 0) (take_name operator_of) word_method)

abbrev pub param_next : Input → Bool
param_next = kind_is is_variable_name 0

-- ---- the rules; `inner` reads what stands within another form

module _ (inner : Reader) where
  -- program, where this keyword stands before it
  abbrev pub program_after : String → Parser (Option (List (Grown Tree)))
  program_after k = if_here (keyword_next k) (take_token >> inner.program >>= λ p. pure (Some p)) (pure None)

  -- line then program
  unfoldable pub arm : Parser Arm
  arm = do
    test ← inner.tree line_form
    then_word
    body ← inner.program
    pure (record { test = test; body = body })

  abbrev pub body_or_none : Option (List (Grown Tree)) → List (Grown Tree)
  body_or_none None = []
  body_or_none (Some all) = all

  -- "if" line then program {"elsif" line then program} ["else" program] "end" (11.5.2.2)
  unfoldable pub if_rule : Parser (Grown Tree)
  if_rule = do
    take_token
    first ← arm
    more ← repeated (keyword_next "elsif") (λ found. take_token >> arm >>= λ a. pure (found ++ a ∷ [])) []
    other ← program_after "else"
    take_keyword "end"
    given (chosen first more (body_or_none other))

  -- "unless" line then program ["else" program] "end"
  unfoldable pub unless_rule : Parser (Grown Tree)
  unless_rule = do
    take_token
    first ← arm
    other ← program_after "else"
    take_keyword "end"
    given (unless_tree first (body_or_none other))

  -- ("while"|"until") line ("do" | seps) program "end" (11.5.2.3)
  unfoldable pub loop_rule : (Grown Tree → Grown Trees → Option (Grown Tree)) → Parser (Grown Tree)
  loop_rule tree_of = do
    take_token
    test ← inner.tree line_form
    do_word
    body ← inner.program
    take_keyword "end"
    given (tree_of test (row_of body))

  -- ["=>" IDENT]
  unfoldable pub rescue_variable : Parser (Option Text)
  rescue_variable =
      if_here (sign_next "=>") (do take_token; x ← take_name variable_of; learn x; pure (Some x)) (pure None)

  -- "rescue" [paths] ["=>" IDENT] then program
  unfoldable pub rescue_clause : Parser Rescue
  rescue_clause = do
    take_token
    found ← if_here path_next paths (pure [])
    variable ← rescue_variable
    then_word
    body ← inner.program
    pure (record { paths = found; variable = variable; body = body })

  -- `else` needs a rescue clause; without one it is left, and nothing goes on with it
  abbrev pub else_after : List Rescue → Parser (Option (List (Grown Tree)))
  else_after [] = pure None
  else_after (r ∷ rs) = program_after "else"

  -- clauses = program {"rescue" [paths] ["=>" IDENT] then program} ["else" program] ["ensure" program]
  unfoldable pub clauses : Parser Clauses
  clauses = do
    body ← inner.program
    rescues ← repeated (keyword_next "rescue") (λ found. rescue_clause >>= λ r. pure (found ++ r ∷ [])) []
    other ← else_after rescues
    ensured ← program_after "ensure"
    pure (record { body = body; rescues = rescues; other = other; ensured = ensured })

  -- "begin" clauses "end" (11.5.2.5)
  unfoldable pub begin_rule : Parser (Grown Tree)
  begin_rule = do
    take_token
    c ← clauses
    take_keyword "end"
    given (begin_tree c)

  -- param = IDENT | IDENT "=" ternary          a parameter is known from its name on
  unfoldable pub param : Params → Parser Params
  param p = do
    x ← take_name variable_of
    learn x
    if_here (sign_next "=")
        (take_token >> inner.tree ternary_form >>= λ e. pure (with_default p x e))
        (given (required_after p.optional p x))

  -- plist = param {"," param}
  unfoldable pub plist : Parser Params
  plist = param no_params >>= repeated (sign_next ",") (λ p. take_token >> param p)

  -- [params]          params = "(" [plist] ")" | plist (13.3.2)
  unfoldable pub optional_params : Parser Params
  optional_params =
      if_here (sign_next "(") (do open_bracket; p ← if_here param_next plist (pure no_params); close_sign ")"; pure p)
      (if_here param_next plist (pure no_params))

  -- [params] [seps] clauses          in the body the parameters alone are known at its start
  unfoldable pub method : Parser Method
  method = do
    p ← optional_params
    know (names_of p)
    skip_separators
    c ← clauses
    pure (record { params = p; clauses = c })

  -- ["self" "."]
  unfoldable pub on_self : Parser Bool
  on_self = if_here (keyword_next "self") (do take_token; take_sign "."; pure true) (pure false)

  -- "def" ["self" "."] METHOD [params] [seps] clauses "end" (13.3.1 and 13.4.3)
  unfoldable pub def_rule : Parser (Grown Tree)
  def_rule = do
    take_token
    own ← on_self
    x ← method_name
    m ← apart method
    take_keyword "end"
    given (def_tree own x m)

  -- ["<" ternary]
  unfoldable pub superclass : Parser (Grown Perhaps)
  superclass =
      if_here (sign_next "<")
      (take_token >> inner.tree ternary_form >>= λ e. pure (present <$> e))
      (pure (flat absent))

  -- "class" cpath ["<" ternary] seps program "end" (13.2.2)
  unfoldable pub class_rule : Parser (Grown Tree)
  class_rule = do
    take_token
    p ← cpath
    above ← superclass
    separators
    body ← apart inner.program
    take_keyword "end"
    given (class_tree p above body)

  -- "module" cpath seps program "end" (13.1.2)
  unfoldable pub module_rule : Parser (Grown Tree)
  module_rule = do
    take_token
    p ← cpath
    separators
    body ← apart inner.program
    take_keyword "end"
    given (module_tree p body)

  -- the form that begins with a keyword
  unfoldable pub compound : Text → Parser (Grown Tree)
  compound k =
      if bytes_eq k (codes "if") then if_rule
      else if bytes_eq k (codes "unless") then unless_rule
      else if bytes_eq k (codes "while") then loop_rule (while_tree test_first)
      else if bytes_eq k (codes "until") then loop_rule (until_tree test_first)
      else if bytes_eq k (codes "begin") then begin_rule
      else if bytes_eq k (codes "def") then def_rule
      else if bytes_eq k (codes "class") then class_rule
      else if bytes_eq k (codes "module") then module_rule
      else refuse

-- The grammar of values, lines, statements and programs (ISO/IEC 30170, 10 to 12), and how deep forms may stand in one
-- another. An optional part is there exactly where its first token fits, and nothing is tried a second time.
use Rattle.std.specs.Prelude.{ℕ, zero, suc, Bool, true, false, not, ◌&&◌, ◌||◌, if◌then◌else◌, List, [], ◌∷◌, ◌++◌, codes, length, take, ◌-◌, Option, Some, None, option_and_then}
use Rattle.std.specs.Option.{option_map_or}
use Rattle.std.specs.Str.{bytes_eq}
use Rattle.zw_def.specs.Text.{Text}
use Rattle.zw_def_syntax.specs.Token.{Kind, identifier, constant, instance_variable, class_variable, text_middle, text_end, keyword, sign}
use Rattle.zw_def_syntax.specs.Lexed.{is_sign}
use Rattle.zw_def_syntax.specs.Tree.{body_first, Tree, Grown, local_node, ivar_node, cvar_node, set_local, set_ivar, set_cvar, set_const, set_scoped, set_attr, self_call, super_node, not_node, and_node, or_node, if_node, break_node, next_node, return_node, seq_node, begin_node, absent, present, no_trees, flat, leaf, over, over_both, over_three, row_of, only}
use Rattle.zw_def_syntax.specs.Input.{Input, Parser, ◌>>=◌, ◌>>◌, pure, refuse, given, here, if_here, repeated, kind_at, kind_is, sign_at, sign_next, keyword_next, is_sign_of, is_keyword_of, is_constant, is_plain, is_separator, is_variable_name, is_known, peek, take_token, take_name, word_of, constant_of, learn}
use Rattle.zw_def_syntax.specs.Compound.{Form, Reader, line_form, inverse_form, value_form, ternary_form, unary_form, separator_next, skip_separators, while_tree, until_tree}
use Rattle.zw_def_syntax.specs.Expression.{argument_at, suffix_next, suffix, arguments, primary, unary, ternary, ternary_from, call}

-- ---- nodes

-- `x op= e` sets `x` to the call of `op` on `x` with `e`; `x ||= e` is the `||` of `x` and the assignment (11.4.2.3)
abbrev pub update_tree : Text → Tree → (Tree → Tree) → Grown Tree → Option (Grown Tree)
update_tree op x set e =
    if bytes_eq op (codes "||=") then option_and_then (λ whole. over_both or_node (leaf x) whole) (over set e)
    else if bytes_eq op (codes "&&=") then option_and_then (λ whole. over_both and_node (leaf x) whole) (over set e)
    else option_and_then (λ value. over set value) (call (take (length op - 1) op) (leaf x) (e ∷ []))

-- a body with a modifier, and its test (12.3 to 12.6)
abbrev pub modified_tree : Text → Grown Tree → Grown Tree → Option (Grown Tree)
modified_tree word body test =
    if bytes_eq word (codes "if") then over_three (if_node body_first) test (only body) (flat no_trees)
    else if bytes_eq word (codes "unless") then over_three (if_node body_first) test (flat no_trees) (only body)
    else if bytes_eq word (codes "while") then while_tree body_first test (only body)
    else until_tree body_first test (only body)

-- the node of a `begin` form
abbrev pub is_begin_node : Tree → Bool
is_begin_node (seq_node all) = true
is_begin_node (begin_node body clauses other ensured) = true
is_begin_node _ = false

-- ---- what stands here

abbrev pub is_target : Kind → Bool
is_target (identifier x) = is_plain x
is_target (instance_variable x) = true
is_target (class_variable x) = true
is_target (constant n) = true
is_target _ = false

abbrev pub sign_of : Kind → Option Text
sign_of (sign s) = Some s
sign_of _ = None

abbrev pub keyword_of : Kind → Option Text
keyword_of (keyword k) = Some k
keyword_of _ = None

-- IDENT, IVAR, CVAR or CONST, and `=`
abbrev pub assignment_next : Input → Bool
assignment_next i = kind_is is_target 0 i && sign_at "=" 1 i

-- a variable, and a sign that updates it; `||=` and `&&=` take IDENT and IVAR alone
abbrev pub is_update : Kind → Kind → Bool
is_update (identifier x) op = is_plain x && is_sign_of "+= -= *= /= %= ||= &&=" op
is_update (instance_variable x) op = is_sign_of "+= -= *= /= %= ||= &&=" op
is_update (class_variable x) op = is_sign_of "+= -= *= /= %=" op
is_update _ op = false

-- simple opsign
abbrev pub update_next : Input → Bool
update_next i = kind_is (λ x. kind_is (is_update x) 1 i) 0 i

-- `return` has no value before these
abbrev pub ends_return : Kind → Bool
ends_return kind =
    is_separator kind || is_sign (codes ")") kind || is_keyword_of "end if unless while until and or" kind

abbrev pub return_ends : Input → Bool
return_ends i = option_map_or ends_return (kind_at 0 i) true

abbrev pub is_unknown_name : Input → Kind → Bool
is_unknown_name i (identifier x) = not (is_known x i)
is_unknown_name i _ = false

-- a name that is no known variable, and an argument
abbrev pub command_next : Input → Bool
command_next i = kind_is (is_unknown_name i) 0 i && argument_at 1 i

abbrev pub super_command_next : Input → Bool
super_command_next i = keyword_next "super" i && argument_at 1 i

abbrev pub is_word : Kind → Bool
is_word (identifier x) = true
is_word (constant x) = true
is_word _ = false

-- after a postfix: "::" CONST "="
abbrev pub scoped_target_next : Input → Bool
scoped_target_next i = sign_next "::" i && kind_is is_constant 1 i && sign_at "=" 2 i

-- after a postfix: "." IDENT "="
abbrev pub attribute_next : Input → Bool
attribute_next i = sign_next "." i && kind_is is_variable_name 1 i && sign_at "=" 2 i

-- after a postfix: "." NAME and an argument
abbrev pub call_command_next : Input → Bool
call_command_next i = sign_next "." i && kind_is is_word 1 i && argument_at 2 i

-- a postfix goes on, and is no target or command yet
abbrev pub plain_suffix_next : Input → Bool
plain_suffix_next i = suffix_next i && not (scoped_target_next i) && not (attribute_next i) && not (call_command_next i)

-- a program ends before these, and at the end of the text
abbrev pub ends_program : Kind → Bool
ends_program (text_middle t) = true
ends_program (text_end t) = true
ends_program kind = is_sign (codes ")") kind || is_keyword_of "end else elsif rescue ensure" kind

abbrev pub program_ends : Input → Bool
program_ends i = option_map_or ends_program (kind_at 0 i) true

-- ---- the rules; `inner` reads what stands within another form

module _ (inner : Reader) where
  -- "=" value
  unfoldable pub assigned : (Grown Tree → Option (Grown Tree)) → Parser (Grown Tree)
  assigned set = do
    take_token
    e ← inner.tree value_form
    given (set e)

  abbrev pub assignment_by : Option Kind → Parser (Grown Tree)
  assignment_by (Some (identifier x)) = learn x >> assigned (over (set_local x))
  assignment_by (Some (instance_variable x)) = assigned (over (set_ivar x))
  assignment_by (Some (class_variable x)) = assigned (over (set_cvar x))
  assignment_by (Some (constant n)) = assigned (over (set_const n))
  assignment_by _ = refuse

  -- target "=" value, where the target is one token; the target comes before its value (11.4.2.2)
  unfoldable pub assignment : Parser (Grown Tree)
  assignment = peek >>= λ target. take_token >> assignment_by target

  -- opsign value
  unfoldable pub updated : Tree → (Tree → Tree) → Parser (Grown Tree)
  updated x set = do
    op ← take_name sign_of
    e ← inner.tree value_form
    given (update_tree op x set e)

  abbrev pub update_by : Option Kind → Parser (Grown Tree)
  update_by (Some (identifier x)) = learn x >> updated (local_node x) (set_local x)
  update_by (Some (instance_variable x)) = updated (ivar_node x) (set_ivar x)
  update_by (Some (class_variable x)) = updated (cvar_node x) (set_cvar x)
  update_by _ = refuse

  -- simple opsign value (11.4.2.3)
  unfoldable pub update : Parser (Grown Tree)
  update = peek >>= λ target. take_token >> update_by target

  -- "return" [value] (11.5.2.4)
  unfoldable pub return_rule : Parser (Grown Tree)
  return_rule = do
    take_token
    if_here return_ends (pure (leaf (return_node absent)))
        (inner.tree value_form >>= λ e. given (over (λ t. return_node (present t)) e))

  -- IDENT args (11.3)
  unfoldable pub command : Parser (Grown Tree)
  command = do
    x ← take_name word_of
    args ← arguments inner
    given (over (self_call x) (row_of args))

  -- "super" args (11.3.4)
  unfoldable pub super_command : Parser (Grown Tree)
  super_command = do
    take_token
    args ← arguments inner
    given (over super_node (row_of args))

  -- postfix "::" CONST "=" value
  unfoldable pub scoped_assignment : Grown Tree → Parser (Grown Tree)
  scoped_assignment b = do
    take_token
    n ← take_name constant_of
    assigned (over_both (λ base e. set_scoped base n e) b)

  -- postfix "." IDENT "=" value
  unfoldable pub attribute_assignment : Grown Tree → Parser (Grown Tree)
  attribute_assignment r = do
    take_token
    x ← take_name word_of
    assigned (over_both (λ receiver e. set_attr receiver x e) r)

  -- postfix "." NAME args (11.3)
  unfoldable pub call_command : Grown Tree → Parser (Grown Tree)
  call_command r = do
    take_token
    x ← take_name word_of
    args ← arguments inner
    given (call x r args)

  -- what a postfix at the front of a value is: a target, a command's front, or an operand
  unfoldable pub postfix_value : Parser (Grown Tree)
  postfix_value = do
    first ← primary inner
    r ← repeated plain_suffix_next (suffix inner) first
    if_here scoped_target_next (scoped_assignment r)
        (if_here attribute_next (attribute_assignment r)
        (if_here call_command_next (call_command r) (ternary_from inner r)))

  abbrev pub operator_next : Input → Bool
  operator_next i = sign_next "!" i || sign_next "-" i

  -- value = target "=" value | simple opsign value | "return" [value] | "break" | "next" | command | ternary
  unfoldable pub value : Parser (Grown Tree)
  value =
      if_here assignment_next assignment
      (if_here update_next update
      (if_here (keyword_next "return") return_rule
      (if_here (keyword_next "break") (take_token >> pure (leaf break_node))
      (if_here (keyword_next "next") (take_token >> pure (leaf next_node))
      (if_here command_next command
      (if_here super_command_next super_command (if_here operator_next (ternary inner) postfix_value)))))))

  -- inverse = "not" inverse | value (11.2.2)
  unfoldable pub inverse : Parser (Grown Tree)
  inverse = if_here (keyword_next "not") (take_token >> inner.tree inverse_form >>= λ a. given (over not_node a)) value

  abbrev pub logic_tree : Text → Grown Tree → Grown Tree → Option (Grown Tree)
  logic_tree word a b = if bytes_eq word (codes "and") then over_both and_node a b else over_both or_node a b

  -- ("and"|"or") inverse
  unfoldable pub logic : Grown Tree → Parser (Grown Tree)
  logic a = do
    word ← take_name keyword_of
    b ← inverse
    given (logic_tree word a b)

  -- line = inverse {("and"|"or") inverse} (11.2.3 and 11.2.4)
  unfoldable pub line : Parser (Grown Tree)
  line = inverse >>= repeated (kind_is (is_keyword_of "and or") 0) logic

  -- ("if"|"unless"|"while"|"until") line
  unfoldable pub modifier : Grown Tree → Parser (Grown Tree)
  modifier body = do
    word ← take_name keyword_of
    test ← line
    given (modified_tree word body test)

  abbrev pub modifiers : Grown Tree → Parser (Grown Tree)
  modifiers = repeated (kind_is (is_keyword_of "if unless while until") 0) modifier

  -- a `begin` form alone takes no modifier `while` or `until` (a rule of this language)
  abbrev pub after_line : Bool → Grown Tree → Parser (Grown Tree)
  after_line begun body =
      if_here (λ i. begun && is_begin_node body.form && kind_is (is_keyword_of "while until") 0 i)
      refuse
      (modifiers body)

  -- stmt = line {("if"|"unless"|"while"|"until") line} (12)
  unfoldable pub statement : Parser (Grown Tree)
  statement = do
    begun ← here (keyword_next "begin")
    body ← line
    after_line begun body

  -- seps [stmt]
  unfoldable pub separated : List (Grown Tree) → Parser (List (Grown Tree))
  separated found = skip_separators >> if_here program_ends (pure found) (statement >>= λ s. pure (found ++ s ∷ []))

  -- program = [seps] [stmt {seps stmt}] [seps] (10)
  unfoldable pub program : Parser (List (Grown Tree))
  program = separated [] >>= repeated separator_next separated

  abbrev pub rule : Form → Parser (Grown Tree)
  rule line_form = line
  rule inverse_form = inverse
  rule value_form = value
  rule ternary_form = ternary inner
  rule unary_form = unary inner

-- forms that stand in one another no deeper than the number
unfoldable pub within : ℕ → Reader
within zero = record { tree = λ form. refuse; program = refuse }
within (suc depth) = record { tree = rule (within depth); program = program (within depth) }

-- Each form that stands within another either stands in a bracket, of which 250 may be open, or is a part of a
-- node, and nodes
-- are no higher than 100. So this number never decides.
abbrev pub max_depth : ℕ
max_depth = 351

-- Parts of rules that are read by functions of their own.
use Rattle.std.specs.Prelude.{◌-◌, List, [], ◌∷◌, ◌++◌, codes, length, take, Option, option_and_then}
use Rattle.zw_def.specs.Text.{Text}
use Rattle.zw_def_syntax.specs.Tree.{Tree, Grown, break_node, next_node, if_node, test_first, local_node, leaf, not_node, over, over_three, row_of, self_call, set_local, super_node}
use Rattle.zw_def_syntax.specs.Input.{Parser, ◌>>=◌, ◌>>◌, close_sign, pure, given, if_here, keyword_next, learn, open_bracket, sign_next, take_sign, take_token}
use Rattle.zw_def_syntax.specs.Levels.{Operand, folded as whole}
use Rattle.zw_def_syntax.specs.Compound.{Reader, inverse_form, ternary_form, unary_form}
use Rattle.zw_def_syntax.specs.Expression.{arguments, call, indexed, items, negative, negative_next, parens, parens_next, postfix, scoped, ternary, ternary_from}
use Rattle.zw_def_syntax.specs.Grammar.{assigned, attribute_assignment, attribute_next, call_command, call_command_next, command, command_next, operator_next, postfix_value, program, return_rule, rule, scoped_assignment, scoped_target_next, statement, super_command, super_command_next, update, update_next, updated}

-- the first of a list
abbrev pub first_argument : Reader → Parser (List (Grown Tree))
first_argument inner = inner.tree ternary_form >>= λ first. pure (first ∷ [])

-- "!" unary
abbrev pub inverted : Reader → Parser (Grown Tree)
inverted inner = take_token >> inner.tree unary_form >>= λ a. given (over not_node a)

-- "-" unary
abbrev pub minus : Reader → Parser (Grown Tree)
minus inner = take_token >> inner.tree unary_form >>= λ a. given (call (codes "-@") a [])

-- "not" inverse
abbrev pub negated : Reader → Parser (Grown Tree)
negated inner = take_token >> inner.tree inverse_form >>= λ a. given (over not_node a)

-- a variable, after its name: it is known in its value
abbrev pub local_assignment : Reader → Text → Parser (Grown Tree)
local_assignment inner x = learn x >> assigned inner (over (set_local x))

-- [args]
abbrev pub optional_arguments : Reader → Parser (List (Grown Tree))
optional_arguments inner = if_here (sign_next ")") (pure []) (arguments inner)

-- [args [","]]
abbrev pub optional_items : Reader → Parser (List (Grown Tree))
optional_items inner = if_here (sign_next "]") (pure []) (items inner)

-- [parens]
abbrev pub optional_parens : Reader → Parser (List (Grown Tree))
optional_parens inner = if_here parens_next (parens inner) (pure [])

-- a name with parentheses, and `super` with them
abbrev pub called_by_name : Reader → Text → Parser (Grown Tree)
called_by_name inner x = parens inner >>= λ args. given (over (self_call x) (row_of args))

abbrev pub super_call : Reader → Parser (Grown Tree)
super_call inner = parens inner >>= λ args. given (over super_node (row_of args))

-- `x op= e` sets `x` to the call of `op` on `x` with `e`
abbrev pub set_to_call : Text → Tree → (Tree → Tree) → Grown Tree → Option (Grown Tree)
set_to_call op x set e =
    option_and_then (λ value. over set value) (call (take (length op - 1) op) (leaf x) (e ∷ []))

-- a variable, after its name, and a sign that updates it
abbrev pub local_update : Reader → Text → Parser (Grown Tree)
local_update inner x = learn x >> updated inner (local_node x) (set_local x)

-- what stands behind a postfix at the front of a value
abbrev pub call_or_operation : Reader → Grown Tree → Parser (Grown Tree)
call_or_operation inner r = if_here call_command_next (call_command inner r) (ternary_from inner r)

abbrev pub attribute_or_call : Reader → Grown Tree → Parser (Grown Tree)
attribute_or_call inner r = if_here attribute_next (attribute_assignment inner r) (call_or_operation inner r)

abbrev pub behind_postfix : Reader → Grown Tree → Parser (Grown Tree)
behind_postfix inner r = if_here scoped_target_next (scoped_assignment inner r) (attribute_or_call inner r)

-- an operation, or what a postfix begins
abbrev pub plain_operation : Reader → Parser (Grown Tree)
plain_operation inner = if_here (operator_next inner) (ternary inner) (postfix_value inner)

abbrev pub super_or_operation : Reader → Parser (Grown Tree)
super_or_operation inner = if_here super_command_next (super_command inner) (plain_operation inner)

abbrev pub operation : Reader → Parser (Grown Tree)
operation inner = if_here command_next (command inner) (super_or_operation inner)

-- a value that is no assignment to one token: a jump, a command, or an operation
abbrev pub next_or_operation : Reader → Parser (Grown Tree)
next_or_operation inner = if_here (keyword_next "next") (take_token >> pure (leaf next_node)) (operation inner)

abbrev pub break_or_operation : Reader → Parser (Grown Tree)
break_or_operation inner =
    if_here (keyword_next "break") (take_token >> pure (leaf break_node)) (next_or_operation inner)

abbrev pub action : Reader → Parser (Grown Tree)
action inner = if_here (keyword_next "return") (return_rule inner) (break_or_operation inner)

abbrev pub update_or_action : Reader → Parser (Grown Tree)
update_or_action inner = if_here update_next (update inner) (action inner)

-- "-" unary | postfix, and with an integer directly behind the sign
abbrev pub minus_or_postfix : Reader → Parser (Grown Tree)
minus_or_postfix inner = if_here (sign_next "-") (minus inner) (postfix inner)

abbrev pub signed : Reader → Parser (Grown Tree)
signed inner = if_here negative_next (negative inner) (minus_or_postfix inner)

-- "::" CONST | "[" args "]"
abbrev pub scoped_or_indexed : Reader → Grown Tree → Parser (Grown Tree)
scoped_or_indexed inner r = if_here (sign_next "::") (scoped inner r) (indexed inner r)

-- "[" args "]"
abbrev pub index_arguments : Reader → Parser (List (Grown Tree))
index_arguments inner = do
  open_bracket
  args ← arguments inner
  close_sign "]"
  pure args

abbrev pub index_by_arguments : Reader → Grown Tree → Parser (Grown Tree)
index_by_arguments inner r = index_arguments inner >>= λ args. given (call (codes "[]") r args)

-- ternary ":" ternary, each a body of its own
pub record Bodies : Type 0 where
  pub body : List (Grown Tree)
  pub other : List (Grown Tree)

abbrev pub both_alternatives : Reader → Parser Bodies
both_alternatives inner = do
  a ← inner.tree ternary_form
  take_sign ":"
  b ← inner.tree ternary_form
  pure (record { body = a ∷ []; other = b ∷ [] })

abbrev pub choice_of : Grown Tree → Bodies → Option (Grown Tree)
choice_of test both = over_three (if_node test_first) test (row_of both.body) (row_of both.other)

abbrev pub alternatives_by_both : Reader → Grown Tree → Parser (Grown Tree)
alternatives_by_both inner test = do
  take_token
  both ← both_alternatives inner
  given (choice_of test both)

-- a statement more
abbrev pub with_statement : Reader → List (Grown Tree) → Parser (List (Grown Tree))
with_statement inner found = statement inner >>= λ s. pure (found ++ s ∷ [])

-- the node of a first operand and those behind it
abbrev pub folded : Grown Tree → List Operand → Option (Grown Tree)
folded first more = whole (record { first = first; more = more })

-- what reads the forms within, where the rules read what stands within these by `inner`
abbrev pub reader_of : Reader → Reader
reader_of inner = record { tree = rule inner; program = program inner }

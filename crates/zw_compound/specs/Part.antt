-- Parts of rules that are read by functions of their own.
use Rattle.std.specs.Prelude.{List, [], ◌∷◌, ◌++◌, codes, Option, Some, None, option_map}
use Rattle.zw_def.specs.Text.{Text}
use Rattle.zw_def_syntax.specs.Lexed.{is_keyword}
use Rattle.zw_def_syntax.specs.Tree.{Tree, Trees, Grown, Base, test_first, if_node, innermost, topmost, within_node, flat, ◌<$>◌, over_three, row_of}
use Rattle.zw_def_syntax.specs.Input.{Parser, ◌>>=◌, ◌>>◌, apart, pure, given, if_here, keyword_next, kind_is, sign_next, close_sign, open_bracket, take_keyword, take_name, take_token, constant_of}
use Rattle.zw_def_syntax.specs.Compound.{Reader, line_form, ternary_form, do_word, separators, cpath, superclass, class_tree, module_tree, Path, Arm, Rescue, Params, chosen, path, path_next, paths, arm, rescue_clause, param, param_next, plist, no_params, required_after as required_behind, with_default}

-- ["then"]
abbrev pub optional_then : Parser (Unit {0})
optional_then = if_here (keyword_next "then") take_token (pure tt)

-- ["::"]
abbrev pub first_base : Parser Base
first_base = if_here (sign_next "::") (take_token >> pure topmost) (pure innermost)

-- ["::"] CONST
abbrev pub first_path : Parser Path
first_path = first_base >>= λ base. take_name constant_of >>= λ n. pure (record { base = flat base; name = n })

-- a constant of what a node gives
abbrev pub path_inside : Grown Tree → Text → Path
path_inside base n = record { base = within_node <$> base; name = n }

-- one more path in the list, the first of one, and [paths]
abbrev pub one_more_path : List (Grown Tree) → Parser (List (Grown Tree))
one_more_path found = take_token >> path >>= λ p. pure (found ++ p ∷ [])

abbrev pub first_of_paths : Parser (List (Grown Tree))
first_of_paths = path >>= λ first. pure (first ∷ [])

abbrev pub optional_paths : Parser (List (Grown Tree))
optional_paths = if_here path_next paths (pure [])

-- ---- what stands in an `else`

abbrev pub choice_of : Arm → List (Grown Tree) → Option (Grown Tree)
choice_of a other = over_three (if_node test_first) a.test (row_of a.body) (row_of other)

abbrev pub else_of_one : Arm → List (Grown Tree) → Option (List (Grown Tree))
else_of_one a other = option_map (λ t. t ∷ []) (choice_of a other)

-- before these arms, the last of which has these statements in its own
abbrev pub else_of : List Arm → List (Grown Tree) → Option (List (Grown Tree))
else_of [] other = Some other
else_of (a ∷ more) other = option_map (λ t. t ∷ []) (chosen a more other)

-- ---- parameters

abbrev pub required_after : Params → Text → Option Params
required_after p x = required_behind p.optional p x

-- ---- with what stands within another form

-- "elsif" arm
abbrev pub one_more_arm : Reader → List Arm → Parser (List Arm)
one_more_arm inner found = take_token >> arm inner >>= λ a. pure (found ++ a ∷ [])

-- program, where this keyword stands before it
abbrev pub program_behind : Reader → Text → Parser (Option (List (Grown Tree)))
program_behind inner k = if_here (kind_is (is_keyword k) 0) (take_token >> inner.program >>= λ p. pure (Some p)) (pure None)

abbrev pub one_more_clause : Reader → List Rescue → Parser (List Rescue)
one_more_clause inner found = rescue_clause inner >>= λ r. pure (found ++ r ∷ [])

-- "=" ternary
abbrev pub default_of : Reader → Params → Text → Parser Params
default_of inner p x = take_token >> inner.tree ternary_form >>= λ e. pure (with_default p x e)

-- "," param
abbrev pub one_more_param : Reader → Params → Parser Params
one_more_param inner p = take_token >> param inner p

abbrev pub optional_plist : Reader → Parser Params
optional_plist inner = if_here param_next (plist inner) (pure no_params)

-- "(" [plist] ")"
abbrev pub params_in_parens : Reader → Parser Params
params_in_parens inner = open_bracket >> optional_plist inner >>= λ p. close_sign ")" >> pure p

-- "[" "]"
abbrev pub index_method : Parser Text
index_method = open_bracket >> close_sign "]" >> pure (codes "[]")

-- line ("do" | seps) program
abbrev pub loop_arm : Reader → Parser Arm
loop_arm inner = do
  test ← inner.tree line_form
  do_word
  body ← inner.program
  pure (record { test = test; body = body })

-- ("while"|"until") line ("do" | seps) program "end"
abbrev pub loop_by_arm : Reader → (Grown Tree → Grown Trees → Option (Grown Tree)) → Parser (Grown Tree)
loop_by_arm inner tree_of = do
  take_token
  a ← loop_arm inner
  take_keyword "end"
  given (tree_of a.test (row_of a.body))

-- seps program "end"
abbrev pub closed_body : Reader → Parser (List (Grown Tree))
closed_body inner = do
  separators
  body ← apart inner.program
  take_keyword "end"
  pure body

-- "class" cpath ["<" ternary] seps program "end"
abbrev pub class_by_body : Reader → Parser (Grown Tree)
class_by_body inner = do
  take_token
  p ← cpath
  above ← superclass inner
  body ← closed_body inner
  given (class_tree p above body)

-- "module" cpath seps program "end"
abbrev pub module_by_body : Reader → Parser (Grown Tree)
module_by_body inner = do
  take_token
  p ← cpath
  body ← closed_body inner
  given (module_tree p body)

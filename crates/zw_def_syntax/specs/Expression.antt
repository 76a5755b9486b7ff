-- The grammar of operators, calls and what they stand on (ISO/IEC 30170, 11.3 to 11.5). An optional part is there
-- exactly where its first token fits, and nothing is tried a second time.
use Rattle.std.specs.Prelude.{ℕ, pos, neg_ℤ, Bool, true, false, not, ◌&&◌, ◌||◌, if◌then◌else◌, List, [], ◌∷◌, ◌++◌, codes, Option, Some, None}
use Rattle.std.specs.Option.{option_map_or}
use Rattle.std.specs.Str.{bytes_eq}
use Rattle.zw_def.specs.Text.{Text}
use Rattle.zw_def_syntax.specs.Token.{Kind, Token, identifier, constant, integer, instance_variable, class_variable, symbol, text, text_begin, text_middle, text_end, keyword, sign}
use Rattle.zw_def_syntax.specs.Lexed.{is_among}
use Rattle.zw_def_syntax.specs.Tree.{test_first, Tree, Parts, Grown, nil_node, true_node, false_node, self_node, int_node, str_node, sym_node, interp_node, array_node, local_node, ident_node, ivar_node, cvar_node, const_node, scoped_node, top_const_node, call_node, self_call, super_node, zsuper_node, not_node, if_node, seq_node, no_trees, no_parts, text_then, program_then, flat, ◌<$>◌, ◌<*>◌, node, leaf, over, over_three, row_of, only}
use Rattle.zw_def_syntax.specs.Input.{Input, Parser, ◌>>=◌, ◌>>◌, pure, refuse, given, if_here, repeated, token_at, kind_is, sign_at, sign_next, is_sign_of, is_plain, is_known, peek, take_token, take_sign, take_name, word_of, constant_of, open_bracket, close_bracket, close_sign}
use Rattle.zw_def_syntax.specs.Levels.{Operand, operand_signs, folded}
use Rattle.zw_def_syntax.specs.Compound.{Reader, ternary_form, unary_form, adjoins, compound}

-- ---- nodes

abbrev pub call : Text → Grown Tree → List (Grown Tree) → Option (Grown Tree)
call x r args = node ((λ receiver all. call_node receiver x all) <$> r <*> row_of args)

-- parentheses round one statement add nothing
abbrev pub grouped_tree : List (Grown Tree) → Option (Grown Tree)
grouped_tree (one ∷ []) = Some one
grouped_tree all = over seq_node (row_of all)

-- a text, and the program of the interpolation after it
pub record Segment : Type 0 where
  pub text : Text
  pub program : List (Grown Tree)

-- every text is kept, an empty one too
abbrev pub parts_of : List Segment → Text → Grown Parts
parts_of [] last = flat (text_then last no_parts)
parts_of (s ∷ ss) last =
    (λ body more. text_then s.text (program_then body more)) <$> row_of s.program <*> parts_of ss last

-- a name without parentheses: a variable where it is known, and a call where it ends in `?` or `!`
abbrev pub name_tree : Text → Bool → Tree
name_tree x known = if known then local_node x else if is_plain x then ident_node x else self_call x no_trees

-- ---- what stands here

-- parentheses of a call, and the `[` of an index, have no blank before them
abbrev pub unspaced : Token → Bool
unspaced t = not t.blank_before

abbrev pub parens_next : Input → Bool
parens_next i = sign_next "(" i && option_map_or unspaced (token_at 0 i) false

abbrev pub index_next : Input → Bool
index_next i = sign_next "[" i && option_map_or unspaced (token_at 0 i) false

abbrev pub is_integer : Kind → Bool
is_integer (integer n) = true
is_integer _ = false

-- a `-` directly before an integer
abbrev pub negative_next : Input → Bool
negative_next i = sign_next "-" i && kind_is is_integer 1 i && adjoins (token_at 0 i) (token_at 1 i)

-- the signs and the keywords with which an argument of a command begins; a `-` does so where no blank follows it
abbrev pub begins_argument : Kind → Bool → Bool
begins_argument (integer n) blank = true
begins_argument (text t) blank = true
begins_argument (text_begin t) blank = true
begins_argument (symbol s) blank = true
begins_argument (identifier x) blank = true
begins_argument (constant n) blank = true
begins_argument (instance_variable x) blank = true
begins_argument (class_variable x) blank = true
begins_argument (keyword k) blank = is_among (codes "nil true false self super def") k
begins_argument (sign s) blank = is_among (codes "[ ! ( ::") s || (bytes_eq s (codes "-") && not blank)
begins_argument _ blank = false

-- the arguments of a command begin on its line, after a blank
abbrev pub is_argument_start : Token → Bool
is_argument_start t = t.blank_before && begins_argument t.kind t.blank_after

abbrev pub argument_at : ℕ → Input → Bool
argument_at n i = option_map_or is_argument_start (token_at n i) false

-- what goes on with a postfix
abbrev pub suffix_next : Input → Bool
suffix_next i = sign_next "." i || sign_next "::" i || index_next i

-- a `,` with an item after it
abbrev pub item_next : Input → Bool
item_next i = sign_next "," i && not (sign_at "]" 1 i)

abbrev pub between_of : Kind → Option Text
between_of (sign s) = if is_among (codes operand_signs) s then Some s else None
between_of _ = None

abbrev pub middle_of : Kind → Option Text
middle_of (text_middle t) = Some t
middle_of _ = None

abbrev pub is_middle : Kind → Bool
is_middle (text_middle t) = true
is_middle _ = false

-- takes the integer that the token is
abbrev pub integer_by : Option Kind → Parser ℕ
integer_by (Some (integer n)) = take_token >> pure n
integer_by _ = refuse

unfoldable pub take_integer : Parser ℕ
take_integer = peek >>= integer_by

-- takes the end of a text, and closes its last `#{`
abbrev pub closing_by : Option Kind → Parser Text
closing_by (Some (text_end t)) = close_bracket >> pure t
closing_by _ = refuse

unfoldable pub close_text : Parser Text
close_text = peek >>= closing_by

-- ---- the rules; `inner` reads what stands within another form

module _ (inner : Reader) where
  -- one more ternary in the list
  abbrev pub one_more : List (Grown Tree) → Parser (List (Grown Tree))
  one_more found = take_token >> inner.tree ternary_form >>= λ x. pure (found ++ x ∷ [])

  -- args = ternary {"," ternary} (11.3.2)
  unfoldable pub arguments : Parser (List (Grown Tree))
  arguments = inner.tree ternary_form >>= λ first. repeated (sign_next ",") one_more (first ∷ [])

  -- parens = "(" [args] ")"
  unfoldable pub parens : Parser (List (Grown Tree))
  parens = do
    open_bracket
    found ← if_here (sign_next ")") (pure []) arguments
    close_sign ")"
    pure found

  -- args [","]
  unfoldable pub items : Parser (List (Grown Tree))
  items = do
    first ← inner.tree ternary_form
    found ← repeated item_next one_more (first ∷ [])
    if_here (sign_next ",") take_token (pure tt)
    pure found

  -- "[" [args [","]] "]" (11.5.5)
  unfoldable pub array : Parser (Grown Tree)
  array = do
    open_bracket
    found ← if_here (sign_next "]") (pure []) items
    close_sign "]"
    given (over array_node (row_of found))

  -- "(" program ")" (11.5.3)
  unfoldable pub grouped : Parser (Grown Tree)
  grouped = do
    open_bracket
    found ← inner.program
    close_sign ")"
    given (grouped_tree found)

  -- IDENT [parens]
  unfoldable pub named : Text → Parser (Grown Tree)
  named x = do
    take_token
    if_here parens_next (parens >>= λ args. given (over (self_call x) (row_of args)))
        (λ i. pure (leaf (name_tree x (is_known x i))) i)

  -- "super" [parens] (11.3.4)
  unfoldable pub super_rule : Parser (Grown Tree)
  super_rule = do
    take_token
    if_here parens_next (parens >>= λ args. given (over super_node (row_of args))) (pure (leaf zsuper_node))

  -- "::" CONST
  unfoldable pub top_constant : Parser (Grown Tree)
  top_constant = do
    take_token
    n ← take_name constant_of
    pure (leaf (top_const_node n))

  -- `}` text `#{` program          the bracket before it is closed, and one is opened
  unfoldable pub segment : List Segment → Parser (List Segment)
  segment found = do
    t ← take_name middle_of
    body ← inner.program
    pure (found ++ record { text = t; program = body } ∷ [])

  -- a text up to its first `#{`, a program, and so on up to its quote (8.7.6.3)
  unfoldable pub interpolation : Text → Parser (Grown Tree)
  interpolation t = do
    open_bracket
    body ← inner.program
    found ← repeated (kind_is is_middle 0) segment (record { text = t; program = body } ∷ [])
    last ← close_text
    given (over interp_node (parts_of found last))

  abbrev pub taken : Tree → Parser (Grown Tree)
  taken t = take_token >> pure (leaf t)

  abbrev pub keyword_primary : Text → Parser (Grown Tree)
  keyword_primary k =
      if bytes_eq k (codes "nil") then taken nil_node
      else if bytes_eq k (codes "true") then taken true_node
      else if bytes_eq k (codes "false") then taken false_node
      else if bytes_eq k (codes "self") then taken self_node
      else if bytes_eq k (codes "super") then super_rule
      else compound inner k

  abbrev pub sign_primary : Text → Parser (Grown Tree)
  sign_primary s =
      if bytes_eq s (codes "::") then top_constant
      else if bytes_eq s (codes "(") then grouped
      else if bytes_eq s (codes "[") then array
      else refuse

  abbrev pub primary_by : Option Kind → Parser (Grown Tree)
  primary_by None = refuse
  primary_by (Some (integer n)) = taken (int_node (pos n))
  primary_by (Some (text t)) = taken (str_node t)
  primary_by (Some (text_begin t)) = interpolation t
  primary_by (Some (symbol s)) = taken (sym_node s)
  primary_by (Some (instance_variable x)) = taken (ivar_node x)
  primary_by (Some (class_variable x)) = taken (cvar_node x)
  primary_by (Some (identifier x)) = named x
  primary_by (Some (constant n)) = taken (const_node n)
  primary_by (Some (keyword k)) = keyword_primary k
  primary_by (Some (sign s)) = sign_primary s
  primary_by (Some _) = refuse

  -- primary = INT | text | SYMBOL | IVAR | CVAR | "nil" | "true" | "false" | "self"
  --         | IDENT [parens] | CONST | "::" CONST
  --         | "super" [parens] | "(" program ")" | "[" [args [","]] "]" | the forms with `end` (11.5)
  unfoldable pub primary : Parser (Grown Tree)
  primary = peek >>= primary_by

  -- "." NAME [parens] (11.3)
  unfoldable pub called : Grown Tree → Parser (Grown Tree)
  called r = do
    take_token
    x ← take_name word_of
    args ← if_here parens_next parens (pure [])
    given (call x r args)

  -- "::" CONST (11.5.4.2)
  unfoldable pub scoped : Grown Tree → Parser (Grown Tree)
  scoped r = do
    take_token
    n ← take_name constant_of
    given (over (λ t. scoped_node t n) r)

  -- "[" args "]"
  unfoldable pub indexed : Grown Tree → Parser (Grown Tree)
  indexed r = do
    open_bracket
    args ← arguments
    close_sign "]"
    given (call (codes "[]") r args)

  abbrev pub suffix : Grown Tree → Parser (Grown Tree)
  suffix r = if_here (sign_next ".") (called r) (if_here (sign_next "::") (scoped r) (indexed r))

  unfoldable pub suffixes : Grown Tree → Parser (Grown Tree)
  suffixes r = repeated suffix_next suffix r

  -- postfix = primary {"." NAME [parens] | "::" CONST | "[" args "]"}
  unfoldable pub postfix : Parser (Grown Tree)
  postfix = primary >>= suffixes

  -- a `-` directly before an integer makes with it the negative integer, and what follows applies to that
  unfoldable pub negative : Parser (Grown Tree)
  negative = do
    take_token
    n ← take_integer
    suffixes (leaf (int_node (neg_ℤ (pos n))))

  -- unary = "!" unary | "-" unary | postfix (11.2.5 and 11.4.3)
  unfoldable pub unary : Parser (Grown Tree)
  unary =
      if_here (sign_next "!") (take_token >> inner.tree unary_form >>= λ a. given (over not_node a))
      (if_here negative_next negative
      (if_here (sign_next "-") (take_token >> inner.tree unary_form >>= λ a. given (call (codes "-@") a [])) postfix))

  -- a sign and its operand
  unfoldable pub operand : List Operand → Parser (List Operand)
  operand found = do
    s ← take_name between_of
    a ← unary
    pure (found ++ record { sign = s; value = a } ∷ [])

  -- the levels from `or` to `term`, from their first operand on (11.2 and 11.4.4)
  unfoldable pub operation_from : Grown Tree → Parser (Grown Tree)
  operation_from first =
      repeated (kind_is (is_sign_of operand_signs) 0) operand []
      >>= λ more. given (folded (record { first = first; more = more }))

  -- "?" ternary ":" ternary
  unfoldable pub alternatives : Grown Tree → Parser (Grown Tree)
  alternatives test = do
    take_token
    a ← inner.tree ternary_form
    take_sign ":"
    b ← inner.tree ternary_form
    given (over_three (if_node test_first) test (only a) (only b))

  -- ternary = or ["?" ternary ":" ternary], from its first operand on (11.5.2.2)
  unfoldable pub ternary_from : Grown Tree → Parser (Grown Tree)
  ternary_from first = operation_from first >>= λ test. if_here (sign_next "?") (alternatives test) (pure test)

  unfoldable pub ternary : Parser (Grown Tree)
  ternary = unary >>= ternary_from

-- The levels of the signs between operands (ISO/IEC 30170, 11.2 and 11.4.3 to 11.4.4).
--     or      = and {"||" and}
--     and     = equal {"&&" equal}
--     equal   = compare [("==" | "!=" | "<=>") compare]
--     compare = sum {("<" | "<=" | ">" | ">=") sum}
--     sum     = term {("+" | "-") term}
--     term    = unary {("*" | "/" | "%") unary}
use Prim.Native.String.{String}
use Rattle.std.specs.Prelude.{Bool, true, false, ◌&&◌, if◌then◌else◌, List, [], ◌∷◌, codes, Option, Some, None, option_map, option_and_then}
use Rattle.std.specs.Str.{bytes_eq}
use Rattle.zw_def.specs.Text.{Text}
use Rattle.zw_def_syntax.specs.Lexed.{is_among}
use Rattle.zw_def_syntax.specs.Tree.{Tree, Grown, call_node, and_node, or_node, no_trees, tree_then, over_both}

-- an operand after another, and the sign between them
pub record Operand : Type 0 where
  pub sign : Text
  pub value : Grown Tree

-- operands with signs between them
pub record Chain : Type 0 where
  pub first : Grown Tree
  pub more : List Operand

pub data Level : Type 0 where
  or_level : Level
  and_level : Level
  equal_level : Level
  compare_level : Level
  sum_level : Level
  term_level : Level

-- the signs of a level
abbrev pub signs_of : Level → Text
signs_of or_level = codes "||"
signs_of and_level = codes "&&"
signs_of equal_level = codes "== != <=>"
signs_of compare_level = codes "< <= > >="
signs_of sum_level = codes "+ -"
signs_of term_level = codes "* / %"

abbrev pub is_of : Level → Text → Bool
is_of level sign = is_among (signs_of level) sign

-- the signs of all levels
abbrev pub operand_signs : String
operand_signs = "|| && == != <=> < <= > >= + - * / %"

-- of this level's signs one stands alone: `a == b == c` is no expression
abbrev pub stands_alone : Level → Bool
stands_alone equal_level = true
stands_alone _ = false

-- two operands with a sign between them: `&&` and `||` are nodes of their own, and the others are calls of methods
abbrev pub join : Text → Tree → Tree → Tree
join sign a b =
    if bytes_eq sign (codes "&&") then and_node a b
    else if bytes_eq sign (codes "||") then or_node a b
    else call_node a sign (tree_then b no_trees)

-- an operand in front of a chain
abbrev pub before : Grown Tree → Text → Chain → Chain
before a sign chain = record { first = a; more = record { sign = sign; value = chain.first } ∷ chain.more }

-- an operand and the next one, where `more` goes on with the rest after the one at its front. Where the sign between
-- them is of the level (the last flag) the two are one. The first flag says that the operand was made so.
abbrev pub joined_by : Level → Bool → Grown Tree → Operand → (Bool → Grown Tree → Option Chain) → Bool → Option Chain
joined_by level made a b more true =
    if made && stands_alone level then None
    else option_and_then (λ whole. more true whole) (over_both (join b.sign) a b.value)
joined_by level made a b more false = option_map (λ rest. before a b.sign rest) (more false b.value)

-- the operands, with those between which a sign of the level stands made into one, from the left
unfoldable pub joined_from : Level → Bool → Grown Tree → List Operand → Option Chain
joined_from level made a [] = Some (record { first = a; more = [] })
joined_from level made a (b ∷ more) = joined_by level made a b (λ m c. joined_from level m c more) (is_of level b.sign)

abbrev pub joined : Level → Chain → Option Chain
joined level chain = joined_from level false chain.first chain.more

abbrev pub only_operand : Grown Tree → List Operand → Option (Grown Tree)
only_operand a [] = Some a
only_operand a (b ∷ more) = None

infixl 10 ◌then◌
abbrev pub ◌then◌ : {A B : Type 0} → Option A → (A → Option B) → Option B
o then f = option_and_then f o

-- the tightest level first
unfoldable pub folded : Chain → Option (Grown Tree)
folded chain =
    joined term_level chain then joined sum_level then joined compare_level
    then joined equal_level then joined and_level then joined or_level
    then (λ whole. only_operand whole.first whole.more)

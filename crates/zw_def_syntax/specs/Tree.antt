-- Programs as trees, and the heights of their parts.
use Rattle.std.specs.Prelude.{ℕ, ℤ, ◌+◌, max, nat_lt, if◌then◌else◌, List, [], ◌∷◌, Option, Some, None}
use Rattle.zw_def.specs.Text.{Text}

-- ---- nodes

-- What stands first in the text, the test or the body that a modifier follows. It changes nothing of what a node
-- does, and tells which variables were known where: `x if x = 1` asks for a method `x`, and `if x = 1 then x end` does
-- not.
pub data Order : Type 0 where
  test_first : Order
  body_first : Order

mutual
  -- The forty kinds of nodes. A body is a list of nodes, its statements. Arguments, the paths of a rescue clause
  -- and the items of an array are lists of nodes, too.
  pub data Tree : Type 0 where
    -- values, `self`, texts with interpolations, and arrays (ISO/IEC 30170, 11.5.4.8, 8.7.6 and 11.5.5)
    nil_node : Tree
    true_node : Tree
    false_node : Tree
    self_node : Tree
    int_node : ℤ → Tree
    str_node : Text → Tree
    sym_node : Text → Tree
    interp_node : Parts → Tree
    array_node : Trees → Tree
    -- a variable that is known, a name that may be a variable or a method, and the other variables (11.5.4)
    local_node : Text → Tree
    ident_node : Text → Tree
    ivar_node : Text → Tree
    cvar_node : Text → Tree
    -- `N`, `e::N` and `::N` (11.5.4.2)
    const_node : Text → Tree
    scoped_node : Tree → Text → Tree
    top_const_node : Text → Tree
    -- assignments (11.4.2)
    set_local : Text → Tree → Tree
    set_ivar : Text → Tree → Tree
    set_cvar : Text → Tree → Tree
    set_const : Text → Tree → Tree
    -- `b::N = e`
    set_scoped : Tree → Text → Tree → Tree
    -- `r.x = e`
    set_attr : Tree → Text → Tree → Tree
    -- calls with a receiver, on `self`, and of the next method: with arguments, and with the parameters' values (11.3)
    call_node : Tree → Text → Trees → Tree
    self_call : Text → Trees → Tree
    super_node : Trees → Tree
    zsuper_node : Tree
    -- logic (11.2)
    not_node : Tree → Tree
    and_node : Tree → Tree → Tree
    or_node : Tree → Tree → Tree
    -- a test and its two bodies, and a test and the loop's body (11.5.2.2 and 11.5.2.3)
    if_node : Order → Tree → Trees → Trees → Tree
    while_node : Order → Tree → Trees → Tree
    -- jumps (11.5.2.4)
    break_node : Tree
    next_node : Tree
    return_node : Perhaps → Tree
    -- `begin .. end` without clauses, and parentheses round none or several statements
    seq_node : Trees → Tree
    -- the body, the rescue clauses, and the bodies after `else` and `ensure` (11.5.2.5)
    begin_node : Trees → Rescues → Branch → Branch → Tree
    -- methods: the name, the required parameters, the ones with a default, and the body (13.3)
    def_node : Text → List Text → Defaults → Trees → Tree
    sdef_node : Text → List Text → Defaults → Trees → Tree
    -- the place where the constant stands, its name, for a class its superclass, and the body (13.2 and 13.1)
    class_node : Base → Text → Perhaps → Trees → Tree
    module_node : Base → Text → Trees → Tree

  -- nodes in a row
  pub data Trees : Type 0 where
    no_trees : Trees
    tree_then : Tree → Trees → Trees

  -- a node that may be absent
  pub data Perhaps : Type 0 where
    absent : Perhaps
    present : Tree → Perhaps

  -- a body that may be absent
  pub data Branch : Type 0 where
    no_branch : Branch
    branch : Trees → Branch

  -- the place where a class or module stands: the innermost one (`class N`), `Object` (`class ::N`), or a node's value
  pub data Base : Type 0 where
    innermost : Base
    topmost : Base
    within_node : Tree → Base

  -- texts and the programs between them
  pub data Parts : Type 0 where
    no_parts : Parts
    text_then : Text → Parts → Parts
    program_then : Trees → Parts → Parts

  -- rescue clauses: each has paths, a variable where one is named, and a body
  pub data Rescues : Type 0 where
    no_rescues : Rescues
    rescue_then : Trees → Option Text → Trees → Rescues → Rescues

  -- parameters with their defaults
  pub data Defaults : Type 0 where
    no_defaults : Defaults
    default_then : Text → Tree → Defaults → Defaults

-- a statement of a program, and the line on which it begins
pub record Statement : Type 0 where
  pub line : ℕ
  pub tree : Tree

abbrev pub Program : Type 0
Program = List Statement

-- ---- heights

-- a part of a tree, and its height
pub record Grown (A : Type 0) : Type 0 where
  pub form : A
  pub height : ℕ

-- a part without nodes
abbrev pub flat : {A : Type 0} → A → Grown A
flat a = record { form = a; height = 0 }

-- a part made of another, as high as that, and of two, as high as the higher
infixl 20 ◌<$>◌
abbrev pub ◌<$>◌ : {A B : Type 0} → (A → B) → Grown A → Grown B
f <$> a = record { form = f a.form; height = a.height }

infixl 20 ◌<*>◌
abbrev pub ◌<*>◌ : {A B : Type 0} → Grown (A → B) → Grown A → Grown B
f <*> a = record { form = f.form a.form; height = max f.height a.height }

abbrev pub max_height : ℕ
max_height = 100

-- a node is one higher than its highest part; there is none where that is more than 100
unfoldable pub node : Grown Tree → Option (Grown Tree)
node parts =
    if nat_lt parts.height max_height then Some (record { form = parts.form; height = parts.height + 1 }) else None

-- a node without parts
abbrev pub leaf : Tree → Grown Tree
leaf t = record { form = t; height = 1 }

-- a node over one part, two parts, and three
abbrev pub over : {A : Type 0} → (A → Tree) → Grown A → Option (Grown Tree)
over f a = node (f <$> a)

abbrev pub over_both : {A B : Type 0} → (A → B → Tree) → Grown A → Grown B → Option (Grown Tree)
over_both f a b = node (f <$> a <*> b)

abbrev pub over_three :
    {A B C : Type 0} → (A → B → C → Tree) → Grown A → Grown B → Grown C → Option (Grown Tree)
over_three f a b c = node (f <$> a <*> b <*> c)

-- lists of nodes add nothing to the height
abbrev pub row_of : List (Grown Tree) → Grown Trees
row_of [] = flat no_trees
row_of (t ∷ ts) = (λ u us. tree_then u us) <$> t <*> row_of ts

abbrev pub only : Grown Tree → Grown Trees
only t = row_of (t ∷ [])

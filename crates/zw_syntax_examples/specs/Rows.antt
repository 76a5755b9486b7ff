-- How a row says what a text is: its program, or its fault.
use Prim.Native.String.{String}
use Rattle.std.specs.Prelude.{◌≡◌, ℕ, pos, zero, suc, List, [], ◌∷◌, ◌++◌, codes, length, if◌then◌else◌, ◌==◌, Result, Ok, Err}
use Rattle.zw_def.specs.Text.{Text}
use Rattle.zw_def_syntax.specs.Character.{words}
use Rattle.zw_def_syntax.specs.Token.{Reason, Fault}
use Rattle.zw_def_syntax.specs.Tree.{test_first, body_first, if_node, while_node, Tree, Trees, Statement, no_trees, tree_then, array_node, not_node, int_node, local_node, ident_node, const_node, call_node, self_call, set_local, class_node, def_node, innermost, absent, no_defaults}
use Rattle.zw_def_syntax.specs.Program.{Parsed, program_of}
use Rattle.zw_def_syntax.specs.Show.{show, trees_of, without_lines}

-- names with blanks between them
abbrev pub names : String → List Text
names text = if length (codes text) == 0 then [] else words (codes text)

-- the text is a program of this one statement, where these variables are known
abbrev pub Reads : String → String → Tree → Type 0
Reads known text tree = program_of (names known) (codes text) ≡ Ok (record { line = 1; tree = tree } ∷ [])

-- the text is no program, for the reason that the statement has that begins on the line
abbrev pub IsRefused : String → ℕ → Reason → Type 0
IsRefused text line reason = program_of [] (codes text) ≡ Err (record { line = line; reason = reason })

-- a program of these statements, on these lines
abbrev pub IsProgram : String → List Statement → Type 0
IsProgram text program = program_of [] (codes text) ≡ Ok program

abbrev pub statements_of : Parsed → List Tree
statements_of (Ok program) = trees_of program
statements_of (Err fault) = []

abbrev pub shown_again : List Text → Parsed → Result (List Tree) Fault
shown_again known (Ok program) = without_lines (program_of known (show program))
shown_again known (Err fault) = Err fault

-- the text is a program, and what is shown of it is the same program
abbrev pub IsShown : String → String → Type 0
IsShown known text =
    shown_again (names known) (program_of (names known) (codes text))
    ≡ Ok (statements_of (program_of (names known) (codes text)))

abbrev pub on_line : ℕ → Tree → Statement
on_line n t = record { line = n; tree = t }

-- ---- short words for trees

abbrev pub trees : List Tree → Trees
trees [] = no_trees
trees (t ∷ ts) = tree_then t (trees ts)

abbrev pub one : Tree → Trees
one t = tree_then t no_trees

abbrev pub int : ℕ → Tree
int n = int_node (pos n)

abbrev pub local : String → Tree
local x = local_node (codes x)

abbrev pub ident : String → Tree
ident x = ident_node (codes x)

abbrev pub constant : String → Tree
constant n = const_node (codes n)

abbrev pub call : Tree → String → List Tree → Tree
call r x args = call_node r (codes x) (trees args)

abbrev pub send : String → List Tree → Tree
send x args = self_call (codes x) (trees args)

abbrev pub set : String → Tree → Tree
set x e = set_local (codes x) e

-- a test before its bodies, and after the one that it modifies
abbrev pub either : Tree → Trees → Trees → Tree
either = if_node test_first

abbrev pub modified : Tree → Trees → Trees → Tree
modified = if_node body_first

-- a loop with its test before its body, and after it
abbrev pub loop : Tree → Trees → Tree
loop = while_node test_first

abbrev pub repeating : Tree → Trees → Tree
repeating = while_node body_first

-- `class A` with this body
abbrev pub class_a : List Tree → Tree
class_a body = class_node innermost (codes "A") absent (trees body)

-- a method with required parameters
abbrev pub def : String → String → List Tree → Tree
def x params body = def_node (codes x) (names params) no_defaults (trees body)

-- `class A` with a method `f` of this body
abbrev pub method_f : List Tree → Tree
method_f body = class_a (def "f" "" body ∷ [])

-- ---- limits

-- a text, so many times
abbrev pub repeated : ℕ → String → Text
repeated zero text = []
repeated (suc n) text = codes text ++ repeated n text

-- `1` in so many of these brackets
abbrev pub bracketed : ℕ → String → String → Text
bracketed n opening closing = repeated n opening ++ codes "1" ++ repeated n closing

-- `1` after so many `!`
abbrev pub negated : ℕ → Text
negated n = repeated n "!" ++ codes "1"

abbrev pub negation : ℕ → Tree
negation zero = int 1
negation (suc n) = not_node (negation n)

abbrev pub array_in : ℕ → Tree
array_in zero = int 1
array_in (suc n) = array_node (one (array_in n))

-- Programs, as the definitions have them, and the names that they hold.
use Rattle.std.specs.Prelude.{ℕ, ◌≤◌, List, length, map}
use Rattle.zw_def.specs.Text.{Text}
use Rattle.zw_def_syntax.specs.Tree as t
use Rattle.zw_ast.specs.declared.program.Program.{Program}
use Rattle.zw_ast.specs.declared.program.Statement.{Statement}
use Rattle.zw_ast.specs.Named.{bound_of, greatest}
use Rattle.zw_ast.specs.Node.{tree_seen}

abbrev pub statement_seen : List Text → Statement → t.Statement
statement_seen names s = record { line = s.line; tree = tree_seen names s.node }

abbrev pub statements_seen : List Text → List Statement → t.Program
statements_seen names ss = map (statement_seen names) ss

abbrev pub program_seen : List Text → Program → t.Program
program_seen names p = statements_seen names p.statements.items

abbrev pub statement_names : Statement → ℕ
statement_names s = bound_of s.node

-- all names of the program are in the table
abbrev pub AreNamedStatements : List Text → List Statement → Type 0
AreNamedStatements names ss = greatest statement_names ss ≤ length names

abbrev pub IsNamedProgram : List Text → Program → Type 0
IsNamedProgram names p = AreNamedStatements names p.statements.items

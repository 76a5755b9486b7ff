-- One statement at the top of a program, apart from those before it and after it.
use Rattle.std.specs.Prelude.{ℕ, ◌||◌, if◌then◌else◌, Option, Some, None, Result, Ok, Err}
use Rattle.zw_def_syntax.specs.Token.{Reason, Fault, malformed}
use Rattle.zw_def_syntax.specs.Tree.{Tree, Grown, Statement}
use Rattle.zw_def_syntax.specs.Input.{Input}
use Rattle.zw_def_syntax.specs.Compound.{separator_next}
use Rattle.zw_def_syntax.specs.Places.{fault_of}
use Rattle.zw_def_syntax.specs.Program.{at_end, line_here, top_statement}

abbrev pub fault_on : ℕ → Reason → Fault
fault_on line reason = record { line = line; reason = reason }

-- what the grammar gives for a statement that begins on the line, where a separator or the end of the text follows it
abbrev pub separated : ℕ → Option (Grown Tree × Input) → Result (Grown Tree × Input) Fault
separated line None = Err (fault_on line malformed)
separated line (Some p) = if at_end p.1 || separator_next p.1 then Ok p else Err (fault_on line malformed)

-- the statement, unless there is a reason to refuse it
abbrev pub judged : ℕ → Tree → Option Reason → Result Statement Fault
judged line tree None = Ok (record { line = line; tree = tree })
judged line tree (Some reason) = Err (fault_on line reason)

abbrev pub with_rest : Input → Result Statement Fault → Result (Statement × Input) Fault
with_rest i (Ok s) = Ok (s, i)
with_rest i (Err fault) = Err fault

abbrev pub then_judged : ℕ → Result (Grown Tree × Input) Fault → Result (Statement × Input) Fault
then_judged line (Ok p) = with_rest p.1 (judged line p.0.form (fault_of p.0.form))
then_judged line (Err fault) = Err fault

-- a statement with its separator, which begins at the next token, and what is left
abbrev pub read_statement : Input → Result (Statement × Input) Fault
read_statement i = then_judged (line_here i) (separated (line_here i) (top_statement i))

use Rattle.std.proofs.Common.{take}
use Rattle.zw_copy.specs.Copy.{AreStatementCopies}
use Rattle.zw_copy.proofs.program.copy_program.Given as goal

abbrev pub invariant-statements : goal.invariant-statements
invariant-statements l = AreStatementCopies (take l.statement-index l.program.statements.items) l.statements.items

use Rattle.std.proofs.Common.{◌≡◌, length}
use Rattle.zw_def_thin.specs.ClassFile.{unindented}
use Rattle.zw_thin.proofs.words.trimmed.Given as goal

abbrev pub invariant-blanks : goal.invariant-blanks
invariant-blanks l = unindented l.rest ≡ unindented l.line

abbrev pub decreases-blanks : goal.decreases-blanks
decreases-blanks l = length l.rest

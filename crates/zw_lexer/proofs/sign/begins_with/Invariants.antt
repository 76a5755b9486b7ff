use Rattle.std.proofs.Common.{◌≡◌, drop}
use Rattle.zw_def_syntax.specs.Character.{begins}
use Rattle.zw_lexer.proofs.sign.begins_with.Given as goal

abbrev pub invariant-loop-byte : goal.invariant-loop-byte
invariant-loop-byte l = begins (drop l.byte-index l.front) l.left ≡ begins l.front l.characters

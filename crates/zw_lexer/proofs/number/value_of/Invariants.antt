use Rattle.std.proofs.Common.{◌≡◌, drop, Some}
use Rattle.std.specs.Str.Parse.{digits_value, digits_value_after}
use Rattle.zw_def_syntax.specs.Number.{digits}
use Rattle.zw_lexer.specs.Number.{within_greatest}
use Rattle.zw_lexer.proofs.number.value_of.Given as goal

abbrev pub invariant-loop-character : goal.invariant-loop-character
invariant-loop-character l = record {
  small : within_greatest l.value ≡ Some l.value;
  value : digits_value_after 10 l.value (digits (drop l.character-index l.part)) ≡ digits_value 10 (digits l.part);
}

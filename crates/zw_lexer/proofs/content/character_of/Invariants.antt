use Rattle.std.proofs.Common.{◌≡◌, ◌<◌, ◌^◌, drop}
use Rattle.std.specs.Str.Parse.{digits_value, digits_value_after}
use Rattle.zw_lexer.proofs.content.character_of.Given as goal

abbrev pub invariant-loop-digit : goal.invariant-loop-digit
invariant-loop-digit l = record {
  small : l.code < 16 ^ l.digit-index;
  value : digits_value_after 16 l.code (drop l.digit-index l.digits) ≡ digits_value 16 l.digits;
}

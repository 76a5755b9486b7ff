use Rattle.std.proofs.Common.{◌≡◌, ◌<◌, ◌^◌, drop}
use Rattle.zw_def_world.specs.StringRows.{digits_before}
use Rattle.zw_strings.proofs.DigitLemmas.{number_after}
use Rattle.zw_strings.proofs.digits.digits_before.Given as goal

abbrev pub invariant-loop-byte : goal.invariant-loop-byte
invariant-loop-byte l = record {
  small : l.number < 2 ^ 64;
  told : number_after l.number (drop l.byte-index l.text) ≡ digits_before l.text;
}

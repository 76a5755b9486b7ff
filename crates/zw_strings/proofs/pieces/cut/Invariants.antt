use denote.Shadow.{shadow}
use denote.Text.{Utf8}
use Rattle.std.proofs.Common.{◌≡◌, suc, [], ◌++◌, length, map, string_bytes}
use Rattle.zw_def_world.specs.StringRows.{cut}
use Rattle.zw_strings.proofs.pieces.cut.Given as goal

-- the pieces so far, and then those of what is left
abbrev pub invariant-loop-piece : goal.invariant-loop-piece
invariant-loop-piece l = record {
  utf8 : shadow (Utf8 l.rest);
  told : map string_bytes l.pieces.items ++ cut (suc (length l.rest)) l.separator [] l.rest ≡ cut (suc (length l.text)) l.separator [] l.text;
}

abbrev pub decreases-loop-piece : goal.decreases-loop-piece
decreases-loop-piece l = length l.rest

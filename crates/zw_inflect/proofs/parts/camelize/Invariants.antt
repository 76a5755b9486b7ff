use Rattle.std.proofs.Common.{◌≡◌, ◌++◌, string_bytes}
use Rattle.std.specs.Str.Iter.{chars_rest}
use Rattle.zw_def.specs.Constant.{camelized}
use Rattle.zw_def.proofs.CamelizedLemmas.{letters}
use Rattle.zw_inflect.proofs.parts.camelize.Given as goal

-- the name so far, and then what is left
abbrev pub invariant-loop-character : goal.invariant-loop-character
invariant-loop-character l =
    string_bytes l.name ++ letters l.begins (chars_rest l.character-iterator) ≡ camelized l.base

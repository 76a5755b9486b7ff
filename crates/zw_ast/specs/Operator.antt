-- The names of the methods that operators call (ISO/IEC 30170, 11.3 and 11.4.3 to 11.4.4, and 11.3.3 for an index).
use Rattle.std.specs.Prelude.{◌≡◌, Bool, true, List, [], ◌∷◌, codes}
use Rattle.std.specs.List.{list_all}
use Rattle.zw_def.specs.Text.{Text, is_among}

abbrev pub operators : List Text
operators =
    codes "+" ∷ codes "-" ∷ codes "*" ∷ codes "/" ∷ codes "%" ∷ codes "==" ∷ codes "!=" ∷ codes "<=>" ∷ codes "<"
    ∷ codes "<=" ∷ codes ">" ∷ codes ">=" ∷ codes "-@" ∷ codes "[]" ∷ []

-- each of them is among the names
abbrev pub are_spelled : List Text → List Text → Bool
are_spelled names texts = list_all (is_among names) texts

abbrev pub AreSpelled : List Text → Type 0
AreSpelled names = are_spelled names operators ≡ true

-- The names of constants, and the inflector that makes them of the names of files.
use Rattle.std.specs.Prelude.{ℕ, Bool, false, List, [], ◌∷◌, ◌+◌, ◌-◌, ◌&&◌, if◌then◌else◌, map}
use Rattle.std.specs.List.{list_all, concat}
use Rattle.std.specs.Str.{chars}
use Rattle.unicode_ident.specs.Ident.{is_xid_continue}
use Rattle.zw_def.specs.Text.{Text, pieces, is_upper, is_lower}

-- characters that make a constant's name: the first is `A` to `Z`, the others continue an identifier
-- (UAX 31, XID_Continue; ISO/IEC 30170, 8.7.3, constant-identifier)
abbrev pub is_constant_of : List ℕ → Bool
is_constant_of [] = false
is_constant_of (c ∷ cs) = is_upper c && list_all is_xid_continue cs

abbrev pub is_constant : Text → Bool
is_constant text = is_constant_of (chars text)

abbrev pub raised : ℕ → ℕ
raised b = if is_lower b then b - 32 else b

abbrev pub lowered : ℕ → ℕ
lowered b = if is_upper b then b + 32 else b

-- a part of a base name, its first character raised and the others lowered
abbrev pub capitalized : Text → Text
capitalized [] = []
capitalized (b ∷ bs) = raised b ∷ map lowered bs

-- the name that the inflector makes of a base name: its parts between the `_`, each capitalized
-- (Zeitwerk README, "Inflection")
abbrev pub camelized : Text → Text
camelized base = concat (map capitalized (pieces 95 base))

-- Names that are kept by the constant path in which they stand, which is told by the numbers of its names.
use Rattle.std.specs.Prelude.{◌≡◌, ℕ, List, [], ◌∷◌, String, string_bytes, map, Some, slice_get}
use Rattle.std.specs.List.{All}
use Rattle.std.specs.Option.{option_map_or}
use Rattle.std.specs.Ordering.{nat_cmp, match_ordering}
use Rattle.std.specs.Cmp.Lexicographic.{slice_cmp}
use Rattle.std.specs.Global.{Vec, Global}
use Rattle.std.specs.Map.{lookup}
use Rattle.zw_def.specs.Text.{Text}
use Rattle.zw_names.specs.declared.names.Name.{Name}
use Rattle.zw_scan.specs.Table.{same_numbers}
use Rattle.zw_scan.specs.declared.name_table.NameTable.{NameTable}

abbrev pub entry_told : String Global × Name → Text × ℕ
entry_told e = (string_bytes e.0, e.1.0)

-- the names that are kept under the numbers, with their texts, in byte order
abbrev pub names_at : List ℕ → NameTable → List (Text × ℕ)
names_at q table =
    option_map_or (λ names. map entry_told names.entries)
    (lookup (λ (k : Vec ℕ). same_numbers q k.items) table.rows.entries) []

-- a name at its place in byte order
abbrev pub with_entry : Text → ℕ → List (Text × ℕ) → List (Text × ℕ)
with_entry text n [] = (text, n) ∷ []
with_entry text n (e ∷ es) =
    match_ordering (slice_cmp nat_cmp text e.0) ((text, n) ∷ e ∷ es) ((e.0, n) ∷ es) (e ∷ with_entry text n es)

-- their texts alone
abbrev pub texts_at : List ℕ → NameTable → List Text
texts_at q table = map (λ e. e.0) (names_at q table)

-- a name with its text
abbrev pub IsEntry : List Text → Text × ℕ → Type 0
IsEntry names e = slice_get names e.1 ≡ Some e.0

abbrev pub AreEntries : List Text → NameTable → Type 0
AreEntries names table = (q : List ℕ) → All (IsEntry names) (names_at q table)

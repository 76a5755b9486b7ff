-- What boot defines, from a list of paths: with true exactly where it is a module of that very name.
use Rattle.std.specs.Prelude.{ℕ, Bool, true, false, not, List, if◌then◌else◌, Option, Some, None}
use Rattle.std.specs.List.{All, find}
use Rattle.std.specs.Option.{option_map_or, is_some}
use Rattle.std.specs.Str.{bytes_eq}
use Rattle.zw_def.specs.Text.{Text}
use Rattle.zw_def.specs.Names.{AreNamed, texts_of}
use Rattle.zw_def.specs.Nesting.{same_names}
use Rattle.zw_def.specs.Map.{Boot, Standing, undefined, own_module, taken}

abbrev pub standing_of : Option (List ℕ × Bool) → Standing
standing_of None = undefined
standing_of (Some row) = if row.1 then own_module else taken

abbrev pub boot_seen : List Text → List (List ℕ × Bool) → Boot
boot_seen names boot p = standing_of (find (λ row. same_names (texts_of names row.0) p) boot)

-- a module of that very name
abbrev pub is_own : Standing → Bool
is_own own_module = true
is_own _ = false

-- the names of the paths are among these
abbrev pub AreBootNamed : List Text → List (List ℕ × Bool) → Type 0
AreBootNamed names boot = All (λ row. AreNamed names row.0) boot

-- the same by the numbers of the names
abbrev pub row_at : List (List ℕ × Bool) → List ℕ → Option (List ℕ × Bool)
row_at boot q = find (λ row. bytes_eq row.0 q) boot

abbrev pub is_taken_at : List (List ℕ × Bool) → List ℕ → Bool
is_taken_at boot q = option_map_or (λ row. not row.1) (row_at boot q) false

abbrev pub is_defined_at : List (List ℕ × Bool) → List ℕ → Bool
is_defined_at boot q = is_some (row_at boot q)

-- What the calls of a folder answer.
use Rattle.std.specs.Prelude.{◌≡◌, ◌+◌, ◌++◌, ◌≤◌, ℕ, List, Bool, true, false, Option, Some, None, Result, Ok, Err, option_map, IfSome, slice_get, length, take, map, String, string_bytes, Vec}
use Rattle.std.specs.declared.alloc.Global.{Global}
use Rattle.zw_def.specs.Text.{Text}
use Rattle.zw_def.specs.Folder.{Listing, bytes_at}
use Rattle.zw_def.specs.Told.{Rose}
use Rattle.zw_io.specs.declared.folder.Fail.{Fail}
use Rattle.zw_io.specs.declared.folder.Fail.TheVariants.{Failed, Memory}

-- files in memory, as pairs of a path and bytes
abbrev pub pairs : List (String Global × Vec ℕ Global) → List (Text × Text)
pairs files = map (λ f. (string_bytes f.0, f.1.items)) files

-- the next listed path, or the listing's end
abbrev pub Lists : Result Bool Fail → Listing → Text → Listing → Type 0
Lists (Ok true) old into new =
    (option_map (λ f. f.0) (slice_get old.files old.place) ≡ Some into) × (new ≡ record old { place = old.place + 1 })
Lists (Ok false) old into new = (length old.files ≤ old.place) × (new ≡ old)
Lists (Err e) old into new = new ≡ old

-- the same of what is told
abbrev pub ListsIfTold : Result Bool Fail → Option Listing → Text → Option Listing → Type 0
ListsIfTold r None into new = new ≡ None
ListsIfTold r (Some old) into None = ⊥
ListsIfTold r (Some old) into (Some new) = Lists r old into new

-- the first `most` bytes of the file are appended, where there is one
abbrev pub AppendsFile : Bool → ℕ → Text → Text → Option Text → Type 0
AppendsFile true most old new (Some bytes) = new ≡ old ++ take most bytes
AppendsFile true most old new None = ⊥
AppendsFile false most old new (Some bytes) = ⊥
AppendsFile false most old new None = new ≡ old

-- the same of the file with this path, where the folder tells its files
abbrev pub FindsIfTold : Bool → ℕ → Text → Option Listing → Text → Text → Type 0
FindsIfTold there most path told old new = IfSome told (λ l. AppendsFile there most old new (bytes_at path l.files))

-- the count rose exactly where the folder failed, and stays where memory ran out
abbrev pub CountsFail : {T : Type 0} → Result T Fail → ℕ → ℕ → Type 0
CountsFail (Ok x) before after = after ≡ before
CountsFail (Err Failed) before after = Rose before after
CountsFail (Err Memory) before after = after ≡ before

-- the first `most` bytes are appended, unless memory ran out
abbrev pub AppendsMost : Result (Unit {0}) Fail → ℕ → Text → Text → Text → Type 0
AppendsMost (Ok u) most old bytes new = new ≡ old ++ take most bytes
AppendsMost (Err Memory) most old bytes new = Unit {0}
AppendsMost (Err Failed) most old bytes new = ⊥

-- the path stands in place of what was held, unless memory ran out
abbrev pub SetsPath : Result (Unit {0}) Fail → Text → Text → Type 0
SetsPath (Ok u) path new = new ≡ path
SetsPath (Err Memory) path new = Unit {0}
SetsPath (Err Failed) path new = ⊥

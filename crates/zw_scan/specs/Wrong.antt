-- The first wrong name directly below each namespace, root by root.
use Rattle.std.specs.Prelude.{ℕ, suc, Bool, true, nat_eq, List, [], ◌∷◌, ◌++◌, filter_map, if◌then◌else◌, Option, Some, None}
use Rattle.std.specs.List.{fold}
use Rattle.std.specs.Option.{option_and_then}
use Rattle.zw_def.specs.Path.{Path, precedes}
use Rattle.zw_def.specs.ConstantPath.{ConstantPath}
use Rattle.zw_def.specs.Layout.{Layout, Root, belongs_to}
use Rattle.zw_def.specs.Expected.{WrongName}
use Rattle.zw_def.specs.Map.{Expecting, expecting_at, all_expecting, paths_of}
use Rattle.zw_def.specs.Wrong.{wrong_name_of}
use Rattle.zw_layout.specs.Above.{namespace_above}
use Rattle.zw_scan.specs.ClaimTold.{ClaimTold}

-- ---- one claim

-- the path up to the wrong name, and the namespace in which the claim stands, if that has no wrong name
abbrev pub misnamed_in : Layout → Path → WrongName → Option Expecting
misnamed_in layout path wrong = option_and_then (expecting_at wrong.path) (namespace_above layout path)

-- the same of a claim of the root that has a wrong name
abbrev pub misnamed : Layout → Root → ClaimTold → Option Expecting
misnamed layout root claim =
    option_and_then (λ w. if belongs_to layout root claim.path then misnamed_in layout claim.path w else None)
    (wrong_name_of claim.expected)

-- those of the root, files first
abbrev pub misnamed_all : Layout → List ClaimTold → List ClaimTold → Root → List Expecting
misnamed_all layout files directories root =
    filter_map (misnamed layout root) files ++ filter_map (misnamed layout root) directories

-- ---- the first

-- a path, and the number of its root
pub record Ranked : Type 0 where
  pub root : ℕ
  pub path : Path

abbrev pub ranked : ℕ → Path → Ranked
ranked root path = record { root = root; path = path }

-- whether the one stays the first beside a path of a root of that number or a later one
abbrev pub stays : ℕ → Ranked → Path → Bool
stays root first path = if nat_eq first.root root then precedes first.path path else true

abbrev pub better : ℕ → Option Ranked → Path → Option Ranked
better root None path = Some (ranked root path)
better root (Some first) path = if stays root first path then Some first else Some (ranked root path)

-- the first of several rows, one for each root, in the namespace
abbrev pub first_below : ConstantPath → ℕ → Option Ranked → List (List Expecting) → Option Ranked
first_below p root first [] = first
first_below p root first (row ∷ rows) =
    first_below p (suc root) (fold (better root) first (paths_of (all_expecting p row))) rows

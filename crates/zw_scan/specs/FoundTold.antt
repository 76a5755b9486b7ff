-- What is expected to define a constant, from what files and directories are expected to define.
use Rattle.std.specs.Prelude.{List, filter_map, if◌then◌else◌, Option, None}
use Rattle.std.specs.List.{flat_map}
use Rattle.zw_def.specs.Layout.{Layout, Root, belongs_to}
use Rattle.zw_def.specs.Map.{Expecting, expecting_at}
use Rattle.zw_scan.specs.ClaimTold.{ClaimTold}

abbrev pub found_told : ClaimTold → Option Expecting
found_told claim = expecting_at claim.path claim.expected

-- the same, if it belongs to the root
abbrev pub own_told : Layout → Root → ClaimTold → Option Expecting
own_told layout root claim = if belongs_to layout root claim.path then found_told claim else None

-- root by root
abbrev pub own_all : Layout → List ClaimTold → List Expecting
own_all layout claims = flat_map (λ root. filter_map (own_told layout root) claims) layout.roots

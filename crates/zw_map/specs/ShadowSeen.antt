-- What the code's shadowed files stand for. Their names are told by a list of texts.
use Rattle.std.specs.Prelude.{List, [], ◌∷◌, if◌then◌else◌, Option, None}
use Rattle.zw_def.specs.Text.{Text}
use Rattle.zw_def.specs.Path.{Path, same_path}
use Rattle.zw_def.specs.Names.{AreNamed, texts_of}
use Rattle.zw_def.specs.Map.{Boot, Expecting}
use Rattle.zw_def.specs.Shadow as defined
use Rattle.zw_scan.specs.ClaimTold.{ClaimTold}
use Rattle.zw_map.specs.declared.shadow.Shade.{Shade}
use Rattle.zw_map.specs.declared.shadow.Shade.TheVariants.{By, Defined}
use Rattle.zw_map.specs.declared.shadow.ShadowRow.{ShadowRow}

abbrev pub shade_seen : List Text → Shade → defined.Shade
shade_seen names (By path) = defined.shadowed_by path
shade_seen names (Defined p) = defined.already_defined (texts_of names p)

abbrev pub row_of : Path → Shade → ShadowRow
row_of path shade = record { path = path; shade = shade }

abbrev pub shadow_seen : List Text → ShadowRow → defined.Shadowed
shadow_seen names row = record { path = row.path; shade = shade_seen names row.shade }

-- the names of the constant that boot defines are among these
abbrev pub IsShadeNamed : List Text → Shade → Type 0
IsShadeNamed names (By path) = Unit {0}
IsShadeNamed names (Defined p) = AreNamed names p

abbrev pub IsShadowNamed : List Text → ShadowRow → Type 0
IsShadowNamed names row = IsShadeNamed names row.shade

-- the file, unless it is the first of these
abbrev pub after_winner : Path → List Path → Option defined.Shadowed
after_winner path [] = None
after_winner path (first ∷ more) = if same_path first path then None else defined.shaded path (defined.shadowed_by first)

-- a file that is not loaded, from what it is expected to define
abbrev pub shadow_told : Boot → List Expecting → ClaimTold → Option defined.Shadowed
shadow_told boot files claim = defined.shadowed_as boot files claim.path claim.expected

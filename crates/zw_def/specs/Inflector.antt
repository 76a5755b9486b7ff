-- The inflector: the constant name that a component of a path stands for (Zeitwerk README, "Inflection").
use Rattle.std.specs.Prelude.{Bool, List, [], ◌∷◌, ◌&&◌, if◌then◌else◌, codes, Option, Result, Ok, Err}
use Rattle.std.specs.Option.{option_map, unwrap_or}
use Rattle.std.specs.List.{find}
use Rattle.std.specs.Str.{bytes_eq}
use Rattle.zw_def.specs.Text.{Text}
use Rattle.zw_def.specs.Path.{Path, same_path}
use Rattle.zw_def.specs.Base.{without_rb}
use Rattle.zw_def.specs.Constant.{camelized, is_constant}

-- base names and the names that are written for them, in the order of the configuration
abbrev pub Overrides : Type 0
Overrides = List (Text × Text)

-- the inflector of a gem knows the gem's main file (Zeitwerk README, "Gem inflector")
pub data Inflector : Type 0 where
  default_inflector : Overrides → Inflector
  gem_inflector : Overrides → Path → Inflector

-- the name that is written for the whole base
abbrev pub override_of : Overrides → Text → Option Text
override_of overrides base = option_map (λ o. o.1) (find (λ o. bytes_eq o.0 base) overrides)

-- an override, or else the parts of the base between its `_`, each capitalized
abbrev pub inflected_by : Overrides → Text → Text
inflected_by overrides base = unwrap_or (override_of overrides base) (camelized base)

-- `version.rb` in the directory that has the name of the gem's main file
abbrev pub version_file : Path → Path
version_file [] = []
version_file (name ∷ []) = without_rb name ∷ codes "version.rb" ∷ []
version_file (directory ∷ next ∷ more) = directory ∷ version_file (next ∷ more)

-- the base is that of the version file (a directory of that path keeps its `.rb`)
abbrev pub is_version_file : Path → Text → Path → Bool
is_version_file main base path = bytes_eq base (codes "version") && same_path path (version_file main)

-- the text that the inflector makes of a base: that of the last component of the path, without `.rb` for a file
abbrev pub inflected : Inflector → Text → Path → Text
inflected (default_inflector overrides) base path = inflected_by overrides base
inflected (gem_inflector overrides main) base path =
    if is_version_file main base path then codes "VERSION" else inflected_by overrides base

-- that text as a constant's name, or as a wrong name where it is none
abbrev pub constant_inflected : Inflector → Text → Path → Result Text Text
constant_inflected inflector base path =
    if is_constant (inflected inflector base path) then Ok (inflected inflector base path)
    else Err (inflected inflector base path)

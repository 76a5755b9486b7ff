-- The inflector (Zeitwerk README, "Inflection" and "Gem inflector").
use Rattle.std.specs.Prelude.{[], ◌∷◌, ◌++◌, codes, Option, Some, None, Ok, Err, if◌then◌else◌}
use Rattle.std.specs.Option.{ok_or}
use Rattle.toml.specs.Data.{Data, Members, no_members, member}
use Rattle.zw_def.specs.Text.{Text}
use Rattle.zw_def.specs.Path.{Path, path_of}
use Rattle.zw_def.specs.Tree.{ends_in_rb}
use Rattle.zw_def.specs.Constant.{is_constant}
use Rattle.zw_def.specs.Inflector.{Overrides, Inflector, default_inflector, gem_inflector}
use Rattle.zw_def_config.specs.Fault.{Reading, ◌>>=◌, wrong_kind, bad_path}
use Rattle.zw_def_config.specs.Value.{text_in, table_in, or_else, optional}
use Rattle.zw_def_config.specs.Key.{at}

-- ---- overrides

abbrev pub constant_name : Text → Reading Text
constant_name text = if is_constant text then Ok text else Err (wrong_kind (codes "inflect"))

abbrev pub constant_name_in : Data → Reading Text
constant_name_in value = text_in (codes "inflect") value >>= constant_name

-- the names that a table writes for base names, which are its keys
abbrev pub overrides_after : Overrides → Members → Reading Overrides
overrides_after before no_members = Ok before
overrides_after before (member base value more) =
    constant_name_in value >>= λ name. overrides_after (before ++ (base, name) ∷ []) more

abbrev pub overrides_in : Data → Reading Overrides
overrides_in value = table_in (codes "inflect") value >>= overrides_after []

abbrev pub overrides : Members → Reading Overrides
overrides table = or_else [] overrides_in (at (codes "inflect") table)

-- ---- the gem's main file

-- a path that ends in `.rb`
abbrev pub ruby_path_of : Text → Option Path
ruby_path_of text = if ends_in_rb text then path_of text else None

abbrev pub main_file_in : Data → Reading Path
main_file_in value = text_in (codes "gem") value >>= λ text. ok_or (ruby_path_of text) (bad_path (codes "gem"))

abbrev pub main_file : Members → Reading (Option Path)
main_file table = optional main_file_in (at (codes "gem") table)

abbrev pub inflector_of : Overrides → Option Path → Inflector
inflector_of overrides None = default_inflector overrides
inflector_of overrides (Some main) = gem_inflector overrides main

unfoldable pub inflector : Members → Reading Inflector
inflector table =
    overrides table >>= λ overrides.
    main_file table >>= λ main.
    Ok (inflector_of overrides main)

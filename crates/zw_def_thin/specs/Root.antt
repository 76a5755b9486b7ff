-- The configurations that are carried out so far: those without flags and options, callbacks, a boot file and eager
-- loading. The first path's are those that have no keys but `reloading` and one root with its path alone.
use Rattle.std.specs.Prelude.{Bool, true, false, ◌&&◌, List, [], ◌∷◌, codes, Option, Some, None, Ok, Err, if◌then◌else◌}
use Rattle.std.specs.Option.{option_map_or}
use Rattle.toml.specs.Data.{Data, Items, no_items, item, Members, as_array, as_table}
use Rattle.zw_def.specs.Text.{Text}
use Rattle.zw_def.specs.Path.{Path}
use Rattle.zw_def.specs.Layout.{Layout, Root}
use Rattle.zw_def_session.specs.Opening.{Configuration}
use Rattle.zw_def_config.specs.Fault.{Reading}
use Rattle.zw_def_config.specs.Key.{at, has_only}
use Rattle.zw_def_config.specs.Configuration.{document, configuration_in}
use Rattle.zw_def_thin.specs.Refusal.{Start, ◌>>=◌, bad_configuration, other_configuration}

-- ---- what is built

abbrev pub built_keys : List Text
built_keys =
    codes "root" ∷ codes "reloading" ∷ codes "ignore" ∷ codes "collapse" ∷ codes "no_eager" ∷ codes "inflect"
    ∷ codes "gem" ∷ []

abbrev pub is_built : Members → Bool
is_built table = has_only built_keys table

-- ---- the first path's

abbrev pub is_plain_root : Data → Bool
is_plain_root value = option_map_or (has_only (codes "path" ∷ [])) (as_table value) false

abbrev pub is_one_root : Items → Bool
is_one_root no_items = false
is_one_root (item value no_items) = is_plain_root value
is_one_root (item value (item other more)) = false

abbrev pub has_plain_root : Data → Bool
has_plain_root value = option_map_or is_one_root (as_array value) false

abbrev pub is_first_path : Members → Bool
is_first_path table =
    has_only (codes "root" ∷ codes "reloading" ∷ []) table
    && option_map_or has_plain_root (at (codes "root") table) false

-- ---- what is carried out

-- what was read, or the start that is refused for it
abbrev pub accepted : {X : Type 0} → Reading X → Start X
accepted (Ok x) = Ok x
accepted (Err fault) = Err (bad_configuration fault)

-- a layout, and the root, where the configuration is one of the first path
pub record Plan : Type 0 where
  pub layout : Layout
  pub root : Option Path

abbrev pub first_path : List Root → Option Path
first_path [] = None
first_path (root ∷ roots) = Some root.path

abbrev pub plan_of : Members → Configuration → Plan
plan_of table c = record {
  layout = c.layout;
  root = if is_first_path table then first_path c.layout.roots else None;
}

abbrev pub built_plan : Members → Configuration → Start Plan
built_plan table c = if is_built table then Ok (plan_of table c) else Err other_configuration

abbrev pub plan_in : Path → Members → Start Plan
plan_in path table = accepted (configuration_in path table) >>= built_plan table

-- what is carried out of the configuration of these bytes at the path
abbrev pub plan_from : Path → Text → Start Plan
plan_from path bytes = accepted (document bytes) >>= plan_in path

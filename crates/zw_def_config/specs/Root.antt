-- Roots with their namespaces (Zeitwerk README, "Root directories and root namespaces").
use Rattle.std.specs.Prelude.{List, [], ◌∷◌, codes, Ok, Err, if◌then◌else◌}
use Rattle.std.specs.List.{list_any}
use Rattle.toml.specs.Data.{Data, Members}
use Rattle.zw_def.specs.Text.{Text}
use Rattle.zw_def.specs.Path.{Path, same_path, path_text}
use Rattle.zw_def.specs.ConstantPath.{ConstantPath}
use Rattle.zw_def.specs.Layout.{Root}
use Rattle.zw_def_config.specs.Fault.{Reading, ◌>>=◌, double_root}
use Rattle.zw_def_config.specs.Value.{path_in, constant_path_in, required, or_else, elements}
use Rattle.zw_def_config.specs.Key.{at, fields_in}

abbrev pub root_keys : List Text
root_keys = codes "path" ∷ codes "namespace" ∷ []

-- the path, where no root before has it
abbrev pub new_path : List Root → Path → Reading Path
new_path before path =
    if list_any (λ root. same_path root.path path) before then Err (double_root (path_text path)) else Ok path

abbrev pub root_path : List Root → Members → Reading Path
root_path before table = required (codes "root.path") (path_in (codes "root.path")) (at (codes "path") table) >>= new_path before

-- `Object`, which is the empty path, where none is given
abbrev pub root_namespace : Members → Reading ConstantPath
root_namespace table = or_else [] (constant_path_in (codes "root.namespace")) (at (codes "namespace") table)

unfoldable pub root_of_table : List Root → Members → Reading Root
root_of_table before table =
    root_path before table >>= λ path.
    root_namespace table >>= λ namespace.
    Ok (record { path = path; namespace = namespace })

abbrev pub root_in : List Root → Data → Reading Root
root_in before value = fields_in (codes "root") root_keys value >>= root_of_table before

-- an array of tables
abbrev pub roots : Members → Reading (List Root)
roots table = elements (codes "root") root_in (at (codes "root") table)

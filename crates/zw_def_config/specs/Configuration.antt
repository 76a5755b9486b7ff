-- The configuration that the bytes of a file say, or the first reason to refuse them: no document of TOML, then the least
-- unknown key, then each key in the order that stands here.
use Rattle.std.specs.Prelude.{Bool, false, List, [], ◌∷◌, codes, map, Option, None, Result, Ok, Err, if◌then◌else◌}
use Rattle.std.specs.Option.{ok_or}
use Rattle.std.specs.Str.{is_utf8}
use Rattle.toml.specs.Data.{Members}
use Rattle.toml.specs.Parse.{parse_document}
use Rattle.zw_def.specs.Text.{Text}
use Rattle.zw_def.specs.Path.{Path}
use Rattle.zw_def.specs.Layout.{Layout}
use Rattle.zw_def_session.specs.Opening.{Configuration, Refusal}
use Rattle.zw_def_config.specs.Fault.{Reading, ◌>>=◌, not_toml, refusal_of}
use Rattle.zw_def_config.specs.Value.{boolean_in, path_in, or_else, optional, elements}
use Rattle.zw_def_config.specs.Key.{at, only_known}
use Rattle.zw_def_config.specs.Root.{roots}
use Rattle.zw_def_config.specs.Inflection.{inflector}
use Rattle.zw_def_config.specs.Callback.{callbacks}

-- ---- keys

abbrev pub configuration_keys : List Text
configuration_keys =
    map codes ("root" ∷ "ignore" ∷ "collapse" ∷ "no_eager" ∷ "inflect" ∷ "gem" ∷ "reloading" ∷ "eager" ∷ "boot"
    ∷ "callback" ∷ [])

-- an array of patterns, which are paths whose components may hold stars
abbrev pub patterns : Text → Members → Reading (List Path)
patterns key table = elements key (λ before. path_in key) (at key table)

-- false where none is given
abbrev pub flag : Text → Members → Reading Bool
flag key table = or_else false (boolean_in key) (at key table)

abbrev pub boot_file : Members → Reading (Option Path)
boot_file table = optional (path_in (codes "boot")) (at (codes "boot") table)

-- ---- all of them

unfoldable pub layout : Members → Reading Layout
layout table =
    roots table >>= λ roots.
    patterns (codes "ignore") table >>= λ ignore.
    patterns (codes "collapse") table >>= λ collapse.
    patterns (codes "no_eager") table >>= λ no_eager.
    inflector table >>= λ inflector.
    Ok (record { roots = roots; ignore = ignore; collapse = collapse; no_eager = no_eager; inflector = inflector })

-- of the file at the path
unfoldable pub settings : Path → Members → Reading Configuration
settings path table =
    layout table >>= λ layout.
    flag (codes "reloading") table >>= λ reloading.
    flag (codes "eager") table >>= λ eager.
    boot_file table >>= λ boot.
    callbacks table >>= λ callbacks.
    Ok (record {
      path = path;
      layout = layout;
      callbacks = callbacks;
      reloading = reloading;
      eager = eager;
      boot = boot;
    })

-- ---- the file

-- the table that the bytes are
abbrev pub document : Text → Reading Members
document bytes = ok_or (if is_utf8 bytes then parse_document bytes else None) not_toml

-- of a document that is that table
unfoldable pub configuration_in : Path → Members → Reading Configuration
configuration_in path table = only_known [] configuration_keys table >>= settings path

unfoldable pub configuration_of : Path → Text → Reading Configuration
configuration_of path bytes = document bytes >>= configuration_in path

abbrev pub or_refused : {X : Type 0} → Reading X → Result X Refusal
or_refused (Ok x) = Ok x
or_refused (Err fault) = Err (refusal_of fault)

-- the configuration, or the line and the status that the session ends with
abbrev pub configured : Path → Text → Result Configuration Refusal
configured path bytes = or_refused (configuration_of path bytes)

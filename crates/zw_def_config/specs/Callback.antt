-- Callbacks (Zeitwerk README, "Callbacks").
use Rattle.std.specs.Prelude.{List, [], ◌∷◌, codes, Option, Some, None, Ok, Err, if◌then◌else◌}
use Rattle.std.specs.Str.{bytes_eq}
use Rattle.toml.specs.Data.{Data, Members}
use Rattle.zw_def.specs.Text.{Text}
use Rattle.zw_def.specs.ConstantPath.{ConstantPath}
use Rattle.zw_def_syntax.specs.Tree.{Program}
use Rattle.zw_def_syntax.specs.Program.{Parsed, program_of}
use Rattle.zw_def_world.specs.Callback.{Callback, Moment, on_setup, on_load, on_unload}
use Rattle.zw_def_config.specs.Fault.{Reading, ◌>>=◌, wrong_kind, bad_ruby}
use Rattle.zw_def_config.specs.Value.{of_kind, text_in, constant_path_in, required, optional, elements}
use Rattle.zw_def_config.specs.Key.{at, fields_in}

abbrev pub callback_keys : List Text
callback_keys = codes "on" ∷ codes "target" ∷ codes "run" ∷ []

-- ---- when it runs

abbrev pub moment_of : Text → Option Moment
moment_of word =
    if bytes_eq word (codes "setup") then Some on_setup
    else if bytes_eq word (codes "load") then Some on_load
    else if bytes_eq word (codes "unload") then Some on_unload
    else None

abbrev pub moment_in : Data → Reading Moment
moment_in value = text_in (codes "callback.on") value >>= λ word. of_kind (codes "callback.on") (moment_of word)

-- ---- for which key it runs

-- a callback of setup has no target
abbrev pub target_in : Moment → Data → Reading ConstantPath
target_in on_setup value = Err (wrong_kind (codes "callback.target"))
target_in on_load value = constant_path_in (codes "callback.target") value
target_in on_unload value = constant_path_in (codes "callback.target") value

-- ---- what is evaluated

-- the variables that are known where it begins
abbrev pub known_at : Moment → List Text
known_at on_setup = []
known_at on_load = codes "cpath" ∷ codes "value" ∷ codes "path" ∷ []
known_at on_unload = codes "cpath" ∷ codes "value" ∷ codes "path" ∷ []

abbrev pub program_read : Parsed → Reading Program
program_read (Ok program) = Ok program
program_read (Err fault) = Err (bad_ruby (codes "callback.run"))

abbrev pub program_in : Moment → Data → Reading Program
program_in moment value =
    text_in (codes "callback.run") value >>= λ text. program_read (program_of (known_at moment) text)

-- ---- callbacks

unfoldable pub callback_of_table : Members → Reading Callback
callback_of_table table =
    required (codes "callback.on") moment_in (at (codes "on") table) >>= λ moment.
    optional (target_in moment) (at (codes "target") table) >>= λ target.
    required (codes "callback.run") (program_in moment) (at (codes "run") table) >>= λ program.
    Ok (record { moment = moment; target = target; program = program })

abbrev pub callback_in : List Callback → Data → Reading Callback
callback_in before value = fields_in (codes "callback") callback_keys value >>= callback_of_table

-- an array of tables
abbrev pub callbacks : Members → Reading (List Callback)
callbacks table = elements (codes "callback") callback_in (at (codes "callback") table)

-- `check`: whether the tree is calm.
use Rattle.std.specs.Prelude.{Bool, true, false, ◌&&◌, List, [], ◌∷◌, ◌++◌, codes, map, if◌then◌else◌, Option, Some, None, Ok, Err}
use Rattle.std.specs.Option.{option_map_or, option_or}
use Rattle.zw_def.specs.Text.{Text}
use Rattle.zw_def.specs.Path.{Path, path_text}
use Rattle.zw_def.specs.ConstantPath.{ConstantPath}
use Rattle.zw_def.specs.Map.{Key, KeyKind, file_at, directory}
use Rattle.zw_def_syntax.specs.Program.{Parsed, program_of}
use Rattle.zw_def_world.specs.World.{World, Setting, Meeting}
use Rattle.zw_def_world.specs.Load.{text_of}
use Rattle.zw_def_world.specs.Eager.{loads_all}
use Rattle.zw_def_world.specs.Act.{End}
use Rattle.zw_def_world.specs.Session.{Session, line_of_end, is_value, evaluates, acted}
use Rattle.zw_def_world.specs.Setup.{set_up}
use Rattle.zw_def_session.specs.CalmFile.{is_calm_file}

-- ---- the configuration

abbrev pub is_none : {A : Type 0} → List A → Bool
is_none [] = true
is_none (x ∷ xs) = false

-- no callback, and no pattern that leaves files out of eager loading
abbrev pub is_calm_setting : Setting → Bool
is_calm_setting setting = is_none setting.callbacks && is_none setting.layout.no_eager

-- ---- the files

abbrev pub is_calm_text : List ConstantPath → ConstantPath → Parsed → Bool
is_calm_text keys p (Ok program) = is_calm_file keys p program
is_calm_text keys p (Err fault) = false

abbrev pub is_calm_at : World → ConstantPath → Path → Bool
is_calm_at w p path =
    option_map_or (λ t. is_calm_text (map (λ k. k.path) w.map) p (program_of [] t)) (text_of w.tree path) false

abbrev pub restless_file : World → ConstantPath → KeyKind → Option Path
restless_file w p (file_at path) = if is_calm_at w p path then None else Some path
restless_file w p directory = None

-- the first key's file, in map order, that is no calm file
abbrev pub first_restless : World → List Key → Option Path
first_restless w [] = None
first_restless w (k ∷ ks) = option_or (restless_file w k.path k.kind) (first_restless w ks)

-- ---- the run

abbrev pub quiet_setting : Setting → Setting
quiet_setting setting = record setting { callbacks = []; logs = false }

-- the boot image and the mounted tree, without callbacks, variables and older objects
abbrev pub scratch : Session → Session
scratch s = set_up (record s {
  world = record s.image { setting = quiet_setting s.world.setting; meeting = None };
  variables = [];
  staged = s.world.tree;
  out = [];
})

-- eager loading of all keys
abbrev pub eager_run : Session → End
eager_run s = acted (loads_all (evaluates s) s.world.map) s

abbrev pub meeting_text : Meeting → Text
meeting_text m = codes "- cycle " ++ path_text m.file ++ codes " " ++ path_text m.other

abbrev pub end_text : End → Text
end_text e = if is_value e.flow then codes "- calm" else codes "- eager fails " ++ line_of_end e

abbrev pub run_text : End → Text
run_text e = option_map_or meeting_text e.at.world.meeting (end_text e)

-- ---- the line

abbrev pub restless_or : Text → Option Path → Text
restless_or other None = other
restless_or other (Some path) = codes "- not calm " ++ path_text path

abbrev pub scratch_line : Session → Text
scratch_line s = run_text (eager_run (scratch s))

abbrev pub tree_line : Session → Text
tree_line s = restless_or (scratch_line s) (first_restless s.world s.world.map)

abbrev pub configuration_line : Session → Text
configuration_line s = codes "- not calm configuration"

abbrev pub check_line : Session → Text
check_line s = (if is_calm_setting s.world.setting then tree_line else configuration_line) s

-- Meetings of files in progress, as `check` asks for them: while a file is the innermost one that is being loaded, a
-- constant is asked for whose key is that of another file that is being loaded.
use Rattle.std.specs.Prelude.{List, [], ◌∷◌, Option, Some, None, if◌then◌else◌}
use Rattle.std.specs.Option.{option_and_then, option_or}
use Rattle.zw_def.specs.Text.{Text}
use Rattle.zw_def.specs.Path.{Path, same_path}
use Rattle.zw_def.specs.ConstantPath.{ConstantPath}
use Rattle.zw_def.specs.Map.{Key, KeyKind, file_at, directory, key_at}
use Rattle.zw_def_world.specs.World.{World, Meeting, key_of, is_loading}

abbrev pub file_of : KeyKind → Option Path
file_of (file_at path) = Some path
file_of directory = None

-- the file of a key that is being loaded
abbrev pub file_in_progress : World → Key → Option Path
file_in_progress w k = if is_loading (w.states k.path) then file_of k.kind else None

abbrev pub file_of_load : World → ConstantPath → Option Path
file_of_load w q = option_and_then (file_in_progress w) (key_at w.map q)

-- the innermost of the files in progress
abbrev pub innermost_file : World → List ConstantPath → Option Path
innermost_file w [] = None
innermost_file w (q ∷ qs) = option_or (file_of_load w q) (innermost_file w qs)

abbrev pub meeting_of : Path → Path → Option Meeting
meeting_of other file = if same_path file other then None else Some (record { file = file; other = other })

abbrev pub meeting_with : World → Path → Option Meeting
meeting_with w other = option_and_then (meeting_of other) (innermost_file w w.loads)

-- a name is asked of a module of that home
abbrev pub meeting_at : World → Option ConstantPath → Text → Option Meeting
meeting_at w home n = option_and_then (meeting_with w) (option_and_then (file_in_progress w) (key_of w home n))

-- the first meeting stays
abbrev pub with_meeting : Option ConstantPath → Text → World → World
with_meeting home n w = record w { meeting = option_or w.meeting (meeting_at w home n) }

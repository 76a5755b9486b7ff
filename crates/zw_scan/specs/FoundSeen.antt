-- What the code's found files and directories stand for. Their names are told by a list of texts.
use Rattle.std.specs.Prelude.{List}
use Rattle.zw_def.specs.Text.{Text}
use Rattle.zw_def.specs.Names.{AreNamed, texts_of}
use Rattle.zw_def.specs.Map.{Expecting}
use Rattle.zw_scan.specs.declared.found.Found.{Found}

abbrev pub found_seen : List Text → Found → Expecting
found_seen names found = record { path = found.path; names = texts_of names found.names }

-- the names of the constant path are among these
abbrev pub IsFoundNamed : List Text → Found → Type 0
IsFoundNamed names found = AreNamed names found.names

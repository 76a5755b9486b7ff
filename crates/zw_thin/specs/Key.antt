-- What keys stand for, where these are the texts of the names.
use Rattle.std.specs.Prelude.{◌<◌, List, Option, Some, IfSome, option_map, map, length}
use Rattle.std.specs.List.{All}
use Rattle.zw_def.specs.Text.{Text}
use Rattle.zw_def.specs.Names.{text_of}
use Rattle.zw_names.specs.declared.names.Name.{Name}
use Rattle.zw_thin.specs.Held as held
use Rattle.zw_thin.specs.ClassFile.{class_seen, ClassNamed}
use Rattle.zw_thin.specs.declared.keys.IdleFile.{IdleFile}
use Rattle.zw_thin.specs.declared.keys.Key.{Key}

abbrev pub idle_seen : List Text → IdleFile → held.IdleFile
idle_seen names f = record { path = f.path; class = class_seen names f.class }

abbrev pub key_seen : List Text → Name × Option IdleFile → held.Key
key_seen names k = record { name = text_of names k.0.0; file = option_map (idle_seen names) k.1 }

abbrev pub keys_seen : List Text → List (Name × Option IdleFile) → List held.Key
keys_seen names keys = map (key_seen names) keys

-- a key that is to be taken in
abbrev pub new_key_seen : List Text → Key → held.Key
new_key_seen names k = key_seen names (k.name, Some k.file)

-- the key's name is among them, and those of its file's class are
abbrev pub KeyNamed : List Text → Name × Option IdleFile → Type 0
KeyNamed names k = (k.0.0 < length names) × IfSome k.1 (λ f. ClassNamed names f.class)

abbrev pub KeysNamed : List Text → List (Name × Option IdleFile) → Type 0
KeysNamed names keys = All (KeyNamed names) keys

abbrev pub NewKeyNamed : List Text → Key → Type 0
NewKeyNamed names k = (k.name.0 < length names) × ClassNamed names k.file.class

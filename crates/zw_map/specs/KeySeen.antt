-- What the code's keys stand for. Their names are told by a list of texts.
use Rattle.std.specs.Prelude.{List, [], ◌∷◌, if◌then◌else◌, Option, Some, None}
use Rattle.zw_def.specs.Text.{Text}
use Rattle.zw_def.specs.Path.{Path}
use Rattle.zw_def.specs.Tree.{Tree}
use Rattle.zw_def.specs.Layout.{Layout}
use Rattle.zw_def.specs.ConstantPath.{ConstantPath}
use Rattle.zw_def.specs.Names.{AreNamed, texts_of}
use Rattle.zw_def.specs.Map.{Boot, KeyKind, file_at, directory, expecting_files, expecting_directories, is_kept_out, key_among}
use Rattle.zw_def.specs.Map as defined
use Rattle.zw_map.specs.declared.key.Key.{Key}
use Rattle.zw_map.specs.declared.key.Key.TheVariants.{File, Dir}
use Rattle.zw_map.specs.declared.key.KeyRow.{KeyRow}

abbrev pub kind_seen : Key → KeyKind
kind_seen (File path) = file_at path
kind_seen Dir = directory

abbrev pub key_seen : List Text → KeyRow → defined.Key
key_seen names row =
    record { path = texts_of names row.path; kind = kind_seen row.key; directories = row.directories.items }

-- the names of the key are among these
abbrev pub IsKeyNamed : List Text → KeyRow → Type 0
IsKeyNamed names row = AreNamed names row.path

-- the first of these files
abbrev pub kind_told : List Path → KeyKind
kind_told [] = directory
kind_told (file ∷ files) = file_at file

abbrev pub key_told : Layout → Tree → ConstantPath → defined.Key
key_told layout tree = key_among (expecting_files layout tree) (expecting_directories layout tree)

-- the key, unless boot keeps it out
abbrev pub kept_told : Layout → Tree → Boot → ConstantPath → Option defined.Key
kept_told layout tree boot p = if is_kept_out boot p then None else Some (key_told layout tree p)

-- How a folder becomes a tree: the configuration's text, the listing, the files that are taken, and the first refusal
-- among these.
use Rattle.std.specs.Prelude.{List, [], ◌∷◌, Option, Some, None, Ok, Err, ◌+◌, if◌then◌else◌, nat_lt, length}
use Rattle.std.specs.Option.{option_and_then, option_map_or}
use Rattle.std.specs.Str.{is_utf8}
use Rattle.zw_def.specs.Text.{Text}
use Rattle.zw_def.specs.Path.{Path, path_of, path_text}
use Rattle.zw_def.specs.Tree.{Tree, admits, with_file, size_of}
use Rattle.zw_def.specs.Folder.{Listing, bytes_at, unlisted}
use Rattle.zw_def_thin.specs.Limit.{most_listed, most_files, most_file_bytes, most_tree_bytes}
use Rattle.zw_def_thin.specs.Refusal.{Start, ◌>>=◌, no_configuration, long_listing, many_files, large_file, large_tree}

-- ---- the configuration

-- a file's text, where it is within the limit
abbrev pub within_limit : Path → Text → Start Text
within_limit path text = if nat_lt most_file_bytes (length text) then Err (large_file path) else Ok text

abbrev pub configuration_by : Path → Option Text → Start Text
configuration_by path text = option_map_or (within_limit path) text (Err no_configuration)

abbrev pub configuration_text : Path → List (Text × Text) → Start Text
configuration_text path files = configuration_by path (bytes_at (path_text path) files)

-- ---- the listing, and the tree that is taken from it

abbrev pub listed : Listing → Start (List Text)
listed folder = if nat_lt most_listed (length (unlisted folder)) then Err long_listing else Ok (unlisted folder)

-- the tree with one more file, where it is within the limits: its files, the file's bytes, its bytes together
abbrev pub grown : Tree → Path → Text → Start Tree
grown tree path text =
    if nat_lt most_files (length tree + 1) then Err many_files
    else (if nat_lt most_file_bytes (length text) then Err (large_file path)
    else (if nat_lt most_tree_bytes (size_of tree + length text) then Err large_tree
    else Ok (with_file tree path text)))

-- the path that a listed text tells, where it is taken into the tree so far
abbrev pub taken_text : Path → Tree → Text → Option Path
taken_text fixed tree text =
    option_and_then (λ path. if admits (fixed ∷ []) tree path then Some path else None) (path_of text)

-- the tree with a file, unless it can no longer be found
abbrev pub grown_by : Tree → Path → Option Text → Start Tree
grown_by tree path text = option_map_or (grown tree path) text (Ok tree)

-- the tree after one more listed text, which is passed over where no path is taken
abbrev pub with_text : Path → List (Text × Text) → Tree → Text → Start Tree
with_text fixed files tree text =
    option_map_or (λ path. grown_by tree path (bytes_at text files)) (taken_text fixed tree text) (Ok tree)

-- the tree after one more listed path, which is passed over where it is not UTF-8
abbrev pub with_listed : Path → List (Text × Text) → Tree → Text → Start Tree
with_listed fixed files tree bytes = if is_utf8 bytes then with_text fixed files tree bytes else Ok tree

-- the listed paths are taken in their order
abbrev pub mounted : Path → List (Text × Text) → Tree → List Text → Start Tree
mounted fixed files tree [] = Ok tree
mounted fixed files tree (text ∷ texts) =
    with_listed fixed files tree text >>= λ larger. mounted fixed files larger texts

-- the listing is taken whole before the first file is read
abbrev pub tree_of : Path → Listing → Start Tree
tree_of fixed folder = listed folder >>= λ texts. mounted fixed folder.files [] texts

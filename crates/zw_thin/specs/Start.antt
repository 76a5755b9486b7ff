-- The start of a session: the names that files are expected to define are made first, and then the files' keys are
-- taken in.
use Rattle.std.specs.Prelude.{◌≡◌, ℕ, Bool, List, [], ◌∷◌, ◌++◌, true, false, MatchBool, Option, Some, option_map, map, length}
use Rattle.zw_def.specs.Text.{Text, is_among}
use Rattle.zw_def.specs.Path.{Path}
use Rattle.zw_def.specs.Tree.{File}
use Rattle.zw_def.specs.Names.{text_of, with_name, OnlyGrows}
use Rattle.zw_def_thin.specs.Built.{carried, may_define, expected_names}
use Rattle.zw_def_thin.specs.Map.{visible}
use Rattle.zw_names.specs.declared.names.Name.{Name}
use Rattle.zw_thin.specs.File.{file_seen}
use Rattle.zw_thin.specs.declared.file.File.{File as TreeFile}
use Rattle.zw_thin.specs.Held as held
use Rattle.zw_thin.specs.ClassFile.{class_seen}
use Rattle.zw_thin.specs.Key.{keys_seen, new_key_seen}
use Rattle.zw_thin.specs.declared.class_file.ClassFile.{ClassFile}
use Rattle.zw_thin.specs.declared.keys.IdleFile.{IdleFile}
use Rattle.zw_thin.specs.declared.keys.Key.{Key}

-- ---- the names

-- the names with texts among them, each at the end where it is new
abbrev pub with_names : List Text → List Text → List Text
with_names names [] = names
with_names names (text ∷ texts) = with_names (with_name names text) texts

-- the constants that the visible files are expected to define
abbrev pub visible_names : Path → List TreeFile → List Text
visible_names root files = expected_names root (visible root (map file_seen files))

-- the first names, of which there are so many
abbrev pub IsFront : List Text → ℕ → List Text → Type 0
IsFront front count names = (length front ≡ count) × OnlyGrows front names

-- the test answers whether the class may be defined, where so many names, which were made first, are the expected ones
abbrev pub TellsMayDefine : ℕ → List Text → Name → ClassFile → Bool → Type 0
TellsMayDefine expected names name class answer =
    (front : List Text) → IsFront front expected names →
    answer ≡ may_define front (text_of names name.0) (class_seen names class)

-- ---- one file

-- the key of a file that is carried out, before it is evaluated
abbrev pub first_key : Path → List Text → File → Option held.Key
first_key root names file =
    option_map (λ c. record { name = c.name; file = Some (record { path = file.path; class = c.class }) })
    (carried root names file)

-- the key that was read is the file's, where so many of the old names are the expected ones
abbrev pub ReadsKey : ℕ → Path → TreeFile → List Text → List Text → Option Key → Type 0
ReadsKey expected root file old new key =
    (front : List Text) → IsFront front expected old →
    option_map (new_key_seen new) key ≡ first_key root front (file_seen file)

abbrev pub names_in : List held.Key → List Text
names_in keys = map (λ k. k.name) keys

-- the key, whose name is new, is added
abbrev pub AddsKey : held.Key → List held.Key → List held.Key → Type 0
AddsKey key old new = (is_among (names_in old) key.name ≡ false) × (new ≡ old ++ key ∷ [])

-- the key is added, or there is one of its name
abbrev pub Adds : List Text → Key → List (Name × Option IdleFile) → List (Name × Option IdleFile) → Bool → Type 0
Adds names key old new added =
    MatchBool added (AddsKey (new_key_seen names key) (keys_seen names old) (keys_seen names new))
    (is_among (names_in (keys_seen names old)) (text_of names key.name.0) ≡ true)

-- the key of the file, whose name is new, is added
abbrev pub TakesKey : Path → List Text → File → List held.Key → List held.Key → Type 0
TakesKey root names file old new = (key : held.Key) × (first_key root names file ≡ Some key) × AddsKey key old new

-- the file has no key, or there is one of its name
abbrev pub HasNoKey : Path → List Text → File → List held.Key → Type 0
HasNoKey root names file keys =
    (key : held.Key) → first_key root names file ≡ Some key → is_among (names_in keys) key.name ≡ true

-- the file's key is taken in or has no place, where so many of the names are the expected ones
abbrev pub TakesIn : ℕ → List Text → Path → TreeFile → List held.Key → List held.Key → Bool → Type 0
TakesIn expected names root file old new taken =
    (front : List Text) → IsFront front expected names →
    MatchBool taken (TakesKey root front (file_seen file) old new) (HasNoKey root front (file_seen file) old)

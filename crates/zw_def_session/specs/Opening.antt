-- How a session opens: the folder's listing is mounted, boot runs, and the roots' namespaces are looked up.
use Rattle.std.specs.Prelude.{ℕ, Bool, true, false, not, List, [], ◌∷◌, ◌++◌, codes, length, nat_lt, if◌then◌else◌, Option, Some, None, Result, Ok, Err, is_some}
use Rattle.std.specs.List.{find}
use Rattle.std.specs.Option.{option_map_or}
use Rattle.std.specs.Str.{is_utf8}
use Rattle.zw_def.specs.Text.{Text}
use Rattle.zw_def.specs.Path.{Path, path_of, path_text}
use Rattle.zw_def.specs.Tree.{Tree, admits, with_file, size_of}
use Rattle.zw_def.specs.Folder.{Listing, bytes_at, unlisted}
use Rattle.zw_def.specs.ConstantPath.{ConstantPath, constant_path_text}
use Rattle.zw_def.specs.Layout.{Layout}
use Rattle.zw_def_syntax.specs.Program.{program_of}
use Rattle.zw_def_world.specs.World.{World, all_frozen}
use Rattle.zw_def_world.specs.Callback.{Callback}
use Rattle.zw_def_world.specs.CoreWorld.{core_world}
use Rattle.zw_def_world.specs.BootTable.{boot_module}
use Rattle.zw_def_world.specs.Log.{syntax_text_in}
use Rattle.zw_def_world.specs.Load.{runs}
use Rattle.zw_def_world.specs.Act.{End}
use Rattle.zw_def_world.specs.Session.{Session, Settings, with_line, line_of_end, is_value, evaluates, acted, at_end}
use Rattle.zw_def_session.specs.Answers.{max_files, max_file, max_tree}

-- ---- the configuration as it was read

pub record Configuration : Type 0 where
  -- the path of its own file
  pub path : Path
  pub layout : Layout
  pub callbacks : List Callback
  pub reloading : Bool
  pub eager : Bool
  pub boot : Option Path

-- what the words say besides
pub record Words : Type 0 where
  pub budget : ℕ
  pub logs : Bool
  pub steps : Bool
  pub eager : Bool

abbrev pub fixed_paths : Configuration → List Path
fixed_paths c = c.path ∷ option_map_or (λ b. b ∷ []) c.boot []

-- ---- refusals

-- how a session ends by itself
pub data Status : Type 0 where
  done : Status
  refused_configuration : Status
  limit : Status

-- a line, and the status
pub record Refusal : Type 0 where
  pub line : Text
  pub status : Status

abbrev pub past_limit : Text → Refusal
past_limit what = record { line = codes "limit: " ++ what; status = limit }

abbrev pub bad_configuration : Text → Refusal
bad_configuration what = record { line = codes "config: " ++ what; status = refused_configuration }

-- ---- the tree

abbrev pub listed_path : Text → Option Path
listed_path text = if is_utf8 text then path_of text else None

abbrev pub past_tree_limit : Tree → Path → Text → Option Text
past_tree_limit tree path text =
    if nat_lt max_files (length tree) then Some (codes "files")
    else if nat_lt max_file (length text) then Some (codes "file " ++ path_text path)
    else if nat_lt max_tree (size_of tree) then Some (codes "tree")
    else None

abbrev pub unless_past : Tree → Option Text → (Tree → Result Tree Refusal) → Result Tree Refusal
unless_past tree None more = more tree
unless_past tree (Some what) more = Err (past_limit what)

-- a file that can no longer be found is passed over
abbrev pub mounted_file : (Tree → Result Tree Refusal) → Tree → Path → Option Text → Result Tree Refusal
mounted_file more tree path None = more tree
mounted_file more tree path (Some text) =
    unless_past (with_file tree path text) (past_tree_limit (with_file tree path text) path text) more

abbrev pub mounted_path :
    List Path → Listing → (Tree → Result Tree Refusal) → Tree → Text → Option Path → Result Tree Refusal
mounted_path fixed folder more tree text None = more tree
mounted_path fixed folder more tree text (Some path) =
    if admits fixed tree path then mounted_file more tree path (bytes_at text folder.files) else more tree

abbrev pub mounted_from : List Path → Listing → List Text → Tree → Result Tree Refusal
mounted_from fixed folder [] tree = Ok tree
mounted_from fixed folder (text ∷ more) tree =
    mounted_path fixed folder (mounted_from fixed folder more) tree text (listed_path text)

abbrev pub max_listed : ℕ
max_listed = 1000000

-- the listing is taken whole before a file is read
abbrev pub listed_tree : List Path → Listing → Result Tree Refusal
listed_tree fixed folder =
    if nat_lt max_listed (length (unlisted folder)) then Err (past_limit (codes "listing"))
    else mounted_from fixed folder (unlisted folder) []

-- ---- boot

abbrev pub settings_of : Words → Configuration → Settings
settings_of words c = record {
  budget = words.budget;
  steps = words.steps;
  eager = if words.eager then true else c.eager;
  reloading = c.reloading;
  fixed = fixed_paths c;
}

abbrev pub first_world : Words → Configuration → World
first_world words c =
    core_world (record { layout = c.layout; callbacks = c.callbacks; logs = words.logs })

abbrev pub first_session : Words → Configuration → Tree → Session
first_session words c tree = record {
  world = first_world words c;
  variables = [];
  staged = tree;
  image = first_world words c;
  is_down = false;
  settings = settings_of words c;
  out = [];
}

-- a session that goes on, or one that ends with a status
pub data Opened : Type 0 where
  opens_with : Session → Opened
  ends_with : Status → Session → Opened

abbrev pub refuses : Refusal → Session → Opened
refuses refusal s = ends_with refusal.status (with_line refusal.line s)

-- all that exists is frozen, and is the boot image
abbrev pub after_boot : Session → Session
after_boot s = record s { world = all_frozen s.world; image = all_frozen s.world }

-- the first root's namespace that leads to no module of that very name
abbrev pub leads : World → ConstantPath → Bool
leads w p = option_map_or is_some (boot_module w p) false

abbrev pub with_namespaces : Configuration → Session → Opened
with_namespaces c s =
    option_map_or (λ root. refuses (bad_configuration (codes "namespace " ++ constant_path_text root.namespace)) s)
    (find (λ root. not (leads s.world root.namespace)) c.layout.roots) (opens_with s)

-- boot that ends otherwise than with a value is told, and ends the session
abbrev pub booted : Configuration → Session → End → Opened
booted c s e =
    if is_value e.flow then with_namespaces c (after_boot (at_end e s))
    else ends_with refused_configuration (with_line (line_of_end e) (at_end e s))

abbrev pub boots_text : Configuration → Path → Text → Session → Opened
boots_text c path text s =
    if nat_lt max_file (length text) then refuses (past_limit (codes "file " ++ path_text path)) s
    else booted c s (acted (runs (evaluates s) (syntax_text_in path) (program_of [] text)) s)

abbrev pub boots_file : Configuration → Path → Option Text → Session → Opened
boots_file c path None s = refuses (bad_configuration (codes "boot missing")) s
boots_file c path (Some text) s = boots_text c path text s

abbrev pub boots : Configuration → Listing → Option Path → Session → Opened
boots c folder None s = with_namespaces c (after_boot s)
boots c folder (Some path) s = boots_file c path (bytes_at (path_text path) folder.files) s

-- ---- the opening

abbrev pub opened_over : Words → Configuration → Listing → Result Tree Refusal → Opened
opened_over words c folder (Ok tree) = boots c folder c.boot (first_session words c tree)
opened_over words c folder (Err refusal) = refuses refusal (first_session words c [])

abbrev pub opened : Words → Configuration → Listing → Opened
opened words c folder = opened_over words c folder (listed_tree (fixed_paths c) folder)

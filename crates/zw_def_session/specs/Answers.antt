-- What each command does to a session and writes.
use Rattle.std.specs.Prelude.{ℕ, Bool, false, not, ◌&&◌, ◌||◌, List, [], ◌++◌, codes, length, map, filter, nat_lt, if◌then◌else◌, Option, Some, None, Ok, Err}
use Rattle.std.specs.List.{list_any}
use Rattle.std.specs.Option.{option_map_or}
use Rattle.zw_def.specs.Text.{Text}
use Rattle.zw_def.specs.Path.{Path, same_path, is_below, path_text}
use Rattle.zw_def.specs.Tree.{Tree, with_file, is_ruby_path, size_of}
use Rattle.zw_def.specs.ConstantPath.{ConstantPath, constant_path_text}
use Rattle.zw_def.specs.Visible.{visible_files}
use Rattle.zw_def.specs.Expected.{Expected, WrongName, expected_path, wrong_name_text}
use Rattle.zw_def.specs.Map.{Key, KeyKind, file_at, directory, key_at}
use Rattle.zw_def.specs.Shadow.{Shade, shadowed_by, already_defined, Shadowed, shadowed}
use Rattle.zw_def_syntax.specs.Program.{program_of}
use Rattle.zw_def_world.specs.Quote.{escaped_text}
use Rattle.zw_def_world.specs.Frame.{console_frame}
use Rattle.zw_def_world.specs.Log.{syntax_text}
use Rattle.zw_def_world.specs.Load.{runs}
use Rattle.zw_def_world.specs.BootTable.{boot_of}
use Rattle.zw_def_world.specs.Eager.{all_eager_keys, eager_keys_below, eager_keys_within, keys_to, loads_all}
use Rattle.zw_def_world.specs.Act.{End}
use Rattle.zw_def_world.specs.Session.{Session, with_line, with_lines, with_steps, line_of_end, is_value, evaluates, start, acted, steps_of, at_end}
use Rattle.zw_def_world.specs.Reload.{reloaded}
use Rattle.zw_def_session.specs.Check.{check_line}
use Rattle.zw_def_session.specs.Commands.{Command, put, del, run, reload, eager, eager_dir, eager_ns, load, expect, shadows, check}
use Rattle.zw_def_session.specs.Commands as command

-- a fault that the session itself tells
abbrev pub fault_text : Text → Text → Text
fault_text class message = codes "! " ++ class ++ codes ": " ++ escaped_text message

abbrev pub wrong_name_line : WrongName → Text
wrong_name_line wrong = fault_text (codes "Zeitwerk::NameError") (wrong_name_text wrong)

-- ---- edits

abbrev pub is_file_of : Tree → Path → Bool
is_file_of tree path = list_any (λ f. same_path f.path path) tree

-- a directory above the path is a file, or the path is a directory
abbrev pub is_blocked : Tree → Path → Bool
is_blocked tree path = list_any (λ f. is_below f.path path || is_below path f.path) tree

abbrev pub without_file : Tree → Path → Tree
without_file tree path = filter (λ f. not (same_path f.path path)) tree

abbrev pub tree_with : Tree → Path → Text → Tree
tree_with tree path text = with_file (without_file tree path) path text

abbrev pub max_files : ℕ
max_files = 100000

abbrev pub max_file : ℕ
max_file = 1048576

abbrev pub max_tree : ℕ
max_tree = 268435456

abbrev pub is_too_large : Tree → Text → Bool
is_too_large tree text =
    nat_lt max_files (length tree) || nat_lt max_file (length text) || nat_lt max_tree (size_of tree)

abbrev pub is_fixed : Session → Path → Bool
is_fixed s path = list_any (same_path path) s.settings.fixed

abbrev pub put_answer : Path → Text → Session → Session
put_answer path text s =
    if is_fixed s path then with_line (codes "? fixed") s
    else if not (is_ruby_path path) then with_line (codes "? not a Ruby path") s
    else if is_blocked s.staged path then with_line (codes "? in the way") s
    else if is_too_large (tree_with s.staged path text) text then with_line (codes "? too large") s
    else with_line (codes "ok") (record s { staged = tree_with s.staged path text })

abbrev pub del_answer : Path → Session → Session
del_answer path s =
    if is_fixed s path then with_line (codes "? fixed") s
    else if not (is_ruby_path path) then with_line (codes "? not a Ruby path") s
    else if not (is_file_of s.staged path) then with_line (codes "? missing") s
    else with_line (codes "ok") (record s { staged = without_file s.staged path })

-- ---- run

-- a variable that was assigned stays assigned, whatever the end
abbrev pub after_run : Session → End → Session
after_run s e =
    with_steps (steps_of s e) (with_line (line_of_end e) (record (at_end e s) { variables = e.at.frame.locals }))

abbrev pub run_answer : Text → Session → Session
run_answer text s =
    after_run s (runs (evaluates s) syntax_text (program_of [] text) (start (console_frame s.variables) s))

-- ---- eager loading

abbrev pub with_end_line : End → Session → Session
with_end_line e s = with_line (if is_value e.flow then codes "ok" else line_of_end e) s

abbrev pub after_eager : Session → End → Session
after_eager s e = with_steps (steps_of s e) (with_end_line e (at_end e s))

abbrev pub eager_answer : List Key → Session → Session
eager_answer keys s = after_eager s (acted (loads_all (evaluates s) keys) s)

-- after a setup the line `ok` is not written
abbrev pub with_failing_end : End → Session → Session
with_failing_end e s = if is_value e.flow then s else with_line (line_of_end e) s

abbrev pub after_eager_setup : Session → End → Session
after_eager_setup s e = with_steps (steps_of s e) (with_failing_end e (at_end e s))

abbrev pub loads_eagerly : Session → Session
loads_eagerly s = after_eager_setup s (acted (loads_all (evaluates s) (all_eager_keys s.world)) s)

abbrev pub unchanged : Session → Session
unchanged s = s

-- where eager loading is enabled, and the session is not down
abbrev pub eager_after_setup : Session → Session
eager_after_setup s = (if s.settings.eager && not s.is_down then loads_eagerly else unchanged) s

-- ---- directories and files

abbrev pub visible_in : Session → List Path
visible_in s = visible_files s.world.setting.layout s.world.tree

abbrev pub not_managed : Path → Text
not_managed path = fault_text (codes "Zeitwerk::Error") (path_text path ++ codes " is not managed")

abbrev pub is_shadowed_line : Path → Text
is_shadowed_line path = fault_text (codes "Zeitwerk::Error") (path_text path ++ codes " is shadowed")

abbrev pub eager_dir_answer : Path → Session → Session
eager_dir_answer dir s =
    (if list_any (λ f. is_below f dir) (visible_in s) then eager_answer (eager_keys_below s.world dir)
    else with_line (not_managed dir)) s

abbrev pub is_loaded_from : Path → KeyKind → Bool
is_loaded_from path (file_at file) = same_path file path
is_loaded_from path directory = false

-- the file is the one that its key loads
abbrev pub is_winner : Session → Path → ConstantPath → Bool
is_winner s path p = option_map_or (λ k. is_loaded_from path k.kind) (key_at s.world.map p) false

abbrev pub load_expected : Path → Session → Option Expected → Session
load_expected path s None = with_line (not_managed path) s
load_expected path s (Some (Err wrong)) = with_steps 0 (with_line (wrong_name_line wrong) s)
load_expected path s (Some (Ok p)) =
    (if is_winner s path p then eager_answer (keys_to s.world p) else with_line (is_shadowed_line path)) s

abbrev pub is_managed : Session → Path → Bool
is_managed s path = list_any (same_path path) (visible_in s)

-- what a visible file is expected to define
abbrev pub expected_in : Session → Path → Option Expected
expected_in s path = if is_managed s path then expected_path s.world.setting.layout path else None

abbrev pub expect_line : Option Expected → Text
expect_line None = codes "- none"
expect_line (Some (Ok p)) = codes "- " ++ constant_path_text p
expect_line (Some (Err wrong)) = wrong_name_line wrong

-- ---- the map

abbrev pub kind_text : KeyKind → Text
kind_text (file_at path) = codes " file " ++ path_text path
kind_text directory = codes " dir"

abbrev pub key_line : Key → Text
key_line k = codes "- " ++ constant_path_text k.path ++ kind_text k.kind

abbrev pub shade_text : Shade → Text
shade_text (shadowed_by path) = codes " shadowed by " ++ path_text path
shade_text (already_defined p) = codes " ignored, " ++ constant_path_text p ++ codes " is already defined"

abbrev pub shadow_line : Shadowed → Text
shadow_line f = codes "- " ++ path_text f.path ++ shade_text f.shade

-- boot's tables are those of the boot image
abbrev pub shadow_lines : Session → List Text
shadow_lines s = map shadow_line (shadowed s.world.setting.layout s.world.tree (boot_of s.image))

-- ---- reload

abbrev pub reloads : Session → Session
reloads s = eager_after_setup (reloaded s)

abbrev pub refuses_reload : Session → Session
refuses_reload s =
    with_line (fault_text (codes "Zeitwerk::ReloadingDisabledError") (codes "reloading is not enabled")) s

abbrev pub reload_answer : Session → Session
reload_answer s = (if s.settings.reloading then reloads else refuses_reload) s

-- ---- commands

-- commands that evaluate or load, while the session is not down
abbrev pub refuses_down : Session → Session
refuses_down s = with_line (fault_text (codes "Zeitwerk::SetupRequired") (codes "the last setup raised")) s

abbrev pub unless_down : (Session → Session) → Session → Session
unless_down answer s = (if s.is_down then refuses_down else answer) s

abbrev pub answer : Command → Session → Session
answer (put path text) s = put_answer path text s
answer (del path) s = del_answer path s
answer (run text) s = unless_down (run_answer text) s
answer reload s = reload_answer s
answer eager s = unless_down (eager_answer (all_eager_keys s.world)) s
answer (eager_dir dir) s = unless_down (eager_dir_answer dir) s
answer (eager_ns p) s = unless_down (eager_answer (eager_keys_within s.world p)) s
answer (load path) s = unless_down (λ t. load_expected path t (expected_in t path)) s
answer (expect path) s = with_line (expect_line (expected_in s path)) s
answer command.map s = with_lines (map key_line s.world.map) s
answer shadows s = unless_down (λ t. with_lines (shadow_lines t) t) s
answer check s = unless_down (λ t. with_line (check_line t) t) s

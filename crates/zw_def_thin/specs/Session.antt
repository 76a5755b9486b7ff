-- The sessions that are carried out so far: how one starts, and what its commands write. Trees are mounted once, and no
-- file is evaluated but by the first path.
use Rattle.std.specs.Prelude.{Bool, false, List, [], ◌∷◌, codes, map, not, Option, Some, None, Ok, Err, is_some, length, ◌==◌, if◌then◌else◌}
use Rattle.std.specs.List.{list_any, find}
use Rattle.std.specs.Option.{option_map, option_map_or, option_and_then}
use Rattle.zw_def.specs.Text.{Text}
use Rattle.zw_def.specs.Path.{Path, same_path}
use Rattle.zw_def.specs.ConstantPath.{constant_path_text}
use Rattle.zw_def.specs.Expected.{Expected, expected_path}
use Rattle.zw_def.specs.Folder.{Listing}
use Rattle.zw_def.specs.Layout.{Layout}
use Rattle.zw_def.specs.Map.{Boot, map_of}
use Rattle.zw_def.specs.Shadow.{shadowed}
use Rattle.zw_def.specs.Tree.{Tree}
use Rattle.zw_def.specs.Visible.{visible_files}
use Rattle.zw_def_world.specs.BootTable.{boot_of}
use Rattle.zw_def_world.specs.CoreWorld.{core_world}
use Rattle.zw_def_world.specs.World as world
use Rattle.zw_def_session.specs.Answers.{expect_line, key_line, shadow_line}
use Rattle.zw_def_session.specs.Commands.{Command, Reason, run, expect, shadows, reason_line}
use Rattle.zw_def_session.specs.Commands as command
use Rattle.zw_def_session.specs.Opening.{leads}
use Rattle.zw_def_thin.specs.Built.{first_other}
use Rattle.zw_def_thin.specs.Evaluation.{World, Outcome, world_at, expression_of, evaluated, line_of_ending}
use Rattle.zw_def_thin.specs.Map.{visible}
use Rattle.zw_def_thin.specs.Mount.{configuration_text, tree_of}
use Rattle.zw_def_thin.specs.Refusal.{Start, ◌>>=◌, bad_namespace, other_configuration}
use Rattle.zw_def_thin.specs.Root.{Plan, plan_from}

-- a layout, the tree that is mounted, and the first path's world where that answers `run`
pub record Session : Type 0 where
  pub layout : Layout
  pub tree : Tree
  pub console : Option World

-- ---- boot, which runs no file

abbrev pub boot_world : Layout → world.World
boot_world layout = core_world (record { layout = layout; callbacks = []; logs = false })

-- ---- the start

-- the first path's world below a root, where it carries out each visible file
abbrev pub world_below : Path → Tree → Option World
world_below root tree =
    if is_some (first_other root (visible root tree)) then None else Some (world_at root tree)

-- without visible files it is that of a tree without files
abbrev pub console_of : Path → Plan → Tree → Option World
console_of path plan tree =
    if length (visible_files plan.layout tree) == 0 then world_below path []
    else option_and_then (λ root. world_below root tree) plan.root

abbrev pub session_of : Path → Plan → Tree → Session
session_of path plan tree =
    record { layout = plan.layout; tree = tree; console = console_of path plan tree }

-- the text of the first root's namespace that leads to no module of that very name
abbrev pub stray_of : world.World → Layout → Option Text
stray_of w layout =
    option_map (λ root. constant_path_text root.namespace)
    (find (λ root. not (leads w root.namespace)) layout.roots)

-- each root's namespace leads to a module of that very name
abbrev pub with_namespaces : Path → Plan → Tree → Start Session
with_namespaces path plan tree =
    option_map_or (λ text. Err (bad_namespace text)) (stray_of (boot_world plan.layout) plan.layout)
    (Ok (session_of path plan tree))

-- flags and options are not built so far
abbrev pub with_bare_words : Bool → Plan → Start Plan
with_bare_words is_bare plan = if is_bare then Ok plan else Err other_configuration

abbrev pub session_in : Path → Listing → Plan → Start Session
session_in path folder plan = tree_of path folder >>= with_namespaces path plan

-- what is carried out of the configuration at the path
abbrev pub plan_at : Path → Listing → Start Plan
plan_at path folder = configuration_text path folder.files >>= plan_from path

-- with the configuration at this path
abbrev pub started_at : Bool → Path → Listing → Start Session
started_at is_bare path folder = plan_at path folder >>= with_bare_words is_bare >>= session_in path folder

-- ---- the commands

-- the lines that a command writes, and the session after it
pub record Answer : Type 0 where
  pub lines : List Text
  pub session : Session

abbrev pub writes : List Text → Session → Answer
writes lines s = record { lines = lines; session = s }

abbrev pub not_built : Session → Answer
not_built s = writes (codes "? not built" ∷ []) s

abbrev pub ran : Session → Outcome → Answer
ran s o = writes (line_of_ending o.ending ∷ []) (record s { console = Some o.world })

-- the first path's forms are answered in its world
abbrev pub run_in : Text → Session → World → Answer
run_in text s w = option_map_or (λ e. ran s (evaluated w e)) (expression_of text) (not_built s)

abbrev pub run_answer : Text → Session → Answer
run_answer text s = option_map_or (run_in text s) s.console (not_built s)

-- what a visible file is expected to define
abbrev pub expected_in : Session → Path → Option Expected
expected_in s path =
    if list_any (same_path path) (visible_files s.layout s.tree) then expected_path s.layout path else None

abbrev pub boot_in : Session → Boot
boot_in s = boot_of (boot_world s.layout)

abbrev pub answer : Command → Session → Answer
answer (run text) s = run_answer text s
answer (expect path) s = writes (expect_line (expected_in s path) ∷ []) s
answer command.map s = writes (map key_line (map_of s.layout s.tree (boot_in s))) s
answer shadows s = writes (map shadow_line (shadowed s.layout s.tree (boot_in s))) s
answer _ s = not_built s

-- a line that is refused
abbrev pub refusal : Reason → Session → Answer
refusal reason s = writes (reason_line reason ∷ []) s

-- The answer to each command leaves the image, the settings and the setting, and makes no record of a coming setup.
use Rattle.std.specs.Prelude.{Bool, true, false, not, List, [], ◌∷◌, codes, ◌&&◌, map, Option, Some, None, Ok, Err, if◌then◌else◌}
use Rattle.std.specs.List.{list_any}
use Rattle.std.proofs.Common.{refl, le_refl}
use Rattle.zw_def.specs.Text.{Text}
use Rattle.zw_def.specs.Path.{Path, is_below}
use Rattle.zw_def.specs.Tree.{Tree, is_ruby_path}
use Rattle.zw_def.specs.Expected.{Expected}
use Rattle.zw_def.specs.Map.{Key}
use Rattle.zw_def_syntax.specs.Program.{program_of}
use Rattle.zw_def_world.specs.Value.{Value}
use Rattle.zw_def_world.specs.Table.{Table}
use Rattle.zw_def_world.specs.Frame.{console_frame, top_frame}
use Rattle.zw_def_world.specs.Log.{syntax_text}
use Rattle.zw_def_world.specs.Load.{runs}
use Rattle.zw_def_world.specs.Eager.{all_eager_keys, eager_keys_below, eager_keys_within, keys_to, loads_all}
use Rattle.zw_def_world.specs.Act.{End}
use Rattle.zw_def_world.specs.Session.{Session, with_line, with_lines, is_value, line_of_end, evaluates, acted, at_end}
use Rattle.zw_def_world.specs.Reload.{reloaded}
use Rattle.zw_def_world.specs.Setup.{set_up}
use Rattle.zw_def_world.proofs.EvaluationLaws.{run_keeps}
use Rattle.zw_def_world.proofs.LoadLaws.{runs_keeps, loads_all_keeps}
use Rattle.zw_def_session.specs.Commands.{Command, put, del, run, reload, eager, eager_dir, eager_ns, load, expect, shadows, check}
use Rattle.zw_def_session.specs.Commands as command
use Rattle.zw_def_session.specs.Check.{check_line}
use Rattle.zw_def_session.specs.Answers.{is_fixed, is_blocked, is_too_large, is_file_of, tree_with, without_file, put_answer, del_answer, run_answer, with_failing_end, loads_eagerly, unchanged, eager_after_setup, eager_answer, visible_in, not_managed, eager_dir_answer, is_winner, load_expected, expected_in, expect_line, key_line, shadow_lines, reloads, refuses_reload, reload_answer, refuses_down, unless_down, answer}
use Rattle.zw_def_session.specs.Whole.{sets_up}
use Rattle.zw_fresh.specs.Law.{answered}
use Rattle.zw_fresh.specs.Reached.{Onward, Within}
use Rattle.zw_fresh.proofs.OnwardLaws.{stays, both_onward, both_within, if_within, line_within, steps_within, moved_within, set_up_within, reloaded_within}

-- ---- lines and edits

lines_within : (lines : List Text) (s : Session) → Within s (with_lines lines s)
lines_within [] s = stays s
lines_within (line ∷ lines) s = both_within (line_within line s) (lines_within lines (with_line line s))

if_onward : {s t u : Session} (b : Bool) → Onward s t → Onward s u → Onward s (if b then t else u)
if_onward true A B = A
if_onward false A B = B

line_onward : (line : Text) (s : Session) → Onward s (with_line line s)
line_onward line s = (line_within line s).onward

staged_onward : (tree : Tree) (s : Session) → Onward s (with_line (codes "ok") (record s { staged = tree }))
staged_onward tree s = record { image = refl; settings = refl; setting = refl; past = λ a. a; setups = le_refl s.world.setups }

put_onward : (path : Path) (text : Text) (s : Session) → Onward s (put_answer path text s)
put_onward path text s =
    if_onward (is_fixed s path) (line_onward _ s)
    (if_onward (not (is_ruby_path path)) (line_onward _ s)
    (if_onward (is_blocked s.staged path) (line_onward _ s)
    (if_onward (is_too_large (tree_with s.staged path text) text) (line_onward _ s) (staged_onward (tree_with s.staged path text) s))))

del_onward : (path : Path) (s : Session) → Onward s (del_answer path s)
del_onward path s =
    if_onward (is_fixed s path) (line_onward _ s)
    (if_onward (not (is_ruby_path path)) (line_onward _ s)
    (if_onward (not (is_file_of s.staged path)) (line_onward _ s) (staged_onward (without_file s.staged path) s)))

-- ---- commands that evaluate

variables_onward : (variables : Table Value) (s : Session) → Onward s (record s { variables = variables })
variables_onward variables s = record { image = refl; settings = refl; setting = refl; past = λ a. a; setups = le_refl s.world.setups }

run_onward : (text : Text) (s : Session) → Onward s (run_answer text s)
run_onward text s =
    let moved = moved_within (runs (evaluates s) syntax_text (program_of [] text))
    (λ E. runs_keeps (run_keeps {E = E} s.settings.budget 0) syntax_text (program_of [] text)) (console_frame s.variables) s in
    both_onward moved.onward
    (both_onward (variables_onward _ _) (both_onward (line_onward _ _) (steps_within _ _).onward))

loading_within : (keys : List Key) (s : Session) → Within s (at_end (acted (loads_all (evaluates s) keys) s) s)
loading_within keys s = moved_within (loads_all (evaluates s) keys)
    (λ E. loads_all_keeps (run_keeps {E = E} s.settings.budget 0) keys) (top_frame []) s

eager_within : (keys : List Key) (s : Session) → Within s (eager_answer keys s)
eager_within keys s = both_within (loading_within keys s) (both_within (line_within _ _) (steps_within _ _))

failing_within : (e : End) (s : Session) → Within s (with_failing_end e s)
failing_within e s = if_within (is_value e.flow) (stays s) (line_within (line_of_end e) s)

loads_eagerly_within : (s : Session) → Within s (loads_eagerly s)
loads_eagerly_within s = both_within (loading_within (all_eager_keys s.world) s)
    (both_within (failing_within (acted (loads_all (evaluates s) (all_eager_keys s.world)) s) _) (steps_within _ _))

pub after_setup_within : (s : Session) → Within s (eager_after_setup s)
after_setup_within s = at (s.settings.eager && not s.is_down)
  where
    at : (b : Bool) → Within s ((if b then loads_eagerly else unchanged) s)
    at true = loads_eagerly_within s
    at false = stays s

pub sets_up_within : (s : Session) → Within s (sets_up s)
sets_up_within s = both_within (set_up_within s) (after_setup_within (set_up s))

reloads_within : (s : Session) → Within s (reloads s)
reloads_within s = both_within (reloaded_within s) (after_setup_within (reloaded s))

eager_dir_within : (dir : Path) (s : Session) → Within s (eager_dir_answer dir s)
eager_dir_within dir s = at (list_any (λ f. is_below f dir) (visible_in s))
  where
    at : (b : Bool) → Within s ((if b then eager_answer (eager_keys_below s.world dir) else with_line (not_managed dir)) s)
    at true = eager_within (eager_keys_below s.world dir) s
    at false = line_within _ s

load_within : (path : Path) (s : Session) (o : Option Expected) → Within s (load_expected path s o)
load_within path s None = line_within _ s
load_within path s (Some (Err wrong)) = both_within (line_within _ s) (steps_within _ _)
load_within path s (Some (Ok p)) = at (is_winner s path p) _
  where
    at : (b : Bool) (line : Text) → Within s ((if b then eager_answer (keys_to s.world p) else with_line line) s)
    at true line = eager_within (keys_to s.world p) s
    at false line = line_within line s

-- ---- all of them

reload_within : (s : Session) → Within s (reload_answer s)
reload_within s = at s.settings.reloading
  where
    at : (b : Bool) → Within s ((if b then reloads else refuses_reload) s)
    at true = reloads_within s
    at false = line_within _ s

unless_down_onward : (g : Session → Session) (s : Session) → Onward s (g s) → Onward s (unless_down g s)
unless_down_onward g s h = at s.is_down
  where
    at : (b : Bool) → Onward s ((if b then refuses_down else g) s)
    at true = line_onward _ s
    at false = h

pub answer_onward : (c : Command) (s : Session) → Onward s (answer c s)
answer_onward (put path text) s = put_onward path text s
answer_onward (del path) s = del_onward path s
answer_onward (run text) s = unless_down_onward (run_answer text) s (run_onward text s)
answer_onward reload s = (reload_within s).onward
answer_onward eager s =
    unless_down_onward (eager_answer (all_eager_keys s.world)) s (eager_within (all_eager_keys s.world) s).onward
answer_onward (eager_dir dir) s = unless_down_onward (eager_dir_answer dir) s (eager_dir_within dir s).onward
answer_onward (eager_ns p) s =
    unless_down_onward (eager_answer (eager_keys_within s.world p)) s (eager_within (eager_keys_within s.world p) s).onward
answer_onward (load path) s =
    unless_down_onward (λ t. load_expected path t (expected_in t path)) s (load_within path s (expected_in s path)).onward
answer_onward (expect path) s = line_onward (expect_line (expected_in s path)) s
answer_onward command.map s = (lines_within (map key_line s.world.map) s).onward
answer_onward shadows s =
    unless_down_onward (λ t. with_lines (shadow_lines t) t) s (lines_within (shadow_lines s) s).onward
answer_onward check s = unless_down_onward (λ t. with_line (check_line t) t) s (line_onward (check_line s) s)

pub answered_onward : (cs : List Command) (s : Session) → Onward s (answered cs s)
answered_onward [] s = (stays s).onward
answered_onward (c ∷ cs) s = both_onward (answer_onward c s) (answered_onward cs (answer c s))

-- A session between its acts, the lines that it writes, and acts that have a budget of their own.
use Rattle.std.specs.Prelude.{ℕ, ◌+◌, ◌-◌, ◌^◌, Bool, true, false, min, List, [], ◌∷◌, ◌++◌, codes, Option, Some, None, if◌then◌else◌}
use Rattle.std.specs.Option.{option_map, unwrap_or}
use Rattle.std.specs.Fmt.{decimal}
use Rattle.zw_def.specs.Text.{Text}
use Rattle.zw_def.specs.Path.{Path}
use Rattle.zw_def.specs.Tree.{Tree}
use Rattle.zw_def_syntax.specs.Tree.{Tree as Node}
use Rattle.zw_def_world.specs.Missing.{bind}
use Rattle.zw_def_world.specs.Table.{Table}
use Rattle.zw_def_world.specs.Value.{Value}
use Rattle.zw_def_world.specs.World.{World}
use Rattle.zw_def_world.specs.Frame.{Frame, top_frame}
use Rattle.zw_def_world.specs.Inspect.{inspected, fault_line}
use Rattle.zw_def_world.specs.TextOfValue.{is_long}
use Rattle.zw_def_world.specs.Act.{Act, Point, End, Flow, gave, raised, out_of_steps, too_deep}
use Rattle.zw_def_world.specs.Evaluation.{run}

-- what the words and the configuration say
pub record Settings : Type 0 where
  pub budget : ℕ
  pub steps : Bool
  pub eager : Bool
  pub reloading : Bool
  -- the paths of the configuration and of boot, which no edit touches
  pub fixed : List Path

pub record Session : Type 0 where
  pub world : World
  -- the session's variables
  pub variables : Table Value
  pub staged : Tree
  -- the world that boot left
  pub image : World
  pub is_down : Bool
  pub settings : Settings
  pub out : Text

-- ---- lines

abbrev pub with_line : Text → Session → Session
with_line line s = record s { out = s.out ++ line ++ codes "\n" }

abbrev pub with_lines : List Text → Session → Session
with_lines [] s = s
with_lines (line ∷ lines) s = with_lines lines (with_line line s)

-- a number of steps stays where it would pass this one
abbrev pub max_steps : ℕ
max_steps = 2 ^ 64 - 1

abbrev pub with_steps : ℕ → Session → Session
with_steps used s = if s.settings.steps then with_line (codes "# " ++ decimal used) s else s

-- the line of a value; an inspect text that is too long is told as a fault
abbrev pub value_line : Text → Text
value_line t = if is_long t then codes "! RangeError: text too long" else codes "= " ++ t

abbrev pub line_if_there : World → Flow → Option Text
line_if_there w (gave v) = option_map value_line (inspected w v)
line_if_there w (raised i) = bind (w.objects i) (fault_line w)
line_if_there w out_of_steps = Some (codes "! budget")
line_if_there w too_deep = Some (codes "! depth")
line_if_there w _ = None

-- no session comes to `! lost`
abbrev pub line_of_end : End → Text
line_of_end e = unwrap_or (line_if_there e.at.world e.flow) (codes "! lost")

abbrev pub is_value : Flow → Bool
is_value (gave v) = true
is_value _ = false

-- an end that is no value is told
abbrev pub with_fault : End → Session → Session
with_fault e s = if is_value e.flow then s else with_line (line_of_end e) s

-- ---- acts

-- nodes are evaluated from level 0 on; no act takes more steps than its budget
abbrev pub evaluates : Session → Node → Act
evaluates s = run s.settings.budget 0

abbrev pub start : Frame → Session → Point
start frame s = record { world = s.world; frame = frame; left = s.settings.budget; out = s.out }

-- the act with the whole budget
abbrev pub acted : Act → Session → End
acted act s = act (start (top_frame []) s)

abbrev pub steps_of : Session → End → ℕ
steps_of s e = s.settings.budget - e.at.left

-- the world and the lines are those in which the act ended
abbrev pub at_end : End → Session → Session
at_end e s = record s { world = e.at.world; out = e.at.out }

-- ---- phases: acts in a row, each with a budget of its own, and their steps together

pub record Phase : Type 0 where
  pub session : Session
  pub steps : ℕ

abbrev pub begin_phase : Session → Phase
begin_phase s = record { session = s; steps = 0 }

abbrev pub after_act : Phase → End → Phase
after_act phase e = record {
  session = with_fault e (at_end e phase.session);
  steps = min max_steps (phase.steps + steps_of phase.session e);
}

-- its end that is no value is told, and the next act follows
abbrev pub with_act : (Session → Act) → Phase → Phase
with_act act phase = after_act phase (acted (act phase.session) phase.session)

-- the phase's steps are told
abbrev pub end_phase : Phase → Session
end_phase phase = with_steps phase.steps phase.session

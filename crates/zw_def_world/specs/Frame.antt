-- Frames: the receiver, the scopes, the variables and the running method (ISO/IEC 30170, 7.1, execution contexts).
use Rattle.std.specs.Prelude.{ℕ, Bool, true, false, List, [], ◌∷◌, Option, None}
use Rattle.zw_def.specs.Text.{Text}
use Rattle.zw_def_world.specs.Id.{Id}
use Rattle.zw_def_world.specs.Value.{Value}
use Rattle.zw_def_world.specs.Table.{Table, assigned}
use Rattle.zw_def_world.specs.CoreClass.{Object_class, main}
use Rattle.zw_def_world.specs.MethodLine.{Place}

-- a running method: its name, the place of its table, and how many equal places stand before it in the line
pub record Running : Type 0 where
  pub name : Text
  pub place : Place
  pub earlier : ℕ

pub record Frame : Type 0 where
  pub self_value : Value
  -- the innermost first
  pub scopes : List Id
  pub locals : Table Value
  -- the session's own frame
  pub is_console : Bool
  -- the frame of a class or module body, and whether its methods are private now
  pub is_body : Bool
  pub hides : Bool
  pub running : Option Running
  pub parameters : List Text

abbrev pub frame_of : Value → List Id → Frame
frame_of self_value scopes = record {
  self_value = self_value;
  scopes = scopes;
  locals = [];
  is_console = false;
  is_body = false;
  hides = false;
  running = None;
  parameters = [];
}

abbrev pub with_local : Text → Value → Frame → Frame
with_local x v f = record f { locals = assigned x v f.locals }

-- Object where there is no other
abbrev pub innermost_scope : List Id → Id
innermost_scope [] = Object_class
innermost_scope (i ∷ is) = i

-- at top level: self is `main`, no scopes, and these variables
abbrev pub top_frame : Table Value → Frame
top_frame locals = record (frame_of main []) { locals = locals }

-- the session's own frame, with its variables
abbrev pub console_frame : Table Value → Frame
console_frame variables = record (top_frame variables) { is_console = true }

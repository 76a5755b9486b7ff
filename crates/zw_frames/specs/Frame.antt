-- Frames, told as the definition's.
use Rattle.std.specs.Prelude.{◌≡◌, Bool, false, ℕ, ◌<◌, ◌≤◌, List, [], ◌++◌, length, map, Option, Some, None}
use Rattle.std.specs.List.{All, slice_get}
use Rattle.std.specs.Option.{option_map, option_map_or}
use Rattle.std.proofs.Common.{Vec, Global}
use Rattle.zw_def.specs.Text.{Text}
use Rattle.zw_def_world.specs.Call.{default_names}
use Rattle.zw_def_world.specs.Frame as told
use Rattle.zw_code.specs.Code.{code_names, told_code}
use Rattle.zw_code.specs.declared.code.Code.{Code}
use Rattle.zw_frames.specs.declared.frame.Frame.{Frame}
use Rattle.zw_heap.specs.declared.mark.Sizes.{Sizes}
use Rattle.zw_heap.specs.Sound.{EntryIn, IsIn}
use Rattle.zw_heap.specs.Telling.{Telling, tell, told_ids, told_variables}
use Rattle.zw_heap.specs.declared.value.ModuleId.{ModuleId}
use Rattle.zw_heap.specs.declared.value.Value.{Value}
use Rattle.zw_ops.specs.Choice.{told_running}
use Rattle.zw_ops.specs.declared.choice.Running.{Running}

-- the names are told as the list has them
abbrev pub AreTold : Telling → List Text → Type 0
AreTold I names = (n : ℕ) (t : Text) → slice_get names n ≡ Some t → I.name n ≡ t

abbrev pub parameters_told : Telling → List Text → Code → List Text
parameters_told I names c =
    (told_code names I.module_id c).required ++ default_names (told_code names I.module_id c).optional

abbrev pub frame_told : Telling → List Text → Frame → told.Frame
frame_told I names f = record {
  self_value = tell I f.self_value;
  scopes = told_ids I f.scopes.items;
  locals = told_variables I f.locals;
  is_console = f.is_console;
  is_body = f.is_body;
  hides = f.hides;
  running = option_map (told_running I) f.running;
  parameters = option_map_or (parameters_told I names) f.code [];
}

-- the frame of no method and no body, with these scopes and variables
abbrev pub plain_frame : Value → Vec ModuleId Global → List (ℕ × Value) → Frame
plain_frame self_value scopes locals = record {
  self_value = self_value;
  scopes = scopes;
  locals = locals;
  is_console = false;
  is_body = false;
  hides = false;
  running = None;
  code = None;
}

-- ---- what is in a heap

abbrev pub RunningIn : Sizes → Option Running → Type 0
RunningIn s None = Unit {0}
RunningIn s (Some r) = r.name.0 < s.names

-- all names of the code are among so many
abbrev pub CodeNamed : ℕ → Option Code → Type 0
CodeNamed count None = Unit {0}
CodeNamed count (Some c) = code_names c ≤ count

-- all that a frame holds is there
pub record FrameIn (s : Sizes) (f : Frame) : Type 0 where
  pub self_in : IsIn s f.self_value
  pub scopes_in : All (λ m. m.0 < s.modules) f.scopes.items
  pub locals_in : All (EntryIn s) f.locals
  pub running_in : RunningIn s f.running
  pub code_in : CodeNamed s.names f.code

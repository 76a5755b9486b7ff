-- Callbacks, and those that run for a key (Zeitwerk README, "Callbacks").
use Rattle.std.specs.Prelude.{Bool, true, false, List, ◌++◌, filter, Option, Some, None}
use Rattle.zw_def.specs.ConstantPath.{ConstantPath}
use Rattle.zw_def.specs.Nesting.{same_names}
use Rattle.zw_def_syntax.specs.Tree.{Program}

-- when a callback runs
pub data Moment : Type 0 where
  on_setup : Moment
  on_load : Moment
  on_unload : Moment

-- without a target it runs for every path
pub record Callback : Type 0 where
  pub moment : Moment
  pub target : Option ConstantPath
  pub program : Program

abbrev pub same_moment : Moment → Moment → Bool
same_moment on_setup on_setup = true
same_moment on_load on_load = true
same_moment on_unload on_unload = true
same_moment m n = false

abbrev pub callbacks_on : Moment → List Callback → List Callback
callbacks_on moment callbacks = filter (λ c. same_moment c.moment moment) callbacks

abbrev pub is_for : ConstantPath → Option ConstantPath → Bool
is_for p None = false
is_for p (Some q) = same_names p q

abbrev pub is_for_any : Option ConstantPath → Bool
is_for_any None = true
is_for_any (Some q) = false

-- those for the path itself run before those for any path, each group in the configuration's order
abbrev pub for_path : ConstantPath → List Callback → List Callback
for_path p callbacks = filter (λ c. is_for p c.target) callbacks ++ filter (λ c. is_for_any c.target) callbacks

abbrev pub callbacks_for : Moment → ConstantPath → List Callback → List Callback
callbacks_for moment p callbacks = for_path p (callbacks_on moment callbacks)

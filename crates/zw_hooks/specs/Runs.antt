-- For which keys a callback runs.
use Rattle.std.specs.Prelude.{Bool, ◌&&◌}
use Rattle.zw_def.specs.ConstantPath.{ConstantPath}
use Rattle.zw_def_world.specs.Callback.{Callback, Moment, is_for, is_for_any, same_moment}

-- at that moment, for the key of the path and for no other
abbrev pub runs_for : Moment → ConstantPath → Callback → Bool
runs_for moment p c = same_moment c.moment moment && is_for p c.target

-- at that moment, for every key
abbrev pub runs_for_any : Moment → Callback → Bool
runs_for_any moment c = same_moment c.moment moment && is_for_any c.target

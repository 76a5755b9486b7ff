-- How many primitive methods there are.
use Rattle.std.specs.Prelude.{◌≡◌, length}
use mathlib.Core.Path.{refl}
use Rattle.zw_def_world.specs.Primitive.{primitives}

pub primitives_count : length primitives ≡ 116
primitives_count = refl

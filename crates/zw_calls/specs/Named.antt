-- The primitive method that a name tells.
use Rattle.std.specs.Prelude.{Bool, Option}
use Rattle.std.specs.List.{find}
use Rattle.std.specs.Str.{bytes_eq}
use Rattle.zw_def.specs.Text.{Text}
use Rattle.zw_def_world.specs.Id.{Id}
use Rattle.zw_def_world.specs.Primitive.{Primitive, primitives_of}

abbrev pub is_named : Text → Primitive → Bool
is_named name p = bytes_eq name p.name

-- the one of a class or module, if it has one of that name
abbrev pub primitive_named : Id → Text → Option Primitive
primitive_named owner name = find (is_named name) (primitives_of owner)

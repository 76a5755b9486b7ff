-- The modules that are asked for a constant (ISO/IEC 30170, 11.5.4.2; that a scoped name finds no constant of Object is
-- this project's own), and the keys that they would load.
use Rattle.std.specs.Prelude.{Bool, not, ◌&&◌, List, [], ◌∷◌, ◌++◌, filter, Option, Some, None, if◌then◌else◌}
use Rattle.std.specs.Option.{option_map}
use Rattle.zw_def.specs.Text.{Text}
use Rattle.zw_def.specs.ConstantPath.{ConstantPath}
use Rattle.zw_def.specs.Map.{Key}
use Rattle.zw_def_world.specs.Missing.{bind}
use Rattle.zw_def_world.specs.Id.{Id, id_eq}
use Rattle.zw_def_world.specs.CoreClass.{Object_class, Kernel}
use Rattle.zw_def_world.specs.Record.{Module}
use Rattle.zw_def_world.specs.World.{World, key_of, is_idle}
use Rattle.zw_def_world.specs.Ancestor.{ancestors}

-- ---- the modules that are asked

abbrev pub is_other_than : Id → Id → Bool
is_other_than i j = not (id_eq i j)

abbrev pub asked_last : Module → List Id
asked_last m = if m.is_class then [] else Object_class ∷ []

-- `N`: the scopes without Object, then the innermost scope's ancestors, then Object where that is no class
abbrev pub unscoped_modules : World → List Id → Option (List Id)
unscoped_modules w [] = ancestors w Object_class
unscoped_modules w (i ∷ is) =
    bind (w.modules i) (λ m.
    option_map (λ line. filter (is_other_than Object_class) (i ∷ is) ++ line ++ asked_last m) (ancestors w i))

abbrev pub below_object : List Id → List Id
below_object is = filter (λ i. is_other_than Object_class i && is_other_than Kernel i) is

-- `A::N`: the ancestors of `A`, without Object and Kernel unless `A` is Object
abbrev pub scoped_modules : World → Id → Option (List Id)
scoped_modules w i = option_map (λ line. if id_eq i Object_class then line else below_object line) (ancestors w i)

-- `::N`
abbrev pub top_modules : List Id
top_modules = Object_class ∷ []

-- ---- keys that would be loaded

abbrev pub if_idle : World → Option Key → Option Key
if_idle w None = None
if_idle w (Some k) = if is_idle (w.states k.path) then Some k else None

-- the key that a module of that home would load for a name
abbrev pub loadable : World → Option ConstantPath → Text → Option Key
loadable w home n = if_idle w (key_of w home n)

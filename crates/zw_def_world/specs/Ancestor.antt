-- Ancestors, and the classes of values (ISO/IEC 30170, 13.3 and 7.4; the order of ancestors is this project's own).
use Rattle.std.specs.Prelude.{ℕ, zero, suc, ◌^◌, Bool, true, false, ◌||◌, List, [], ◌∷◌, ◌++◌, Option, Some, None, if◌then◌else◌}
use Rattle.std.specs.List.{list_any}
use Rattle.std.specs.Option.{option_map}
use Rattle.zw_def_world.specs.Missing.{bind, joined}
use Rattle.zw_def_world.specs.Id.{Id, id_eq}
use Rattle.zw_def_world.specs.CoreClass.{Module_class, Class, NilClass, TrueClass, FalseClass, Integer, String_class, Symbol_class, Array, Exception}
use Rattle.zw_def_world.specs.Value.{Value, nil, truth, int, text, symbol, array, module_at, object_at}
use Rattle.zw_def_world.specs.Record.{Module}
use Rattle.zw_def_world.specs.World.{World}

-- ---- ancestors

abbrev pub is_among : List Id → Id → Bool
is_among is i = list_any (id_eq i) is

-- those of the second list that are not above and not listed yet, behind those that are listed
abbrev pub listed_with : List Id → List Id → List Id → List Id
listed_with above listed [] = listed
listed_with above listed (i ∷ is) =
    listed_with above (if is_among listed i || is_among above i then listed else listed ++ i ∷ []) is

abbrev pub above_of : (Id → Option (List Id)) → Option Id → Option (List Id)
above_of up None = Some []
above_of up (Some i) = up i

abbrev pub ancestors_by : (Id → Option (List Id)) → Id → Module → Option (List Id)
ancestors_by up i m =
    bind (above_of up m.superclass) (λ above.
    bind (joined up m.includes) (λ included.
    Some (listed_with above (i ∷ []) included ++ above)))

abbrev pub ancestors_within : World → ℕ → Id → Option (List Id)
ancestors_within w zero i = None
ancestors_within w (suc n) i = bind (w.modules i) (ancestors_by (ancestors_within w n) i)

-- no module stands above itself, and there are never so many
abbrev pub max_height : ℕ
max_height = 2 ^ 64

unfoldable pub ancestors : World → Id → Option (List Id)
ancestors w i = ancestors_within w max_height i

-- ---- classes of values

abbrev pub class_of_module : Module → Id
class_of_module m = if m.is_class then Class else Module_class

abbrev pub class_of : World → Value → Option Id
class_of w nil = Some NilClass
class_of w (truth true) = Some TrueClass
class_of w (truth false) = Some FalseClass
class_of w (int z) = Some Integer
class_of w (text t) = Some String_class
class_of w (symbol t) = Some Symbol_class
class_of w (array vs) = Some Array
class_of w (module_at i) = option_map class_of_module (w.modules i)
class_of w (object_at i) = option_map (λ o. o.class) (w.objects i)

abbrev pub makes_exceptions : World → Id → Option Bool
makes_exceptions w i = option_map (λ line. is_among line Exception) (ancestors w i)

-- Lines of method tables, and the method that answers a call (ISO/IEC 30170, 13.3.4, method lookup).
use Rattle.std.specs.Prelude.{ℕ, zero, suc, Bool, true, false, not, ◌&&◌, List, [], ◌∷◌, ◌++◌, codes, map, Option, Some, None, if◌then◌else◌}
use Rattle.std.specs.List.{list_any}
use Rattle.std.specs.Option.{option_map}
use Rattle.std.specs.Str.{bytes_eq}
use Rattle.zw_def.specs.Text.{Text}
use Rattle.zw_def_world.specs.Missing.{bind, joined}
use Rattle.zw_def_world.specs.Table.{Table, at}
use Rattle.zw_def_world.specs.Id.{Id, id_eq}
use Rattle.zw_def_world.specs.CoreClass.{Object_class, Kernel, Module_class, Class, classes_without_new}
use Rattle.zw_def_world.specs.Value.{Value, module_at, as_module}
use Rattle.zw_def_world.specs.Record.{Method, Module}
use Rattle.zw_def_world.specs.World.{World}
use Rattle.zw_def_world.specs.Ancestor.{ancestors, above_of, max_height, is_among, class_of}

-- ---- lines

-- a method table of a line: the one of instances, or the singleton one
pub record Place : Type 0 where
  pub owner : Id
  pub is_singleton : Bool

abbrev pub of_instances : Id → Place
of_instances i = record { owner = i; is_singleton = false }

abbrev pub of_itself : Id → Place
of_itself i = record { owner = i; is_singleton = true }

abbrev pub instances : List Id → List Place
instances is = map of_instances is

-- the singleton table of a module, and its extensions
abbrev pub own_line_of : World → Id → Module → Option (List Place)
own_line_of w i m = option_map (λ is. of_itself i ∷ instances is) (joined (ancestors w) m.extensions)

abbrev pub own_line : World → Id → Option (List Place)
own_line w i = bind (w.modules i) (own_line_of w i)

abbrev pub superclasses_by : (Id → Option (List Id)) → Id → Module → Option (List Id)
superclasses_by up i m = option_map (λ above. i ∷ above) (above_of up m.superclass)

abbrev pub superclasses_within : World → ℕ → Id → Option (List Id)
superclasses_within w zero i = None
superclasses_within w (suc n) i = bind (w.modules i) (superclasses_by (superclasses_within w n) i)

unfoldable pub superclasses : World → Id → Option (List Id)
superclasses w i = superclasses_within w max_height i

abbrev pub class_line : World → Id → Option (List Place)
class_line w i =
    option_map (λ line. line ++ instances (Class ∷ Module_class ∷ Object_class ∷ Kernel ∷ []))
    (bind (superclasses w i) (joined (own_line w)))

abbrev pub module_line : World → Id → Option (List Place)
module_line w i = option_map (λ line. line ++ instances (Module_class ∷ Object_class ∷ Kernel ∷ [])) (own_line w i)

abbrev pub line_of_module : World → Id → Module → Option (List Place)
line_of_module w i m = if m.is_class then class_line w i else module_line w i

abbrev pub line_of : World → Value → Option (List Place)
line_of w (module_at i) = bind (w.modules i) (line_of_module w i)
line_of w v = bind (class_of w v) (λ class. option_map instances (ancestors w class))

abbrev pub table_at : Place → Module → Table Method
table_at place m = if place.is_singleton then m.singleton else m.methods

abbrev pub method_at : World → Place → Text → Option (Option Method)
method_at w place x = option_map (λ m. at x (table_at place m)) (w.modules place.owner)

-- ---- the first method of a name

-- a method that was found, its place, and the line before it
pub record Found : Type 0 where
  pub method : Method
  pub place : Place
  pub before : List Place

abbrev pub found_or : Place → List Place → (Unit {0} → Option (Option Found)) → Option Method → Option (Option Found)
found_or place before later None = later tt
found_or place before later (Some method) = Some (Some (record { method = method; place = place; before = before }))

-- the first method of that name in the line, behind what stands before it; `passes` tells the tables that are asked
abbrev pub first_method : World → (Place → Bool) → Text → List Place → List Place → Option (Option Found)
first_method w passes x before [] = Some None
first_method w passes x before (place ∷ line) =
    let later = first_method w passes x (before ++ place ∷ []) line in
    let found = bind (method_at w place x) (found_or place before (λ _. later)) in
    if passes place then found else later

abbrev pub bool_eq : Bool → Bool → Bool
bool_eq true b = b
bool_eq false b = not b

abbrev pub same_place : Place → Place → Bool
same_place p q =
    let owners = id_eq p.owner q.owner in
    if bool_eq p.is_singleton q.is_singleton then owners else false

-- ---- the method of a call

abbrev pub lacks_new : World → Option Id → Option Bool
lacks_new w None = Some true
lacks_new w (Some i) = option_map (λ line. list_any (is_among line) classes_without_new) (ancestors w i)

-- `new` of Class is passed over where the class has none
abbrev pub passes_new : World → Value → Text → Option Bool
passes_new w v x =
    let lacks = lacks_new w (as_module v) in
    if bytes_eq x (codes "new") then lacks else Some false

abbrev pub is_asked : Bool → Place → Bool
is_asked passes place = if passes then not (same_place place (of_instances Class)) else true

-- the first method in the part of a receiver's line behind the places that stand before
abbrev pub method_behind : World → Value → Text → List Place → List Place → Option (Option Found)
method_behind w v x before line = bind (passes_new w v x) (λ passes. first_method w (is_asked passes) x before line)

abbrev pub method_of : World → Value → Text → Option (Option Found)
method_of w v x = bind (line_of w v) (method_behind w v x [])

-- ---- modules of a value

abbrev pub is_table_of : Id → Place → Bool
is_table_of i place = not place.is_singleton && id_eq place.owner i

-- the module stands in the value's line, as an ancestor of its class or by `extend`
abbrev pub is_kind_of : World → Value → Id → Option Bool
is_kind_of w v i = option_map (λ line. list_any (is_table_of i) line) (line_of w v)

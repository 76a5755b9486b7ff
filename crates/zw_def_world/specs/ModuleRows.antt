-- What the methods of Module do (ISO/IEC 30170, 15.2.2; `autoload?` as Ruby's).
use Rattle.std.specs.Prelude.{Bool, true, false, not, ◌&&◌, ◌||◌, List, [], ◌∷◌, ◌++◌, codes, map, Option, Some, None, is_some, if◌then◌else◌}
use Rattle.std.specs.Option.{option_map, option_map_or}
use Rattle.std.specs.Str.{bytes_eq}
use Rattle.zw_def.specs.Text.{Text}
use Rattle.zw_def.specs.Constant.{is_constant}
use Rattle.zw_def.specs.Map.{Key}
use Rattle.zw_def_world.specs.Row.{ModuleRow, module_name, module_covers, module_less, module_less_or_same, module_greater, module_greater_or_same, module_ancestors, module_include, module_extend, module_includes, module_attr_reader, module_attr_writer, module_attr_accessor, module_private, module_public, module_private_class_method, module_const_get, module_const_defined, module_autoload, module_method_defined}
use Rattle.zw_def_world.specs.Missing.{bind, is_some_so}
use Rattle.zw_def_world.specs.Table.{Table, at, assigned}
use Rattle.zw_def_world.specs.Id.{Id, id_eq}
use Rattle.zw_def_world.specs.CoreClass.{ArgumentError, NameError, TypeError}
use Rattle.zw_def_world.specs.Value.{Value, nil, truth, module_at, text_in}
use Rattle.zw_def_world.specs.Record.{Method, Module, reader, writer, Body, with_method}
use Rattle.zw_def_world.specs.World.{World}
use Rattle.zw_def_world.specs.Frame.{Frame}
use Rattle.zw_def_world.specs.Ancestor.{ancestors, is_among}
use Rattle.zw_def_world.specs.MethodLine.{first_method, instances, is_kind_of}
use Rattle.zw_def_world.specs.Inspect.{module_text, class_text}
use Rattle.zw_def_world.specs.Making.{fails, makes_text, makes_array}
use Rattle.zw_def_world.specs.Fault.{unless_frozen, quote}
use Rattle.zw_def_world.specs.Log.{place_text}
use Rattle.zw_def_world.specs.LookUp.{scoped_modules, loadable}
use Rattle.zw_def_world.specs.KernelRows.{is_public}
use Rattle.zw_def_world.specs.Site.{Site, first, yes_or_no, on_module, on_modules}
use Rattle.zw_def_world.specs.Act.{Act, gives, ◌>>◌, reading, in_world, in_module, in_frame, changing_module, changing_frame}

abbrev pub modules_of : List Id → List Value
modules_of is = map module_at is

-- ---- the order of modules

abbrev pub order : List Id → List Id → Id → Id → Value
order below above i j =
    if is_among below j then truth (not (id_eq i j)) else if is_among above i then truth false else nil

abbrev pub order_of : World → Id → Id → Option Value
order_of w i j =
    bind (ancestors w i) (λ below. option_map (λ above. order below above i j) (ancestors w j))

abbrev pub order_or_same : World → Id → Id → Option Value
order_or_same w i j = let other = order_of w i j in if id_eq i j then Some (truth true) else other

-- ---- include and extend

abbrev pub with_include : Id → Module → Module
with_include j m = if is_among m.includes j then m else record m { includes = j ∷ m.includes }

abbrev pub with_extension : Id → Module → Module
with_extension j m = if is_among m.extensions j then m else record m { extensions = j ∷ m.extensions }

-- whether j is reached from i by includes and superclasses: then it is among the ancestors
abbrev pub includes_back : World → Id → Id → Option Bool
includes_back w i j = option_map (λ line. is_among line j) (ancestors w i)

abbrev pub class_fault : Act
class_fault = fails TypeError (codes "wrong argument type Class (expected module)")

abbrev pub unless_class : Id → Act → Act
unless_class i act = in_module i (λ m. if m.is_class then class_fault else act)

abbrev pub includes : Id → Id → Act
includes i j =
    reading (λ w. includes_back w j i) (λ cyclic.
    if cyclic then fails ArgumentError (codes "cyclic include detected")
    else changing_module i (with_include j) (module_at i))

abbrev pub is_included : World → Id → Id → Option Bool
is_included w i j =
    bind (w.modules j) (λ m.
    option_map (λ line. not (id_eq i j) && not m.is_class && is_among line j) (ancestors w i))

-- ---- methods and their privacy

-- `initialize` is always private
abbrev pub method_as : Text → Body → Bool → Method
method_as x body hidden = record { body = body; is_private = hidden || bytes_eq x (codes "initialize") }

abbrev pub hides_here : Frame → Bool
hides_here f = f.is_body && f.hides

abbrev pub defines_method : Id → Bool → Text → Body → Value → Act
defines_method i hidden x body v = changing_module i (with_method x (method_as x body hidden)) v

abbrev pub defines_readers : Bool → Id → List Value → Act
defines_readers hidden i [] = gives nil
defines_readers hidden i (y ∷ ys) =
    defines_method i hidden (text_in y) (reader (text_in y)) nil >> defines_readers hidden i ys

abbrev pub defines_writers : Bool → Id → List Value → Act
defines_writers hidden i [] = gives nil
defines_writers hidden i (y ∷ ys) =
    defines_method i hidden (text_in y ++ codes "=") (writer (text_in y)) nil >> defines_writers hidden i ys

-- without a receiver the default of the body decides
abbrev pub in_hiding : Bool → (Bool → Act) → Act
in_hiding is_bare k = if is_bare then in_frame hides_here k else k false

abbrev pub hidden_in : Bool → Text → Table Method → Table Method
hidden_in hidden x methods =
    option_map_or (λ method. assigned x (record method { is_private = hidden }) methods) (at x methods) methods

abbrev pub with_privacy : Bool → Text → Module → Module
with_privacy hidden x m = record m { methods = hidden_in hidden x m.methods }

abbrev pub with_hidden_singleton : Text → Module → Module
with_hidden_singleton x m = record m { singleton = hidden_in true x m.singleton }

abbrev pub no_such_method : Text → Module → Act
no_such_method x m =
    fails NameError (codes "undefined method " ++ quote x
    ++ (if m.is_class then codes " for class " else codes " for module ") ++ module_text m)

-- each name is that of a method of the table that is read
abbrev pub names_tested : (Module → Table Method) → List Value → Act → Module → Act
names_tested table [] act m = act
names_tested table (y ∷ ys) act m =
    let later = names_tested table ys act m in
    if is_some (at (text_in y) (table m)) then later else no_such_method (text_in y) m

abbrev pub changes_each : (Text → Module → Module) → Id → List Value → Act
changes_each change i [] = gives nil
changes_each change i (y ∷ ys) = changing_module i (change (text_in y)) nil >> changes_each change i ys

-- a bare `private` or `public` sets the default of the body
abbrev pub sets_default : Bool → Act
sets_default hidden = changing_frame (λ f. record f { hides = f.is_body && hidden }) nil

abbrev pub privacy : Bool → Id → List Value → Act
privacy hidden i [] = sets_default hidden
privacy hidden i (y ∷ ys) =
    unless_frozen (module_at i)
    (in_module i (names_tested (λ m. m.methods) (y ∷ ys) (changes_each (with_privacy hidden) i (y ∷ ys))))

abbrev pub hides_singletons : Id → List Value → Act
hides_singletons i vs =
    unless_frozen (module_at i)
    (in_module i (names_tested (λ m. m.singleton) vs (changes_each with_hidden_singleton i vs)))

-- ---- questions

abbrev pub is_defined_in : World → Text → Module → Bool
is_defined_in w n m = is_some (at n m.constants) || is_some (loadable w m.home n)

abbrev pub is_defined_at : World → Text → Id → Option Bool
is_defined_at w n i = option_map (is_defined_in w n) (w.modules i)

abbrev pub is_defined : World → Text → Id → Option Bool
is_defined w n i = bind (scoped_modules w i) (is_some_so (is_defined_at w n))

abbrev pub autoload_text : Option Key → Option Value → Act
autoload_text k (Some v) = gives nil
autoload_text None None = gives nil
autoload_text (Some k) None = makes_text (place_text k k.kind)

abbrev pub autoloads : Text → Id → Act
autoloads n i = in_module i (λ m. in_world (λ w. loadable w m.home n) (λ k. autoload_text k (at n m.constants)))

abbrev pub has_public_instance : World → Id → Text → Option Bool
has_public_instance w i x =
    bind (ancestors w i) (λ is. option_map is_public (first_method w (λ place. true) x [] (instances is)))

-- ---- the methods

abbrev pub module_act : Site → ModuleRow → Value → List Value → Act
module_act s module_name r vs = on_module r (λ i. reading (λ w. class_text w i) makes_text)
module_act s module_covers r vs = on_module r (λ i. reading (λ w. is_kind_of w (first vs) i) yes_or_no)
module_act s module_less r vs = on_modules r (first vs) (λ i j. reading (λ w. order_of w i j) gives)
module_act s module_less_or_same r vs = on_modules r (first vs) (λ i j. reading (λ w. order_or_same w i j) gives)
module_act s module_greater r vs = on_modules r (first vs) (λ i j. reading (λ w. order_of w j i) gives)
module_act s module_greater_or_same r vs = on_modules r (first vs) (λ i j. reading (λ w. order_or_same w j i) gives)
module_act s module_ancestors r vs = on_module r (λ i. reading (λ w. ancestors w i) (λ is. makes_array (modules_of is)))
module_act s module_include r vs = on_modules r (first vs) (λ i j. unless_frozen r (unless_class j (includes i j)))
module_act s module_extend r vs =
    on_modules r (first vs) (λ i j. unless_frozen r (unless_class j (changing_module i (with_extension j) r)))
module_act s module_includes r vs = on_modules r (first vs) (λ i j. reading (λ w. is_included w i j) yes_or_no)
module_act s module_attr_reader r vs =
    on_module r (λ i. unless_frozen r (in_hiding s.is_bare (λ hidden. defines_readers hidden i vs)))
module_act s module_attr_writer r vs =
    on_module r (λ i. unless_frozen r (in_hiding s.is_bare (λ hidden. defines_writers hidden i vs)))
module_act s module_attr_accessor r vs =
    on_module r (λ i. unless_frozen r (in_hiding s.is_bare (λ hidden.
    defines_readers hidden i vs >> defines_writers hidden i vs)))
module_act s module_private r vs = on_module r (λ i. privacy true i vs)
module_act s module_public r vs = on_module r (λ i. privacy false i vs)
module_act s module_private_class_method r vs = on_module r (λ i. hides_singletons i vs)
module_act s module_const_get r vs =
    if is_constant (text_in (first vs)) then on_module r (s.constant (text_in (first vs)))
    else fails NameError (codes "wrong constant name " ++ text_in (first vs))
module_act s module_const_defined r vs = on_module r (λ i. reading (λ w. is_defined w (text_in (first vs)) i) yes_or_no)
module_act s module_autoload r vs = on_module r (autoloads (text_in (first vs)))
module_act s module_method_defined r vs =
    on_module r (λ i. reading (λ w. has_public_instance w i (text_in (first vs))) yes_or_no)

-- Inspect texts, built-in texts, and how a fault tells a value (ISO/IEC 30170, 15.3.1.3.17 and 15.3.1.3.46; the forms
-- of objects and exceptions are this project's own).
use Rattle.std.specs.Prelude.{Bool, true, false, [], ◌∷◌, ◌++◌, codes, Option, Some, None, if◌then◌else◌}
use Rattle.std.specs.Option.{option_map}
use Rattle.std.specs.Fmt.{signed_decimal}
use Rattle.zw_def.specs.Text.{Text}
use Rattle.zw_def.specs.ConstantPath.{constant_path_text}
use Rattle.zw_def_world.specs.Missing.{bind}
use Rattle.zw_def_world.specs.Id.{Id}
use Rattle.zw_def_world.specs.CoreClass.{is_main}
use Rattle.zw_def_world.specs.Value.{Value, Values, nil, truth, int, text, symbol, array, module_at, object_at, no_values, value_then}
use Rattle.zw_def_world.specs.Record.{Module, Object}
use Rattle.zw_def_world.specs.World.{World}
use Rattle.zw_def_world.specs.Ancestor.{makes_exceptions, class_of}
use Rattle.zw_def_world.specs.Quote.{quoted, escaped_text, symbol_text}

-- ---- inspect texts

-- the path of a class or module
abbrev pub module_text : Module → Text
module_text m = constant_path_text m.path

abbrev pub class_text : World → Id → Option Text
class_text w i = option_map module_text (w.modules i)

-- the text of a value's class
abbrev pub class_name : World → Value → Option Text
class_name w v = bind (class_of w v) (class_text w)

-- the kept text, or the class's name where none is kept
abbrev pub kept_or_class : World → Id → Option Text → Option Text
kept_or_class w class None = class_text w class
kept_or_class w class (Some t) = Some t

abbrev pub message_of : World → Object → Option Text
message_of w o = kept_or_class w o.class o.message

abbrev pub is_exception : World → Object → Option Bool
is_exception w o = makes_exceptions w o.class

abbrev pub message_behind : Text → Text → Text
message_behind class [] = class
message_behind class (b ∷ bs) = codes "#<" ++ class ++ codes ": " ++ (b ∷ bs) ++ codes ">"

abbrev pub exception_text : World → Object → Option Text
exception_text w o = bind (class_text w o.class) (λ class. option_map (message_behind class) (message_of w o))

abbrev pub plain_text : World → Object → Option Text
plain_text w o = option_map (λ class. codes "#<" ++ class ++ codes ">") (class_text w o.class)

abbrev pub object_text : World → Id → Object → Option Text
object_text w i o =
    let other = bind (is_exception w o) (λ excepts. if excepts then exception_text w o else plain_text w o) in
    if is_main i then Some (codes "main") else other

abbrev pub truth_text : Bool → Text
truth_text true = codes "true"
truth_text false = codes "false"

abbrev mutual
  pub inspected : World → Value → Option Text
  inspected w nil = Some (codes "nil")
  inspected w (truth b) = Some (truth_text b)
  inspected w (int z) = Some (signed_decimal z)
  inspected w (text t) = Some (quoted t)
  inspected w (symbol t) = Some (symbol_text t)
  inspected w (array vs) = option_map (λ t. codes "[" ++ t) (inspected_items w vs)
  inspected w (module_at i) = class_text w i
  inspected w (object_at i) = bind (w.objects i) (object_text w i)

  pub inspected_items : World → Values → Option Text
  inspected_items w no_values = Some (codes "]")
  inspected_items w (value_then v vs) =
      bind (inspected w v) (λ t. option_map (λ more. t ++ more) (inspected_more w vs))

  pub inspected_more : World → Values → Option Text
  inspected_more w no_values = Some (codes "]")
  inspected_more w (value_then v vs) =
      bind (inspected w v) (λ t. option_map (λ more. codes ", " ++ t ++ more) (inspected_more w vs))

-- the built-in text
abbrev pub object_built_in : World → Id → Object → Option Text
object_built_in w i o = bind (is_exception w o) (λ excepts. if excepts then message_of w o else object_text w i o)

abbrev pub built_in : World → Value → Option Text
built_in w nil = Some []
built_in w (text t) = Some t
built_in w (symbol t) = Some t
built_in w (object_at i) = bind (w.objects i) (object_built_in w i)
built_in w v = inspected w v

-- ---- a receiver in a fault

abbrev pub instance_text : Text → Text
instance_text class = codes "an instance of " ++ class

abbrev pub told_module : Module → Text
told_module m = (if m.is_class then codes "class " else codes "module ") ++ module_text m

abbrev pub told_object : World → Id → Option Text
told_object w i =
    let other = option_map instance_text (class_name w (object_at i)) in
    if is_main i then Some (codes "main") else other

abbrev pub told : World → Value → Option Text
told w nil = Some (codes "nil")
told w (truth b) = Some (truth_text b)
told w (module_at i) = option_map told_module (w.modules i)
told w (object_at i) = told_object w i
told w v = option_map instance_text (class_name w v)

abbrev pub fault_line : World → Object → Option Text
fault_line w o =
    bind (class_text w o.class) (λ class.
    option_map (λ t. codes "! " ++ class ++ codes ": " ++ escaped_text t) (message_of w o))

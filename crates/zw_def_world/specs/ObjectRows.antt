-- What the methods of Class, Object and Exception do (ISO/IEC 30170, 15.2.1, 15.2.3 and 15.2.22).
use Rattle.std.specs.Prelude.{List, [], ◌∷◌, codes, Option, Some, None}
use Rattle.zw_def_world.specs.Row.{ClassRow, ObjectRow, ExceptionRow, object_initialize, exception_initialize, exception_message, exception_inspect, class_new, class_superclass}
use Rattle.zw_def_world.specs.Id.{Id}
use Rattle.zw_def_world.specs.Value.{Value, nil, module_at, object_at, text_in}
use Rattle.zw_def_world.specs.Record.{new_object, with_message}
use Rattle.zw_def_world.specs.World.{fresh, with_object}
use Rattle.zw_def_world.specs.Inspect.{inspected, message_of}
use Rattle.zw_def_world.specs.Making.{makes_text}
use Rattle.zw_def_world.specs.Fault.{unless_frozen}
use Rattle.zw_def_world.specs.Site.{Call, Site, on_module, on_object}
use Rattle.zw_def_world.specs.Act.{Act, gives, ◌>>◌, reading, in_world, in_module, in_object, changing, changing_object}

-- ---- Class

abbrev pub makes_object : Id → (Value → Act) → Act
makes_object class k = in_world fresh (λ i. changing (with_object (new_object class)) nil >> k (object_at i))

abbrev pub makes_instance : Call → Id → List Value → Act
makes_instance call class vs = makes_object class (λ made. call made (codes "initialize") vs >> gives made)

abbrev pub superclass_value : Option Id → Value
superclass_value None = nil
superclass_value (Some i) = module_at i

abbrev pub class_act : Site → ClassRow → Value → List Value → Act
class_act s class_new r vs = on_module r (λ i. makes_instance s.sends i vs)
class_act s class_superclass r vs = on_module r (λ i. in_module i (λ m. gives (superclass_value m.superclass)))

-- ---- Object

abbrev pub object_act : Site → ObjectRow → Value → List Value → Act
object_act s object_initialize r vs = gives nil

-- ---- Exception

abbrev pub keeps : List Value → Id → Act
keeps [] i = gives nil
keeps (t ∷ more) i = changing_object i (with_message (text_in t)) nil

abbrev pub exception_act : Site → ExceptionRow → Value → List Value → Act
exception_act s exception_initialize r vs = unless_frozen r (on_object r (keeps vs))
exception_act s exception_message r vs = on_object r (λ i. in_object i (λ o. reading (λ w. message_of w o) makes_text))
exception_act s exception_inspect r vs = reading (λ w. inspected w r) makes_text

-- What the methods of Kernel do (ISO/IEC 30170, 15.3.1).
use Rattle.std.specs.Prelude.{Bool, true, false, not, ◌&&◌, ◌==◌, List, [], ◌∷◌, ◌++◌, codes, drop, Option, Some, None, if◌then◌else◌}
use Rattle.std.specs.Option.{option_map}
use Rattle.zw_def.specs.Text.{Text, pieces}
use Rattle.zw_def_world.specs.Row.{KernelRow, kernel_puts, kernel_raise, kernel_class, kernel_is_nil, kernel_equal, kernel_differs, kernel_is_a, kernel_instance_of, kernel_respond_to, kernel_to_s, kernel_inspect, kernel_freeze, kernel_is_frozen}
use Rattle.zw_def_world.specs.Missing.{bind}
use Rattle.zw_def_world.specs.Id.{Id, id_eq}
use Rattle.zw_def_world.specs.CoreClass.{RuntimeError, TypeError}
use Rattle.zw_def_world.specs.Value.{Value, nil, module_at, object_at, text, text_in, is_true, Holder, no_holder, module_holder, object_holder, as_holder}
use Rattle.zw_def_world.specs.Record.{frozen_module, frozen_object}
use Rattle.zw_def_world.specs.World.{World, is_frozen}
use Rattle.zw_def_world.specs.Ancestor.{class_of, makes_exceptions}
use Rattle.zw_def_world.specs.MethodLine.{Found, method_of, is_kind_of}
use Rattle.zw_def_world.specs.Inspect.{built_in, inspected, is_exception}
use Rattle.zw_def_world.specs.Making.{fails, makes_text}
use Rattle.zw_def_world.specs.Site.{Call, Site, first, yes_or_no, on_module}
use Rattle.zw_def_world.specs.Equality.{same}
use Rattle.zw_def_world.specs.TextOfValue.{with_text}
use Rattle.zw_def_world.specs.Act.{Act, raised, ends, gives, ◌>>=◌, ◌>>◌, reading, in_object, changing_module, changing_object, writes}

-- ---- puts

abbrev pub without_last_line_end : Text → Text
without_last_line_end [] = []
without_last_line_end (b ∷ []) = if b == 10 then [] else b ∷ []
without_last_line_end (b ∷ c ∷ bs) = b ∷ without_last_line_end (c ∷ bs)

abbrev pub puts_lines : List Text → Act
puts_lines [] = gives nil
puts_lines (line ∷ lines) = writes (codes "> " ++ line) >> puts_lines lines

abbrev pub puts_text : Text → Act
puts_text t = puts_lines (pieces 10 (without_last_line_end t))

abbrev pub puts_each : Call → List Value → Act
puts_each call [] = gives nil
puts_each call (v ∷ vs) = with_text call v puts_text >> puts_each call vs

abbrev pub puts : Call → List Value → Act
puts call [] = writes (codes "> ")
puts call (v ∷ vs) = puts_each call (v ∷ vs)

-- ---- raise

abbrev pub no_exception : Act
no_exception = fails TypeError (codes "exception class/object expected")

abbrev pub raises_object : Id → Act
raises_object i =
    in_object i (λ o. reading (λ w. is_exception w o) (λ excepts. if excepts then ends (raised i) else no_exception))

abbrev pub raises_value : Value → Act
raises_value (object_at i) = raises_object i
raises_value v = no_exception

abbrev pub is_exception_class : World → Id → Option Bool
is_exception_class w i =
    bind (w.modules i) (λ m. option_map (λ excepts. m.is_class && excepts) (makes_exceptions w i))

abbrev pub raises_new : Call → List Value → Value → Bool → Act
raises_new call more v true = call v (codes "new") more >>= raises_value
raises_new call more v false = no_exception

abbrev pub raises_of : Call → List Value → Value → Act
raises_of call more (text t) = fails RuntimeError t
raises_of call more (module_at i) = reading (λ w. is_exception_class w i) (raises_new call more (module_at i))
raises_of call more v = raises_value v

-- ---- respond_to? and freeze

abbrev pub is_public : Option Found → Bool
is_public None = false
is_public (Some f) = not f.method.is_private

abbrev pub freezes : Value → Holder → Act
freezes v no_holder = gives v
freezes v (module_holder i) = changing_module i frozen_module v
freezes v (object_holder i) = changing_object i frozen_object v

-- ---- the methods

abbrev pub kernel_act : Site → KernelRow → Value → List Value → Act
kernel_act s kernel_puts r vs = puts s.sends vs
kernel_act s kernel_raise r vs = raises_of s.makes (drop 1 vs) (first vs)
kernel_act s kernel_class r vs = reading (λ w. class_of w r) (λ class. gives (module_at class))
kernel_act s kernel_is_nil nil vs = yes_or_no true
kernel_act s kernel_is_nil r vs = yes_or_no false
kernel_act s kernel_equal r vs = same r (first vs)
kernel_act s kernel_differs r vs = s.sends r (codes "==") vs >>= (λ v. yes_or_no (not (is_true v)))
kernel_act s kernel_is_a r vs = on_module (first vs) (λ i. reading (λ w. is_kind_of w r i) yes_or_no)
kernel_act s kernel_instance_of r vs =
    on_module (first vs) (λ i. reading (λ w. class_of w r) (λ class. yes_or_no (id_eq class i)))
kernel_act s kernel_respond_to r vs =
    reading (λ w. method_of w r (text_in (first vs))) (λ found. yes_or_no (is_public found))
kernel_act s kernel_to_s r vs = reading (λ w. built_in w r) makes_text
kernel_act s kernel_inspect r vs = reading (λ w. inspected w r) makes_text
kernel_act s kernel_freeze r vs = freezes r (as_holder r)
kernel_act s kernel_is_frozen r vs = reading (λ w. is_frozen w r) yes_or_no

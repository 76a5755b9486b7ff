-- What holds of each change, holds of the methods of Kernel, Class, Object and Exception.
use Rattle.std.specs.Prelude.{Bool, true, false, List, [], ◌∷◌, ◌++◌, codes}
use Rattle.zw_def.specs.Text.{Text}
use Rattle.zw_def_world.specs.Act.{Act}
use Rattle.zw_def_world.specs.Id.{Id}
use Rattle.zw_def_world.specs.KernelRows.{puts_lines, puts_text, puts_each, puts, no_exception, raises_object, raises_value, raises_new, raises_of, freezes, kernel_act}
use Rattle.zw_def_world.specs.ObjectRows.{makes_object, makes_instance, class_act, object_act, keeps, exception_act}
use Rattle.zw_def_world.specs.Row.{KernelRow, kernel_puts, kernel_raise, kernel_class, kernel_is_nil, kernel_equal, kernel_differs, kernel_is_a, kernel_instance_of, kernel_respond_to, kernel_to_s, kernel_inspect, kernel_freeze, kernel_is_frozen, ClassRow, class_new, class_superclass, ObjectRow, object_initialize, ExceptionRow, exception_initialize, exception_message, exception_inspect}
use Rattle.zw_def_world.specs.Site.{Call, Site}
use Rattle.zw_def_world.specs.Value.{Value, object_at, nil, truth, int, text, symbol, array, module_at, Holder, no_holder, module_holder, object_holder}
use Rattle.zw_def_world.proofs.EvolutionLaws.{Evolution, Keeps, gives_keeps, both_keep, writes_keeps, keeping, made_keeps}
use Rattle.zw_def_world.proofs.FaultLaws.{fails_keeps, makes_text_keeps, unless_frozen_keeps}
use Rattle.zw_def_world.proofs.RowLaws.{CallKeeps, with_text_keeps, SiteKeeps, same_keeps, on_module_keeps, on_object_keeps}

-- ---- Kernel

pub puts_lines_keeps : {E : Evolution} (lines : List Text) → Keeps E (puts_lines lines)
puts_lines_keeps [] = gives_keeps _
puts_lines_keeps (line ∷ lines) = both_keep (writes_keeps (codes "> " ++ line)) (puts_lines_keeps lines)

pub puts_text_keeps : {E : Evolution} (t : Text) → Keeps E (puts_text t)
puts_text_keeps t = search (keeping, puts_lines_keeps)

pub puts_each_keeps : {E : Evolution} {call : Call} (c : CallKeeps E call) (vs : List Value) → Keeps E
    (puts_each call vs)
puts_each_keeps c [] = gives_keeps _
puts_each_keeps c (v ∷ vs) = both_keep (with_text_keeps c v puts_text_keeps) (puts_each_keeps c vs)

pub puts_keeps : {E : Evolution} {call : Call} (c : CallKeeps E call) (vs : List Value) → Keeps E (puts call vs)
puts_keeps c [] = search keeping
puts_keeps c (v ∷ vs) = search (keeping, puts_each_keeps)

pub no_exception_keeps : {E : Evolution} → Keeps E no_exception
no_exception_keeps = search (keeping, fails_keeps)

pub raises_object_keeps : {E : Evolution} (i : Id) → Keeps E (raises_object i)
raises_object_keeps i = search (keeping, no_exception_keeps)

pub raises_value_keeps : {E : Evolution} (v : Value) → Keeps E (raises_value v)
raises_value_keeps (object_at i) = search (keeping, raises_object_keeps)
raises_value_keeps nil = search (keeping, no_exception_keeps)
raises_value_keeps (truth bit) = search (keeping, no_exception_keeps)
raises_value_keeps (int whole) = search (keeping, no_exception_keeps)
raises_value_keeps (text bytes) = search (keeping, no_exception_keeps)
raises_value_keeps (symbol name) = search (keeping, no_exception_keeps)
raises_value_keeps (array items) = search (keeping, no_exception_keeps)
raises_value_keeps (module_at id) = search (keeping, no_exception_keeps)

pub raises_new_keeps : {E : Evolution} {call : Call} (c : CallKeeps E call) (more : List Value) (v : Value)
    (b : Bool) → Keeps E (raises_new call more v b)
raises_new_keeps c more v true = search (keeping, raises_value_keeps)
raises_new_keeps c more v false = search (keeping, no_exception_keeps)

pub raises_of_keeps : {E : Evolution} {call : Call} (c : CallKeeps E call) (more : List Value) (v : Value) →
    Keeps E (raises_of call more v)
raises_of_keeps c more (text t) = search (keeping, fails_keeps)
raises_of_keeps c more (module_at i) = search (keeping, raises_new_keeps)
raises_of_keeps c more nil = search (keeping, raises_value_keeps)
raises_of_keeps c more (truth bit) = search (keeping, raises_value_keeps)
raises_of_keeps c more (int whole) = search (keeping, raises_value_keeps)
raises_of_keeps c more (symbol name) = search (keeping, raises_value_keeps)
raises_of_keeps c more (array items) = search (keeping, raises_value_keeps)
raises_of_keeps c more (object_at id) = search (keeping, raises_value_keeps)

pub freezes_keeps : {E : Evolution} (v : Value) (h : Holder) → Keeps E (freezes v h)
freezes_keeps v no_holder = search keeping
freezes_keeps v (module_holder i) = search keeping
freezes_keeps v (object_holder i) = search keeping

pub kernel_act_keeps : {E : Evolution} (s : Site) (of_s : SiteKeeps E s) (z : KernelRow) (r : Value)
    (vs : List Value) → Keeps E (kernel_act s z r vs)
kernel_act_keeps s of_s kernel_puts nil vs = search (keeping, puts_keeps, of_s.sends)
kernel_act_keeps s of_s kernel_puts (truth bit) vs = search (keeping, puts_keeps, of_s.sends)
kernel_act_keeps s of_s kernel_puts (int whole) vs = search (keeping, puts_keeps, of_s.sends)
kernel_act_keeps s of_s kernel_puts (text bytes) vs = search (keeping, puts_keeps, of_s.sends)
kernel_act_keeps s of_s kernel_puts (symbol name) vs = search (keeping, puts_keeps, of_s.sends)
kernel_act_keeps s of_s kernel_puts (array items) vs = search (keeping, puts_keeps, of_s.sends)
kernel_act_keeps s of_s kernel_puts (module_at id) vs = search (keeping, puts_keeps, of_s.sends)
kernel_act_keeps s of_s kernel_puts (object_at id) vs = search (keeping, puts_keeps, of_s.sends)
kernel_act_keeps s of_s kernel_raise nil vs = search (keeping, raises_of_keeps, of_s.makes)
kernel_act_keeps s of_s kernel_raise (truth bit) vs = search (keeping, raises_of_keeps, of_s.makes)
kernel_act_keeps s of_s kernel_raise (int whole) vs = search (keeping, raises_of_keeps, of_s.makes)
kernel_act_keeps s of_s kernel_raise (text bytes) vs = search (keeping, raises_of_keeps, of_s.makes)
kernel_act_keeps s of_s kernel_raise (symbol name) vs = search (keeping, raises_of_keeps, of_s.makes)
kernel_act_keeps s of_s kernel_raise (array items) vs = search (keeping, raises_of_keeps, of_s.makes)
kernel_act_keeps s of_s kernel_raise (module_at id) vs = search (keeping, raises_of_keeps, of_s.makes)
kernel_act_keeps s of_s kernel_raise (object_at id) vs = search (keeping, raises_of_keeps, of_s.makes)
kernel_act_keeps s of_s kernel_class nil vs = search keeping
kernel_act_keeps s of_s kernel_class (truth bit) vs = search keeping
kernel_act_keeps s of_s kernel_class (int whole) vs = search keeping
kernel_act_keeps s of_s kernel_class (text bytes) vs = search keeping
kernel_act_keeps s of_s kernel_class (symbol name) vs = search keeping
kernel_act_keeps s of_s kernel_class (array items) vs = search keeping
kernel_act_keeps s of_s kernel_class (module_at id) vs = search keeping
kernel_act_keeps s of_s kernel_class (object_at id) vs = search keeping
kernel_act_keeps s of_s kernel_is_nil nil vs = search keeping
kernel_act_keeps s of_s kernel_is_nil (truth bit) vs = search keeping
kernel_act_keeps s of_s kernel_is_nil (int whole) vs = search keeping
kernel_act_keeps s of_s kernel_is_nil (text bytes) vs = search keeping
kernel_act_keeps s of_s kernel_is_nil (symbol name) vs = search keeping
kernel_act_keeps s of_s kernel_is_nil (array items) vs = search keeping
kernel_act_keeps s of_s kernel_is_nil (module_at id) vs = search keeping
kernel_act_keeps s of_s kernel_is_nil (object_at id) vs = search keeping
kernel_act_keeps s of_s kernel_equal nil vs = search keeping
kernel_act_keeps s of_s kernel_equal (truth bit) vs = search keeping
kernel_act_keeps s of_s kernel_equal (int whole) vs = search keeping
kernel_act_keeps s of_s kernel_equal (text bytes) vs = search keeping
kernel_act_keeps s of_s kernel_equal (symbol name) vs = search keeping
kernel_act_keeps s of_s kernel_equal (array items) vs = search (keeping, same_keeps)
kernel_act_keeps s of_s kernel_equal (module_at id) vs = search keeping
kernel_act_keeps s of_s kernel_equal (object_at id) vs = search keeping
kernel_act_keeps s of_s kernel_differs nil vs = search (keeping, of_s.sends)
kernel_act_keeps s of_s kernel_differs (truth bit) vs = search (keeping, of_s.sends)
kernel_act_keeps s of_s kernel_differs (int whole) vs = search (keeping, of_s.sends)
kernel_act_keeps s of_s kernel_differs (text bytes) vs = search (keeping, of_s.sends)
kernel_act_keeps s of_s kernel_differs (symbol name) vs = search (keeping, of_s.sends)
kernel_act_keeps s of_s kernel_differs (array items) vs = search (keeping, of_s.sends)
kernel_act_keeps s of_s kernel_differs (module_at id) vs = search (keeping, of_s.sends)
kernel_act_keeps s of_s kernel_differs (object_at id) vs = search (keeping, of_s.sends)
kernel_act_keeps s of_s kernel_is_a nil vs = search (keeping, on_module_keeps)
kernel_act_keeps s of_s kernel_is_a (truth bit) vs = search (keeping, on_module_keeps)
kernel_act_keeps s of_s kernel_is_a (int whole) vs = search (keeping, on_module_keeps)
kernel_act_keeps s of_s kernel_is_a (text bytes) vs = search (keeping, on_module_keeps)
kernel_act_keeps s of_s kernel_is_a (symbol name) vs = search (keeping, on_module_keeps)
kernel_act_keeps s of_s kernel_is_a (array items) vs = search (keeping, on_module_keeps)
kernel_act_keeps s of_s kernel_is_a (module_at id) vs = search (keeping, on_module_keeps)
kernel_act_keeps s of_s kernel_is_a (object_at id) vs = search (keeping, on_module_keeps)
kernel_act_keeps s of_s kernel_instance_of nil vs = search (keeping, on_module_keeps)
kernel_act_keeps s of_s kernel_instance_of (truth bit) vs = search (keeping, on_module_keeps)
kernel_act_keeps s of_s kernel_instance_of (int whole) vs = search (keeping, on_module_keeps)
kernel_act_keeps s of_s kernel_instance_of (text bytes) vs = search (keeping, on_module_keeps)
kernel_act_keeps s of_s kernel_instance_of (symbol name) vs = search (keeping, on_module_keeps)
kernel_act_keeps s of_s kernel_instance_of (array items) vs = search (keeping, on_module_keeps)
kernel_act_keeps s of_s kernel_instance_of (module_at id) vs = search (keeping, on_module_keeps)
kernel_act_keeps s of_s kernel_instance_of (object_at id) vs = search (keeping, on_module_keeps)
kernel_act_keeps s of_s kernel_respond_to nil vs = search keeping
kernel_act_keeps s of_s kernel_respond_to (truth bit) vs = search keeping
kernel_act_keeps s of_s kernel_respond_to (int whole) vs = search keeping
kernel_act_keeps s of_s kernel_respond_to (text bytes) vs = search keeping
kernel_act_keeps s of_s kernel_respond_to (symbol name) vs = search keeping
kernel_act_keeps s of_s kernel_respond_to (array items) vs = search keeping
kernel_act_keeps s of_s kernel_respond_to (module_at id) vs = search keeping
kernel_act_keeps s of_s kernel_respond_to (object_at id) vs = search keeping
kernel_act_keeps s of_s kernel_to_s nil vs = search (keeping, makes_text_keeps)
kernel_act_keeps s of_s kernel_to_s (truth bit) vs = search (keeping, makes_text_keeps)
kernel_act_keeps s of_s kernel_to_s (int whole) vs = search (keeping, makes_text_keeps)
kernel_act_keeps s of_s kernel_to_s (text bytes) vs = search (keeping, makes_text_keeps)
kernel_act_keeps s of_s kernel_to_s (symbol name) vs = search (keeping, makes_text_keeps)
kernel_act_keeps s of_s kernel_to_s (array items) vs = search (keeping, makes_text_keeps)
kernel_act_keeps s of_s kernel_to_s (module_at id) vs = search (keeping, makes_text_keeps)
kernel_act_keeps s of_s kernel_to_s (object_at id) vs = search (keeping, makes_text_keeps)
kernel_act_keeps s of_s kernel_inspect nil vs = search (keeping, makes_text_keeps)
kernel_act_keeps s of_s kernel_inspect (truth bit) vs = search (keeping, makes_text_keeps)
kernel_act_keeps s of_s kernel_inspect (int whole) vs = search (keeping, makes_text_keeps)
kernel_act_keeps s of_s kernel_inspect (text bytes) vs = search (keeping, makes_text_keeps)
kernel_act_keeps s of_s kernel_inspect (symbol name) vs = search (keeping, makes_text_keeps)
kernel_act_keeps s of_s kernel_inspect (array items) vs = search (keeping, makes_text_keeps)
kernel_act_keeps s of_s kernel_inspect (module_at id) vs = search (keeping, makes_text_keeps)
kernel_act_keeps s of_s kernel_inspect (object_at id) vs = search (keeping, makes_text_keeps)
kernel_act_keeps s of_s kernel_freeze nil vs = search keeping
kernel_act_keeps s of_s kernel_freeze (truth bit) vs = search keeping
kernel_act_keeps s of_s kernel_freeze (int whole) vs = search keeping
kernel_act_keeps s of_s kernel_freeze (text bytes) vs = search keeping
kernel_act_keeps s of_s kernel_freeze (symbol name) vs = search keeping
kernel_act_keeps s of_s kernel_freeze (array items) vs = search keeping
kernel_act_keeps s of_s kernel_freeze (module_at id) vs = search keeping
kernel_act_keeps s of_s kernel_freeze (object_at id) vs = search keeping
kernel_act_keeps s of_s kernel_is_frozen nil vs = search keeping
kernel_act_keeps s of_s kernel_is_frozen (truth bit) vs = search keeping
kernel_act_keeps s of_s kernel_is_frozen (int whole) vs = search keeping
kernel_act_keeps s of_s kernel_is_frozen (text bytes) vs = search keeping
kernel_act_keeps s of_s kernel_is_frozen (symbol name) vs = search keeping
kernel_act_keeps s of_s kernel_is_frozen (array items) vs = search keeping
kernel_act_keeps s of_s kernel_is_frozen (module_at id) vs = search keeping
kernel_act_keeps s of_s kernel_is_frozen (object_at id) vs = search keeping

-- ---- Class, Object and Exception

pub makes_object_keeps : {E : Evolution} (class : Id) {k : Value → Act} (b : (y : Value) → Keeps E (k y)) →
    Keeps E (makes_object class k)
makes_object_keeps class b = search (keeping, made_keeps)

pub makes_instance_keeps : {E : Evolution} {call : Call} (c : CallKeeps E call) (class : Id) (vs : List Value) →
    Keeps E (makes_instance call class vs)
makes_instance_keeps c class vs = search (keeping, makes_object_keeps)

pub class_act_keeps : {E : Evolution} (s : Site) (of_s : SiteKeeps E s) (z : ClassRow) (r : Value)
    (vs : List Value) → Keeps E (class_act s z r vs)
class_act_keeps s of_s class_new r vs = search (keeping, on_module_keeps, makes_instance_keeps, of_s.sends)
class_act_keeps s of_s class_superclass r vs = search (keeping, on_module_keeps)

pub object_act_keeps : {E : Evolution} (s : Site) (of_s : SiteKeeps E s) (z : ObjectRow) (r : Value)
    (vs : List Value) → Keeps E (object_act s z r vs)
object_act_keeps s of_s object_initialize r vs = search keeping

pub keeps_keeps : {E : Evolution} (vs : List Value) (i : Id) → Keeps E (keeps vs i)
keeps_keeps [] i = search keeping
keeps_keeps (t ∷ more) i = search keeping

pub exception_act_keeps : {E : Evolution} (s : Site) (of_s : SiteKeeps E s) (z : ExceptionRow) (r : Value)
    (vs : List Value) → Keeps E (exception_act s z r vs)
exception_act_keeps s of_s exception_initialize r vs =
    search (keeping, unless_frozen_keeps, on_object_keeps, keeps_keeps)
exception_act_keeps s of_s exception_message r vs = search (keeping, on_object_keeps, makes_text_keeps)
exception_act_keeps s of_s exception_inspect r vs = search (keeping, makes_text_keeps)

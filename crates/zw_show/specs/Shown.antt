-- The texts of a heap's values, by the texts of names.
use Rattle.std.specs.Prelude.{ℕ, Bool, zero, suc, true, false, ◌==◌, List, [], ◌∷◌, ◌++◌, codes, length, unwrap_or, if◌then◌else◌}
use Rattle.std.specs.Option.{option_map_or}
use Rattle.std.specs.List.{slice_get}
use Rattle.std.specs.Fmt.{signed_decimal}
use Rattle.zw_def.specs.Text.{Text}
use Rattle.zw_def.specs.Names.{text_of, texts_of}
use Rattle.zw_def.specs.ConstantPath.{constant_path_text}
use Rattle.zw_def_world.specs.CoreClass.{Exception}
use Rattle.zw_def_world.specs.Quote.{quoted, symbol_text}
use Rattle.zw_def_world.specs.Inspect.{message_behind, truth_text, instance_text}
use Rattle.zw_heap.specs.declared.value.Value.{Value}
use Rattle.zw_heap.specs.declared.value.Value.TheVariants as v
use Rattle.zw_heap.specs.ObjectRecord.{Object}
use Rattle.zw_heap.specs.Heap.{Held, class_in}
use Rattle.zw_heap.specs.Founded.{is_class}
use Rattle.zw_heap.specs.Superclass.{descends}

-- ---- classes and objects

-- the path of a class or module
abbrev pub path_shown : List Text → Held → ℕ → Text
path_shown names h n =
    option_map_or (λ m. constant_path_text (texts_of names m.path)) (slice_get h.modules n) []

-- the text that an exception keeps, or the path of its class
abbrev pub message_shown : List Text → Held → Object → Text
message_shown names h o = unwrap_or o.message (path_shown names h o.class.0)

abbrev pub plain_shown : Text → Text
plain_shown class = codes "#<" ++ class ++ codes ">"

abbrev pub record_shown : List Text → Held → Object → Text
record_shown names h o =
    let class = path_shown names h o.class.0 in
    if descends h.modules Exception.count o.class.0 then message_behind class (message_shown names h o)
    else plain_shown class

-- the object `main` is the first
abbrev pub object_shown : List Text → Held → ℕ → Text
object_shown names h n =
    if n == 0 then codes "main" else option_map_or (record_shown names h) (slice_get h.objects n) []

-- ---- values

abbrev pub text_in : Held → ℕ → Text
text_in h n = unwrap_or (slice_get h.texts n) []

abbrev pub items_in : Held → ℕ → List Value
items_in h n = option_map_or (λ r. r.items) (slice_get h.arrays n) []

-- a value, by the texts of arrays
abbrev pub shown_by : List Text → Held → (ℕ → Text) → Value → Text
shown_by names h arrays v.Nil = codes "nil"
shown_by names h arrays v.True = truth_text true
shown_by names h arrays v.False = truth_text false
shown_by names h arrays (v.Int z) = signed_decimal z
shown_by names h arrays (v.Text t) = quoted (text_in h t.0)
shown_by names h arrays (v.Sym n) = symbol_text (text_of names n.0)
shown_by names h arrays (v.Array a) = arrays a.0
shown_by names h arrays (v.Object o) = object_shown names h o.0
shown_by names h arrays (v.Module m) = path_shown names h m.0

-- what stands before the item of that place
abbrev pub separator : ℕ → Text
separator zero = []
separator (suc i) = codes ", "

-- the items of an array from that place on, and its end
abbrev pub items_from : (Value → Text) → ℕ → List Value → Text
items_from show i [] = codes "]"
items_from show i (x ∷ xs) = separator i ++ (show x ++ items_from show (suc i) xs)

-- arrays that stand in one another no deeper than the number
abbrev pub array_within : List Text → Held → ℕ → ℕ → Text
array_within names h zero n = []
array_within names h (suc k) n =
    codes "[" ++ items_from (shown_by names h (array_within names h k)) 0 (items_in h n)

unfoldable pub array_shown : List Text → Held → ℕ → Text
array_shown names h n = array_within names h (length h.arrays) n

-- the inspect text
abbrev pub shown : List Text → Held → Value → Text
shown names h x = shown_by names h (array_shown names h) x

-- ---- built-in texts

abbrev pub object_built_in : List Text → Held → ℕ → Object → Text
object_built_in names h n o =
    if descends h.modules Exception.count o.class.0 then message_shown names h o else object_shown names h n

abbrev pub built_in_shown : List Text → Held → Value → Text
built_in_shown names h v.Nil = []
built_in_shown names h (v.Text t) = text_in h t.0
built_in_shown names h (v.Sym n) = text_of names n.0
built_in_shown names h (v.Object o) = option_map_or (object_built_in names h o.0) (slice_get h.objects o.0) []
built_in_shown names h x = shown names h x

-- ---- receivers

abbrev pub module_word : Bool → Text
module_word true = codes "class "
module_word false = codes "module "

abbrev pub module_shown : List Text → Held → ℕ → Text
module_shown names h n =
    module_word (option_map_or (λ m. is_class m.kind) (slice_get h.modules n) false) ++ path_shown names h n

abbrev pub instance_shown : List Text → Held → Value → Text
instance_shown names h x = instance_text (path_shown names h (unwrap_or (class_in h x) 0))

abbrev pub receiver_shown : List Text → Held → Value → Text
receiver_shown names h v.Nil = codes "nil"
receiver_shown names h v.True = truth_text true
receiver_shown names h v.False = truth_text false
receiver_shown names h (v.Module m) = module_shown names h m.0
receiver_shown names h (v.Object o) = if o.0 == 0 then codes "main" else instance_shown names h (v.Object o)
receiver_shown names h x = instance_shown names h x

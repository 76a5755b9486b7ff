-- The class of a value in each world that agrees with the heap.
use Rattle.std.specs.Prelude.{◌≡◌, ◌<◌, ℕ, List, length, Option, Some, None, String, string_bytes}
use Rattle.std.specs.declared.alloc.Global.{Global}
use Rattle.zw_def.specs.Text.{Text}
use Rattle.zw_def_world.specs.Ancestor.{class_of}
use Rattle.zw_def_world.specs.Inspect.{class_name}
use Rattle.zw_def_world.specs.Making.{max_text}
use Rattle.zw_def_world.specs.World.{World}
use Rattle.zw_heap.specs.Heap.{Held, class_in, sizes_of}
use Rattle.zw_heap.specs.Sound.{IsIn}
use Rattle.zw_heap.specs.Telling.{Telling, Fits, Agrees, tell}
use Rattle.zw_heap.specs.declared.value.Value.{Value}
use Rattle.zw_show.specs.IsTold.{IsTold}

-- each world says of a value the class that the heap says
abbrev pub TellsClasses : Held → Type 0
TellsClasses h =
    (I : Telling) (names : List Text) (w : World) (x : Value) (class : ℕ) → Fits I names h → Agrees I h w
    → IsIn (sizes_of h) x → class_in h x ≡ Some class → class_of w (tell I x) ≡ Some (I.module_id class)

abbrev pub class_name_of : Value → Telling → World → Option Text
class_name_of x I w = class_name w (tell I x)

abbrev pub IsPath : Text → Option (String Global) → Type 0
IsPath path None = max_text < length path
IsPath path (Some text) = string_bytes text ≡ path

-- the path of the class of a value, or none where it is longer than a text may be
pub record NamesClass (h : Held) (names : List Text) (x : Value) (answer : Option (String Global)) : Type 0 where
  pub path : Text
  pub told : IsTold h names (class_name_of x) path
  pub known : IsPath path answer

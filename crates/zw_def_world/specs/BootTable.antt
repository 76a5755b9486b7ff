-- What boot defines, as its tables tell it; at each setup the present tables are those that boot left.
use Rattle.std.specs.Prelude.{[], ◌∷◌, Option, Some, None, if◌then◌else◌}
use Rattle.std.specs.Option.{option_map, unwrap_or}
use Rattle.zw_def.specs.Text.{Text}
use Rattle.zw_def.specs.ConstantPath.{ConstantPath}
use Rattle.zw_def.specs.Nesting.{same_names, child}
use Rattle.zw_def.specs.Map.{Boot, Standing, undefined, own_module, taken}
use Rattle.zw_def_world.specs.Missing.{bind}
use Rattle.zw_def_world.specs.Table.{at}
use Rattle.zw_def_world.specs.Id.{Id}
use Rattle.zw_def_world.specs.CoreClass.{Object_class}
use Rattle.zw_def_world.specs.Value.{Value, as_module}
use Rattle.zw_def_world.specs.World.{World}

-- a constant of a module: absent, a module of that very name, or something else
pub data Constant : Type 0 where
  absent : Constant
  named_module : Id → Constant
  other_value : Constant

abbrev pub if_named : World → ConstantPath → Option Id → Option Constant
if_named w p None = Some other_value
if_named w p (Some i) = option_map (λ m. if same_names m.path p then named_module i else other_value) (w.modules i)

abbrev pub constant_from : World → ConstantPath → Option Value → Option Constant
constant_from w p None = Some absent
constant_from w p (Some v) = if_named w p (as_module v)

abbrev pub constant_of : World → Id → Text → Option Constant
constant_of w i n = bind (w.modules i) (λ m. constant_from w (child m.path n) (at n m.constants))

-- goes on in a module of that very name
abbrev pub from_module : {A : Type 0} → A → (Id → Option A) → Constant → Option A
from_module other go (named_module i) = go i
from_module other go _ = Some other

-- ---- modules to which a path leads

abbrev pub leads_from : World → ConstantPath → Id → Option (Option Id)
leads_from w [] i = Some (Some i)
leads_from w (n ∷ p) i = bind (constant_of w i n) (from_module None (leads_from w p))

-- the module of that very name to which the path leads through the tables
abbrev pub boot_module : World → ConstantPath → Option (Option Id)
boot_module w p = leads_from w p Object_class

-- ---- what stands under a path

abbrev pub standing_as : Constant → Standing
standing_as absent = undefined
standing_as (named_module i) = own_module
standing_as other_value = taken

-- the last name is asked of the module to which the names before it lead
abbrev pub standing_from : World → ConstantPath → Id → Option Standing
standing_from w [] i = Some own_module
standing_from w (n ∷ []) i = option_map standing_as (constant_of w i n)
standing_from w (n ∷ o ∷ p) i = bind (constant_of w i n) (from_module undefined (standing_from w (o ∷ p)))

abbrev pub standing_of : World → ConstantPath → Option Standing
standing_of w p = standing_from w p Object_class

-- a record that is missing is told apart before the map is taken
abbrev pub boot_of : World → Boot
boot_of w p = unwrap_or (standing_of w p) undefined

-- What a session holds.
use Rattle.std.specs.Prelude.{List}
use Rattle.zw_def.specs.Text.{Text}
use Rattle.zw_consts.specs.Table.{Table}
use Rattle.zw_code.specs.declared.code.Code.{Code}
use Rattle.zw_heap.specs.Heap.{Held}
use Rattle.zw_heap.specs.declared.value.Value.{Value}
use Rattle.zw_methods.specs.Methods.{Methods}

pub record Stores : Type 0 where
  pub names : List Text
  pub heap : Held
  -- by the numbers of modules
  pub constants : List (Table Value)
  pub methods : Methods
  -- the code of methods, by the numbers of bodies
  pub bodies : List Code

-- Texts of values in faults.
use Rattle.std.specs.Prelude.{◌++◌, List, Option, String}
use Rattle.std.specs.declared.alloc.Global.{Global}
use Rattle.zw_calls.specs.Classes.{IsPath}
use Rattle.zw_def.specs.Text.{Text}
use Rattle.zw_def_world.specs.Act.{Act, reading}
use Rattle.zw_def_world.specs.Fault.{quote}
use Rattle.zw_def_world.specs.Id.{Id}
use Rattle.zw_def_world.specs.Inspect.{told}
use Rattle.zw_def_world.specs.Making.{fails}
use Rattle.zw_def_world.specs.Value.{Value}
use Rattle.zw_def_world.specs.World.{World}
use Rattle.zw_heap.specs.Heap.{Held}
use Rattle.zw_heap.specs.Telling.{Telling}
use Rattle.zw_show.specs.IsTold.{IsTold}

-- the text that each world tells, or none where that is longer than a text may be
pub record KnowsText (h : Held) (names : List Text) (text_of : Telling → World → Option Text)
    (answer : Option (String Global)) : Type 0 where
  pub text : Text
  pub told : IsTold h names text_of text
  pub known : IsPath text answer

-- a fault that quotes a name and tells a receiver, with a text between them
abbrev pub tells_receiver : Id → Text → Text → Text → Value → Act
tells_receiver class start name end v = reading (λ w. told w v) (λ t. fails class (start ++ quote name ++ end ++ t))

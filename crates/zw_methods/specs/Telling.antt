-- Methods told as those of a world: names by their texts, and bodies by what a program defined them as.
use Rattle.std.specs.Prelude.{◌≡◌, ℕ, Bool, true, false, List, Some}
use Rattle.zw_def.specs.Text.{Text}
use Rattle.zw_def_world.specs.Record as told
use Rattle.zw_def_world.specs.Table as told_table_of
use Rattle.zw_def_world.specs.World.{World}
use Rattle.zw_calls.specs.PrimSeen.{row_seen}
use Rattle.zw_consts.specs.Table.{Table}
use Rattle.zw_heap.specs.Telling.{Telling}
use Rattle.zw_told.specs.Table.{told_table}
use Rattle.zw_methods.specs.declared.method.Method.{Method}
use Rattle.zw_methods.specs.declared.method.MethodBody.{MethodBody}
use Rattle.zw_methods.specs.declared.method.MethodBody.TheVariants as b

-- the code that the number of a body stands for
abbrev pub Codes : Type 0
Codes = ℕ → told.Code

abbrev pub told_body : Telling → Codes → MethodBody → told.Body
told_body I codes (b.Code body) = told.code (codes body.0)
told_body I codes (b.Reader x) = told.reader (I.name x.0)
told_body I codes (b.Writer x) = told.writer (I.name x.0)
told_body I codes (b.Prim prim) = told.primitive (row_seen prim)

abbrev pub told_method : Telling → Codes → Method → told.Method
told_method I codes m = record { body = told_body I codes m.body; is_private = m.private }

abbrev pub told_methods : Telling → Codes → Table Method → told_table_of.Table told.Method
told_methods I codes es = told_table I.name (told_method I codes) es

-- the world has these methods
pub record AgreesMethods (I : Telling) (codes : Codes) (tables : Bool → ℕ → Table Method) (w : World) : Type 0 where
  pub methods : (n : ℕ) (x : told.Module) → w.modules (I.module_id n) ≡ Some x → x.methods ≡ told_methods I codes (tables false n)
  pub singleton : (n : ℕ) (x : told.Module) → w.modules (I.module_id n) ≡ Some x → x.singleton ≡ told_methods I codes (tables true n)

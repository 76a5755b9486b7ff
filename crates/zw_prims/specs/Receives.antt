-- The receivers of primitive methods.
use Rattle.std.specs.Prelude.{◌≡◌, ℕ, ℤ, true, Some}
use Rattle.zw_def_world.specs.CoreClass.{Exception}
use Rattle.zw_heap.specs.Founded.{is_class_at}
use Rattle.zw_heap.specs.Heap.{Held, class_in}
use Rattle.zw_heap.specs.Superclass.{descends}
use Rattle.zw_heap.specs.declared.value.ArrayRef.{ArrayRef}
use Rattle.zw_heap.specs.declared.value.ModuleId.{ModuleId}
use Rattle.zw_heap.specs.declared.value.ObjRef.{ObjRef}
use Rattle.zw_heap.specs.declared.value.TextRef.{TextRef}
use Rattle.zw_heap.specs.declared.value.Value.{Value}
use Rattle.zw_heap.specs.declared.value.Value.TheVariants as v
use Rattle.zw_names.specs.declared.names.Name.{Name}
use Rattle.zw_calls.specs.declared.prim_id.PrimId.{PrimId}
use Rattle.zw_calls.specs.declared.prim_id.PrimId.TheVariants as p

-- the class of the value is `Exception` or below it
abbrev pub IsException : Held → Value → Type 0
IsException h x = (class : ℕ) × (class_in h x ≡ Some class) × (descends h.modules Exception.count class ≡ true)

-- the method is one of the value
abbrev pub Receives : PrimId → Held → Value → Type 0
Receives (p.Kernel row) h x = Unit {0}
Receives (p.Module row) h x = (m : ModuleId) × (x ≡ v.Module m)
Receives (p.Class row) h x = (m : ModuleId) × (x ≡ v.Module m) × is_class_at h.modules m.0 true
Receives (p.Object row) h x = Unit {0}
Receives (p.Nil row) h x = x ≡ v.Nil
Receives (p.Integer row) h x = (z : ℤ) × (x ≡ v.Int z)
Receives (p.String row) h x = (t : TextRef) × (x ≡ v.Text t)
Receives (p.Symbol row) h x = (n : Name) × (x ≡ v.Sym n)
Receives (p.Array row) h x = (a : ArrayRef) × (x ≡ v.Array a)
Receives (p.Exception row) h x = (o : ObjRef) × (x ≡ v.Object o) × IsException h x

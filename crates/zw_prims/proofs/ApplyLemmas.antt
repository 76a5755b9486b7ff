-- Calls by the identity of their method.
use Rattle.std.proofs.Common.{◌≡◌, ℕ, ℤ, false, List, Result, IfOk, refl, sym, subst}
use Rattle.std.specs.declared.alloc.AllocError.{AllocError}
use Rattle.zw_def.specs.Text.{Text}
use Rattle.zw_def_world.specs.Row.{Row, of_class, of_module, of_object, class_superclass, module_name, object_initialize}
use Rattle.zw_heap.specs.Heap.{Held}
use Rattle.zw_heap.specs.declared.value.Value.{Value}
use Rattle.zw_calls.specs.Call.{call_of}
use Rattle.zw_calls.specs.End.{Performs, AddsNamed}
use Rattle.zw_calls.specs.PrimSeen.{row_seen}
use Rattle.zw_calls.specs.declared.class_row.ClassRow.{ClassRow}
use Rattle.zw_calls.specs.declared.class_row.ClassRow.TheVariants as c
use Rattle.zw_calls.specs.declared.end.PrimEnd.{PrimEnd}
use Rattle.zw_calls.specs.declared.module_row.ModuleRow.{ModuleRow}
use Rattle.zw_calls.specs.declared.module_row.ModuleRow.TheVariants as m
use Rattle.zw_calls.specs.declared.object_row.ObjectRow.{ObjectRow}
use Rattle.zw_calls.specs.declared.object_row.ObjectRow.TheVariants as o
use Rattle.zw_calls.specs.declared.prim_id.PrimId.{PrimId}
use Rattle.zw_calls.specs.declared.prim_id.PrimId.TheVariants as p
use Rattle.zw_calls.specs.declared.array_row.ArrayRow.{ArrayRow}
use Rattle.zw_calls.specs.declared.exception_row.ExceptionRow.{ExceptionRow}
use Rattle.zw_calls.specs.declared.integer_row.IntegerRow.{IntegerRow}
use Rattle.zw_calls.specs.declared.nil_row.NilRow.{NilRow}
use Rattle.zw_calls.specs.declared.string_row.StringRow.{StringRow}
use Rattle.zw_calls.specs.declared.symbol_row.SymbolRow.{SymbolRow}
use Rattle.zw_heap.specs.declared.value.ArrayRef.{ArrayRef}
use Rattle.zw_heap.specs.declared.value.ModuleId.{ModuleId}
use Rattle.zw_heap.specs.declared.value.ObjRef.{ObjRef}
use Rattle.zw_heap.specs.declared.value.TextRef.{TextRef}
use Rattle.zw_heap.specs.declared.value.Value.TheVariants as v
use Rattle.zw_names.specs.declared.names.Name.{Name}
use Rattle.zw_prims.specs.Receives.{Receives}
use Rattle.zw_prims.specs.Does.{Does}
use Rattle.zw_prims.specs.Marked.{is_marked, module_marked, class_marked}
use Rattle.zw_prims.proofs.DoesLemmas.{all_perform}

module _ (h g : Held) (names : List Text) (left later : ℕ) (prim : PrimId) (x : Value) (xs : List Value) (row : Row) (y : Value) (is : row_seen prim ≡ row) (at : x ≡ y) (end : Result PrimEnd AllocError) where
  pub does_as : IfOk end (Does (call_of row y xs) h g names left later) → IfOk end (Does (call_of (row_seen prim) x xs) h g names left later)
  does_as does =
      subst (λ r. IfOk end (Does (call_of r x xs) h g names left later)) (sym is)
      (subst (λ z. IfOk end (Does (call_of row z xs) h g names left later)) (sym at) does)

  pub performs_as : AddsNamed h g → IfOk end (Performs (call_of row y xs) g names left later) → IfOk end (Does (call_of (row_seen prim) x xs) h g names left later)
  performs_as adds performs = does_as (all_perform (call_of row y xs) h g names left later adds end performs)

-- a method that no arm of the call has
module _ (h : Held) (prim : PrimId) (x : Value) (receives : Receives prim h x) where
  pub no_module : (row : ModuleRow) → prim ≡ p.Module row → ((m : ModuleId) → x ≡ v.Module m → ⊥) → ⊥
  no_module row is apart = let it = subst (λ q. Receives q h x) is receives in apart it.0 it.1

  pub no_class : (row : ClassRow) → prim ≡ p.Class row → ((m : ModuleId) → x ≡ v.Module m → ⊥) → ⊥
  no_class row is apart = let it = subst (λ q. Receives q h x) is receives in apart it.0 it.1

  pub no_nil : (row : NilRow) → prim ≡ p.Nil row → (x ≡ v.Nil → ⊥) → ⊥
  no_nil row is apart = apart (subst (λ q. Receives q h x) is receives)

  pub no_integer : (row : IntegerRow) → prim ≡ p.Integer row → ((z : ℤ) → x ≡ v.Int z → ⊥) → ⊥
  no_integer row is apart = let it = subst (λ q. Receives q h x) is receives in apart it.0 it.1

  pub no_text : (row : StringRow) → prim ≡ p.String row → ((t : TextRef) → x ≡ v.Text t → ⊥) → ⊥
  no_text row is apart = let it = subst (λ q. Receives q h x) is receives in apart it.0 it.1

  pub no_symbol : (row : SymbolRow) → prim ≡ p.Symbol row → ((n : Name) → x ≡ v.Sym n → ⊥) → ⊥
  no_symbol row is apart = let it = subst (λ q. Receives q h x) is receives in apart it.0 it.1

  pub no_array : (row : ArrayRow) → prim ≡ p.Array row → ((a : ArrayRef) → x ≡ v.Array a → ⊥) → ⊥
  no_array row is apart = let it = subst (λ q. Receives q h x) is receives in apart it.0 it.1

  pub no_exception : (row : ExceptionRow) → prim ≡ p.Exception row → ((o : ObjRef) → x ≡ v.Object o → ⊥) → ⊥
  no_exception row is apart = let it = subst (λ q. Receives q h x) is receives in apart it.0 it.1

-- ---- the rows of which one method alone is not marked

module_path : (row : ModuleRow) → module_marked row ≡ false → row_seen (p.Module row) ≡ of_module module_name
module_path m.Name is = refl
module_path m.ToS is = refl
module_path m.Inspect is = refl
module_path m.Covers is = absurd (cc)
module_path m.Less is = absurd (cc)
module_path m.LessOrSame is = absurd (cc)
module_path m.Greater is = absurd (cc)
module_path m.GreaterOrSame is = absurd (cc)
module_path m.Ancestors is = absurd (cc)
module_path m.Include is = absurd (cc)
module_path m.Extend is = absurd (cc)
module_path m.Includes is = absurd (cc)
module_path m.AttrReader is = absurd (cc)
module_path m.AttrWriter is = absurd (cc)
module_path m.AttrAccessor is = absurd (cc)
module_path m.Private is = absurd (cc)
module_path m.Public is = absurd (cc)
module_path m.PrivateClassMethod is = absurd (cc)
module_path m.ConstGet is = absurd (cc)
module_path m.IsConstDefined is = absurd (cc)
module_path m.Autoload is = absurd (cc)
module_path m.IsMethodDefined is = absurd (cc)

class_superclass_row : (row : ClassRow) → class_marked row ≡ false → row_seen (p.Class row) ≡ of_class class_superclass
class_superclass_row c.New is = absurd (cc)
class_superclass_row c.Superclass is = refl

object_row : (row : ObjectRow) → row_seen (p.Object row) ≡ of_object object_initialize
object_row o.Initialize = refl

module _ (prim : PrimId) (here : is_marked prim ≡ false) where
  pub row-module : (row : ModuleRow) → prim ≡ p.Module row → row_seen prim ≡ of_module module_name
  row-module row is = subst (λ q. row_seen q ≡ of_module module_name) (sym is) (module_path row (subst (λ q. is_marked q ≡ false) is here))

  pub row-class : (row : ClassRow) → prim ≡ p.Class row → row_seen prim ≡ of_class class_superclass
  row-class row is = subst (λ q. row_seen q ≡ of_class class_superclass) (sym is) (class_superclass_row row (subst (λ q. is_marked q ≡ false) is here))

  pub row-object : (row : ObjectRow) → prim ≡ p.Object row → row_seen prim ≡ of_object object_initialize
  row-object row is = subst (λ q. row_seen q ≡ of_object object_initialize) (sym is) (object_row row)

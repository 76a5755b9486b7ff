use Rattle.std.proofs.Common.{FitsSigned, refl, ap, rules}
use Rattle.std.specs.Int.{w64}
use Rattle.std.proofs.lemmas.Int.{to_z-of_z}
use Rattle.zw_def_world.specs.Row.{of_array, of_class, of_exception, of_integer, of_kernel, of_module, of_nil, of_object, of_string, of_symbol, class_superclass, module_name, object_initialize}
use Rattle.zw_heap.specs.declared.value.Value.TheVariants as v
use Rattle.zw_calls.specs.ArrayRow.{array_row_seen}
use Rattle.zw_calls.specs.StringRow.{string_row_seen}
use Rattle.zw_calls.specs.SymbolRow.{symbol_row_seen}
use Rattle.zw_calls.specs.ExceptionRow.{exception_row_seen}
use Rattle.zw_calls.specs.IntegerRow.{integer_row_seen}
use Rattle.zw_calls.specs.KernelRow.{kernel_row_seen}
use Rattle.zw_calls.specs.NilRow.{nil_row_seen}
use Rattle.zw_calls.specs.PrimSeen.{row_seen}
use Rattle.zw_prims.proofs.ApplyLemmas.{does_as, no_array, no_class, no_exception, no_integer, no_module, no_nil, no_symbol, no_text, performs_as, row-class, row-module, row-object}
use Rattle.zw_prims.proofs.DoesLemmas.{adds_named}
use Rattle.zw_prims.proofs.EndLemmas.{adds_none}
use Rattle.zw_prims.proofs.call.apply.Goals as goal
use Rattle.zw_prims.proofs.call.apply.Goals.{in_default-via-in-Module+in_default, in_default-via-in-Class+in_default, in_default-via-in-Nil+in_default, in_default-via-in-Integer+in_default, in_default-via-in-String+in_default, in_default-via-in-Symbol+in_default, in_default-via-in-Array+in_default, in_default-via-in-Exception+in_default}

pub unreachable-requires : goal.unreachable-requires
unreachable-requires c =
    let h = c.args.heap.now in
    let prim = c.args.prim in
    let x = c.args.receiver in
    let receives = c.requires.receives in
    elim c.in_default.branch [
      | in_default-via-in-Module+in_default w ↦ no_module h prim x receives w.in_default.field-0-0 w.in_default.is-0 w.in_default.not-Module-1
      | in_default-via-in-Class+in_default w ↦ no_class h prim x receives w.in_default.field-0-0 w.in_default.is-0 w.in_default.not-Module-1
      | in_default-via-in-Nil+in_default w ↦ no_nil h prim x receives w.in_default.field-0-0 w.in_default.is-0 w.in_default.not-Nil-1
      | in_default-via-in-Integer+in_default w ↦ no_integer h prim x receives w.in_default.field-0-0 w.in_default.is-0 w.in_default.not-Int-1
      | in_default-via-in-String+in_default w ↦ no_text h prim x receives w.in_default.field-0-0 w.in_default.is-0 w.in_default.not-Text-1
      | in_default-via-in-Symbol+in_default w ↦ no_symbol h prim x receives w.in_default.field-0-0 w.in_default.is-0 w.in_default.not-Sym-1
      | in_default-via-in-Array+in_default w ↦ no_array h prim x receives w.in_default.field-0-0 w.in_default.is-0 w.in_default.not-Array-1
      | in_default-via-in-Exception+in_default w ↦ no_exception h prim x receives w.in_default.field-0-0 w.in_default.is-0 w.in_default.not-Object-1
    ]

pub returns-in-Kernel-default-clause-does : goal.returns-in-Kernel-default-clause-does
returns-in-Kernel-default-clause-does c = λ here.
    performs_as c.args.heap.now c.apply.new.heap c.args.names.now c.args.meter.now.left c.apply.new.meter.left c.args.prim c.args.receiver c.args.args.now
    (of_kernel (kernel_row_seen c.in-Kernel-default.row).1) c.args.receiver (ap row_seen c.in-Kernel-default.is-0) refl c.apply.result
    (adds_named c.args.heap.now c.apply.new.heap c.apply.ensures.adds) c.apply.ensures.performs

pub returns-in-Module-Module-clause-does : goal.returns-in-Module-Module-clause-does
returns-in-Module-Module-clause-does c = λ here.
    let call = c.apply-in-Module-Module in
    performs_as c.args.heap.now call.new.heap c.args.names.now c.args.meter.now.left call.new.meter.left c.args.prim c.args.receiver c.args.args.now
    (of_module module_name) (v.Module c.in-Module-Module.of) (row-module c.args.prim here c.in-Module-Module.field-0-0 c.in-Module-Module.is-0) c.in-Module-Module.is-1 call.result
    (adds_named c.args.heap.now call.new.heap call.ensures.adds) call.ensures.performs

pub returns-in-Class-Module-clause-does : goal.returns-in-Class-Module-clause-does
returns-in-Class-Module-clause-does c = λ here.
    let call = c.apply-in-Class-Module in
    let left = c.args.meter.now.left in
    performs_as c.args.heap.now c.args.heap.now c.args.names.now left left c.args.prim c.args.receiver c.args.args.now
    (of_class class_superclass) (v.Module c.in-Class-Module.class) (row-class c.args.prim here c.in-Class-Module.field-0-0 c.in-Class-Module.is-0) c.in-Class-Module.is-1 call.result
    (adds_named c.args.heap.now c.args.heap.now (adds_none c.args.heap.now)) (call.ensures left)

pub returns-in-Object-default-clause-does : goal.returns-in-Object-default-clause-does
returns-in-Object-default-clause-does c = λ here.
    let call = c.apply-in-Object-default in
    let left = c.args.meter.now.left in
    performs_as c.args.heap.now c.args.heap.now c.args.names.now left left c.args.prim c.args.receiver c.args.args.now
    (of_object object_initialize) c.args.receiver (row-object c.args.prim here c.in-Object-default.field-0-0 c.in-Object-default.is-0) refl call.result
    (adds_named c.args.heap.now c.args.heap.now (adds_none c.args.heap.now)) (call.ensures left)

pub returns-in-Nil-Nil-clause-does : goal.returns-in-Nil-Nil-clause-does
returns-in-Nil-Nil-clause-does c = λ here.
    let call = c.apply-in-Nil-Nil in
    performs_as c.args.heap.now call.new.heap c.args.names.now c.args.meter.now.left call.new.meter.left c.args.prim c.args.receiver c.args.args.now
    (of_nil (nil_row_seen c.in-Nil-Nil.row).1) v.Nil (ap row_seen c.in-Nil-Nil.is-0) c.in-Nil-Nil.is-1 call.result
    (adds_named c.args.heap.now call.new.heap call.ensures.adds) call.ensures.performs

pub returns-in-Integer-Int-clause-does : goal.returns-in-Integer-Int-clause-does
returns-in-Integer-Int-clause-does c = λ here.
    let call = c.apply-in-Integer-Int in
    let fits_number : FitsSigned w64 c.in-Integer-Int.number = search rules in
    performs_as c.args.heap.now call.new.heap c.args.names.now c.args.meter.now.left call.new.meter.left c.args.prim c.args.receiver c.args.args.now
    (of_integer (integer_row_seen c.in-Integer-Int.row).1) (v.Int c.in-Integer-Int.number) (ap row_seen c.in-Integer-Int.is-0) c.in-Integer-Int.is-1 call.result
    (adds_named c.args.heap.now call.new.heap call.ensures.adds) (simp to_z-of_z at call.ensures.performs)

pub returns-in-Exception-Object-clause-does : goal.returns-in-Exception-Object-clause-does
returns-in-Exception-Object-clause-does c = λ here.
    let call = c.apply-in-Exception-Object in
    does_as c.args.heap.now call.new.heap c.args.names.now c.args.meter.now.left call.new.meter.left c.args.prim c.args.receiver c.args.args.now
    (of_exception (exception_row_seen c.in-Exception-Object.row).1) (v.Object c.in-Exception-Object.object) (ap row_seen c.in-Exception-Object.is-0) c.in-Exception-Object.is-1 call.result
    call.ensures.does

pub returns-in-String-Text-clause-does : goal.returns-in-String-Text-clause-does
returns-in-String-Text-clause-does c = λ here.
    let call = c.apply-in-String-Text in
    performs_as c.args.heap.now call.new.heap call.new.names c.args.meter.now.left call.new.meter.left c.args.prim c.args.receiver c.args.args.now
    (of_string (string_row_seen c.in-String-Text.row).1) (v.Text c.in-String-Text.text) (ap row_seen c.in-String-Text.is-0) c.in-String-Text.is-1 call.result
    call.ensures.adds call.ensures.performs

pub returns-in-Symbol-Sym-clause-does : goal.returns-in-Symbol-Sym-clause-does
returns-in-Symbol-Sym-clause-does c = λ here.
    let call = c.apply-in-Symbol-Sym in
    let left = c.args.meter.now.left in
    performs_as c.args.heap.now c.args.heap.now c.args.names.now left left c.args.prim c.args.receiver c.args.args.now
    (of_symbol (symbol_row_seen c.in-Symbol-Sym.row).1) (v.Sym c.in-Symbol-Sym.name) (ap row_seen c.in-Symbol-Sym.is-0) c.in-Symbol-Sym.is-1 call.result
    (adds_named c.args.heap.now c.args.heap.now (adds_none c.args.heap.now)) (call.ensures left)

pub returns-in-Array-Array-clause-does : goal.returns-in-Array-Array-clause-does
returns-in-Array-Array-clause-does c = λ here.
    let call = c.apply-in-Array-Array in
    performs_as c.args.heap.now call.new.heap c.args.names.now c.args.meter.now.left call.new.meter.left c.args.prim c.args.receiver c.args.args.now
    (of_array (array_row_seen c.in-Array-Array.row).1) (v.Array c.in-Array-Array.array) (ap row_seen c.in-Array-Array.is-0) c.in-Array-Array.is-1 call.result
    (adds_named c.args.heap.now call.new.heap call.ensures.adds) call.ensures.performs

-- What holds of each change, holds of the methods of Module, and of all primitive methods.
use Rattle.std.specs.Prelude.{Bool, List, Option, Some, None, [], ◌∷◌}
use Rattle.zw_def.specs.Map.{Key}
use Rattle.zw_def.specs.Text.{Text}
use Rattle.zw_def_world.specs.Act.{Act}
use Rattle.zw_def_world.specs.Call.{is_bare}
use Rattle.zw_def_world.specs.Id.{Id}
use Rattle.zw_def_world.specs.ModuleRows.{class_fault, unless_class, includes, defines_method, defines_readers, defines_writers, in_hiding, no_such_method, names_tested, changes_each, sets_default, privacy, hides_singletons, autoload_text, autoloads, module_act}
use Rattle.zw_def_world.specs.Primitives.{row_act}
use Rattle.zw_def_world.specs.Record.{Body, Module, Method}
use Rattle.zw_def_world.specs.Row.{ModuleRow, module_name, module_covers, module_less, module_less_or_same, module_greater, module_greater_or_same, module_ancestors, module_include, module_extend, module_includes, module_attr_reader, module_attr_writer, module_attr_accessor, module_private, module_public, module_private_class_method, module_const_get, module_const_defined, module_autoload, module_method_defined, Row, of_kernel, of_module, of_class, of_object, of_nil, of_integer, of_string, of_symbol, of_array, of_exception}
use Rattle.zw_def_world.specs.Site.{Site}
use Rattle.zw_def_world.specs.Table.{Table}
use Rattle.zw_def_world.specs.Value.{Value, text_in, nil}
use Rattle.zw_def_world.proofs.EvolutionLaws.{Evolution, Keeps, keeping, gives_keeps, both_keep, module_keeps}
use Rattle.zw_def_world.proofs.FaultLaws.{fails_keeps, unless_frozen_keeps, makes_text_keeps, makes_array_keeps}
use Rattle.zw_def_world.proofs.KernelLaws.{kernel_act_keeps, class_act_keeps, object_act_keeps, exception_act_keeps}
use Rattle.zw_def_world.proofs.RowLaws.{SiteKeeps, on_module_keeps, on_modules_keeps}
use Rattle.zw_def_world.proofs.TextLaws.{nil_act_keeps, integer_act_keeps, string_act_keeps, symbol_act_keeps, array_act_keeps}

-- ---- Module

pub class_fault_keeps : {E : Evolution} → Keeps E class_fault
class_fault_keeps = search (keeping, fails_keeps)

pub unless_class_keeps : {E : Evolution} (i : Id) {m : Act} (a : Keeps E m) → Keeps E (unless_class i m)
unless_class_keeps i a = search (keeping, class_fault_keeps)

pub includes_keeps : {E : Evolution} (i : Id) (j : Id) → Keeps E (includes i j)
includes_keeps i j = search (keeping, fails_keeps)

pub defines_method_keeps : {E : Evolution} (i : Id) (hidden : Bool) (x : Text) (body : Body) (v : Value) → Keeps
    E (defines_method i hidden x body v)
defines_method_keeps i hidden x body v = search keeping

pub defines_readers_keeps : {E : Evolution} (hidden : Bool) (i : Id) (vs : List Value) → Keeps E
    (defines_readers hidden i vs)
defines_readers_keeps hidden i [] = search keeping
defines_readers_keeps {E} hidden i (y ∷ ys) =
    let later : (hidden : Bool) (i : Id) → Keeps E (defines_readers hidden i ys) =
    λ hidden i. defines_readers_keeps hidden i ys in
    search (keeping, later)

pub defines_writers_keeps : {E : Evolution} (hidden : Bool) (i : Id) (vs : List Value) → Keeps E
    (defines_writers hidden i vs)
defines_writers_keeps hidden i [] = search keeping
defines_writers_keeps {E} hidden i (y ∷ ys) =
    let later : (hidden : Bool) (i : Id) → Keeps E (defines_writers hidden i ys) =
    λ hidden i. defines_writers_keeps hidden i ys in
    search (keeping, later)

pub in_hiding_keeps : {E : Evolution} (b : Bool) {k : Bool → Act} (b2 : (y : Bool) → Keeps E (k y)) → Keeps E
    (in_hiding b k)
in_hiding_keeps is_bare b2 = search keeping

pub no_such_method_keeps : {E : Evolution} (x : Text) (m : Module) → Keeps E (no_such_method x m)
no_such_method_keeps x m = search (keeping, fails_keeps)

pub names_tested_keeps : {E : Evolution} (table : (Module → Table Method)) (vs : List Value) {m : Act}
    (a : Keeps E m) (m2 : Module) → Keeps E (names_tested table vs m m2)
names_tested_keeps table [] a m2 = search keeping
names_tested_keeps {E} table (y ∷ ys) {m} a m2 =
    let later : (table : (Module → Table Method)) (m2 : Module) → Keeps E (names_tested table ys m m2) =
    λ table m2. names_tested_keeps table ys a m2 in
    search (keeping, no_such_method_keeps, later)

pub changes_each_keeps : {E : Evolution} (change : Text → Module → Module) (i : Id) (vs : List Value) → Keeps E
    (changes_each change i vs)
changes_each_keeps change i [] = gives_keeps _
changes_each_keeps change i (y ∷ ys) =
    both_keep (module_keeps i (change (text_in y)) nil) (changes_each_keeps change i ys)

pub sets_default_keeps : {E : Evolution} (hidden : Bool) → Keeps E (sets_default hidden)
sets_default_keeps hidden = search keeping

pub privacy_keeps : {E : Evolution} (hidden : Bool) (i : Id) (vs : List Value) → Keeps E (privacy hidden i vs)
privacy_keeps hidden i [] = search keeping
privacy_keeps hidden i (y ∷ ys) = search (keeping, unless_frozen_keeps, names_tested_keeps, changes_each_keeps)

pub hides_singletons_keeps : {E : Evolution} (i : Id) (vs : List Value) → Keeps E (hides_singletons i vs)
hides_singletons_keeps i vs = search (keeping, unless_frozen_keeps, names_tested_keeps, changes_each_keeps)

pub autoload_text_keeps : {E : Evolution} (k : Option Key) (o : Option Value) → Keeps E (autoload_text k o)
autoload_text_keeps None (Some v) = search keeping
autoload_text_keeps (Some a) (Some v) = search keeping
autoload_text_keeps None None = search keeping
autoload_text_keeps (Some k) None = search (keeping, makes_text_keeps)

pub autoloads_keeps : {E : Evolution} (n : Text) (i : Id) → Keeps E (autoloads n i)
autoloads_keeps n i = search (keeping, autoload_text_keeps)

pub module_act_keeps : {E : Evolution} (s : Site) (of_s : SiteKeeps E s) (z : ModuleRow) (r : Value)
    (vs : List Value) → Keeps E (module_act s z r vs)
module_act_keeps s of_s module_name r vs = search (keeping, on_module_keeps, makes_text_keeps)
module_act_keeps s of_s module_covers r vs = search (keeping, on_module_keeps)
module_act_keeps s of_s module_less r vs = search (keeping, on_modules_keeps)
module_act_keeps s of_s module_less_or_same r vs = search (keeping, on_modules_keeps)
module_act_keeps s of_s module_greater r vs = search (keeping, on_modules_keeps)
module_act_keeps s of_s module_greater_or_same r vs = search (keeping, on_modules_keeps)
module_act_keeps s of_s module_ancestors r vs = search (keeping, on_module_keeps, makes_array_keeps)
module_act_keeps s of_s module_include r vs =
    search (keeping, on_modules_keeps, unless_frozen_keeps, unless_class_keeps, includes_keeps)
module_act_keeps s of_s module_extend r vs =
    search (keeping, on_modules_keeps, unless_frozen_keeps, unless_class_keeps)
module_act_keeps s of_s module_includes r vs = search (keeping, on_modules_keeps)
module_act_keeps s of_s module_attr_reader r vs =
    search (keeping, on_module_keeps, unless_frozen_keeps, in_hiding_keeps, defines_readers_keeps)
module_act_keeps s of_s module_attr_writer r vs =
    search (keeping, on_module_keeps, unless_frozen_keeps, in_hiding_keeps, defines_writers_keeps)
module_act_keeps s of_s module_attr_accessor r vs =
    search (
      keeping,
      on_module_keeps,
      unless_frozen_keeps,
      in_hiding_keeps,
      defines_readers_keeps,
      defines_writers_keeps,
    )
module_act_keeps s of_s module_private r vs = search (keeping, on_module_keeps, privacy_keeps)
module_act_keeps s of_s module_public r vs = search (keeping, on_module_keeps, privacy_keeps)
module_act_keeps s of_s module_private_class_method r vs =
    search (keeping, on_module_keeps, hides_singletons_keeps)
module_act_keeps s of_s module_const_get r vs = search (keeping, on_module_keeps, fails_keeps, of_s.constant)
module_act_keeps s of_s module_const_defined r vs = search (keeping, on_module_keeps)
module_act_keeps s of_s module_autoload r vs = search (keeping, on_module_keeps, autoloads_keeps)
module_act_keeps s of_s module_method_defined r vs = search (keeping, on_module_keeps)

-- ---- all of them

pub row_act_keeps : {E : Evolution} (s : Site) (of_s : SiteKeeps E s) (z : Row) (r : Value) (vs : List Value) →
    Keeps E (row_act s z r vs)
row_act_keeps s of_s (of_kernel row) r vs = search (keeping, kernel_act_keeps)
row_act_keeps s of_s (of_module row) r vs = search (keeping, module_act_keeps)
row_act_keeps s of_s (of_class row) r vs = search (keeping, class_act_keeps)
row_act_keeps s of_s (of_object row) r vs = search (keeping, object_act_keeps)
row_act_keeps s of_s (of_nil row) r vs = search (keeping, nil_act_keeps)
row_act_keeps s of_s (of_integer row) r vs = search (keeping, integer_act_keeps)
row_act_keeps s of_s (of_string row) r vs = search (keeping, string_act_keeps)
row_act_keeps s of_s (of_symbol row) r vs = search (keeping, symbol_act_keeps)
row_act_keeps s of_s (of_array row) r vs = search (keeping, array_act_keeps)
row_act_keeps s of_s (of_exception row) r vs = search (keeping, exception_act_keeps)

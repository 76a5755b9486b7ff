-- What holds of each change, holds of what is made and of faults.
use Prim.Native.String.{String}
use Rattle.std.specs.Prelude.{ℕ, ℤ, Bool, List}
use Rattle.zw_def.specs.Text.{Text}
use Rattle.zw_def_world.specs.Act.{Act}
use Rattle.zw_def_world.specs.Fault.{no_constant, fails_for, no_variable, no_method, private_method, no_super, no_module, frozen_fault, unless_frozen, wrong_number, wrong_kind, no_comparison}
use Rattle.zw_def_world.specs.Id.{Id}
use Rattle.zw_def_world.specs.Making.{raises, too_long, fails, pays_text, makes_text, pays_array, makes_array, makes_integer}
use Rattle.zw_def_world.specs.Value.{Value}
use Rattle.zw_def_world.proofs.EvolutionLaws.{Evolution, Keeps, keeping, made_keeps}

-- ---- what is made

pub raises_keeps : {E : Evolution} (class : Id) (message : Text) → Keeps E (raises class message)
raises_keeps class message = search (keeping, made_keeps)

pub too_long_keeps : {E : Evolution} → Keeps E too_long
too_long_keeps = search (keeping, raises_keeps)

pub fails_keeps : {E : Evolution} (class : Id) (message : Text) → Keeps E (fails class message)
fails_keeps class message = search (keeping, too_long_keeps, raises_keeps)

pub pays_text_keeps : {E : Evolution} (t : Text) → Keeps E (pays_text t)
pays_text_keeps t = search keeping

pub makes_text_keeps : {E : Evolution} (t : Text) → Keeps E (makes_text t)
makes_text_keeps t = search (keeping, too_long_keeps, pays_text_keeps)

pub pays_array_keeps : {E : Evolution} (vs : List Value) → Keeps E (pays_array vs)
pays_array_keeps vs = search keeping

pub makes_array_keeps : {E : Evolution} (vs : List Value) → Keeps E (makes_array vs)
makes_array_keeps vs = search (keeping, raises_keeps, pays_array_keeps)

pub makes_integer_keeps : {E : Evolution} (z : ℤ) → Keeps E (makes_integer z)
makes_integer_keeps z = search (keeping, raises_keeps)

-- ---- faults

pub no_constant_keeps : {E : Evolution} (asked : Id) (n : Text) → Keeps E (no_constant asked n)
no_constant_keeps asked n = search (keeping, fails_keeps)

pub fails_for_keeps : {E : Evolution} (class : Id) (start : Text) (x : Text) (v : Value) → Keeps E
    (fails_for class start x v)
fails_for_keeps class start x v = search (keeping, fails_keeps)

pub no_variable_keeps : {E : Evolution} (v : Value) (x : Text) → Keeps E (no_variable v x)
no_variable_keeps v x = search (keeping, fails_for_keeps)

pub no_method_keeps : {E : Evolution} (v : Value) (x : Text) → Keeps E (no_method v x)
no_method_keeps v x = search (keeping, fails_for_keeps)

pub private_method_keeps : {E : Evolution} (v : Value) (x : Text) → Keeps E (private_method v x)
private_method_keeps v x = search (keeping, fails_keeps)

pub no_super_keeps : {E : Evolution} (v : Value) (x : Text) → Keeps E (no_super v x)
no_super_keeps v x = search (keeping, fails_for_keeps)

pub no_module_keeps : {E : Evolution} (v : Value) → Keeps E (no_module v)
no_module_keeps v = search (keeping, fails_keeps)

pub frozen_fault_keeps : {E : Evolution} (v : Value) → Keeps E (frozen_fault v)
frozen_fault_keeps v = search (keeping, fails_keeps)

pub unless_frozen_keeps : {E : Evolution} (v : Value) {m : Act} (a : Keeps E m) → Keeps E (unless_frozen v m)
unless_frozen_keeps v a = search (keeping, frozen_fault_keeps)

pub wrong_number_keeps : {E : Evolution} (given : ℕ) (least : ℕ) (most : ℕ) (endless : Bool) → Keeps E
    (wrong_number given least most endless)
wrong_number_keeps given least most endless = search (keeping, fails_keeps)

pub wrong_kind_keeps : {E : Evolution} (v : Value) (kind : String) → Keeps E (wrong_kind v kind)
wrong_kind_keeps v kind = search (keeping, fails_keeps)

pub no_comparison_keeps : {E : Evolution} (a : Value) (b : Value) → Keeps E (no_comparison a b)
no_comparison_keeps a b = search (keeping, fails_keeps)

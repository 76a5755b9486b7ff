-- Variables of modules and objects, as methods and nodes read and set them, keep points alike.
use Rattle.std.specs.Prelude.{Bool, false, List, [], ◌∷◌, length}
use Rattle.std.proofs.Common.{refl, sym, ap, subst}
use Rattle.std.proofs.lemmas.List.{length-map}
use Rattle.zw_def.specs.Text.{Text}
use Rattle.zw_def_world.specs.Id.{Id}
use Rattle.zw_def_world.specs.Value.{Value, nil, truth, int, text, symbol, array, module_at, object_at, module_holder}
use Rattle.zw_def_world.specs.Table.{at}
use Rattle.zw_def_world.specs.Fault.{wrong_number}
use Rattle.zw_def_world.specs.Call.{or_nil, sets_in_holder, sets_variable, reads, writes_to}
use Rattle.zw_def_world.proofs.CallLaws.{or_nil_keeps}
use Rattle.zw_fresh.specs.Renaming.{lifted, ren, ren_object}
use Rattle.zw_fresh.specs.Alike.{Setting, module_with}
use Rattle.zw_fresh.proofs.ActLaws.{Alike, gives_alike, reading_alike}
use Rattle.zw_fresh.proofs.TableLemmas.{assigned-made, at-made}
use Rattle.zw_fresh.proofs.TextLaws.{variables_found}
use Rattle.zw_fresh.proofs.ChangeLaws.{changing_object_alike, changing_variables_alike}
use Rattle.zw_fresh.proofs.FaultLaws.{ren_list, wrong_number_alike, unless_frozen_alike}
use Rattle.zw_fresh.proofs.FrameLaws.{or_nil_alike}

module _ {calm : Bool} {S : Setting calm} {old : Text → Bool} where
  sets_in_module_alike : (x : Text) (v : Value) (i : Id) → Alike S old (sets_in_holder x v (module_holder i))
      (sets_in_holder x (ren S.lift v) (module_holder (lifted S.lift i)))
  sets_in_module_alike x v i = changing_variables_alike i _ _
      (record { rest = λ m. refl }) (record { rest = λ m. refl })
      (λ m c. ap (λ t. record (module_with S.lift c m) { variables = t }) (assigned-made (ren S.lift) x v m.variables)) v

  pub sets_variable_alike : (x : Text) (v holder : Value)
      → Alike S old (sets_variable x v holder) (sets_variable x (ren S.lift v) (ren S.lift holder))
  sets_variable_alike x v nil = unless_frozen_alike nil (gives_alike v)
  sets_variable_alike x v (truth b) = unless_frozen_alike (truth b) (gives_alike v)
  sets_variable_alike x v (int z) = unless_frozen_alike (int z) (gives_alike v)
  sets_variable_alike x v (text t) = unless_frozen_alike (text t) (gives_alike v)
  sets_variable_alike x v (symbol t) = unless_frozen_alike (symbol t) (gives_alike v)
  sets_variable_alike x v (array vs) = unless_frozen_alike (array vs) (gives_alike v)
  sets_variable_alike x v (module_at i) = unless_frozen_alike (module_at i) (sets_in_module_alike x v i)
  sets_variable_alike x v (object_at i) = unless_frozen_alike (object_at i)
      (changing_object_alike i _ _ (λ o. ap (λ t. record (ren_object S.lift o) { variables = t })
      (assigned-made (ren S.lift) x v o.variables)) v)

  pub reads_alike : (r : Value) (x : Text) (vs : List Value)
      → Alike S old (reads r x vs) (reads (ren S.lift r) x (ren_list S.lift vs))
  reads_alike r x [] = reading_alike (λ w w' W. variables_found W r) (λ t.
      subst (λ o. Alike S old (or_nil (at x t)) (or_nil o)) (sym (at-made (ren S.lift) x t)) (or_nil_alike (at x t)))
      (λ t. or_nil_keeps (at x t))
  reads_alike r x (v ∷ vs) =
      subst (λ n. Alike S old (wrong_number (length (v ∷ vs)) 0 0 false) (wrong_number n 0 0 false))
      (sym (length-map (v ∷ vs) (ren S.lift))) (wrong_number_alike _ 0 0 false)

  pub writes_to_alike : (r : Value) (x : Text) (vs : List Value)
      → Alike S old (writes_to r x vs) (writes_to (ren S.lift r) x (ren_list S.lift vs))
  writes_to_alike r x [] = wrong_number_alike 0 1 1 false
  writes_to_alike r x (v ∷ []) = sets_variable_alike x v r
  writes_to_alike r x (v ∷ u ∷ more) =
      subst (λ n. Alike S old (wrong_number (length (v ∷ u ∷ more)) 1 1 false) (wrong_number n 1 1 false))
      (sym (length-map (v ∷ u ∷ more) (ren S.lift))) (wrong_number_alike _ 1 1 false)

-- Texts of values, variables and freezes in two worlds alike.
use Rattle.std.specs.Prelude.{Bool, true, [], ◌++◌, codes, Option, Some, None}
use Rattle.std.specs.Option.{option_map}
use Rattle.std.proofs.Common.{refl}
use Rattle.zw_def.specs.Text.{Text}
use Rattle.zw_def_world.specs.Id.{Id}
use Rattle.zw_def_world.specs.Value.{Value, Values, nil, truth, int, text, symbol, array, module_at, object_at, no_values, value_then}
use Rattle.zw_def_world.specs.Record.{Object}
use Rattle.zw_def_world.specs.World.{World, variables_of, is_frozen}
use Rattle.zw_def_world.specs.Inspect.{class_text, class_name, kept_or_class, message_of, is_exception, exception_text, plain_text, object_text, inspected, inspected_items, inspected_more, object_built_in, built_in, told_module, told, fault_line}
use Rattle.zw_fresh.specs.Renaming.{lifted, lifted_object, ren, ren_all, ren_object, ren_table}
use Rattle.zw_fresh.specs.Alike.{Setting, Found, Worlds}
use Rattle.zw_fresh.proofs.FoundLaws.{some_found, found_bind, found_map, found_if, module_map, object_bind, object_map, main_same}
use Rattle.zw_fresh.proofs.AncestorLaws.{class_of_found, makes_exceptions_found}

-- a text is the same there
abbrev pub as_it_is : {A : Type 0} → A → A
as_it_is x = x

module _ {calm : Bool} {S : Setting calm} {w w' : World} (W : Worlds calm S w w') where
  pub class_text_found : (i : Id) → Found calm as_it_is (class_text w i) (class_text w' (lifted S.lift i))
  class_text_found i = module_map W _ _ i (λ m c. refl)

  pub class_name_found : (v : Value) → Found calm as_it_is (class_name w v) (class_name w' (ren S.lift v))
  class_name_found v = found_bind _ _ (class_of_found W v) class_text_found

  kept_found : (class : Id) (o : Option Text)
      → Found calm as_it_is (kept_or_class w class o) (kept_or_class w' (lifted S.lift class) o)
  kept_found class None = class_text_found class
  kept_found class (Some t) = some_found t refl

  pub message_found : (o : Object) → Found calm as_it_is (message_of w o) (message_of w' (ren_object S.lift o))
  message_found o = kept_found o.class o.message

  pub is_exception_found : (o : Object) → Found calm as_it_is (is_exception w o) (is_exception w' (ren_object S.lift o))
  is_exception_found o = makes_exceptions_found W o.class

  exception_text_found : (o : Object)
      → Found calm as_it_is (exception_text w o) (exception_text w' (ren_object S.lift o))
  exception_text_found o =
      found_bind _ _ (class_text_found o.class) (λ class. found_map _ _ (message_found o) (λ t. refl))

  plain_text_found : (o : Object) → Found calm as_it_is (plain_text w o) (plain_text w' (ren_object S.lift o))
  plain_text_found o = found_map _ _ (class_text_found o.class) (λ t. refl)

  object_text_found : (i : Id) (o : Object)
      → Found calm as_it_is (object_text w i o) (object_text w' (lifted_object S.lift i) (ren_object S.lift o))
  object_text_found i o = found_if (main_same S i) (some_found (codes "main") refl)
      (found_bind _ _ (is_exception_found o) (λ b. found_if refl (exception_text_found o) (plain_text_found o)))

  mutual
    pub inspected_found : (v : Value) → Found calm as_it_is (inspected w v) (inspected w' (ren S.lift v))
    inspected_found nil = some_found _ refl
    inspected_found (truth b) = some_found _ refl
    inspected_found (int z) = some_found _ refl
    inspected_found (text t) = some_found _ refl
    inspected_found (symbol t) = some_found _ refl
    inspected_found (array vs) = found_map _ _ (items_found vs) (λ t. refl)
    inspected_found (module_at i) = class_text_found i
    inspected_found (object_at i) = object_bind W _ _ i (object_text_found i)

    items_found : (vs : Values) → Found calm as_it_is (inspected_items w vs) (inspected_items w' (ren_all S.lift vs))
    items_found no_values = some_found _ refl
    items_found (value_then v vs) =
        found_bind _ _ (inspected_found v) (λ t. found_map _ _ (more_found vs) (λ more. refl))

    more_found : (vs : Values) → Found calm as_it_is (inspected_more w vs) (inspected_more w' (ren_all S.lift vs))
    more_found no_values = some_found _ refl
    more_found (value_then v vs) =
        found_bind _ _ (inspected_found v) (λ t. found_map _ _ (more_found vs) (λ more. refl))

  object_built_in_found : (i : Id) (o : Object)
      → Found calm as_it_is (object_built_in w i o) (object_built_in w' (lifted_object S.lift i) (ren_object S.lift o))
  object_built_in_found i o =
      found_bind _ _ (is_exception_found o) (λ b. found_if refl (message_found o) (object_text_found i o))

  pub built_in_found : (v : Value) → Found calm as_it_is (built_in w v) (built_in w' (ren S.lift v))
  built_in_found nil = some_found _ refl
  built_in_found (truth b) = inspected_found (truth b)
  built_in_found (int z) = inspected_found (int z)
  built_in_found (text t) = some_found _ refl
  built_in_found (symbol t) = some_found _ refl
  built_in_found (array vs) = inspected_found (array vs)
  built_in_found (module_at i) = inspected_found (module_at i)
  built_in_found (object_at i) = object_bind W _ _ i (object_built_in_found i)

  instance_found : (v : Value) → Found calm as_it_is (option_map (λ class. codes "an instance of " ++ class) (class_name w v))
      (option_map (λ class. codes "an instance of " ++ class) (class_name w' (ren S.lift v)))
  instance_found v = found_map _ _ (class_name_found v) (λ t. refl)

  pub told_found : (v : Value) → Found calm as_it_is (told w v) (told w' (ren S.lift v))
  told_found nil = some_found _ refl
  told_found (truth b) = some_found _ refl
  told_found (int z) = instance_found (int z)
  told_found (text t) = instance_found (text t)
  told_found (symbol t) = instance_found (symbol t)
  told_found (array vs) = instance_found (array vs)
  told_found (module_at i) = module_map W told_module told_module i (λ m c. refl)
  told_found (object_at i) = found_if (main_same S i) (some_found (codes "main") refl) (instance_found (object_at i))

  pub fault_line_found : (o : Object) → Found calm as_it_is (fault_line w o) (fault_line w' (ren_object S.lift o))
  fault_line_found o = found_bind _ _ (class_text_found o.class) (λ class. found_map _ _ (message_found o) (λ t. refl))

  -- ---- variables and freezes

  pub variables_found : (v : Value) → Found calm (ren_table S.lift) (variables_of w v) (variables_of w' (ren S.lift v))
  variables_found nil = some_found [] refl
  variables_found (truth b) = some_found [] refl
  variables_found (int z) = some_found [] refl
  variables_found (text t) = some_found [] refl
  variables_found (symbol t) = some_found [] refl
  variables_found (array vs) = some_found [] refl
  variables_found (module_at i) = module_map W _ _ i (λ m c. refl)
  variables_found (object_at i) = object_map W _ _ i (λ o. refl)

  pub is_frozen_found : (v : Value) → Found calm as_it_is (is_frozen w v) (is_frozen w' (ren S.lift v))
  is_frozen_found nil = some_found true refl
  is_frozen_found (truth b) = some_found true refl
  is_frozen_found (int z) = some_found true refl
  is_frozen_found (text t) = some_found true refl
  is_frozen_found (symbol t) = some_found true refl
  is_frozen_found (array vs) = some_found true refl
  is_frozen_found (module_at i) = module_map W _ _ i (λ m c. refl)
  is_frozen_found (object_at i) = object_map W _ _ i (λ o. refl)

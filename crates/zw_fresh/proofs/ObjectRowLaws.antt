-- The methods of Class, Object and Exception keep points alike.
use Rattle.std.specs.Prelude.{Bool, List, [], ◌∷◌, codes, Option, Some, None}
use Rattle.std.specs.Option.{option_map}
use Rattle.std.proofs.Common.{refl, ap}
use Rattle.zw_def.specs.Text.{Text}
use Rattle.zw_def_world.specs.Row.{ClassRow, class_new, class_superclass, ObjectRow, object_initialize, ExceptionRow, exception_initialize, exception_message, exception_inspect}
use Rattle.zw_def_world.specs.Id.{Id}
use Rattle.zw_def_world.specs.Value.{Value, nil, module_at, object_at, text_in}
use Rattle.zw_def_world.specs.Record.{new_object, with_message}
use Rattle.zw_def_world.specs.World.{with_object}
use Rattle.zw_def_world.specs.Inspect.{message_of}
use Rattle.zw_def_world.specs.Making.{makes_text}
use Rattle.zw_def_world.specs.Site.{Call, Site}
use Rattle.zw_def_world.specs.ObjectRows.{makes_instance, superclass_value, class_act, object_act, keeps, exception_act}
use Rattle.zw_def_world.specs.Act.{gives, reading}
use Rattle.zw_def_world.proofs.EvolutionLaws.{gives_keeps, both_keep, made_keeps, reading_keeps}
use Rattle.zw_def_world.proofs.FaultLaws.{makes_text_keeps}
use Rattle.zw_fresh.specs.Renaming.{lifted, lifted_object, ren, ren_object}
use Rattle.zw_fresh.specs.Alike.{Setting}
use Rattle.zw_fresh.proofs.PlainLaws.{initialize_plain}
use Rattle.zw_fresh.proofs.EndLaws.{Spends}
use Rattle.zw_fresh.proofs.ActLaws.{Alike, gives_alike, both_alike, in_world_alike, reading_alike}
use Rattle.zw_fresh.proofs.TextLaws.{message_found, inspected_found}
use Rattle.zw_fresh.proofs.WorldLaws.{fresh_object, made_same}
use Rattle.zw_fresh.proofs.ChangeLaws.{in_module_alike, in_object_alike, changing_alike, changing_object_alike}
use Rattle.zw_fresh.proofs.FaultLaws.{ren_list, makes_text_alike, unless_frozen_alike}
use Rattle.zw_fresh.proofs.ValueLaws.{text_same}
use Rattle.zw_fresh.proofs.SiteLaws.{CallAlike}
use Rattle.zw_fresh.proofs.CallLaws.{SiteAlike}
use Rattle.zw_fresh.proofs.KernelRowLaws.{on_module_row, on_object_row}

module _ {calm : Bool} {S : Setting calm} {old : Text → Bool} where
  -- ---- Class, Object and Exception

  instance_alike : {call : Call} → CallAlike S old call → ((r : Value) (x : Text) (vs : List Value) → Spends (call r x vs))
      → (i : Id) (vs : List Value)
      → Alike S old (makes_instance call i vs) (makes_instance call (lifted S.lift i) (ren_list S.lift vs))
  instance_alike c l i vs = in_world_alike (lifted_object S.lift) (λ w w' W. fresh_object W)
      (λ j. both_alike (changing_alike (with_object (new_object i)) (with_object (new_object (lifted S.lift i)))
      (λ w w' W. made_same W (new_object i)) (λ w. refl) (λ w j h. h) nil)
      (both_alike (c (object_at j) (codes "initialize") vs (initialize_plain calm)) (gives_alike (object_at j))))
      (λ j. both_keep (made_keeps (new_object (lifted S.lift i)) nil)
      (both_keep (l (object_at j) (codes "initialize") (ren_list S.lift vs)) (gives_keeps (object_at j))))

  superclass_alike : (o : Option Id)
      → Alike S old (gives (superclass_value o)) (gives (superclass_value (option_map (lifted S.lift) o)))
  superclass_alike None = gives_alike nil
  superclass_alike (Some i) = gives_alike (module_at i)

  pub class_alike : (s : Site) → SiteAlike S old s → (row : ClassRow) (r : Value) (vs : List Value)
      → Alike S old (class_act s row r vs) (class_act s row (ren S.lift r) (ren_list S.lift vs))
  class_alike s of_s class_new r vs = on_module_row (λ i. makes_instance s.sends i vs)
      (λ i. makes_instance s.sends i (ren_list S.lift vs)) (λ i. instance_alike of_s.sends of_s.spends.sends i vs) r
  class_alike s of_s class_superclass r vs = on_module_row _ _ (λ i. in_module_alike i
      (λ m. gives (superclass_value m.superclass)) (λ m. gives (superclass_value m.superclass))
      (λ m c. superclass_alike m.superclass) (λ m. gives_keeps (superclass_value m.superclass))) r

  pub object_alike : (s : Site) (row : ObjectRow) (r : Value) (vs : List Value)
      → Alike S old (object_act s row r vs) (object_act s row (ren S.lift r) (ren_list S.lift vs))
  object_alike s object_initialize r vs = gives_alike nil

  keeps_alike : (vs : List Value) (i : Id) → Alike S old (keeps vs i) (keeps (ren_list S.lift vs) (lifted_object S.lift i))
  keeps_alike [] i = gives_alike nil
  keeps_alike (t ∷ more) i = changing_object_alike i (with_message (text_in t)) (with_message (text_in (ren S.lift t)))
      (λ o. ap (λ u. with_message u (ren_object S.lift o)) (text_same S.lift t)) nil

  pub exception_alike : (s : Site) (row : ExceptionRow) (r : Value) (vs : List Value)
      → Alike S old (exception_act s row r vs) (exception_act s row (ren S.lift r) (ren_list S.lift vs))
  exception_alike s exception_initialize r vs =
      unless_frozen_alike r (on_object_row (keeps vs) (keeps (ren_list S.lift vs)) (keeps_alike vs) r)
  exception_alike s exception_message r vs = on_object_row _ _ (λ i. in_object_alike i
      (λ o. reading (λ w. message_of w o) makes_text) (λ o. reading (λ w. message_of w o) makes_text)
      (λ o. reading_alike (λ w w' W. message_found W o) makes_text_alike makes_text_keeps)
      (λ o. reading_keeps (λ w. message_of w o) makes_text_keeps)) r
  exception_alike s exception_inspect r vs =
      reading_alike (λ w w' W. inspected_found W r) makes_text_alike makes_text_keeps

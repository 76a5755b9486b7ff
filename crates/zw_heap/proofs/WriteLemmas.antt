-- What each change of a record leaves: the heap with that record changed, sound again.
use Rattle.std.proofs.Common.{◌≡◌, Bool, true, false, ℕ, ◌<◌, List, length, get_or, slice_get, Option, Some, refl, ap, sym, ◌∙◌, subst, nat_eq, IfSome}
use Rattle.std.specs.Option.{option_map}
use Rattle.std.specs.List.{All}
use Rattle.std.specs.Map.{lookup}
use Rattle.std.proofs.Math.ListN.{set}
use Rattle.std.proofs.lemmas.List.{set-get_or}
use Rattle.std.proofs.lemmas.List.Elements.{All-cons}
use Rattle.zw_def.specs.Text.{Text}
use Rattle.zw_heap.specs.declared.mark.Sizes.{Sizes}
use Rattle.zw_heap.specs.declared.value.ModuleId.{ModuleId}
use Rattle.zw_heap.specs.declared.value.Value.{Value}
use Rattle.zw_heap.specs.ModuleRecord.{Module, with_include, with_extension, with_variable, with_class_variable, frozen_module}
use Rattle.zw_heap.specs.ObjectRecord.{Object, with_object_variable, with_message, frozen_object}
use Rattle.zw_heap.specs.Heap.{Held, sizes_of, at_module, at_object}
use Rattle.zw_heap.specs.Reach.{Reaches, IsAcyclic}
use Rattle.zw_heap.specs.Founded.{IsFounded, is_class_at}
use Rattle.zw_heap.proofs.FoundedLemmas.{IsFounded-same, IsFounded-included}
use Rattle.zw_heap.proofs.ReachLemmas.{IsAcyclic-same, IsAcyclic-included}
use Rattle.zw_heap.specs.Sound.{IsIn, EntryIn, ModuleIn, ObjectIn, IsSound}
use Rattle.zw_heap.proofs.ListLemmas.{All-at, changed_at-set, slice_get-read}
use Rattle.zw_heap.proofs.ChangeLemmas.{IsSound-module, IsSound-object, AllIn-inserted, IsIn-lookup}

-- ---- what a changed record holds

module _ (s : Sizes) (m : Module) (a : ModuleIn s m) where
  pub ModuleIn-with_include : (i : ModuleId) → i.0 < s.modules → ModuleIn s (with_include i m)
  ModuleIn-with_include i lt = record { path = a.path; kind = a.kind; includes = All-cons (λ (j : ModuleId). j.0 < s.modules) i m.includes lt a.includes; extensions = a.extensions; variables = a.variables; class_variables = a.class_variables }

  pub ModuleIn-with_extension : (i : ModuleId) → i.0 < s.modules → ModuleIn s (with_extension i m)
  ModuleIn-with_extension i lt = record { path = a.path; kind = a.kind; includes = a.includes; extensions = All-cons (λ (j : ModuleId). j.0 < s.modules) i m.extensions lt a.extensions; variables = a.variables; class_variables = a.class_variables }

  pub ModuleIn-with_variable : (x : ℕ) (to : Value) → x < s.names → IsIn s to → ModuleIn s (with_variable x to m)
  ModuleIn-with_variable x to lt known = record { path = a.path; kind = a.kind; includes = a.includes; extensions = a.extensions; variables = AllIn-inserted s x to lt known m.variables a.variables; class_variables = a.class_variables }

  pub ModuleIn-with_class_variable : (x : ℕ) (to : Value) → x < s.names → IsIn s to → ModuleIn s (with_class_variable x to m)
  ModuleIn-with_class_variable x to lt known = record { path = a.path; kind = a.kind; includes = a.includes; extensions = a.extensions; variables = a.variables; class_variables = AllIn-inserted s x to lt known m.class_variables a.class_variables }

module _ (s : Sizes) (o : Object) (a : ObjectIn s o) where
  pub ObjectIn-with_variable : (x : ℕ) (to : Value) → x < s.names → IsIn s to → ObjectIn s (with_object_variable x to o)
  ObjectIn-with_variable x to lt known = record { class = a.class; variables = AllIn-inserted s x to lt known o.variables a.variables }

  pub ObjectIn-with_message : (t : Text) → ObjectIn s (with_message t o)
  ObjectIn-with_message t = record { class = a.class; variables = a.variables }

-- ---- a module's record; h is what is held, g what a clause calls so

module _ (h g : Held) (sound : IsSound h) (view : h ≡ g) (n : ModuleId) (known : n.0 < length g.modules) (m : Module) (read : m ≡ get_or h.modules n.0 m) where
  module_at : slice_get h.modules n.0 ≡ Some m
  module_at = slice_get-read h.modules n.0 m (subst (λ (k : Held). n.0 < length k.modules) (sym view) known) read

  pub module_told : slice_get g.modules n.0 ≡ Some m
  module_told = subst (λ (k : Held). slice_get k.modules n.0 ≡ Some m) view module_at

  pub module_in : ModuleIn (sizes_of h) m
  module_in = All-at (ModuleIn (sizes_of h)) h.modules n.0 m sound.within.modules_in module_at

  pub frozen_module_told : (b : Bool) → b ≡ m.is_frozen → option_map (λ (x : Module). x.is_frozen) (slice_get g.modules n.0) ≡ Some b
  frozen_module_told b e = ap (option_map (λ (x : Module). x.is_frozen)) module_told ∙ ap Some (sym e)

  pub at_module-is : (f : Module → Module) (new : Module) → new ≡ f m → record h { modules = set h.modules n.0 new } ≡ at_module n f g
  at_module-is f new e =
      ap (λ x. record h { modules = set h.modules n.0 x }) e ∙ ap (λ xs. record h { modules = xs }) (changed_at-set f h.modules n.0 m module_at) ∙ ap (at_module n f) view

  pub same_ways : (f : Module → Module) → (f m).kind ≡ m.kind → (f m).includes ≡ m.includes → IsAcyclic (set h.modules n.0 (f m))
  same_ways f kind includes = IsAcyclic-same h.modules n.0 m (f m) module_at kind includes sound.acyclic

  pub more_ways : (added : ModuleId) → (Reaches g.modules added.0 n.0 → ⊥) → IsAcyclic (set h.modules n.0 (with_include added m))
  more_ways added apart = IsAcyclic-included h.modules n.0 m (with_include added m) module_at added refl refl (subst (λ (k : Held). Reaches k.modules added.0 n.0 → ⊥) (sym view) apart) sound.acyclic

  pub same_order : (f : Module → Module) → (f m).kind ≡ m.kind → (f m).includes ≡ m.includes → IsFounded (set h.modules n.0 (f m))
  same_order f kind includes = IsFounded-same h.modules n.0 m (f m) module_at kind includes sound.founded

  pub more_order : (added : ModuleId) → is_class_at g.modules added.0 false → IsFounded (set h.modules n.0 (with_include added m))
  more_order added plain = IsFounded-included h.modules n.0 m (with_include added m) added module_at refl refl (subst (λ (k : Held). is_class_at k.modules added.0 false) (sym view) plain) sound.founded

  pub IsSound-at_module : (f : Module → Module) (new : Module) → new ≡ f m → (b : Bool) → b ≡ m.is_frozen → b ≡ false → (f m).made ≡ m.made → ModuleIn (sizes_of h) (f m) → IsAcyclic (set h.modules n.0 (f m)) → IsFounded (set h.modules n.0 (f m)) →
      IsSound (record h { modules = set h.modules n.0 new })
  IsSound-at_module f new e b is no' made within acyclic founded =
      subst (λ x. IsSound (record h { modules = set h.modules n.0 x })) (sym e)
      (IsSound-module h sound n.0 m (f m) module_at (sym is ∙ no') made within acyclic founded)

  pub IsSound-frozen_module : (new : Module) → new ≡ frozen_module m → IsSound (record h { modules = set h.modules n.0 new })
  IsSound-frozen_module new e = by m.is_frozen refl
    where
      by : (b : Bool) → b ≡ m.is_frozen → IsSound (record h { modules = set h.modules n.0 new })
      by true is =
          let same : frozen_module m ≡ m = (λ i. record m { is_frozen = is i }) in
          subst (λ xs. IsSound (record h { modules = xs })) (sym (ap (set h.modules n.0) (e ∙ same ∙ read) ∙ set-get_or h.modules n.0 m)) sound
      by false is = IsSound-at_module frozen_module new e false is refl refl (record { path = module_in.path; kind = module_in.kind; includes = module_in.includes; extensions = module_in.extensions; variables = module_in.variables; class_variables = module_in.class_variables }) (same_ways frozen_module refl refl) (same_order frozen_module refl refl)

-- ---- an object's record

module _ (h g : Held) (sound : IsSound h) (view : h ≡ g) (n : ℕ) (known : n < length g.objects) (o : Object) (read : o ≡ get_or h.objects n o) where
  object_at : slice_get h.objects n ≡ Some o
  object_at = slice_get-read h.objects n o (subst (λ (k : Held). n < length k.objects) (sym view) known) read

  pub object_told : slice_get g.objects n ≡ Some o
  object_told = subst (λ (k : Held). slice_get k.objects n ≡ Some o) view object_at

  pub object_in : ObjectIn (sizes_of h) o
  object_in = All-at (ObjectIn (sizes_of h)) h.objects n o sound.within.objects_in object_at

  pub frozen_object_told : (b : Bool) → b ≡ o.is_frozen → option_map (λ (x : Object). x.is_frozen) (slice_get g.objects n) ≡ Some b
  frozen_object_told b e = ap (option_map (λ (x : Object). x.is_frozen)) object_told ∙ ap Some (sym e)

  pub at_object-is : (f : Object → Object) (new : Object) → new ≡ f o → record h { objects = set h.objects n new } ≡ at_object n f g
  at_object-is f new e =
      ap (λ x. record h { objects = set h.objects n x }) e ∙ ap (λ xs. record h { objects = xs }) (changed_at-set f h.objects n o object_at) ∙ ap (at_object n f) view

  pub IsSound-at_object : (f : Object → Object) (new : Object) → new ≡ f o → (b : Bool) → b ≡ o.is_frozen → b ≡ false → (f o).made ≡ o.made → ObjectIn (sizes_of h) (f o) →
      IsSound (record h { objects = set h.objects n new })
  IsSound-at_object f new e b is no' made within =
      subst (λ x. IsSound (record h { objects = set h.objects n x })) (sym e)
      (IsSound-object h sound n o (f o) object_at (sym is ∙ no') made within)

  pub IsSound-frozen_object : (new : Object) → new ≡ frozen_object o → IsSound (record h { objects = set h.objects n new })
  IsSound-frozen_object new e = by o.is_frozen refl
    where
      by : (b : Bool) → b ≡ o.is_frozen → IsSound (record h { objects = set h.objects n new })
      by true is =
          let same : frozen_object o ≡ o = (λ i. record o { is_frozen = is i }) in
          subst (λ xs. IsSound (record h { objects = xs })) (sym (ap (set h.objects n) (e ∙ same ∙ read) ∙ set-get_or h.objects n o)) sound
      by false is = IsSound-at_object frozen_object new e false is refl refl (record { class = object_in.class; variables = object_in.variables })

-- ---- variables that are read

pub looked_up : (h g : Held) → h ≡ g → (o : Option Value) (x : ℕ) (es : List (ℕ × Value)) → o ≡ lookup (nat_eq x) es → All (EntryIn (sizes_of h)) es → IfSome o (IsIn (sizes_of g))
looked_up h g view o x es e all =
    subst (λ (k : Held). IfSome o (IsIn (sizes_of k))) view (subst (λ r. IfSome r (IsIn (sizes_of h))) (sym e) (IsIn-lookup (sizes_of h) x es all))

pub looked_up_told : {A : Type 0} (f : A → List (ℕ × Value)) (a : A) (r : Option A) (o : Option Value) (x : ℕ) → r ≡ Some a → o ≡ lookup (nat_eq x) (f a) → option_map (lookup (nat_eq x)) (option_map f r) ≡ Some o
looked_up_told f a r o x e found = ap (λ k. option_map (lookup (nat_eq x)) (option_map f k)) e ∙ ap Some (sym found)

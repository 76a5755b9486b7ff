-- Exceptions that are raised, and what is made, at points alike.
use Prim.Native.String.{String}
use Rattle.std.specs.Prelude.{◌≡◌, ℕ, ℤ, ◌+◌, ◌/◌, Bool, true, nat_lt, List, [], ◌∷◌, ◌++◌, codes, length, map, max}
use Rattle.std.proofs.Common.{refl, sym, ap, ◌∙◌, subst}
use Rattle.std.proofs.lemmas.List.{length-map}
use Rattle.zw_def.specs.Text.{Text}
use Rattle.zw_def_world.specs.Id.{Id, boot_id}
use Rattle.zw_def_world.specs.CoreClass.{core_count}
use Rattle.zw_def_world.specs.Value.{Value, Values, nil, truth, int, text, symbol, array, module_at, object_at, no_values, value_then, array_of}
use Rattle.zw_def_world.specs.World.{with_object}
use Rattle.zw_def_world.specs.Making.{exception, raises, max_text, max_items, max_nesting, too_long, fails, makes_text, nesting, nesting_of, pays_array, makes_array, fits, makes_integer}
use Rattle.zw_def_world.specs.Fault.{quote, no_constant, fails_for, no_variable, no_method, private_method, no_super, no_module, frozen_fault, unless_frozen, wrong_number, wrong_kind, no_comparison}
use Rattle.zw_def_world.specs.Definition.{on_module_or_fault}
use Rattle.zw_def_world.specs.Act.{Act, gives, raised, changing, paid}
use Rattle.zw_def_world.proofs.EvolutionLaws.{keeping, if_keeps, both_keep, made_keeps, ends_keeps}
use Rattle.zw_def_world.proofs.FaultLaws.{fails_keeps, frozen_fault_keeps}
use Rattle.zw_fresh.specs.Renaming.{Names, lifted, lifted_object, ren, ren_all, ren_object}
use Rattle.zw_fresh.specs.Alike.{Setting}
use Rattle.zw_fresh.proofs.ActLaws.{Alike, ends_alike, gives_alike, both_alike, if_alike, if_same_alike, in_world_alike, reading_alike, paid_alike}
use Rattle.zw_fresh.proofs.TextLaws.{told_found, inspected_found, is_frozen_found, class_name_found}
use Rattle.zw_fresh.proofs.WorldLaws.{fresh_object, made_same}
use Rattle.zw_fresh.proofs.ChangeLaws.{changing_alike, in_module_alike}

-- the values there
abbrev pub ren_list : Names → List Value → List Value
ren_list f vs = map (ren f) vs

pub array_same : (f : Names) (vs : List Value) → array_of (ren_list f vs) ≡ ren_all f (array_of vs)
array_same f [] = refl
array_same f (v ∷ vs) = ap (value_then (ren f v)) (array_same f vs)

mutual
  pub nesting_same : (f : Names) (v : Value) → nesting (ren f v) ≡ nesting v
  nesting_same f nil = refl
  nesting_same f (truth b) = refl
  nesting_same f (int z) = refl
  nesting_same f (text t) = refl
  nesting_same f (symbol t) = refl
  nesting_same f (array vs) = nestings_same f 1 1 vs refl
  nesting_same f (module_at i) = refl
  nesting_same f (object_at i) = refl

  pub nestings_same : (f : Names) (n m : ℕ) (vs : Values) → m ≡ n → nesting_of m (ren_all f vs) ≡ nesting_of n vs
  nestings_same f n m no_values e = e
  nestings_same f n m (value_then v vs) e = nestings_same f _ _ vs (λ k. max (e k) (nesting_same f v k + 1))

module _ {calm : Bool} {S : Setting calm} {old : Text → Bool} where
  -- ---- exceptions

  -- of a class of boot's
  pub raises_alike : (n : ℕ) → nat_lt n core_count ≡ true → (t : Text)
      → Alike S old (raises (boot_id n) t) (raises (boot_id n) t)
  raises_alike n core t =
      in_world_alike (lifted_object S.lift) (λ w w' W. fresh_object W)
      (λ i. both_alike made (ends_alike (raised i))) (λ i. both_keep (made_keeps (exception (boot_id n) t) nil) (ends_keeps (raised i)))
    where
      made : Alike S old (changing (with_object (exception (boot_id n) t)) nil) (changing (with_object (exception (boot_id n) t)) nil)
      made = subst (λ c. Alike S old (changing (with_object (exception (boot_id n) t)) nil) (changing (with_object (exception c t)) nil))
          (S.core_stays n core)
          (changing_alike (with_object (exception (boot_id n) t)) (with_object (ren_object S.lift (exception (boot_id n) t)))
          (λ w w' W. made_same W (exception (boot_id n) t)) (λ w. refl) (λ w j h. h) nil)

  pub too_long_alike : Alike S old too_long too_long
  too_long_alike = raises_alike 20 refl (codes "text too long")

  pub fails_alike : (n : ℕ) → nat_lt n core_count ≡ true → (t : Text)
      → Alike S old (fails (boot_id n) t) (fails (boot_id n) t)
  fails_alike n core t = if_alike (nat_lt max_text (length t)) too_long_alike (raises_alike n core t)

  -- ---- what is made

  pub makes_text_alike : (t : Text) → Alike S old (makes_text t) (makes_text t)
  makes_text_alike t =
      if_alike (nat_lt max_text (length t)) too_long_alike (paid_alike (length t / 64) (gives_alike (text t)))

  pub makes_integer_alike : (z : ℤ) → Alike S old (makes_integer z) (makes_integer z)
  makes_integer_alike z = if_alike (fits z) (gives_alike (int z)) (raises_alike 20 refl (codes "integer out of range"))

  pays_array_alike : (vs : List Value) → Alike S old (pays_array vs) (pays_array (ren_list S.lift vs))
  pays_array_alike vs =
      subst (λ n. Alike S old (pays_array vs) (paid n (gives (array (array_of (ren_list S.lift vs))))))
      (sym (length-map vs (ren S.lift)))
      (paid_alike (length vs) (subst (λ us. Alike S old (gives (array (array_of vs))) (gives (array us)))
      (sym (array_same S.lift vs)) (gives_alike (array (array_of vs)))))

  pub makes_array_alike : (vs : List Value) → Alike S old (makes_array vs) (makes_array (ren_list S.lift vs))
  makes_array_alike vs =
      if_same_alike (ap (nat_lt max_items) (length-map vs (ren S.lift))) (raises_alike 20 refl (codes "array too long"))
      (if_same_alike (ap (nat_lt max_nesting) (ap (nesting_of 1) (array_same S.lift vs) ∙ nestings_same S.lift 1 1 (array_of vs) refl))
      (raises_alike 20 refl (codes "array nested too deep")) (pays_array_alike vs))

  -- ---- faults

  pub no_constant_alike : (i : Id) (n : Text) → Alike S old (no_constant i n) (no_constant (lifted S.lift i) n)
  no_constant_alike i n = in_module_alike i _ _ (λ m c. search fails_alike) (λ m. search fails_keeps)

  pub fails_for_alike : (n : ℕ) → nat_lt n core_count ≡ true → (start x : Text) (v : Value)
      → Alike S old (fails_for (boot_id n) start x v) (fails_for (boot_id n) start x (ren S.lift v))
  fails_for_alike n core start x v =
      let message : Text → Text = λ t. start ++ quote x ++ codes " for " ++ t in
      reading_alike (λ w w' W. told_found W v) (λ t. fails_alike n core (message t)) (λ t. fails_keeps (boot_id n) (message t))

  pub no_variable_alike : (v : Value) (x : Text) → Alike S old (no_variable v x) (no_variable (ren S.lift v) x)
  no_variable_alike v x = fails_for_alike 19 refl (codes "undefined local variable or method ") x v

  pub no_method_alike : (v : Value) (x : Text) → Alike S old (no_method v x) (no_method (ren S.lift v) x)
  no_method_alike v x = fails_for_alike 24 refl (codes "undefined method ") x v

  pub no_super_alike : (v : Value) (x : Text) → Alike S old (no_super v x) (no_super (ren S.lift v) x)
  no_super_alike v x = fails_for_alike 24 refl (codes "super: no superclass method ") x v

  pub private_method_alike : (v : Value) (x : Text) → Alike S old (private_method v x) (private_method (ren S.lift v) x)
  private_method_alike v x =
      reading_alike (λ w w' W. told_found W v) (λ t. search fails_alike) (λ t. search fails_keeps)

  pub no_module_alike : (v : Value) → Alike S old (no_module v) (no_module (ren S.lift v))
  no_module_alike v = reading_alike (λ w w' W. inspected_found W v) (λ t. search fails_alike) (λ t. search fails_keeps)

  pub frozen_fault_alike : (v : Value) → Alike S old (frozen_fault v) (frozen_fault (ren S.lift v))
  frozen_fault_alike v = reading_alike (λ w w' W. inspected_found W v) (λ t. search fails_alike) (λ t. search fails_keeps)

  pub unless_frozen_alike : (v : Value) {m m' : Act} → Alike S old m m'
      → Alike S old (unless_frozen v m) (unless_frozen (ren S.lift v) m')
  unless_frozen_alike v a = reading_alike (λ w w' W. is_frozen_found W v)
      (λ b. if_alike b (frozen_fault_alike v) a) (λ b. if_keeps b (frozen_fault_keeps (ren S.lift v)) a.spends)

  pub wrong_number_alike : (given least most : ℕ) (endless : Bool)
      → Alike S old (wrong_number given least most endless) (wrong_number given least most endless)
  wrong_number_alike given least most endless = search fails_alike

  pub wrong_kind_alike : (v : Value) (kind : String) → Alike S old (wrong_kind v kind) (wrong_kind (ren S.lift v) kind)
  wrong_kind_alike v kind =
      reading_alike (λ w w' W. class_name_found W v) (λ t. search fails_alike) (λ t. search fails_keeps)

  pub no_comparison_alike : (u v : Value) → Alike S old (no_comparison u v) (no_comparison (ren S.lift u) (ren S.lift v))
  no_comparison_alike u v = reading_alike (λ w w' W. class_name_found W u)
      (λ one. reading_alike (λ w w' W. class_name_found W v) (λ other. search fails_alike) (λ t. search fails_keeps))
      (λ one. search (keeping, fails_keeps))

-- ---- modules, or a fault

module _ {calm : Bool} {S : Setting calm} {old : Text → Bool} where
  pub on_module_alike : (k k' : Id → Act) → ((i : Id) → Alike S old (k i) (k' (lifted S.lift i))) → (v : Value)
      → Alike S old (on_module_or_fault k v) (on_module_or_fault k' (ren S.lift v))
  on_module_alike k k' b nil = no_module_alike nil
  on_module_alike k k' b (truth bit) = no_module_alike (truth bit)
  on_module_alike k k' b (int z) = no_module_alike (int z)
  on_module_alike k k' b (text t) = no_module_alike (text t)
  on_module_alike k k' b (symbol t) = no_module_alike (symbol t)
  on_module_alike k k' b (array vs) = no_module_alike (array vs)
  on_module_alike k k' b (module_at i) = b i
  on_module_alike k k' b (object_at i) = no_module_alike (object_at i)

-- What boot defines, in two worlds whose modules are alike.
use Rattle.std.specs.Prelude.{◌≡◌, Bool, true, false, List, [], ◌∷◌, is_some, Option, Some, None, if◌then◌else◌}
use Rattle.std.specs.Option.{option_map, unwrap_or}
use Rattle.std.proofs.Common.{refl, sym, ap, ◌∙◌, subst}
use Rattle.zw_def.specs.Text.{Text}
use Rattle.zw_def.specs.ConstantPath.{ConstantPath}
use Rattle.zw_def.specs.Nesting.{same_names, child}
use Rattle.zw_def.specs.Map.{undefined, own_module}
use Rattle.zw_def_world.specs.Missing.{bind}
use Rattle.zw_def_world.specs.Id.{Id}
use Rattle.zw_def_world.specs.CoreClass.{Object_class}
use Rattle.zw_def_world.specs.Value.{Value, as_module}
use Rattle.zw_def_world.specs.Table.{at}
use Rattle.zw_def_world.specs.World.{World}
use Rattle.zw_def_world.specs.BootTable.{Constant, absent, named_module, other_value, if_named, constant_from, constant_of, from_module, leads_from, boot_module, standing_as, standing_from, standing_of, boot_of}
use Rattle.zw_def_world.specs.Setup.{is_told, leading}
use Rattle.zw_fresh.specs.Renaming.{Names, lifted, ren, ren_module}
use Rattle.zw_fresh.specs.Alike.{Setting, Found, Met}
use Rattle.zw_fresh.proofs.TableLemmas.{at-made}
use Rattle.zw_fresh.proofs.FoundLaws.{some_found, found_bind, found_map, met_bind, met_map}
use Rattle.zw_fresh.proofs.TextLaws.{as_it_is}
use Rattle.zw_fresh.proofs.MethodLaws.{as_module_same}
use Rattle.zw_fresh.proofs.SessionLaws.{found_same}

abbrev ren_constant : Names → Constant → Constant
ren_constant f absent = absent
ren_constant f (named_module i) = named_module (lifted f i)
ren_constant f other_value = other_value

named_same : (f : Names) (i : Id) (b : Bool)
    → (if b then named_module (lifted f i) else other_value) ≡ ren_constant f (if b then named_module i else other_value)
named_same f i true = refl
named_same f i false = refl

-- modules alike
abbrev pub ModulesMeet : Setting false → World → World → Type 0
ModulesMeet S w w' = (i : Id) → Met false (λ m m'. m' ≡ ren_module S.lift m) (w.modules i) (w'.modules (lifted S.lift i))

module _ (S : Setting false) (w w' : World) (W : ModulesMeet S w w') where
  named_found : (p : ConstantPath) (o : Option Id)
      → Found false (ren_constant S.lift) (if_named w p o) (if_named w' p (option_map (lifted S.lift) o))
  named_found p None = some_found other_value refl
  named_found p (Some i) = met_map false (λ m m'. m' ≡ ren_module S.lift m)
      (λ m. if same_names m.path p then named_module i else other_value)
      (λ m. if same_names m.path p then named_module (lifted S.lift i) else other_value) (w.modules i)
      (w'.modules (lifted S.lift i)) (W i) (λ m m' e.
      ap (λ z. if same_names z.path p then named_module (lifted S.lift i) else other_value) e
      ∙ named_same S.lift i (same_names m.path p))

  from_found : (p : ConstantPath) (o : Option Value)
      → Found false (ren_constant S.lift) (constant_from w p o) (constant_from w' p (option_map (ren S.lift) o))
  from_found p None = some_found absent refl
  from_found p (Some v) = subst (λ o. Found false (ren_constant S.lift) (if_named w p (as_module v)) (if_named w' p o))
      (sym (as_module_same S v)) (named_found p (as_module v))

  constant_found : (i : Id) (n : Text)
      → Found false (ren_constant S.lift) (constant_of w i n) (constant_of w' (lifted S.lift i) n)
  constant_found i n = met_bind false (λ m m'. m' ≡ ren_module S.lift m)
      (λ m. constant_from w (child m.path n) (at n m.constants)) (λ m. constant_from w' (child m.path n) (at n m.constants))
      (w.modules i) (w'.modules (lifted S.lift i)) (W i) (λ m m' e.
      subst (λ z. Found false (ren_constant S.lift) (constant_from w (child m.path n) (at n m.constants))
      (constant_from w' (child z.path n) (at n z.constants))) (sym e)
      (subst (λ o. Found false (ren_constant S.lift) (constant_from w (child m.path n) (at n m.constants))
      (constant_from w' (child m.path n) o)) (sym (at-made (ren S.lift) n m.constants))
      (from_found (child m.path n) (at n m.constants))))

  -- goes on in a module of that very name
  behind_found : {A : Type 0} (g : A → A) (other : A) → other ≡ g other → (go go' : Id → Option A)
      → ((i : Id) → Found false g (go i) (go' (lifted S.lift i))) → (c : Constant)
      → Found false g (from_module other go c) (from_module other go' (ren_constant S.lift c))
  behind_found g other e go go' h absent = some_found other (ap Some e)
  behind_found g other e go go' h (named_module j) = h j
  behind_found g other e go go' h other_value = some_found other (ap Some e)

  leads_found : (p : ConstantPath) (i : Id)
      → Found false (option_map (lifted S.lift)) (leads_from w p i) (leads_from w' p (lifted S.lift i))
  leads_found [] i = some_found (Some i) refl
  leads_found (n ∷ p) i = found_bind (from_module None (leads_from w p)) (from_module None (leads_from w' p))
      (constant_found i n) (behind_found (option_map (lifted S.lift)) None refl (leads_from w p) (leads_from w' p) (leads_found p))

  standing_as_same : (c : Constant) → standing_as (ren_constant S.lift c) ≡ standing_as c
  standing_as_same absent = refl
  standing_as_same (named_module i) = refl
  standing_as_same other_value = refl

  standing_found : (p : ConstantPath) (i : Id)
      → Found false as_it_is (standing_from w p i) (standing_from w' p (lifted S.lift i))
  standing_found [] i = some_found own_module refl
  standing_found (n ∷ []) i = found_map _ _ (constant_found i n) standing_as_same
  standing_found (n ∷ o ∷ p) i = found_bind (from_module undefined (standing_from w (o ∷ p)))
      (from_module undefined (standing_from w' (o ∷ p))) (constant_found i n)
      (behind_found as_it_is undefined refl (standing_from w (o ∷ p)) (standing_from w' (o ∷ p)) (standing_found (o ∷ p)))

  pub standing_of_found : (p : ConstantPath) → Found false as_it_is (standing_of w p) (standing_of w' p)
  standing_of_found p = subst (λ i. Found false as_it_is (standing_of w p) (standing_from w' p i)) (S.core_stays 0 refl)
      (standing_found p Object_class)

  pub boot_of_same : boot_of w' ≡ boot_of w
  boot_of_same = λ k p. unwrap_or (found_same (standing_of_found p) k) undefined

  pub is_told_same : (ps : List ConstantPath) → is_told w' ps ≡ is_told w ps
  is_told_same [] = refl
  is_told_same (p ∷ ps) = λ k. bind (option_map (λ standing. false) (found_same (standing_of_found p) k))
      (λ found. if found then Some true else is_told_same ps k)

  pub boot_module_found : (p : ConstantPath)
      → Found false (option_map (lifted S.lift)) (boot_module w p) (boot_module w' p)
  boot_module_found p = subst (λ i. Found false (option_map (lifted S.lift)) (boot_module w p) (leads_from w' p i))
      (S.core_stays 0 refl) (leads_found p Object_class)

  pub leading_found : (ps : List ConstantPath) → Found false as_it_is (leading w ps) (leading w' ps)
  leading_found [] = some_found [] refl
  leading_found (p ∷ ps) = found_bind
      (λ found. option_map (λ more. if is_some found then p ∷ more else more) (leading w ps))
      (λ found. option_map (λ more. if is_some found then p ∷ more else more) (leading w' ps)) (boot_module_found p)
      (λ found. found_map _ _ (leading_found ps) (λ more. one found more))
    where
      one : (o : Option Id) (more : List ConstantPath) → (if is_some (option_map (lifted S.lift) o) then p ∷ more else more)
          ≡ (if is_some o then p ∷ more else more)
      one None more = refl
      one (Some i) more = refl

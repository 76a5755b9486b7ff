-- Ancestors, classes of values and superclasses in two worlds alike.
use Rattle.std.specs.Prelude.{◌≡◌, ℕ, zero, suc, Bool, true, false, ◌||◌, List, [], ◌∷◌, ◌++◌, Option, Some, None, if◌then◌else◌}
use Rattle.std.specs.Option.{option_map}
use Rattle.std.proofs.Common.{refl, sym, ap, ◌∙◌}
use Rattle.std.proofs.lemmas.List.{map-append}
use Rattle.zw_def_world.specs.Id.{Id}
use Rattle.zw_def_world.specs.CoreClass.{Class, Module_class, Exception}
use Rattle.zw_def_world.specs.Value.{Value, nil, truth, int, text, symbol, array, module_at, object_at}
use Rattle.zw_def_world.specs.World.{World}
use Rattle.zw_def_world.specs.Ancestor.{is_among, listed_with, above_of, ancestors_by, ancestors_within, ancestors, max_height, class_of, makes_exceptions}
use Rattle.zw_def_world.specs.MethodLine.{superclasses_by, superclasses_within, superclasses}
use Rattle.zw_fresh.specs.Renaming.{lifted, lifted_all, ren}
use Rattle.zw_fresh.specs.Alike.{Setting, Found, Worlds}
use Rattle.zw_fresh.proofs.FoundLaws.{some_found, none_found, found_bind, found_map, joined_found, module_bind, module_map, object_map}

module _ {calm : Bool} (S : Setting calm) where
  pub among_lifted : (is : List Id) (i : Id) → is_among (lifted_all S.lift is) (lifted S.lift i) ≡ is_among is i
  among_lifted [] i = refl
  among_lifted (j ∷ js) i = λ k. S.apart i j k || among_lifted js i k

  listed_lifted : (above listed is : List Id)
      → listed_with (lifted_all S.lift above) (lifted_all S.lift listed) (lifted_all S.lift is)
      ≡ lifted_all S.lift (listed_with above listed is)
  listed_lifted above listed [] = refl
  listed_lifted above listed (i ∷ is) =
      let more = lifted_all S.lift listed ++ lifted S.lift i ∷ [] in
      let there : Bool → List Id = λ b. listed_with (lifted_all S.lift above)
      (if b then lifted_all S.lift listed else more) (lifted_all S.lift is) in
      ap there (λ k. among_lifted listed i k || among_lifted above i k)
      ∙ (ap (λ l. listed_with (lifted_all S.lift above) l (lifted_all S.lift is))
      (one (is_among listed i || is_among above i))
      ∙ listed_lifted above (if is_among listed i || is_among above i then listed else listed ++ i ∷ []) is)
    where
      one : (b : Bool) → (if b then lifted_all S.lift listed else lifted_all S.lift listed ++ lifted S.lift i ∷ [])
          ≡ lifted_all S.lift (if b then listed else listed ++ i ∷ [])
      one true = refl
      one false = sym (map-append (lifted S.lift) listed (i ∷ []))

  above_found : (up up' : Id → Option (List Id))
      → ((i : Id) → Found calm (lifted_all S.lift) (up i) (up' (lifted S.lift i))) → (o : Option Id)
      → Found calm (lifted_all S.lift) (above_of up o) (above_of up' (option_map (lifted S.lift) o))
  above_found up up' h None = some_found [] refl
  above_found up up' h (Some i) = h i

  class_of_module_same : (b : Bool) → (if b then Class else Module_class) ≡ lifted S.lift (if b then Class else Module_class)
  class_of_module_same true = sym (S.core_stays 3 refl)
  class_of_module_same false = sym (S.core_stays 2 refl)

module _ {calm : Bool} {S : Setting calm} {w w' : World} (W : Worlds calm S w w') where
  within_found : (n : ℕ) (i : Id)
      → Found calm (lifted_all S.lift) (ancestors_within w n i) (ancestors_within w' n (lifted S.lift i))
  within_found zero i = none_found
  within_found (suc n) i =
      module_bind W (ancestors_by (ancestors_within w n) i)
      (ancestors_by (ancestors_within w' n) (lifted S.lift i)) i (λ m c.
      found_bind _ _ (above_found S _ _ (within_found n) m.superclass) (λ above.
      found_bind _ _ (joined_found _ _ (within_found n) m.includes) (λ included.
      some_found (listed_with above (i ∷ []) included ++ above)
      (ap Some (ap (λ l. l ++ lifted_all S.lift above) (listed_lifted S above (i ∷ []) included)
      ∙ sym (map-append (lifted S.lift) (listed_with above (i ∷ []) included) above))))))

  pub ancestors_found : (i : Id) → Found calm (lifted_all S.lift) (ancestors w i) (ancestors w' (lifted S.lift i))
  unfolding ancestors
  ancestors_found i = within_found max_height i

  above_within_found : (n : ℕ) (i : Id)
      → Found calm (lifted_all S.lift) (superclasses_within w n i) (superclasses_within w' n (lifted S.lift i))
  above_within_found zero i = none_found
  above_within_found (suc n) i =
      module_bind W (superclasses_by (superclasses_within w n) i)
      (superclasses_by (superclasses_within w' n) (lifted S.lift i)) i (λ m c.
      found_map _ _ (above_found S _ _ (above_within_found n) m.superclass) (λ above. refl))

  pub superclasses_found : (i : Id)
      → Found calm (lifted_all S.lift) (superclasses w i) (superclasses w' (lifted S.lift i))
  unfolding superclasses
  superclasses_found i = above_within_found max_height i

  -- ---- classes of values

  pub class_of_found : (v : Value) → Found calm (lifted S.lift) (class_of w v) (class_of w' (ren S.lift v))
  class_of_found nil = some_found _ (ap Some (sym (S.core_stays 4 refl)))
  class_of_found (truth true) = some_found _ (ap Some (sym (S.core_stays 5 refl)))
  class_of_found (truth false) = some_found _ (ap Some (sym (S.core_stays 6 refl)))
  class_of_found (int z) = some_found _ (ap Some (sym (S.core_stays 7 refl)))
  class_of_found (text t) = some_found _ (ap Some (sym (S.core_stays 8 refl)))
  class_of_found (symbol t) = some_found _ (ap Some (sym (S.core_stays 9 refl)))
  class_of_found (array vs) = some_found _ (ap Some (sym (S.core_stays 10 refl)))
  class_of_found (module_at i) = module_map W _ _ i (λ m c. class_of_module_same S m.is_class)
  class_of_found (object_at i) = object_map W _ _ i (λ o. refl)

  pub makes_exceptions_found : (i : Id)
      → Found calm (λ b. b) (makes_exceptions w i) (makes_exceptions w' (lifted S.lift i))
  makes_exceptions_found i = found_map _ _ (ancestors_found i)
      (λ line. ap (is_among (lifted_all S.lift line)) (sym (S.core_stays 11 refl)) ∙ among_lifted S line Exception)

-- What the methods of Module ask of modules, and their changes, in two worlds alike.
use Rattle.std.specs.Prelude.{◌≡◌, Bool, true, false, not, ◌&&◌, List, [], ◌∷◌, Option, Some, None, if◌then◌else◌}
use Rattle.std.specs.Option.{option_map, option_map_or}
use Rattle.std.proofs.Common.{refl, sym, ap, ◌∙◌, subst}
use Rattle.zw_def.specs.Text.{Text}
use Rattle.zw_def_world.specs.Table.{Table, at, assigned}
use Rattle.zw_def_world.specs.Id.{Id, id_eq}
use Rattle.zw_def_world.specs.Value.{nil, truth, module_at}
use Rattle.zw_def_world.specs.Record.{Method, Module}
use Rattle.zw_def_world.specs.World.{World}
use Rattle.zw_def_world.specs.Ancestor.{ancestors, is_among}
use Rattle.zw_def_world.specs.MethodLine.{first_method, instances}
use Rattle.zw_def_world.specs.KernelRows.{is_public}
use Rattle.zw_def_world.specs.ModuleRows.{modules_of, order, order_of, order_or_same, with_include, with_extension, includes_back, is_included, hidden_in, is_defined_in, is_defined_at, is_defined, has_public_instance}
use Rattle.zw_fresh.specs.Renaming.{Names, lifted, lifted_all, ren, ren_method, ren_methods, ren_module}
use Rattle.zw_fresh.specs.Alike.{Setting, Found, Modules, shows, Worlds}
use Rattle.zw_fresh.proofs.TableLemmas.{assigned-made, at-made}
use Rattle.zw_fresh.proofs.FoundLaws.{some_found, found_bind, found_map, found_if, met_map, is_some_so_found, module_bind}
use Rattle.zw_fresh.proofs.AncestorLaws.{among_lifted, ancestors_found}
use Rattle.zw_fresh.proofs.TextLaws.{as_it_is}
use Rattle.zw_fresh.proofs.MethodLaws.{instances_lifted, first_found}
use Rattle.zw_fresh.proofs.FaultLaws.{ren_list}
use Rattle.zw_fresh.proofs.CalmKeyLaws.{defined_same}
use Rattle.zw_fresh.proofs.KernelRowLaws.{is_public_same}
use Rattle.zw_fresh.proofs.LookUpLaws.{scoped_found}

-- ---- what is asked of modules

pub modules_same : (f : Names) (is : List Id) → modules_of (lifted_all f is) ≡ ren_list f (modules_of is)
modules_same f [] = refl
modules_same f (i ∷ is) = ap (λ l. module_at (lifted f i) ∷ l) (modules_same f is)

module _ {calm : Bool} (S : Setting calm) where
  order_same : (below above : List Id) (i j : Id)
      → order (lifted_all S.lift below) (lifted_all S.lift above) (lifted S.lift i) (lifted S.lift j)
      ≡ ren S.lift (order below above i j)
  order_same below above i j =
      (λ k. if among_lifted S below j k then truth (not (S.apart i j k))
      else if among_lifted S above i k then truth false else nil) ∙ one (is_among below j) (is_among above i)
    where
      one : (a b : Bool) → (if a then truth (not (id_eq i j)) else if b then truth false else nil)
          ≡ ren S.lift (if a then truth (not (id_eq i j)) else if b then truth false else nil)
      one true b = refl
      one false true = refl
      one false false = refl

  pub include_same : (j : Id) (m : Module)
      → with_include (lifted S.lift j) (ren_module S.lift m) ≡ ren_module S.lift (with_include j m)
  include_same j m =
      (λ k. if among_lifted S m.includes j k then ren_module S.lift m
      else record (ren_module S.lift m) { includes = lifted S.lift j ∷ lifted_all S.lift m.includes }) ∙ one (is_among m.includes j)
    where
      one : (b : Bool) → (if b then ren_module S.lift m
          else record (ren_module S.lift m) { includes = lifted S.lift j ∷ lifted_all S.lift m.includes })
          ≡ ren_module S.lift (if b then m else record m { includes = j ∷ m.includes })
      one true = refl
      one false = refl

  pub extension_same : (j : Id) (m : Module)
      → with_extension (lifted S.lift j) (ren_module S.lift m) ≡ ren_module S.lift (with_extension j m)
  extension_same j m =
      (λ k. if among_lifted S m.extensions j k then ren_module S.lift m
      else record (ren_module S.lift m) { extensions = lifted S.lift j ∷ lifted_all S.lift m.extensions }) ∙ one (is_among m.extensions j)
    where
      one : (b : Bool) → (if b then ren_module S.lift m
          else record (ren_module S.lift m) { extensions = lifted S.lift j ∷ lifted_all S.lift m.extensions })
          ≡ ren_module S.lift (if b then m else record m { extensions = j ∷ m.extensions })
      one true = refl
      one false = refl

pub hidden_same : (f : Names) (hidden : Bool) (x : Text) (t : Table Method)
    → hidden_in hidden x (ren_methods f t) ≡ ren_methods f (hidden_in hidden x t)
hidden_same f hidden x t =
    ap (λ o. option_map_or (λ method. assigned x (record method { is_private = hidden }) (ren_methods f t)) o (ren_methods f t))
    (at-made (ren_method f) x t) ∙ one (at x t)
  where
    one : (o : Option Method)
        → option_map_or (λ method. assigned x (record method { is_private = hidden }) (ren_methods f t)) (option_map (ren_method f) o) (ren_methods f t)
        ≡ ren_methods f (option_map_or (λ method. assigned x (record method { is_private = hidden }) t) o t)
    one None = refl
    one (Some k) = assigned-made (ren_method f) x (record k { is_private = hidden }) t

module _ {calm : Bool} {S : Setting calm} {w w' : World} (W : Worlds calm S w w') where
  pub order_found : (i j : Id)
      → Found calm (ren S.lift) (order_of w i j) (order_of w' (lifted S.lift i) (lifted S.lift j))
  order_found i j = found_bind _ _ (ancestors_found W i)
      (λ below. found_map _ _ (ancestors_found W j) (λ above. order_same S below above i j))

  pub order_or_found : (i j : Id)
      → Found calm (ren S.lift) (order_or_same w i j) (order_or_same w' (lifted S.lift i) (lifted S.lift j))
  order_or_found i j = found_if (S.apart i j) (some_found (truth true) refl) (order_found i j)

  pub back_found : (i j : Id)
      → Found calm as_it_is (includes_back w i j) (includes_back w' (lifted S.lift i) (lifted S.lift j))
  back_found i j = found_map _ _ (ancestors_found W i) (λ line. among_lifted S line j)

  pub included_found : (i j : Id)
      → Found calm as_it_is (is_included w i j) (is_included w' (lifted S.lift i) (lifted S.lift j))
  included_found i j = module_bind W
      (λ m. option_map (λ line. not (id_eq i j) && not m.is_class && is_among line j) (ancestors w i))
      (λ m. option_map (λ line. not (id_eq (lifted S.lift i) (lifted S.lift j)) && not m.is_class && is_among line (lifted S.lift j))
      (ancestors w' (lifted S.lift i))) j (λ m c. found_map _ _ (ancestors_found W i)
      (λ line k. not (S.apart i j k) && not m.is_class && among_lifted S line j k))

  pub public_found : (i : Id) (x : Text)
      → Found calm as_it_is (has_public_instance w i x) (has_public_instance w' (lifted S.lift i) x)
  public_found i x = found_bind (λ is. option_map is_public (first_method w (λ place. true) x [] (instances is)))
      (λ is. option_map is_public (first_method w' (λ place. true) x [] (instances is))) (ancestors_found W i) (λ is.
      subst (λ l. Found calm as_it_is (option_map is_public (first_method w (λ place. true) x [] (instances is)))
      (option_map is_public (first_method w' (λ place. true) x [] l))) (sym (instances_lifted S is))
      (found_map _ _ (first_found W (λ place. true) (λ place. true) (λ p. refl) x [] (instances is)) (is_public_same S.lift)))

  pub defined_found : (n : Text) (i : Id)
      → Found calm as_it_is (is_defined w n i) (is_defined w' n (lifted S.lift i))
  defined_found n i = found_bind _ _ (scoped_found W i) (is_some_so_found (is_defined_at w n) (is_defined_at w' n) defined_at)
    where
      defined_at : (j : Id) → Found calm as_it_is (is_defined_at w n j) (is_defined_at w' n (lifted S.lift j))
      defined_at j = met_map calm (Modules calm S.lift (shows calm S w)) (is_defined_in w n) (is_defined_in w' n) (w.modules j)
          (w'.modules (lifted S.lift j)) (W.modules j) (defined_same calm S w w' W n)

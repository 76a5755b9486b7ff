-- Eager loading, where no key is stated.
use Rattle.std.specs.Prelude.{◌≡◌, Bool, true, false, List, [], ◌∷◌, Option, Some, None, if◌then◌else◌}
use Rattle.std.specs.Option.{option_map, option_map_or}
use Rattle.std.proofs.Common.{refl, sym, ap, ◌∙◌, subst}
use Rattle.zw_def.specs.Text.{Text}
use Rattle.zw_def.specs.ConstantPath.{ConstantPath}
use Rattle.zw_def.specs.Nesting.{same_names, parent_of, last_name}
use Rattle.zw_def.specs.Map.{Key}
use Rattle.zw_def_syntax.specs.Tree.{Tree as Node}
use Rattle.zw_def_world.specs.Missing.{bind}
use Rattle.zw_def_world.specs.Id.{Id}
use Rattle.zw_def_world.specs.CoreClass.{Object_class}
use Rattle.zw_def_world.specs.Value.{Value, nil, as_module}
use Rattle.zw_def_world.specs.Table.{Table, at}
use Rattle.zw_def_world.specs.World.{World, State, is_idle}
use Rattle.zw_def_world.specs.Eager.{reached_from, if_home, reached, loads_unless_set, loads_at, loads_if_idle, loads_all}
use Rattle.zw_def_world.specs.Act.{Act}
use Rattle.zw_def_world.proofs.LoadLaws.{loads_unless_set_keeps, loads_at_keeps, loads_if_idle_keeps}
use Rattle.zw_fresh.specs.Renaming.{Names, lifted, ren, ren_table, ren_module}
use Rattle.zw_fresh.specs.Alike.{Setting, Found, Worlds}
use Rattle.zw_fresh.proofs.ActLaws.{Alike, gives_alike, both_alike, if_alike, in_world_alike, reading_alike}
use Rattle.zw_fresh.proofs.TableLemmas.{at-made}
use Rattle.zw_fresh.proofs.FoundLaws.{some_found, found_bind, met_bind, module_map}
use Rattle.zw_fresh.proofs.TextLaws.{as_it_is}
use Rattle.zw_fresh.proofs.MethodLaws.{as_module_same}
use Rattle.zw_fresh.proofs.KeyLaws.{in_record_alike}
use Rattle.zw_fresh.proofs.CallLaws.{Evaluates}
use Rattle.zw_fresh.proofs.LoadLaws.{loads_alike}

-- the module that a constant holds
holds_same : {calm : Bool} (S : Setting calm) (n : Text) (t : Table Value)
    → bind (at n (ren_table S.lift t)) as_module ≡ option_map (lifted S.lift) (bind (at n t) as_module)
holds_same S n t = ap (λ o. bind o as_module) (at-made (ren S.lift) n t) ∙ one (at n t)
  where
    one : (o : Option Value) → bind (option_map (ren S.lift) o) as_module ≡ option_map (lifted S.lift) (bind o as_module)
    one None = refl
    one (Some v) = as_module_same S v

home_same : (f : Names) (i : Id) (b : Bool)
    → (if b then Some (lifted f i) else None) ≡ option_map (lifted f) (if b then Some i else None)
home_same f i true = refl
home_same f i false = refl

module _ {S : Setting false} {w w' : World} (W : Worlds false S w w') where
  from_found : (p : ConstantPath) (o : Option Id)
      → Found false (option_map (lifted S.lift)) (reached_from w p o) (reached_from w' p (option_map (lifted S.lift) o))
  from_found [] None = some_found None refl
  from_found (n ∷ p) None = some_found None refl
  from_found [] (Some i) = some_found (Some i) refl
  from_found (n ∷ p) (Some i) = met_bind false (λ m m'. m' ≡ ren_module S.lift m)
      (λ m. reached_from w p (bind (at n m.constants) as_module)) (λ m. reached_from w' p (bind (at n m.constants) as_module))
      (w.modules i) (w'.modules (lifted S.lift i)) (W.modules i) (λ m m' e.
      subst (λ o. Found false (option_map (lifted S.lift)) (reached_from w p (bind (at n m.constants) as_module)) (reached_from w' p o))
      (sym (ap (λ z. bind (at n z.constants) as_module) e ∙ holds_same S n m.constants))
      (from_found p (bind (at n m.constants) as_module)))

  home_found : (p : ConstantPath) (o : Option Id)
      → Found false (option_map (lifted S.lift)) (if_home w p o) (if_home w' p (option_map (lifted S.lift) o))
  home_found p None = some_found None refl
  home_found p (Some i) = module_map W _ _ i (λ m c. home_same S.lift i (option_map_or (same_names p) m.home false))

  reached_found : (p : ConstantPath) → Found false (option_map (lifted S.lift)) (reached w p) (reached w' p)
  reached_found p = found_bind (if_home w p) (if_home w' p)
      (subst (λ i. Found false (option_map (lifted S.lift)) (reached_from w p (Some Object_class)) (reached_from w' p (Some i)))
      (S.core_stays 0 refl) (from_found p (Some Object_class))) (home_found p)

module _ {S : Setting false} {go : Node → Act} (E : Evaluates S go) {old : Text → Bool} where
  unless_set_alike : (k : Key) (i : Id) (o : Option Value)
      → Alike S old (loads_unless_set go k i o) (loads_unless_set go k (lifted S.lift i) (option_map (ren S.lift) o))
  unless_set_alike k i None = loads_alike E k i (last_name k.path)
  unless_set_alike k i (Some v) = gives_alike nil

  at_alike : (k : Key) (o : Option Id) → Alike S old (loads_at go k o) (loads_at go k (option_map (lifted S.lift) o))
  at_alike k None = gives_alike nil
  at_alike k (Some i) = in_record_alike i _ _ (λ m.
      subst (λ o. Alike S old (loads_unless_set go k i (at (last_name k.path) m.constants)) (loads_unless_set go k (lifted S.lift i) o))
      (sym (at-made (ren S.lift) (last_name k.path) m.constants)) (unless_set_alike k i (at (last_name k.path) m.constants)))
      (λ m. loads_unless_set_keeps E.spends k (lifted S.lift i) (at (last_name k.path) m.constants))

  idle_alike : (k : Key) (s : State) → Alike S old (loads_if_idle go k s) (loads_if_idle go k s)
  idle_alike k s = if_alike (is_idle s)
      (reading_alike (λ w w' W. reached_found W (parent_of k.path)) (at_alike k) (loads_at_keeps E.spends k)) (gives_alike nil)

  pub loads_all_alike : (keys : List Key) → Alike S old (loads_all go keys) (loads_all go keys)
  loads_all_alike [] = gives_alike nil
  loads_all_alike (k ∷ ks) = both_alike
      (in_world_alike as_it_is (λ w w' W. W.states k.path) (idle_alike k) (loads_if_idle_keeps E.spends k)) (loads_all_alike ks)

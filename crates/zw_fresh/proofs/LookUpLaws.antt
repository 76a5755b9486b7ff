-- Look-ups of constants keep points alike.
use Rattle.std.specs.Prelude.{◌≡◌, Bool, true, false, not, ◌&&◌, List, [], ◌∷◌, ◌++◌, filter, Option, Some, None, if◌then◌else◌}
use Rattle.std.specs.Option.{option_map}
use Rattle.std.proofs.Common.{refl, sym, ap, ◌∙◌, subst}
use Rattle.std.proofs.lemmas.List.{map-append}
use Rattle.zw_def.specs.Text.{Text}
use Rattle.zw_def.specs.Map.{Key}
use Rattle.zw_def_syntax.specs.Tree.{Tree as Node}
use Rattle.zw_def_world.specs.Id.{Id, id_eq}
use Rattle.zw_def_world.specs.CoreClass.{Object_class, Kernel}
use Rattle.zw_def_world.specs.Value.{Value}
use Rattle.zw_def_world.specs.Table.{at}
use Rattle.zw_def_world.specs.Record.{Module}
use Rattle.zw_def_world.specs.World.{World}
use Rattle.zw_def_world.specs.Ancestor.{ancestors}
use Rattle.zw_def_world.specs.LookUp.{is_other_than, asked_last, unscoped_modules, below_object, scoped_modules, top_modules}
use Rattle.zw_def_world.specs.Load.{sought, known, asks, or_else, resolves, unscoped_from, unscoped, scoped}
use Rattle.zw_def_world.specs.Frame.{innermost_scope}
use Rattle.zw_def_world.specs.Act.{Act, reading}
use Rattle.zw_def_world.proofs.EvolutionLaws.{keeping, met_keeps}
use Rattle.zw_def_world.proofs.LoadLaws.{sought_keeps, known_keeps, or_else_keeps, resolves_keeps, unscoped_from_keeps}
use Rattle.zw_fresh.specs.Renaming.{lifted, lifted_all, ren, ren_table, ren_module}
use Rattle.zw_fresh.specs.Alike.{Setting, Found, Worlds}
use Rattle.zw_fresh.proofs.EndLaws.{Spends}
use Rattle.zw_fresh.proofs.ActLaws.{Alike, gives_alike, both_alike, in_world_alike, in_frame_alike, reading_alike}
use Rattle.zw_fresh.proofs.TableLemmas.{at-made}
use Rattle.zw_fresh.proofs.FoundLaws.{core_same, core_same_back, found_map, module_bind}
use Rattle.zw_fresh.proofs.AncestorLaws.{ancestors_found}
use Rattle.zw_fresh.proofs.TextLaws.{as_it_is}
use Rattle.zw_fresh.proofs.ChangeLaws.{meeting_alike}
use Rattle.zw_fresh.proofs.FaultLaws.{no_constant_alike}
use Rattle.zw_fresh.proofs.FrameLaws.{innermost_same}
use Rattle.zw_fresh.proofs.KeyLaws.{loadable_same, in_record_alike}
use Rattle.zw_fresh.proofs.CallLaws.{Evaluates}
use Rattle.zw_fresh.proofs.LoadLaws.{loads_alike}
use Rattle.zw_fresh.proofs.CalmLookUpLaws.{asks_calmly}

-- ---- the modules that are asked

module _ {calm : Bool} (S : Setting calm) where
  kept_lifted : (test test' : Id → Bool) → ((i : Id) → test' (lifted S.lift i) ≡ test i) → (is : List Id)
      → filter test' (lifted_all S.lift is) ≡ lifted_all S.lift (filter test is)
  kept_lifted test test' h [] = refl
  kept_lifted test test' h (i ∷ is) =
      (λ k. if h i k then lifted S.lift i ∷ kept_lifted test test' h is k else kept_lifted test test' h is k) ∙ one (test i)
    where
      one : (b : Bool)
          → (if b then lifted S.lift i ∷ lifted_all S.lift (filter test is) else lifted_all S.lift (filter test is))
          ≡ lifted_all S.lift (if b then i ∷ filter test is else filter test is)
      one true = refl
      one false = refl

  last_same : (b : Bool) → (if b then [] else Object_class ∷ []) ≡ lifted_all S.lift (if b then [] else Object_class ∷ [])
  last_same true = refl
  last_same false = ap (λ i. i ∷ []) (sym (S.core_stays 0 refl))

  not_object_same : (i : Id) → is_other_than Object_class (lifted S.lift i) ≡ is_other_than Object_class i
  not_object_same i = ap not (core_same_back S i 0 refl)

  below_same : (i : Id) → (is_other_than Object_class (lifted S.lift i) && is_other_than Kernel (lifted S.lift i))
      ≡ (is_other_than Object_class i && is_other_than Kernel i)
  below_same i = λ k. not_object_same i k && not (core_same_back S i 1 refl k)

  scoped_same : (i : Id) (line : List Id)
      → (if id_eq (lifted S.lift i) Object_class then lifted_all S.lift line else below_object (lifted_all S.lift line))
      ≡ lifted_all S.lift (if id_eq i Object_class then line else below_object line)
  scoped_same i line =
      (λ k. if core_same S i 0 refl k then lifted_all S.lift line
      else kept_lifted (λ i. is_other_than Object_class i && is_other_than Kernel i)
      (λ i. is_other_than Object_class i && is_other_than Kernel i) below_same line k) ∙ one (id_eq i Object_class)
    where
      one : (b : Bool) → (if b then lifted_all S.lift line else lifted_all S.lift (below_object line))
          ≡ lifted_all S.lift (if b then line else below_object line)
      one true = refl
      one false = refl

module _ {calm : Bool} {S : Setting calm} {w w' : World} (W : Worlds calm S w w') where
  pub unscoped_found : (is : List Id)
      → Found calm (lifted_all S.lift) (unscoped_modules w is) (unscoped_modules w' (lifted_all S.lift is))
  unscoped_found [] = subst (λ i. Found calm (lifted_all S.lift) (ancestors w Object_class) (ancestors w' i))
      (S.core_stays 0 refl) (ancestors_found W Object_class)
  unscoped_found (i ∷ is) = module_bind W
      (λ m. option_map (λ line. filter (is_other_than Object_class) (i ∷ is) ++ line ++ asked_last m) (ancestors w i))
      (λ m. option_map (λ line. filter (is_other_than Object_class) (lifted_all S.lift (i ∷ is)) ++ line ++ asked_last m)
      (ancestors w' (lifted S.lift i))) i (λ m c. found_map _ _ (ancestors_found W i) (λ line.
      (λ k. kept_lifted S (is_other_than Object_class) (is_other_than Object_class) (not_object_same S) (i ∷ is) k
      ++ lifted_all S.lift line ++ last_same S m.is_class k)
      ∙ sym (all_append (filter (is_other_than Object_class) (i ∷ is)) line (asked_last m))))
    where
      all_append : (a b c : List Id) → lifted_all S.lift (a ++ b ++ c)
          ≡ lifted_all S.lift a ++ lifted_all S.lift b ++ lifted_all S.lift c
      all_append a b c = map-append (lifted S.lift) (a ++ b) c ∙ ap (λ l. l ++ lifted_all S.lift c) (map-append (lifted S.lift) a b)

  pub scoped_found : (i : Id) → Found calm (lifted_all S.lift) (scoped_modules w i) (scoped_modules w' (lifted S.lift i))
  scoped_found i = found_map _ _ (ancestors_found W i) (scoped_same S i)

-- ---- look-ups

-- where the setting is not calm
module _ {S : Setting false} {go : Node → Act} (E : Evaluates S go) {old : Text → Bool} where
  -- with what was found
  module _ (i : Id) (n : Text) {k k' : Option Value → Act} (b : (o : Option Value) → Alike S old (k o) (k' (option_map (ren S.lift) o)))
      (l : (o : Option Value) → Spends (k' o)) where
    found_alike : (m : Module)
        → Alike S old (k (at n m.constants)) (k' (at n (ren_table S.lift m.constants)))
    found_alike m = subst (λ o. Alike S old (k (at n m.constants)) (k' o)) (sym (at-made (ren S.lift) n m.constants))
        (b (at n m.constants))

    sought_alike : (o : Option Key) → Alike S old (sought go i n k o) (sought go (lifted S.lift i) n k' o)
    sought_alike None = b None
    sought_alike (Some key) = both_alike (loads_alike E key i n)
        (in_record_alike i _ _ found_alike (λ m. l (at n m.constants)))

    known_alike : (m : Module) (o : Option Value)
        → Alike S old (known go i n k m o) (known go (lifted S.lift i) n k' (ren_module S.lift m) (option_map (ren S.lift) o))
    known_alike m (Some v) = b (Some v)
    known_alike m None = in_world_alike as_it_is (λ w w' W. loadable_same W m.home n) sought_alike
        (sought_keeps E.spends (lifted S.lift i) n l)

    asks_plainly : Alike S old (asks go i n k) (asks go (lifted S.lift i) n k')
    asks_plainly = in_record_alike i _ _ (λ m. both_alike (meeting_alike m.home n)
        (subst (λ o. Alike S old (known go i n k m (at n m.constants))
        (known go (lifted S.lift i) n k' (ren_module S.lift m) o))
        (sym (at-made (ren S.lift) n m.constants)) (known_alike m (at n m.constants))))
        (λ m. search (keeping, met_keeps, known_keeps, E.spends, l))

asks_by : (calm : Bool) (S : Setting calm) (go : Node → Act) → Evaluates S go → (old : Text → Bool) (i : Id) (n : Text)
    (k k' : Option Value → Act) → ((o : Option Value) → Alike S old (k o) (k' (option_map (ren S.lift) o)))
    → ((o : Option Value) → Spends (k' o)) → Alike S old (asks go i n k) (asks go (lifted S.lift i) n k')
asks_by true S go E old i n k k' b l = asks_calmly S go E.loads old i n k k' b l E.grows E.spends
asks_by false S go E old i n k k' b l = asks_plainly E i n b l

module _ {calm : Bool} {S : Setting calm} {go : Node → Act} (E : Evaluates S go) {old : Text → Bool} where
  pub asks_alike : (i : Id) (n : Text) {k k' : Option Value → Act}
      → ((o : Option Value) → Alike S old (k o) (k' (option_map (ren S.lift) o))) → ((o : Option Value) → Spends (k' o))
      → Alike S old (asks go i n k) (asks go (lifted S.lift i) n k')
  asks_alike i n {k} {k'} b l = asks_by calm S go E old i n k k' b l

  or_else_alike : {m m' : Act} → Alike S old m m' → (o : Option Value)
      → Alike S old (or_else m o) (or_else m' (option_map (ren S.lift) o))
  or_else_alike a None = a
  or_else_alike a (Some v) = gives_alike v

  pub resolves_alike : (n : Text) (asked : Id) (is : List Id)
      → Alike S old (resolves go n asked is) (resolves go n (lifted S.lift asked) (lifted_all S.lift is))
  resolves_alike n asked [] = no_constant_alike asked n
  resolves_alike n asked (i ∷ is) = asks_alike i n (or_else_alike (resolves_alike n asked is))
      (or_else_keeps (resolves_keeps E.spends n (lifted S.lift asked) (lifted_all S.lift is)))

  unscoped_from_alike : (n : Text) (is : List Id)
      → Alike S old (unscoped_from go n is) (unscoped_from go n (lifted_all S.lift is))
  unscoped_from_alike n is =
      subst (λ j. Alike S old (unscoped_from go n is) (reading (λ w. unscoped_modules w (lifted_all S.lift is)) (resolves go n j)))
      (sym (innermost_same S is))
      (reading_alike (λ w w' W. unscoped_found W is) (resolves_alike n (innermost_scope is))
      (resolves_keeps E.spends n (lifted S.lift (innermost_scope is))))

  pub unscoped_alike : (n : Text) → Alike S old (unscoped go n) (unscoped go n)
  unscoped_alike n = in_frame_alike (lifted_all S.lift) (λ a b F. F.scopes) (unscoped_from_alike n)
      (unscoped_from_keeps E.spends n)

  pub scoped_alike : (n : Text) (i : Id) → Alike S old (scoped go n i) (scoped go n (lifted S.lift i))
  scoped_alike n i = reading_alike (λ w w' W. scoped_found W i) (resolves_alike n i)
      (resolves_keeps E.spends n (lifted S.lift i))

  pub top_alike : (n : Text) → Alike S old (resolves go n Object_class top_modules) (resolves go n Object_class top_modules)
  top_alike n = subst (λ j. Alike S old (resolves go n Object_class top_modules) (resolves go n j (j ∷ [])))
      (S.core_stays 0 refl) (resolves_alike n Object_class top_modules)

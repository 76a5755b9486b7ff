-- The methods of Module that change a module, and `autoload?`, keep points alike where the setting is not calm.
use Rattle.std.specs.Prelude.{◌≡◌, Bool, true, false, ◌&&◌, List, [], ◌∷◌, ◌++◌, codes, is_some, Option, Some, None, if◌then◌else◌}
use Rattle.std.specs.Option.{option_map}
use Rattle.std.proofs.Common.{refl, sym, ap, ◌∙◌, subst}
use Rattle.zw_def.specs.Text.{Text}
use Rattle.zw_def.specs.Map.{Key}
use Rattle.zw_def_world.specs.Row.{of_module, ModuleRow, module_name, module_covers, module_less, module_less_or_same, module_greater, module_greater_or_same, module_ancestors, module_include, module_extend, module_includes, module_attr_reader, module_attr_writer, module_attr_accessor, module_private, module_public, module_private_class_method, module_const_get, module_const_defined, module_autoload, module_method_defined}
use Rattle.zw_def_world.specs.Table.{Table, at}
use Rattle.zw_def_world.specs.Id.{Id}
use Rattle.zw_def_world.specs.Value.{Value, nil, module_at, text_in}
use Rattle.zw_def_world.specs.Record.{Method, Module, reader, writer}
use Rattle.zw_def_world.specs.Log.{place_text}
use Rattle.zw_def_world.specs.LookUp.{loadable}
use Rattle.zw_def_world.specs.Site.{Site, first, on_module, on_modules}
use Rattle.zw_def_world.specs.ModuleRows.{with_include, with_extension, unless_class, includes, method_as, defines_method, defines_readers, defines_writers, in_hiding, with_privacy, with_hidden_singleton, no_such_method, names_tested, changes_each, privacy, hides_singletons, autoload_text, autoloads, module_act}
use Rattle.zw_def_world.specs.Act.{Act}
use Rattle.zw_def_world.proofs.EvolutionLaws.{if_keeps, in_world_keeps, module_keeps}
use Rattle.zw_def_world.proofs.FaultLaws.{fails_keeps}
use Rattle.zw_def_world.proofs.ModuleLaws.{class_fault_keeps, names_tested_keeps, changes_each_keeps, autoload_text_keeps}
use Rattle.zw_fresh.specs.Renaming.{lifted, ren, ren_method, ren_methods, ren_module}
use Rattle.zw_fresh.specs.CalmCode.{PlainRow, is_special_of_module}
use Rattle.zw_fresh.specs.Alike.{Setting}
use Rattle.zw_fresh.proofs.NameLemmas.{apart}
use Rattle.zw_fresh.proofs.ActLaws.{Alike, gives_alike, both_alike, if_alike, if_same_alike, in_world_alike, in_frame_alike, reading_alike}
use Rattle.zw_fresh.proofs.TableLemmas.{assigned-made, at-made, is_some-made}
use Rattle.zw_fresh.proofs.TextLaws.{as_it_is}
use Rattle.zw_fresh.proofs.ChangeLaws.{changing_frame_alike}
use Rattle.zw_fresh.proofs.FaultLaws.{ren_list, fails_alike, makes_text_alike, unless_frozen_alike}
use Rattle.zw_fresh.proofs.ValueLaws.{text_same}
use Rattle.zw_fresh.proofs.KeyLaws.{loadable_same, in_record_alike, changing_module_alike}
use Rattle.zw_fresh.proofs.KernelRowLaws.{on_module_row, by_first}
use Rattle.zw_fresh.proofs.ModuleQuestionLaws.{back_found, include_same, extension_same, hidden_same}

-- ---- acts

module _ {calm : Bool} {S : Setting calm} {old : Text → Bool} where
  -- a row of two modules
  pub by_modules : (k k' : Id → Id → Act)
      → ((i j : Id) → Alike S old (k i j) (k' (lifted S.lift i) (lifted S.lift j))) → (r : Value) (vs : List Value)
      → Alike S old (on_modules r (first vs) k) (on_modules (ren S.lift r) (first (ren_list S.lift vs)) k')
  by_modules k k' h r vs = by_first (λ v. on_modules r v k) (λ v. on_modules (ren S.lift r) v k') (λ v.
      on_module_row (λ i. on_module v (k i)) (λ i. on_module (ren S.lift v) (k' i))
      (λ i. on_module_row (k i) (k' (lifted S.lift i)) (h i) v) r) vs

  -- a row of a module and a name
  pub by_name : (k k' : Text → Id → Act) → ((n : Text) (i : Id) → Alike S old (k n i) (k' n (lifted S.lift i)))
      → (r : Value) (vs : List Value)
      → Alike S old (on_module r (k (text_in (first vs)))) (on_module (ren S.lift r) (k' (text_in (first (ren_list S.lift vs)))))
  by_name k k' h r vs = by_first (λ v. on_module r (k (text_in v))) (λ v. on_module (ren S.lift r) (k' (text_in v))) (λ v.
      subst (λ n. Alike S old (on_module r (k (text_in v))) (on_module (ren S.lift r) (k' n))) (sym (text_same S.lift v))
      (on_module_row (k (text_in v)) (k' (text_in v)) (h (text_in v)) r)) vs

module _ {S : Setting false} {old : Text → Bool} where
  unless_class_alike : (i : Id) {m m' : Act} → Alike S old m m'
      → Alike S old (unless_class i m) (unless_class (lifted S.lift i) m')
  unless_class_alike i a = in_record_alike i _ _
      (λ m. if_alike m.is_class (fails_alike 22 refl (codes "wrong argument type Class (expected module)")) a)
      (λ m. if_keeps m.is_class class_fault_keeps a.spends)

  includes_alike : (i j : Id) → Alike S old (includes i j) (includes (lifted S.lift i) (lifted S.lift j))
  includes_alike i j = reading_alike (λ w w' W. back_found W j i)
      (λ b. if_alike b (fails_alike 17 refl (codes "cyclic include detected"))
      (changing_module_alike i (with_include j) (with_include (lifted S.lift j)) (include_same S j) (module_at i)))
      (λ b. if_keeps b (fails_keeps _ (codes "cyclic include detected"))
      (module_keeps (lifted S.lift i) (with_include (lifted S.lift j)) (module_at (lifted S.lift i))))

  -- ---- readers, writers and privacy

  readers_alike : (hidden : Bool) (i : Id) (vs : List Value)
      → Alike S old (defines_readers hidden i vs) (defines_readers hidden (lifted S.lift i) (ren_list S.lift vs))
  readers_alike hidden i [] = gives_alike nil
  readers_alike hidden i (y ∷ ys) = both_alike
      (subst (λ x. Alike S old (defines_method i hidden (text_in y) (reader (text_in y)) nil)
      (defines_method (lifted S.lift i) hidden x (reader x) nil)) (sym (text_same S.lift y))
      (changing_module_alike i _ _ (λ m. ap (λ t. record (ren_module S.lift m) { methods = t })
      (assigned-made (ren_method S.lift) (text_in y) (method_as (text_in y) (reader (text_in y)) hidden) m.methods)) nil))
      (readers_alike hidden i ys)

  writers_alike : (hidden : Bool) (i : Id) (vs : List Value)
      → Alike S old (defines_writers hidden i vs) (defines_writers hidden (lifted S.lift i) (ren_list S.lift vs))
  writers_alike hidden i [] = gives_alike nil
  writers_alike hidden i (y ∷ ys) = both_alike
      (subst (λ x. Alike S old (defines_method i hidden (text_in y ++ codes "=") (writer (text_in y)) nil)
      (defines_method (lifted S.lift i) hidden (x ++ codes "=") (writer x) nil)) (sym (text_same S.lift y))
      (changing_module_alike i _ _ (λ m. ap (λ t. record (ren_module S.lift m) { methods = t })
      (assigned-made (ren_method S.lift) (text_in y ++ codes "=") (method_as (text_in y ++ codes "=") (writer (text_in y)) hidden) m.methods)) nil))
      (writers_alike hidden i ys)

  in_hiding_alike : (bare : Bool) {k k' : Bool → Act} → ((b : Bool) → Alike S old (k b) (k' b))
      → Alike S old (in_hiding bare k) (in_hiding bare k')
  in_hiding_alike bare b = if_alike bare
      (in_frame_alike as_it_is (λ x y F k. F.is_body k && F.hides k) b (λ c. (b c).spends)) (b false)

  no_such_alike : (x : Text) (m : Module) → Alike S old (no_such_method x m) (no_such_method x (ren_module S.lift m))
  no_such_alike x m = search fails_alike

  names_alike : (table : Module → Table Method) → ((m : Module) → table (ren_module S.lift m) ≡ ren_methods S.lift (table m))
      → (vs : List Value) {act act' : Act} → Alike S old act act' → (m : Module)
      → Alike S old (names_tested table vs act m) (names_tested table (ren_list S.lift vs) act' (ren_module S.lift m))
  names_alike table same [] a m = a
  names_alike table same (y ∷ ys) {act} {act'} a m =
      subst (λ x. Alike S old (names_tested table (y ∷ ys) act m)
      (if is_some (at x (table (ren_module S.lift m))) then names_tested table (ren_list S.lift ys) act' (ren_module S.lift m)
      else no_such_method x (ren_module S.lift m))) (sym (text_same S.lift y))
      (if_same_alike (ap (λ t. is_some (at (text_in y) t)) (same m)
      ∙ (ap is_some (at-made (ren_method S.lift) (text_in y) (table m)) ∙ is_some-made (ren_method S.lift) (at (text_in y) (table m))))
      (names_alike table same ys a m) (no_such_alike (text_in y) m))

  changes_each_alike : (change : Text → Module → Module)
      → ((x : Text) (m : Module) → change x (ren_module S.lift m) ≡ ren_module S.lift (change x m)) → (i : Id) (vs : List Value)
      → Alike S old (changes_each change i vs) (changes_each change (lifted S.lift i) (ren_list S.lift vs))
  changes_each_alike change same i [] = gives_alike nil
  changes_each_alike change same i (y ∷ ys) = both_alike
      (changing_module_alike i (change (text_in y)) (change (text_in (ren S.lift y)))
      (λ m. ap (λ x. change x (ren_module S.lift m)) (text_same S.lift y) ∙ same (text_in y) m) nil)
      (changes_each_alike change same i ys)

  privacy_alike : (hidden : Bool) (i : Id) (vs : List Value)
      → Alike S old (privacy hidden i vs) (privacy hidden (lifted S.lift i) (ren_list S.lift vs))
  privacy_alike hidden i [] = changing_frame_alike _ _ (λ a b F. record {
    self_value = F.self_value;
    scopes = F.scopes;
    locals = F.locals;
    is_console = F.is_console;
    is_body = F.is_body;
    hides = ap (λ c. c && hidden) F.is_body;
    running = F.running;
    parameters = F.parameters;
    no_parameters = F.no_parameters;
  }) (λ a. refl) nil
  privacy_alike hidden i (y ∷ ys) = unless_frozen_alike (module_at i) (in_record_alike i _ _
      (names_alike (λ m. m.methods) (λ m. refl) (y ∷ ys) (changes_each_alike (with_privacy hidden)
      (λ x m. ap (λ t. record (ren_module S.lift m) { methods = t }) (hidden_same S.lift hidden x m.methods)) i (y ∷ ys)))
      (names_tested_keeps (λ m. m.methods) (ren_list S.lift (y ∷ ys))
      (changes_each_keeps (with_privacy hidden) (lifted S.lift i) (ren_list S.lift (y ∷ ys)))))

  hides_singletons_alike : (i : Id) (vs : List Value)
      → Alike S old (hides_singletons i vs) (hides_singletons (lifted S.lift i) (ren_list S.lift vs))
  hides_singletons_alike i vs = unless_frozen_alike (module_at i) (in_record_alike i _ _
      (names_alike (λ m. m.singleton) (λ m. refl) vs (changes_each_alike with_hidden_singleton
      (λ x m. ap (λ t. record (ren_module S.lift m) { singleton = t }) (hidden_same S.lift true x m.singleton)) i vs))
      (names_tested_keeps (λ m. m.singleton) (ren_list S.lift vs)
      (changes_each_keeps with_hidden_singleton (lifted S.lift i) (ren_list S.lift vs))))

  autoload_text_alike : (k : Option Key) (o : Option Value)
      → Alike S old (autoload_text k o) (autoload_text k (option_map (ren S.lift) o))
  autoload_text_alike None (Some v) = gives_alike nil
  autoload_text_alike (Some k) (Some v) = gives_alike nil
  autoload_text_alike None None = gives_alike nil
  autoload_text_alike (Some k) None = makes_text_alike (place_text k k.kind)

  autoloads_alike : (n : Text) (i : Id) → Alike S old (autoloads n i) (autoloads n (lifted S.lift i))
  autoloads_alike n i = in_record_alike i _ _ (λ m. in_world_alike as_it_is (λ w w' W. loadable_same W m.home n)
      (λ k. subst (λ o. Alike S old (autoload_text k (at n m.constants)) (autoload_text k o))
      (sym (at-made (ren S.lift) n m.constants)) (autoload_text_alike k (at n m.constants)))
      (λ k. autoload_text_keeps k (at n (ren_module S.lift m).constants)))
      (λ m. in_world_keeps (λ w. loadable w m.home n) (λ k. autoload_text_keeps k (at n m.constants)))

  -- ---- the rows

  changing_alike : (s : Site) (row : ModuleRow) → is_special_of_module row ≡ true → (r : Value) (vs : List Value)
      → Alike S old (module_act s row r vs) (module_act s row (ren S.lift r) (ren_list S.lift vs))
  changing_alike s module_include h r vs = by_modules _ _
      (λ i j. unless_frozen_alike r (unless_class_alike j (includes_alike i j))) r vs
  changing_alike s module_extend h r vs = by_modules _ _
      (λ i j. unless_frozen_alike r (unless_class_alike j
      (changing_module_alike i (with_extension j) (with_extension (lifted S.lift j)) (extension_same S j) r))) r vs
  changing_alike s module_attr_reader h r vs = on_module_row _ _
      (λ i. unless_frozen_alike r (in_hiding_alike s.is_bare (λ hidden. readers_alike hidden i vs))) r
  changing_alike s module_attr_writer h r vs = on_module_row _ _
      (λ i. unless_frozen_alike r (in_hiding_alike s.is_bare (λ hidden. writers_alike hidden i vs))) r
  changing_alike s module_attr_accessor h r vs = on_module_row _ _
      (λ i. unless_frozen_alike r (in_hiding_alike s.is_bare
      (λ hidden. both_alike (readers_alike hidden i vs) (writers_alike hidden i vs)))) r
  changing_alike s module_private h r vs = on_module_row _ _ (λ i. privacy_alike true i vs) r
  changing_alike s module_public h r vs = on_module_row _ _ (λ i. privacy_alike false i vs) r
  changing_alike s module_private_class_method h r vs = on_module_row _ _ (λ i. hides_singletons_alike i vs) r
  changing_alike s module_autoload h r vs = by_name autoloads autoloads autoloads_alike r vs
  changing_alike s module_name h r vs = absurd (apart (sym h))
  changing_alike s module_covers h r vs = absurd (apart (sym h))
  changing_alike s module_less h r vs = absurd (apart (sym h))
  changing_alike s module_less_or_same h r vs = absurd (apart (sym h))
  changing_alike s module_greater h r vs = absurd (apart (sym h))
  changing_alike s module_greater_or_same h r vs = absurd (apart (sym h))
  changing_alike s module_ancestors h r vs = absurd (apart (sym h))
  changing_alike s module_includes h r vs = absurd (apart (sym h))
  changing_alike s module_const_get h r vs = absurd (apart (sym h))
  changing_alike s module_const_defined h r vs = absurd (apart (sym h))
  changing_alike s module_method_defined h r vs = absurd (apart (sym h))

-- a calm setting has none of them
pub special_alike : (calm : Bool) (S : Setting calm) (old : Text → Bool) (s : Site) (row : ModuleRow)
    → is_special_of_module row ≡ true → PlainRow calm (of_module row) → (r : Value) (vs : List Value)
    → Alike S old (module_act s row r vs) (module_act s row (ren S.lift r) (ren_list S.lift vs))
special_alike true S old s row h plain r vs = absurd (apart (sym h ∙ plain))
special_alike false S old s row h plain r vs = changing_alike s row h r vs

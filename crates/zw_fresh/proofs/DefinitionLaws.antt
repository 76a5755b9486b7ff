-- Definitions of methods, classes and modules, where no key is stated.
use Rattle.std.specs.Prelude.{◌≡◌, Bool, true, false, not, ◌&&◌, List, ◌++◌, codes, Option, Some, None, if◌then◌else◌}
use Rattle.std.specs.Option.{option_map}
use Rattle.std.proofs.Common.{refl, sym, ap, ◌∙◌, subst}
use Rattle.zw_def.specs.Text.{Text}
use Rattle.zw_def.specs.ConstantPath.{ConstantPath}
use Rattle.zw_def.specs.Nesting.{child}
use Rattle.zw_def.specs.Map.{Key, is_namespace}
use Rattle.zw_def_syntax.specs.Tree.{Tree, Trees, Perhaps, Base, Defaults, absent, present, innermost, topmost, within_node}
use Rattle.zw_def_world.specs.Id.{Id, id_eq}
use Rattle.zw_def_world.specs.CoreClass.{Object_class, Class, TypeError}
use Rattle.zw_def_world.specs.Value.{Value, nil, truth, int, text, symbol, array, module_at, object_at, as_module}
use Rattle.zw_def_world.specs.Record.{code, Module, new_module, with_method, with_singleton}
use Rattle.zw_def_world.specs.World.{World, key_of, is_loading}
use Rattle.zw_def_world.specs.Frame.{Frame, innermost_scope}
use Rattle.zw_def_world.specs.Making.{fails}
use Rattle.zw_def_world.specs.ModuleRows.{method_as}
use Rattle.zw_def_world.specs.Definition.{method_code, changes_scope, defines, public_code, defines_singleton, base_act, body_frame, runs_class_body, opens_home, home_at, unless_wrong_home, makes_opened, no_class_fault, mismatch, is_superclass, above_or_object, makes_class, reopens_class, reopens_class_value, opens_class, class_in, superclass_fault, tests_superclass, class_statement, no_module_fault, reopens_module_value, opens_module, module_in, module_statement}
use Rattle.zw_def_world.specs.Act.{Act}
use Rattle.zw_def_world.proofs.EvolutionLaws.{both_keep, in_world_keeps, framed_keeps, statements_keep, if_keeps}
use Rattle.zw_def_world.proofs.FaultLaws.{fails_keeps}
use Rattle.zw_def_world.proofs.DefinitionLaws.{opens_home_keeps, defines_in_keeps, defines_singleton_in_keeps, on_module_or_fault_keeps, runs_class_body_keeps, makes_at_home_keeps, reopens_class_keeps, opens_class_keeps, class_in_keeps, superclass_fault_keeps, tests_superclass_keeps, no_module_fault_keeps, opens_module_keeps}
use Rattle.zw_fresh.specs.Renaming.{lifted, lifted_all, ren, ren_method, ren_module}
use Rattle.zw_fresh.specs.Alike.{Setting, Frames, Worlds}
use Rattle.zw_fresh.specs.Naming.{PerhapsNamesNone, BaseNamesNone, no_old}
use Rattle.zw_fresh.proofs.EndLaws.{Spends}
use Rattle.zw_fresh.proofs.ActLaws.{Alike, gives_alike, both_alike, on_alike, if_alike, if_same_alike, in_world_alike, in_frame_alike, reading_alike, framed_alike}
use Rattle.zw_fresh.proofs.TableLemmas.{assigned-made}
use Rattle.zw_fresh.proofs.FoundLaws.{core_same}
use Rattle.zw_fresh.proofs.TextLaws.{as_it_is, class_name_found}
use Rattle.zw_fresh.proofs.FaultLaws.{on_module_alike, fails_alike, unless_frozen_alike}
use Rattle.zw_fresh.proofs.FrameLaws.{with_frame_alike, innermost_same, body_frames}
use Rattle.zw_fresh.proofs.KeyLaws.{key_of_same, in_record_alike, changing_module_alike}
use Rattle.zw_fresh.proofs.CallLaws.{Evaluates, statements_alike}
use Rattle.zw_fresh.proofs.LoadLaws.{opens_alike, unless_wrong_alike, makes_module_alike}
use Rattle.zw_fresh.proofs.LookUpLaws.{asks_alike}
use Rattle.zw_fresh.proofs.NamingLaws.{all_free}
use Rattle.zw_fresh.proofs.PlainLaws.{always_plain, all_plain}

home_same : {S : Setting false} {w w' : World} (W : Worlds false S w w') (o : Option Key) → home_at w' o ≡ home_at w o
home_same W None = refl
home_same W (Some k) = λ i.
    if is_loading (W.states k.path i) && is_namespace (W.setting i).layout (W.tree i) k.path then Some k.path else None

superclass_same : (S : Setting false) (a b : Option Id)
    → is_superclass (option_map (lifted S.lift) a) (option_map (lifted S.lift) b) ≡ is_superclass a b
superclass_same S None b = refl
superclass_same S (Some i) None = refl
superclass_same S (Some i) (Some j) = S.apart i j

above_same : (S : Setting false) (o : Option Id) → above_or_object (option_map (lifted S.lift) o) ≡ lifted S.lift (above_or_object o)
above_same S None = sym (S.core_stays 0 refl)
above_same S (Some i) = refl

module _ {S : Setting false} {old : Text → Bool} where
  -- ---- methods

  changes_scope_alike : (g g' : Module → Module) → ((m : Module) → g' (ren_module S.lift m) ≡ ren_module S.lift (g m))
      → (x : Text) (i : Id) → Alike S old (changes_scope g x i) (changes_scope g' x (lifted S.lift i))
  changes_scope_alike g g' f x i = unless_frozen_alike (module_at i) (changing_module_alike i g g' f (symbol x))

  in_scope_alike : (g : List Id → Bool → Module → Module)
      → ((is : List Id) (b : Bool) (m : Module) → g (lifted_all S.lift is) b (ren_module S.lift m) ≡ ren_module S.lift (g is b m))
      → (x : Text) (a b : Frame) → Frames S.lift old a b
      → Alike S old (changes_scope (g a.scopes a.hides) x (innermost_scope a.scopes))
      (changes_scope (g b.scopes b.hides) x (innermost_scope b.scopes))
  in_scope_alike g f x a b F =
      subst (λ is. Alike S old (changes_scope (g a.scopes a.hides) x (innermost_scope a.scopes))
      (changes_scope (g is b.hides) x (innermost_scope is))) (sym F.scopes)
      (subst (λ h. Alike S old (changes_scope (g a.scopes a.hides) x (innermost_scope a.scopes))
      (changes_scope (g (lifted_all S.lift a.scopes) h) x (innermost_scope (lifted_all S.lift a.scopes)))) (sym F.hides)
      (subst (λ i. Alike S old (changes_scope (g a.scopes a.hides) x (innermost_scope a.scopes))
      (changes_scope (g (lifted_all S.lift a.scopes) a.hides) x i)) (sym (innermost_same S a.scopes))
      (changes_scope_alike (g a.scopes a.hides) (g (lifted_all S.lift a.scopes) a.hides) (f a.scopes a.hides) x
      (innermost_scope a.scopes))))

  pub defines_alike : (x : Text) (required : List Text) (optional : Defaults) (body : Trees)
      → Alike S old (defines x required optional body) (defines x required optional body)
  defines_alike x required optional body = with_frame_alike
      (λ a b F h. in_scope_alike (λ is h. with_method x (method_as x (code (method_code required optional body is)) h)) (λ is h m.
      ap (λ t. record (ren_module S.lift m) { methods = t }) (assigned-made (ren_method S.lift) x
      (method_as x (code (method_code required optional body is)) h) m.methods)) x a b F)
      (defines_in_keeps x (method_code required optional body)) (defines_in_keeps x (method_code required optional body))

  pub defines_singleton_alike : (x : Text) (required : List Text) (optional : Defaults) (body : Trees)
      → Alike S old (defines_singleton x required optional body) (defines_singleton x required optional body)
  defines_singleton_alike x required optional body = with_frame_alike
      (λ a b F h. in_scope_alike (λ is h. with_singleton x (public_code (method_code required optional body is))) (λ is h m.
      ap (λ t. record (ren_module S.lift m) { singleton = t }) (assigned-made (ren_method S.lift) x
      (public_code (method_code required optional body is)) m.singleton)) x a b F)
      (defines_singleton_in_keeps x (method_code required optional body))
      (defines_singleton_in_keeps x (method_code required optional body))

  -- ---- modules that are made

  opens_home_alike : (o : Option ConstantPath) → Alike S old (opens_home o) (opens_home o)
  opens_home_alike None = gives_alike nil
  opens_home_alike (Some p) = opens_alike p

  unless_wrong_home_alike : (o : Option ConstantPath) {m m' : Act} → Alike S old m m'
      → Alike S old (unless_wrong_home o m) (unless_wrong_home o m')
  unless_wrong_home_alike None a = a
  unless_wrong_home_alike (Some p) a = unless_wrong_alike p a

  pub makes_opened_alike : (is_class : Bool) (superclass : Option Id) (i : Id) (n : Text) {k k' : Id → Act}
      → ((j : Id) → Alike S old (k j) (k' (lifted S.lift j))) → ((j : Id) → Spends (k' j))
      → Alike S old (makes_opened is_class superclass i n k)
      (makes_opened is_class (option_map (lifted S.lift) superclass) (lifted S.lift i) n k')
  makes_opened_alike is_class superclass i n {k} {k'} b l = in_record_alike i _ _
      (λ m. in_world_alike as_it_is (λ w w' W. ap (home_at w') (key_of_same W m.home n) ∙ home_same W (key_of w m.home n))
      (λ home. unless_wrong_home_alike home (makes_module_alike (new_module is_class (child m.path n) superclass home) i n
      (λ made. both_alike (opens_home_alike home) (b made)) (λ made. both_keep (opens_home_keeps home) (l made))))
      (makes_at_home_keeps is_class (option_map (lifted S.lift) superclass) (lifted S.lift i) n l (ren_module S.lift m)))
      (λ m. in_world_keeps (λ w. home_at w (key_of w m.home n))
      (makes_at_home_keeps is_class (option_map (lifted S.lift) superclass) (lifted S.lift i) n l m))

  -- ---- classes

  no_class_fault_alike : (n : Text) → Alike S old (no_class_fault n) (no_class_fault n)
  no_class_fault_alike n = fails_alike 22 refl (n ++ codes " is not a class")

  mismatch_alike : (n : Text) → Alike S old (mismatch n) (mismatch n)
  mismatch_alike n = fails_alike 22 refl (codes "superclass mismatch for class " ++ n)

  module _ (n : Text) (i : Id) (superclass : Option Id) {k k' : Id → Act}
      (b : (j : Id) → Alike S old (k j) (k' (lifted S.lift j))) (l : (j : Id) → Spends (k' j)) where
    makes_class_alike : Alike S old (makes_class superclass i n k)
        (makes_class (option_map (lifted S.lift) superclass) (lifted S.lift i) n k')
    makes_class_alike =
        subst (λ j. Alike S old (makes_class superclass i n k) (if id_eq j Class
        then fails' else makes_opened true (Some j) (lifted S.lift i) n k')) (sym (above_same S superclass))
        (if_same_alike (core_same S (above_or_object superclass) 3 refl) (fails_alike 22 refl (codes "can't make subclass of Class"))
        (makes_opened_alike true (Some (above_or_object superclass)) i n b l))
      where
        fails' : Act
        fails' = fails TypeError (codes "can't make subclass of Class")

    reopens_class_alike : (j : Id) (m : Module) → Alike S old (reopens_class superclass n k j m)
        (reopens_class (option_map (lifted S.lift) superclass) n k' (lifted S.lift j) (ren_module S.lift m))
    reopens_class_alike j m = if_alike (not m.is_class) (no_class_fault_alike n)
        (if_same_alike (superclass_same S superclass m.superclass) (b j) (mismatch_alike n))

    reopens_value_alike : (v : Value) → Alike S old (reopens_class_value superclass n k (as_module v))
        (reopens_class_value (option_map (lifted S.lift) superclass) n k' (as_module (ren S.lift v)))
    reopens_value_alike nil = no_class_fault_alike n
    reopens_value_alike (truth bit) = no_class_fault_alike n
    reopens_value_alike (int z) = no_class_fault_alike n
    reopens_value_alike (text t) = no_class_fault_alike n
    reopens_value_alike (symbol t) = no_class_fault_alike n
    reopens_value_alike (array vs) = no_class_fault_alike n
    reopens_value_alike (module_at j) = in_record_alike j _ _ (reopens_class_alike j)
        (reopens_class_keeps (option_map (lifted S.lift) superclass) n l (lifted S.lift j))
    reopens_value_alike (object_at j) = no_class_fault_alike n

    opens_class_alike : (o : Option Value) → Alike S old (opens_class superclass i n k o)
        (opens_class (option_map (lifted S.lift) superclass) (lifted S.lift i) n k' (option_map (ren S.lift) o))
    opens_class_alike None = makes_class_alike
    opens_class_alike (Some v) = reopens_value_alike v

  superclass_fault_alike : (v : Value) → Alike S old (superclass_fault v) (superclass_fault (ren S.lift v))
  superclass_fault_alike v =
      reading_alike (λ w w' W. class_name_found W v) (λ t. search fails_alike) (λ t. search fails_keeps)

  tests_superclass_alike : {k k' : Option Id → Act}
      → ((o : Option Id) → Alike S old (k o) (k' (option_map (lifted S.lift) o))) → ((o : Option Id) → Spends (k' o))
      → (v : Value) → Alike S old (tests_superclass k v) (tests_superclass k' (ren S.lift v))
  tests_superclass_alike b l nil = superclass_fault_alike nil
  tests_superclass_alike b l (truth bit) = superclass_fault_alike (truth bit)
  tests_superclass_alike b l (int z) = superclass_fault_alike (int z)
  tests_superclass_alike b l (text t) = superclass_fault_alike (text t)
  tests_superclass_alike b l (symbol t) = superclass_fault_alike (symbol t)
  tests_superclass_alike b l (array vs) = superclass_fault_alike (array vs)
  tests_superclass_alike b l (module_at i) = in_record_alike i _ _
      (λ m. if_alike m.is_class (b (Some i)) (superclass_fault_alike (module_at i)))
      (λ m. if_keeps m.is_class (l (Some (lifted S.lift i))) (superclass_fault_keeps (module_at (lifted S.lift i))))
  tests_superclass_alike b l (object_at i) = superclass_fault_alike (object_at i)

  -- ---- modules

  no_module_fault_alike : (n : Text) → Alike S old (no_module_fault n) (no_module_fault n)
  no_module_fault_alike n = fails_alike 22 refl (n ++ codes " is not a module")

  module _ (n : Text) (i : Id) {k k' : Id → Act} (b : (j : Id) → Alike S old (k j) (k' (lifted S.lift j)))
      (l : (j : Id) → Spends (k' j)) where
    reopens_module_alike : (v : Value) → Alike S old (reopens_module_value n k (as_module v))
        (reopens_module_value n k' (as_module (ren S.lift v)))
    reopens_module_alike nil = no_module_fault_alike n
    reopens_module_alike (truth bit) = no_module_fault_alike n
    reopens_module_alike (int z) = no_module_fault_alike n
    reopens_module_alike (text t) = no_module_fault_alike n
    reopens_module_alike (symbol t) = no_module_fault_alike n
    reopens_module_alike (array vs) = no_module_fault_alike n
    reopens_module_alike (module_at j) = in_record_alike j _ _
        (λ m. if_alike m.is_class (no_module_fault_alike n) (b j))
        (λ m. if_keeps m.is_class (no_module_fault_keeps n) (l (lifted S.lift j)))
    reopens_module_alike (object_at j) = no_module_fault_alike n

    opens_module_alike : (o : Option Value)
        → Alike S old (opens_module i n k o) (opens_module (lifted S.lift i) n k' (option_map (ren S.lift) o))
    opens_module_alike None = makes_opened_alike false None i n b l
    opens_module_alike (Some v) = reopens_module_alike v

-- ---- the statements

module _ {S : Setting false} {go : Tree → Act} (E : Evaluates S go) {old : Text → Bool} where
  pub base_alike : (base : Base) → BaseNamesNone old base → {k k' : Value → Act}
      → ((v : Value) → Alike S old (k v) (k' (ren S.lift v))) → ((v : Value) → Spends (k' v))
      → Alike S old (base_act go base k) (base_act go base k')
  base_alike innermost h {k} {k'} b l = in_frame_alike (lifted_all S.lift) (λ a c F. F.scopes)
      (λ is. subst (λ j. Alike S old (k (module_at (innermost_scope is))) (k' (module_at j))) (sym (innermost_same S is))
      (b (module_at (innermost_scope is)))) (λ is. l (module_at (innermost_scope is)))
  base_alike topmost h {k} {k'} b l =
      subst (λ j. Alike S old (k (module_at Object_class)) (k' (module_at j))) (S.core_stays 0 refl) (b (module_at Object_class))
  base_alike (within_node e) h b l = on_alike (E.alike old e h (always_plain e)) b l

  class_body_alike : (body : Trees) (i : Id)
      → Alike S old (runs_class_body go body i) (runs_class_body go body (lifted S.lift i))
  class_body_alike body i = in_frame_alike (lifted_all S.lift) (λ a c F. F.scopes)
      (λ is. framed_alike (body_frames S i is) tt (statements_alike E no_old body (all_free body) (all_plain body)))
      (λ is. framed_keeps (body_frame (lifted S.lift i) is) (statements_keep E.spends body))

  class_in_alike : (n : Text) (body : Trees) (i : Id) (superclass : Option Id)
      → Alike S old (class_in go n body i superclass)
      (class_in go n body (lifted S.lift i) (option_map (lifted S.lift) superclass))
  class_in_alike n body i superclass =
      asks_alike E i n (opens_class_alike n i superclass (class_body_alike body) (runs_class_body_keeps E.spends body))
      (opens_class_keeps (option_map (lifted S.lift) superclass) (lifted S.lift i) n (runs_class_body_keeps E.spends body))

  pub class_statement_alike : (n : Text) (e : Perhaps) → PerhapsNamesNone old e → (body : Trees) (v : Value)
      → Alike S old (class_statement go n e body v) (class_statement go n e body (ren S.lift v))
  class_statement_alike n absent h body v = on_module_alike _ _ (λ i. class_in_alike n body i None) v
  class_statement_alike n (present e) h body v = on_alike (E.alike old e h (always_plain e))
      (λ u. on_module_alike _ _ (λ i. tests_superclass_alike (class_in_alike n body i) (class_in_keeps E.spends n body (lifted S.lift i)) u) v)
      (λ u. on_module_or_fault_keeps (λ i. tests_superclass_keeps (class_in_keeps E.spends n body i) u) (ren S.lift v))

  module_in_alike : (n : Text) (body : Trees) (i : Id)
      → Alike S old (module_in go n body i) (module_in go n body (lifted S.lift i))
  module_in_alike n body i =
      asks_alike E i n (opens_module_alike n i (class_body_alike body) (runs_class_body_keeps E.spends body))
      (opens_module_keeps (lifted S.lift i) n (runs_class_body_keeps E.spends body))

  pub module_statement_alike : (n : Text) (body : Trees) (v : Value)
      → Alike S old (module_statement go n body v) (module_statement go n body (ren S.lift v))
  module_statement_alike n body v = on_module_alike _ _ (module_in_alike n body) v

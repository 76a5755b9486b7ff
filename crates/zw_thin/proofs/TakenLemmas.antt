-- A key whose file is taken, and a table in which a class is opened.
use Rattle.std.proofs.Common.{◌≡◌, ◌++◌, ◌<◌, ℕ, Bool, List, [], ◌∷◌, Option, Some, None, IfSome, option_map, get_or, length, slice_get, Vec, Global, refl, sym, ap, ◌∙◌, append-nil, subst}
use Rattle.indexmap.specs.IndexMap.{set_value_at}
use Rattle.std.specs.List.{position}
use Rattle.std.specs.Map.{values_of}
use Rattle.std.specs.Option.{option_and_then}
use Rattle.std.specs.Str.{bytes_eq}
use Rattle.std.proofs.Math.ListN.{set, get_or-map}
use Rattle.std.proofs.lemmas.List.{map-set, map-append}
use Rattle.std.proofs.lemmas.List.Elements.{All-same, All-append}
use Rattle.zw_def.specs.Text.{Text}
use Rattle.zw_def_thin.specs.ClassFile as defined
use Rattle.zw_def_thin.specs.Evaluation.{joined, opened}
use Rattle.zw_def.specs.Names.{text_of}
use Rattle.zw_names.specs.declared.names.Name.{Name}
use Rattle.zw_thin.specs.Held as held
use Rattle.zw_thin.specs.Held.{idle_file, without_file, spent}
use Rattle.zw_thin.specs.ClassFile.{class_seen, method_seen, methods_seen, MethodsNamed, ClassNamed}
use Rattle.zw_thin.specs.Key.{idle_seen, key_seen, keys_seen, KeyNamed, KeysNamed}
use Rattle.zw_thin.specs.Class.{entry_seen, classes_seen, EntryNamed, ClassesNamed}
use Rattle.zw_thin.specs.declared.keys.IdleFile.{IdleFile}
use Rattle.zw_thin.specs.declared.class_file.Method.{Method}
use Rattle.zw_thin.specs.declared.class_file.ClassFile.{ClassFile}
use Rattle.zw_thin.proofs.EntryLemmas.{Entry, entry_at, set_value_at-set, All-set_value_at}
use Rattle.zw_lemmas.proofs.FindLemmas.{find-nowhere, find-place, set-place, changed-none}

-- ---- keys

pub value_named : (names : List Text) (ks : List (Name × Option IdleFile)) (i : ℕ) (file : Option IdleFile) → slice_get (values_of ks) i ≡ Some file → KeysNamed names ks → IfSome file (λ f. ClassNamed names f.class)
value_named names ks i file at named = let here = entry_at ks i file at in (subst (KeyNamed names) here.is (named i (here.key, file) here.within)).1

pub left_kept : (names : List Text) (ks : List (Name × Option IdleFile)) (i : ℕ) → KeysNamed names ks → KeysNamed names (set_value_at ks i None)
left_kept names ks i named = All-set_value_at (KeyNamed names) ks i None (λ k h. (h.0, tt)) named

pub idle_none : (name : Text) (ks : List held.Key) → position (λ k. bytes_eq k.name name) ks ≡ None → idle_file name ks ≡ None
idle_none name ks none = ap (option_and_then (λ (k : held.Key). k.file)) (find-nowhere (λ (k : held.Key). bytes_eq k.name name) ks none)

pub left_none : (name : Text) (ks : List held.Key) → position (λ k. bytes_eq k.name name) ks ≡ None → ks ≡ without_file name ks
left_none name ks none =
    sym (changed-none (λ (k : held.Key). bytes_eq k.name name) spent (without_file name) (λ k ks. refl) ks (find-nowhere _ ks none) ∙ append-nil ks)

module _ (names : List Text) (name : Text) (ks : List (Name × Option IdleFile)) (i : ℕ) (file : Option IdleFile) (at : slice_get (values_of ks) i ≡ Some file) (first : position (λ k. bytes_eq k.name name) (keys_seen names ks) ≡ Some i) where
  abbrev here : Entry ks i file
  here = entry_at ks i file at

  abbrev key : Name × Option IdleFile
  key = (here.key, file)

  -- the key at the place
  there : get_or (keys_seen names ks) i (key_seen names key) ≡ key_seen names key
  there = get_or-map (key_seen names) ks i key ∙ ap (key_seen names) here.is

  pub idle_at : option_map (idle_seen names) file ≡ idle_file name (keys_seen names ks)
  idle_at = sym (ap (option_and_then (λ (k : held.Key). k.file)) (find-place (λ (k : held.Key). bytes_eq k.name name) (keys_seen names ks) i (key_seen names key) first ∙ ap Some there))

  pub left_at : keys_seen names (set_value_at ks i None) ≡ without_file name (keys_seen names ks)
  left_at =
      ap (keys_seen names) (set_value_at-set ks i None key ∙ ap (λ (k : Name × Option IdleFile). set ks i (k.0, None)) here.is)
      ∙ map-set (key_seen names) ks i (here.key, None)
      ∙ ap (λ k. set (keys_seen names ks) i (spent k)) (sym there)
      ∙ set-place (λ (k : held.Key). bytes_eq k.name name) spent (without_file name) (λ k ks. refl) (keys_seen names ks) i (key_seen names key) first

-- ---- classes

module _ (names : List Text) (cs : List (Name × Vec Method Global)) (class : ClassFile) where
  abbrev is_name : defined.ClassFile → Bool
  is_name c = bytes_eq c.name (text_of names class.name.0)

  pub opened_none : position is_name (classes_seen names cs) ≡ None → classes_seen names (cs ++ (class.name, class.methods) ∷ []) ≡ opened (classes_seen names cs) (class_seen names class)
  opened_none none =
      map-append (entry_seen names) cs ((class.name, class.methods) ∷ [])
      ∙ sym (changed-none is_name (joined (class_seen names class)) (λ l. opened l (class_seen names class)) (λ c cs. refl) (classes_seen names cs) (find-nowhere is_name (classes_seen names cs) none))

  pub opened_at : (i : ℕ) (old new : Vec Method Global) → slice_get (values_of cs) i ≡ Some old → new.items ≡ old.items ++ class.methods.items → position is_name (classes_seen names cs) ≡ Some i → classes_seen names (set_value_at cs i new) ≡ opened (classes_seen names cs) (class_seen names class)
  opened_at i old new at methods first =
      let here = entry_at cs i old at in
      let g = joined (class_seen names class) in
      let there : get_or (classes_seen names cs) i (entry_seen names (here.key, old)) ≡ entry_seen names (here.key, old) = get_or-map (entry_seen names) cs i (here.key, old) ∙ ap (entry_seen names) here.is in
      let is : entry_seen names (here.key, new) ≡ g (entry_seen names (here.key, old)) = λ j. record { name = text_of names here.key.0; methods = (ap (methods_seen names) methods ∙ map-append (method_seen names) old.items class.methods.items) j } in
      ap (classes_seen names) (set_value_at-set cs i new (here.key, old) ∙ ap (λ (c : Name × Vec Method Global). set cs i (c.0, new)) here.is)
      ∙ map-set (entry_seen names) cs i (here.key, new)
      ∙ ap (set (classes_seen names cs) i) (is ∙ ap g (sym there))
      ∙ set-place is_name g (λ l. opened l (class_seen names class)) (λ c cs. refl) (classes_seen names cs) i (entry_seen names (here.key, old)) first

pub classes_kept : (names : List Text) (cs : List (Name × Vec Method Global)) (i : ℕ) (old new : Vec Method Global) (more : List Method) → slice_get (values_of cs) i ≡ Some old → new.items ≡ old.items ++ more → ClassesNamed names cs → MethodsNamed names more → ClassesNamed names (set_value_at cs i new)
classes_kept names cs i old new more at methods named added =
    let here = entry_at cs i old at in
    let all = subst (EntryNamed names) here.is (named i (here.key, old) here.within) in
    let kept : MethodsNamed names new.items = All-same (λ (m : Method). m.name.0 < length names) new.items (old.items ++ more) methods (All-append (λ (m : Method). m.name.0 < length names) old.items more all.1 added) in
    All-set_value_at (EntryNamed names) cs i new (λ c h. (h.0, kept)) named

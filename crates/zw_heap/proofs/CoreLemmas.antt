-- Core classes: their paths, and their records.
use Rattle.std.proofs.Common.{◌≡◌, ◌+◌, Bool, true, false, ℕ, ◌<◌, List, [], ◌∷◌, ◌++◌, codes, length, get_or, slice_get, take, Some, Result, Ok, Err, IfOk, refl, ap, sym, ◌∙◌, subst, map, arith}
use Rattle.std.specs.List.{All}
use Rattle.std.proofs.lemmas.List.{length-map, map-append, take_more, get_or-map}
use Rattle.std.proofs.lemmas.List.Elements.{All-weaker}
use Rattle.zw_lemmas.proofs.ListLemmas.{map-same}
use Rattle.zw_def.specs.Names.{OnlyGrows, AreNamed, texts_of}
use Rattle.zw_def.specs.Text.{Text}
use Rattle.zw_def.specs.ConstantPath.{ConstantPath}
use Rattle.zw_def.proofs.NameLemmas.{texts_of-grown, texts_of-pushed, AreNamed-pushed, AreNamed-grown}
use Rattle.zw_heap.specs.declared.core_class.CoreClass.{CoreClass}
use Rattle.zw_heap.specs.declared.core_class.CoreClass.TheVariants as c
use Rattle.zw_heap.specs.CoreClass.{Core, core_seen, core_module, core_record, core_record_seen, core_records, last_name, is_nested}
use Rattle.zw_heap.specs.ModuleRecord.{Module}
use Rattle.zw_heap.proofs.ListLemmas.{All-pushed}

abbrev pub own_path : Bool → Text → ConstantPath
own_path true name = codes "Zeitwerk" ∷ name ∷ []
own_path false name = name ∷ []

pub own_path-is : (class : CoreClass) → (class ≡ c.Object → ⊥) → own_path (is_nested (core_module class).path) (last_name (core_module class).path) ≡ (core_module class).path
own_path-is c.Object other = absurd (other refl)
own_path-is c.Kernel other = refl
own_path-is c.Module other = refl
own_path-is c.Class other = refl
own_path-is c.NilClass other = refl
own_path-is c.TrueClass other = refl
own_path-is c.FalseClass other = refl
own_path-is c.Integer other = refl
own_path-is c.String other = refl
own_path-is c.Symbol other = refl
own_path-is c.Array other = refl
own_path-is c.Exception other = refl
own_path-is c.Zeitwerk other = refl
own_path-is c.ScriptError other = refl
own_path-is c.StandardError other = refl
own_path-is c.SyntaxError other = refl
own_path-is c.LoadError other = refl
own_path-is c.ArgumentError other = refl
own_path-is c.IndexError other = refl
own_path-is c.NameError other = refl
own_path-is c.RangeError other = refl
own_path-is c.RuntimeError other = refl
own_path-is c.TypeError other = refl
own_path-is c.ZeroDivisionError other = refl
own_path-is c.NoMethodError other = refl
own_path-is c.FrozenError other = refl
own_path-is c.ZeitwerkError other = refl
own_path-is c.ReloadingDisabledError other = refl
own_path-is c.SetupRequired other = refl
own_path-is c.ZeitwerkNameError other = refl

-- ---- a path with one more name

module _ {E : Type 0} (old new : List Text) (path : List ℕ) (n : ℕ) (name : Text) (grows : OnlyGrows old new) (named : AreNamed old path) (at : slice_get new n ≡ Some name) where
  pub longer_told : (r : Result (List ℕ) E) → IfOk r (λ p. p ≡ path ++ n ∷ []) → IfOk r (λ more. texts_of new more ≡ texts_of old path ++ name ∷ [])
  longer_told (Ok p) e = ap (texts_of new) e ∙ texts_of-pushed new path n name at ∙ ap (λ ts. ts ++ name ∷ []) (texts_of-grown old new path grows named)
  longer_told (Err f) e = tt

  pub longer_named : (r : Result (List ℕ) E) → IfOk r (λ p. p ≡ path ++ n ∷ []) → IfOk r (λ more. AreNamed new more)
  longer_named (Ok p) e = subst (AreNamed new) (sym e) (AreNamed-pushed new path n name at (AreNamed-grown old new path grows named))
  longer_named (Err f) e = tt

-- ---- the records

-- the core classes of the code, in their order
abbrev pub classes : List CoreClass
classes = c.Object ∷ c.Kernel ∷ c.Module ∷ c.Class ∷ c.NilClass ∷ c.TrueClass ∷ c.FalseClass ∷ c.Integer ∷ c.String ∷ c.Symbol ∷ c.Array ∷ c.Exception ∷ c.Zeitwerk ∷ c.ScriptError ∷ c.StandardError ∷ c.SyntaxError ∷ c.LoadError ∷ c.ArgumentError ∷ c.IndexError ∷ c.NameError ∷ c.RangeError ∷ c.RuntimeError ∷ c.TypeError ∷ c.ZeroDivisionError ∷ c.NoMethodError ∷ c.FrozenError ∷ c.ZeitwerkError ∷ c.ReloadingDisabledError ∷ c.SetupRequired ∷ c.ZeitwerkNameError ∷ []

pub map-classes : map (λ x. core_record (core_seen x, core_module x)) classes ≡ core_records
map-classes = refl

seen_grown : (old new : List Text) (m : Module) → OnlyGrows old new → AreNamed old m.path → core_record_seen new m ≡ core_record_seen old m
seen_grown old new m grows named = ap (λ p. record (core_record_seen old m) { path = p }) (texts_of-grown old new m.path grows named)

pub record_pushed : (old new : List Text) (ms more : List Module) (m : Module) (xs : List CoreClass) (i : ℕ) (class d : CoreClass) → OnlyGrows old new
    → All (λ (x : Module). AreNamed old x.path) ms → map (core_record_seen old) ms ≡ take i core_records
    → core_record_seen new m ≡ core_record (core_seen class, core_module class) → AreNamed new m.path
    → map (λ x. core_record (core_seen x, core_module x)) xs ≡ core_records → i < length xs → class ≡ get_or xs i d → more ≡ ms ++ m ∷ []
    → (map (core_record_seen new) more ≡ take (i + 1) core_records) × All (λ (x : Module). AreNamed new x.path) more
record_pushed old new ms more m xs i class d grows named told one one_named all lt at e =
    let f : CoreClass → Core = λ x. core_record (core_seen x, core_module x) in
    let len : length core_records ≡ length xs = sym (ap (λ (rs : List Core). length rs) all) ∙ length-map xs f in
    let read : get_or core_records i (f class) ≡ f class = ap (λ rs. get_or rs i (f class)) (sym all) ∙ get_or-map f xs i d (f class) lt ∙ ap f (sym at) in
    let front : map (core_record_seen new) ms ≡ take i core_records = map-same (core_record_seen new) (core_record_seen old) (λ (x : Module). AreNamed old x.path) ms (λ x a. seen_grown old new x grows a) named ∙ told in (
      ap (map (core_record_seen new)) e ∙ map-append (core_record_seen new) ms (m ∷ []) ∙ (λ k. front k ++ (one ∙ sym read) k ∷ []) ∙ sym (take_more core_records i (f class) (omega (arith, lt, len))),
      subst (All (λ (x : Module). AreNamed new x.path)) (sym e)
          (All-pushed (λ (x : Module). AreNamed new x.path) ms m (All-weaker (λ (x : Module). AreNamed old x.path) (λ (x : Module). AreNamed new x.path) (λ x a. AreNamed-grown old new x.path grows a) ms named) one_named),
    )

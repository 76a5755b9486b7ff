-- Frames, told as the definition's.
use Rattle.std.proofs.Common.{◌≡◌, Bool, true, false, ℕ, zero, suc, ◌+◌, ◌<◌, ◌≤◌, List, [], ◌∷◌, ◌++◌, cond, get_or, length, map, max, nat_eq, slice_get, Option, Some, None, IfSome, refl, ap, sym, ◌∙◌, subst, arith}
use Rattle.std.specs.List.{All}
use Rattle.std.specs.Map.{lookup}
use Rattle.std.specs.Option.{option_map, unwrap_or}
use Rattle.std.proofs.lemmas.List.Elements.{All-append, All-cons, All-head, All-nil, All-tail}
use Rattle.indexmap.specs.IndexMap.{insert_entry}
use Rattle.zw_ast.specs.Named.{after, default_names, greatest}
use Rattle.zw_ast.specs.Node.{default_seen, defaults_of, name_seen, tree_seen}
use Rattle.zw_ast.specs.declared.node.Default.{Default}
use Rattle.zw_ast.specs.declared.node.Node.{Node}
use Rattle.zw_code.specs.Code.{code_names, told_code}
use Rattle.zw_code.specs.declared.code.Code.{Code}
use Rattle.zw_def.specs.Text.{Text}
use Rattle.zw_def_world.specs.Call as told_call
use Rattle.zw_def_world.specs.Control.{values_at}
use Rattle.zw_def_world.specs.Table.{Table, at}
use Rattle.zw_def_world.specs.Value as told
use Rattle.zw_heap.specs.Sound.{EntryIn, IsIn}
use Rattle.zw_heap.specs.Telling.{Telling, tell, told_variables}
use Rattle.zw_heap.specs.declared.mark.Sizes.{Sizes}
use Rattle.zw_heap.specs.declared.value.Value.{Value}
use Rattle.zw_heap.specs.declared.value.Value.TheVariants as v
use Rattle.zw_names.specs.declared.names.Name.{Name}
use Rattle.zw_told.proofs.TableLemmas.{at-told}
use Rattle.zw_frames.specs.Frame.{AreTold, parameters_told}
use Rattle.zw_frames.specs.Locals.{required_locals, value_or_nil}

-- ---- names that are told as a list has them

module _ (I : Telling) (names : List Text) (are_told : AreTold I names) where
  there : (ts : List Text) (n : ℕ) → n < length ts → slice_get ts n ≡ Some (unwrap_or (slice_get ts n) [])
  there [] n lt = absurd (omega (arith, lt))
  there (t ∷ ts) zero lt = refl
  there (t ∷ ts) (suc n) lt = there ts n (omega (arith, lt))

  pub name-told : (x : Name) → x.0 < length names → name_seen names x ≡ I.name x.0
  name-told x lt = sym (are_told x.0 (name_seen names x) (there names x.0 lt))

  pub required-told : (xs : List Name) (vs : List Value) → greatest after xs ≤ length names → told_variables I (required_locals xs vs) ≡ told_call.required_locals (map (name_seen names) xs) (map (tell I) vs)
  required-told [] vs few = refl
  required-told (x ∷ xs) [] few = refl
  required-told (x ∷ xs) (u ∷ vs) few = λ i. (sym (name-told x (omega (arith, few))) i, tell I u) ∷ required-told xs vs (omega (arith, few)) i

  -- the values of parameters
  module _ (es : List (ℕ × Value)) where
    value-told : (x : Name) → x.0 < length names → unwrap_or (at (name_seen names x) (told_variables I es)) told.nil ≡ tell I (value_or_nil es x)
    value-told x lt = ap (λ t. unwrap_or (at t (told_variables I es)) told.nil) (name-told x lt) ∙ ap (λ o. unwrap_or o told.nil) (at-told I.name I.names_differ (tell I) x.0 es) ∙ by (lookup (nat_eq x.0) es)
      where
        by : (o : Option Value) → unwrap_or (option_map (tell I) o) told.nil ≡ tell I (unwrap_or o v.Nil)
        by None = refl
        by (Some u) = refl

    pub values-told : (xs : List Name) (rest : List Text) (values : List Value) → greatest after xs ≤ length names → values_at (told_variables I es) rest ≡ map (tell I) values
        → values_at (told_variables I es) (map (name_seen names) xs ++ rest) ≡ map (tell I) (map (value_or_nil es) xs ++ values)
    values-told [] rest values few later = later
    values-told (x ∷ xs) rest values few later = λ i. value-told x (omega (arith, few)) i ∷ values-told xs rest values (omega (arith, few)) later i

    pub optional-told : (ds : List (Default Node)) → greatest default_names ds ≤ length names → values_at (told_variables I es) (told_call.default_names (defaults_of names (map (default_seen names) ds))) ≡ map (tell I) (map (λ (d : Default Node). value_or_nil es d.name) ds)
    optional-told [] few = refl
    optional-told (d ∷ ds) few = λ i. value-told d.name (omega (arith, few)) i ∷ optional-told ds (omega (arith, few)) i

    pub parameters-told : (c : Code) → code_names c ≤ length names → values_at (told_variables I es) (parameters_told I names c) ≡ map (tell I) (map (value_or_nil es) c.required ++ map (λ (d : Default Node). value_or_nil es d.name) c.optional)
    parameters-told c few = values-told c.required (told_call.default_names (told_code names I.module_id c).optional) (map (λ (d : Default Node). value_or_nil es d.name) c.optional) (omega (arith, few)) (optional-told c.optional (omega (arith, few)))

-- ---- what is in a heap

module _ (s : Sizes) where
  pub value-in : (es : List (ℕ × Value)) → All (EntryIn s) es → (x : Name) → IsIn s (value_or_nil es x)
  value-in [] all x = tt
  value-in (e ∷ es) all x = by (nat_eq x.0 e.0) (value-in es (All-tail (EntryIn s) e es all) x)
    where
      by : (b : Bool) → IsIn s (value_or_nil es x) → IsIn s (unwrap_or (cond b (Some e.1) (lookup (nat_eq x.0) es)) v.Nil)
      by true later = (All-head (EntryIn s) e es all).1
      by false later = later

  pub found-in : (es : List (ℕ × Value)) → All (EntryIn s) es → (x : ℕ) → IfSome (lookup (nat_eq x) es) (IsIn s)
  found-in [] all x = tt
  found-in (e ∷ es) all x = by (nat_eq x e.0) (found-in es (All-tail (EntryIn s) e es all) x)
    where
      by : (b : Bool) → IfSome (lookup (nat_eq x) es) (IsIn s) → IfSome (cond b (Some e.1) (lookup (nat_eq x) es)) (IsIn s)
      by true later = (All-head (EntryIn s) e es all).1
      by false later = later

  pub inserted-in : (x : ℕ) (u : Value) → x < s.names → IsIn s u → (es : List (ℕ × Value)) → All (EntryIn s) es → All (EntryIn s) (insert_entry nat_eq es x u)
  inserted-in x u named in-heap [] all = All-cons (EntryIn s) (x, u) [] (named, in-heap) (All-nil (EntryIn s))
  inserted-in x u named in-heap (e ∷ es) all = by (nat_eq x e.0) (inserted-in x u named in-heap es (All-tail (EntryIn s) e es all))
    where
      by : (b : Bool) → All (EntryIn s) (insert_entry nat_eq es x u) → All (EntryIn s) (cond b ((e.0, u) ∷ es) (e ∷ insert_entry nat_eq es x u))
      by true more = All-cons (EntryIn s) (e.0, u) es ((All-head (EntryIn s) e es all).0, in-heap) (All-tail (EntryIn s) e es all)
      by false more = All-cons (EntryIn s) e (insert_entry nat_eq es x u) (All-head (EntryIn s) e es all) more

  pub required-in : (xs : List Name) (vs : List Value) → greatest after xs ≤ s.names → All (IsIn s) vs → All (EntryIn s) (required_locals xs vs)
  required-in [] vs few all = All-nil (EntryIn s)
  required-in (x ∷ xs) [] few all = All-nil (EntryIn s)
  required-in (x ∷ xs) (u ∷ vs) few all = All-cons (EntryIn s) (x.0, u) (required_locals xs vs) (omega (arith, few), All-head (IsIn s) u vs all) (required-in xs vs (omega (arith, few)) (All-tail (IsIn s) u vs all))

  values-in : {X : Type 0} (name : X → Name) (es : List (ℕ × Value)) → All (EntryIn s) es → (xs : List X) → All (IsIn s) (map (λ x. value_or_nil es (name x)) xs)
  values-in name es all [] = All-nil (IsIn s)
  values-in name es all (x ∷ xs) = All-cons (IsIn s) (value_or_nil es (name x)) (map (λ x. value_or_nil es (name x)) xs) (value-in es all (name x)) (values-in name es all xs)

  pub parameters-in : (es : List (ℕ × Value)) → All (EntryIn s) es → (xs : List Name) (ds : List (Default Node)) → All (IsIn s) (map (value_or_nil es) xs ++ map (λ (d : Default Node). value_or_nil es d.name) ds)
  parameters-in es all xs ds = All-append (IsIn s) (map (value_or_nil es) xs) (map (λ (d : Default Node). value_or_nil es d.name) ds) (values-in (λ (x : Name). x) es all xs) (values-in (λ (d : Default Node). d.name) es all ds)

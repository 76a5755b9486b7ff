-- What rows of methods need of a call, the tests of their arguments, and the built-in `==`, at points alike.
use Rattle.std.specs.Prelude.{◌≡◌, ℕ, ◌+◌, ◌==◌, Bool, true, false, List, [], ◌∷◌, ◌++◌, codes, length, Option, Some, None}
use Rattle.std.proofs.Common.{sym, subst}
use Rattle.std.proofs.lemmas.List.{length-map}
use Rattle.zw_def.specs.Text.{Text}
use Rattle.zw_def_world.specs.Argument.{Kind, kind_text, Arguments}
use Rattle.zw_def_world.specs.Value.{Value, Values, nil, truth, int, text, symbol, array, module_at, object_at, no_values, value_then, is_true, items_of}
use Rattle.zw_def_world.specs.Inspect.{built_in}
use Rattle.zw_def_world.specs.Site.{Call, wrong_argument, kinds_tested, is_endless, numbers_tested, number_fits, tested, yes_or_no}
use Rattle.zw_def_world.specs.Equality.{if_lengths, if_same, same, same_items, among}
use Rattle.zw_def_world.specs.TextOfValue.{unless_long, text_or_built_in, with_text}
use Rattle.zw_def_world.specs.Act.{Act, reading}
use Rattle.zw_def_world.proofs.EvolutionLaws.{if_keeps, gives_keeps}
use Rattle.zw_def_world.proofs.RowLaws.{if_same_keeps, same_items_keeps, among_keeps, text_or_built_in_keeps, unless_long_keeps}
use Rattle.zw_fresh.specs.Renaming.{ren, ren_all}
use Rattle.zw_fresh.specs.CalmCode.{PlainName}
use Rattle.zw_fresh.specs.Alike.{Setting}
use Rattle.zw_fresh.proofs.PlainLaws.{to_s_plain}
use Rattle.zw_fresh.proofs.EndLaws.{Spends}
use Rattle.zw_fresh.proofs.ActLaws.{Alike, gives_alike, on_alike, if_alike, if_same_alike, reading_alike, paid_alike}
use Rattle.zw_fresh.proofs.TextLaws.{built_in_found}
use Rattle.zw_fresh.proofs.FaultLaws.{ren_list, no_comparison_alike, wrong_kind_alike, wrong_number_alike, too_long_alike}
use Rattle.zw_fresh.proofs.ValueLaws.{truth_same, items_of_same, is_of_same, is_same_same}

-- a call there is one here, renamed
abbrev pub CallAlike : {calm : Bool} → Setting calm → (Text → Bool) → Call → Type 0
CallAlike {calm} S old call = (r : Value) (x : Text) (vs : List Value) → PlainName calm x
    → Alike S old (call r x vs) (call (ren S.lift r) x (ren_list S.lift vs))

module _ {calm : Bool} {S : Setting calm} {old : Text → Bool} where
  -- ---- tests of arguments

  wrong_argument_alike : (compares : Bool) (r : Value) (kind : Kind) (v : Value)
      → Alike S old (wrong_argument compares r kind v) (wrong_argument compares (ren S.lift r) kind (ren S.lift v))
  wrong_argument_alike compares r kind v = if_alike compares (no_comparison_alike r v) (wrong_kind_alike v (kind_text kind))

  kinds_tested_alike : (compares : Bool) (r : Value) (rest : Option Kind) (kinds : List Kind) (vs : List Value) {m m' : Act}
      → Alike S old m m'
      → Alike S old (kinds_tested compares r rest kinds vs m) (kinds_tested compares (ren S.lift r) rest kinds (ren_list S.lift vs) m')
  kinds_tested_alike compares r rest kinds [] a = a
  kinds_tested_alike compares r rest (kind ∷ kinds) (v ∷ vs) a =
      if_same_alike (is_of_same S.lift kind v) (kinds_tested_alike compares r rest kinds vs a)
      (wrong_argument_alike compares r kind v)
  kinds_tested_alike compares r (Some kind) [] (v ∷ vs) a =
      if_same_alike (is_of_same S.lift kind v) (kinds_tested_alike compares r (Some kind) [] vs a)
      (wrong_argument_alike compares r kind v)
  kinds_tested_alike compares r None [] (v ∷ vs) a = a

  pub tested_alike : (a : Arguments) (r : Value) (vs : List Value) {m m' : Act} → Alike S old m m'
      → Alike S old (tested a r vs m) (tested a (ren S.lift r) (ren_list S.lift vs) m')
  tested_alike a r vs {m} {m'} b =
      subst (λ n. Alike S old (tested a r vs m)
      (numbers_tested n least most (is_endless a.rest) (kinds_tested a.compares (ren S.lift r) a.rest kinds (ren_list S.lift vs) m')))
      (sym (length-map vs (ren S.lift)))
      (if_alike (number_fits (length vs) least most (is_endless a.rest)) (kinds_tested_alike a.compares r a.rest kinds vs b)
      (wrong_number_alike (length vs) least most (is_endless a.rest)))
    where
      kinds : List Kind
      kinds = a.required ++ a.optional

      least : ℕ
      least = length a.required

      most : ℕ
      most = length a.required + length a.optional

  -- ---- the built-in `==`

  pub yes_or_no_alike : (b : Bool) → Alike S old (yes_or_no b) (yes_or_no b)
  yes_or_no_alike b = gives_alike (truth b)

  -- where what is asked is the same there
  pub yes_if_alike : {b b' : Bool} → b' ≡ b → Alike S old (yes_or_no b) (yes_or_no b')
  yes_if_alike {b} {b'} e = subst (λ d. Alike S old (yes_or_no b) (yes_or_no d)) (sym e) (yes_or_no_alike b)

  if_lengths_alike : (vs us : List Value) {m m' : Act} → Alike S old m m'
      → Alike S old (if_lengths vs us m) (if_lengths (ren_list S.lift vs) (ren_list S.lift us) m')
  if_lengths_alike vs us a =
      if_same_alike (λ k. length-map vs (ren S.lift) k == length-map us (ren S.lift) k) a (gives_alike (truth false))

  if_truth_alike : {m m' : Act} → Alike S old m m' → (v : Value)
      → Alike S old (if_same m v) (if_same m' (ren S.lift v))
  if_truth_alike a v = if_same_alike (truth_same S.lift v) a (gives_alike (truth false))

  mutual
    pub same_alike : (u v : Value) → Alike S old (same u v) (same (ren S.lift u) (ren S.lift v))
    same_alike (array us) (array vs) =
        subst (λ l. Alike S old (if_lengths (items_of us) (items_of vs) (same_items us vs))
        (if_lengths l (items_of (ren_all S.lift vs)) (same_items (ren_all S.lift us) (ren_all S.lift vs))))
        (sym (items_of_same S.lift us))
        (subst (λ l. Alike S old (if_lengths (items_of us) (items_of vs) (same_items us vs))
        (if_lengths (ren_list S.lift (items_of us)) l (same_items (ren_all S.lift us) (ren_all S.lift vs))))
        (sym (items_of_same S.lift vs)) (if_lengths_alike (items_of us) (items_of vs) (same_items_alike us vs)))
    same_alike nil v = yes_if_alike (is_same_same S nil v)
    same_alike (truth bit) v = yes_if_alike (is_same_same S (truth bit) v)
    same_alike (int whole) v = yes_if_alike (is_same_same S (int whole) v)
    same_alike (text bytes) v = yes_if_alike (is_same_same S (text bytes) v)
    same_alike (symbol name) v = yes_if_alike (is_same_same S (symbol name) v)
    same_alike (module_at id) v = yes_if_alike (is_same_same S (module_at id) v)
    same_alike (object_at id) v = yes_if_alike (is_same_same S (object_at id) v)
    same_alike (array us) nil = yes_or_no_alike false
    same_alike (array us) (truth bit) = yes_or_no_alike false
    same_alike (array us) (int whole) = yes_or_no_alike false
    same_alike (array us) (text bytes) = yes_or_no_alike false
    same_alike (array us) (symbol name) = yes_or_no_alike false
    same_alike (array us) (module_at id) = yes_or_no_alike false
    same_alike (array us) (object_at id) = yes_or_no_alike false

    same_items_alike : (us vs : Values)
        → Alike S old (same_items us vs) (same_items (ren_all S.lift us) (ren_all S.lift vs))
    same_items_alike no_values vs = yes_or_no_alike true
    same_items_alike (value_then u us) no_values = yes_or_no_alike true
    same_items_alike (value_then u us) (value_then v vs) =
        on_alike (paid_alike 1 (same_alike u v)) (if_truth_alike (same_items_alike us vs))
        (if_same_keeps (same_items_keeps (ren_all S.lift us) (ren_all S.lift vs)))

  pub among_alike : (v : Value) (vs : List Value) → Alike S old (among v vs) (among (ren S.lift v) (ren_list S.lift vs))
  among_alike v [] = gives_alike (truth false)
  among_alike v (u ∷ us) =
      on_alike (paid_alike 1 (same_alike u v))
      (λ found. if_same_alike (truth_same S.lift found) (gives_alike (truth true)) (among_alike v us))
      (λ found. if_keeps (is_true found) (gives_keeps (truth true)) (among_keeps (ren S.lift v) (ren_list S.lift us)))

  -- ---- texts of values

  unless_long_alike : {k k' : Text → Act} → ((t : Text) → Alike S old (k t) (k' t)) → (t : Text)
      → Alike S old (unless_long k t) (unless_long k' t)
  unless_long_alike b t = if_alike _ too_long_alike (b t)

  built_in_alike : (v : Value) {k k' : Text → Act} → ((t : Text) → Alike S old (k t) (k' t)) → ((t : Text) → Spends (k' t))
      → Alike S old (reading (λ w. built_in w v) (unless_long k)) (reading (λ w. built_in w (ren S.lift v)) (unless_long k'))
  built_in_alike v b l = reading_alike (λ w w' W. built_in_found W v) (unless_long_alike b) (unless_long_keeps l)

  pub text_or_alike : (v : Value) {k k' : Text → Act} → ((t : Text) → Alike S old (k t) (k' t)) → ((t : Text) → Spends (k' t))
      → (other : Value) → Alike S old (text_or_built_in v k other) (text_or_built_in (ren S.lift v) k' (ren S.lift other))
  text_or_alike v b l (text t) = b t
  text_or_alike v b l nil = built_in_alike v b l
  text_or_alike v b l (truth bit) = built_in_alike v b l
  text_or_alike v b l (int whole) = built_in_alike v b l
  text_or_alike v b l (symbol name) = built_in_alike v b l
  text_or_alike v b l (array items) = built_in_alike v b l
  text_or_alike v b l (module_at id) = built_in_alike v b l
  text_or_alike v b l (object_at id) = built_in_alike v b l

  pub with_text_alike : {call : Call} → CallAlike S old call → (v : Value) {k k' : Text → Act}
      → ((t : Text) → Alike S old (k t) (k' t)) → ((t : Text) → Spends (k' t))
      → Alike S old (with_text call v k) (with_text call (ren S.lift v) k')
  with_text_alike c (module_at i) b l =
      on_alike (c (module_at i) (codes "to_s") [] (to_s_plain calm)) (text_or_alike (module_at i) b l)
      (text_or_built_in_keeps (ren S.lift (module_at i)) l)
  with_text_alike c (object_at i) b l =
      on_alike (c (object_at i) (codes "to_s") [] (to_s_plain calm)) (text_or_alike (object_at i) b l)
      (text_or_built_in_keeps (ren S.lift (object_at i)) l)
  with_text_alike c nil b l = text_or_alike nil b l nil
  with_text_alike c (truth bit) b l = text_or_alike (truth bit) b l (truth bit)
  with_text_alike c (int whole) b l = text_or_alike (int whole) b l (int whole)
  with_text_alike c (text t) b l = b t
  with_text_alike c (symbol name) b l = text_or_alike (symbol name) b l (symbol name)
  with_text_alike c (array items) b l = text_or_alike (array items) b l (array items)

-- What holds of each change, holds of the tests of arguments, of the built-in `==` and of the texts of values.
use Rattle.std.specs.Prelude.{ℕ, Bool, List, Option, Some, None, [], ◌∷◌}
use Rattle.zw_def.specs.Text.{Text}
use Rattle.zw_def_world.specs.Act.{Act}
use Rattle.zw_def_world.specs.Argument.{Kind, Arguments}
use Rattle.zw_def_world.specs.Equality.{if_lengths, if_same, same, same_items, among}
use Rattle.zw_def_world.specs.Id.{Id}
use Rattle.zw_def_world.specs.Site.{Call, Site, wrong_argument, kinds_tested, numbers_tested, tested, on_module, on_modules, on_object, yes_or_no}
use Rattle.zw_def_world.specs.TextOfValue.{unless_long, text_or_built_in, text_of_holder, with_text}
use Rattle.zw_def_world.specs.Value.{Value, nil, truth, int, text, symbol, module_at, object_at, array, Values, no_values, value_then, Holder, no_holder, module_holder, object_holder}
use Rattle.zw_def_world.proofs.EvolutionLaws.{Evolution, Keeps, keeping, if_keeps, gives_keeps, on_keeps, paid_keeps}
use Rattle.zw_def_world.proofs.FaultLaws.{no_comparison_keeps, wrong_kind_keeps, wrong_number_keeps, too_long_keeps}

-- ---- tests of arguments

abbrev pub CallKeeps : Evolution → Call → Type 0
CallKeeps E call = (r : Value) (x : Text) (vs : List Value) → Keeps E (call r x vs)

pub record SiteKeeps (E : Evolution) (s : Site) : Type 0 where
  pub sends : CallKeeps E s.sends
  pub makes : CallKeeps E s.makes
  pub constant : (n : Text) (i : Id) → Keeps E (s.constant n i)

pub wrong_argument_keeps : {E : Evolution} (compares : Bool) (r : Value) (kind : Kind) (v : Value) → Keeps E
    (wrong_argument compares r kind v)
wrong_argument_keeps compares r kind v = search (keeping, no_comparison_keeps, wrong_kind_keeps)

pub kinds_tested_keeps : {E : Evolution} (compares : Bool) (r : Value) (rest : Option Kind) (kinds : List Kind)
    (vs : List Value) {m : Act} (a : Keeps E m) → Keeps E (kinds_tested compares r rest kinds vs m)
kinds_tested_keeps compares r rest kinds [] a = a
kinds_tested_keeps compares r rest (kind ∷ kinds) (v ∷ vs) a =
    if_keeps _ (kinds_tested_keeps compares r rest kinds vs a) (wrong_argument_keeps compares r kind v)
kinds_tested_keeps compares r (Some kind) [] (v ∷ vs) a =
    if_keeps _ (kinds_tested_keeps compares r (Some kind) [] vs a) (wrong_argument_keeps compares r kind v)
kinds_tested_keeps compares r None [] (v ∷ vs) a = a

pub numbers_tested_keeps : {E : Evolution} (given : ℕ) (least : ℕ) (most : ℕ) (endless : Bool) {m : Act}
    (a : Keeps E m) → Keeps E (numbers_tested given least most endless m)
numbers_tested_keeps given least most endless a = search (keeping, wrong_number_keeps)

pub tested_keeps : {E : Evolution} (a : Arguments) (r : Value) (vs : List Value) {m : Act} (a2 : Keeps E m) →
    Keeps E (tested a r vs m)
tested_keeps a r vs a2 = search (keeping, numbers_tested_keeps, kinds_tested_keeps)

pub on_module_keeps : {E : Evolution} (v : Value) {k : Id → Act} (b : (y : Id) → Keeps E (k y)) → Keeps E
    (on_module v k)
on_module_keeps v b = search keeping

pub on_modules_keeps : {E : Evolution} (u : Value) (v : Value) {k : Id → Id → Act}
    (b : (y1 : Id) (y2 : Id) → Keeps E (k y1 y2)) → Keeps E (on_modules u v k)
on_modules_keeps u v b = search (keeping, on_module_keeps)

pub on_object_keeps : {E : Evolution} (v : Value) {k : Id → Act} (b : (y : Id) → Keeps E (k y)) → Keeps E
    (on_object v k)
on_object_keeps v b = search keeping

pub yes_or_no_keeps : {E : Evolution} (b : Bool) → Keeps E (yes_or_no b)
yes_or_no_keeps b = search keeping

-- ---- the built-in `==`

pub if_lengths_keeps : {E : Evolution} (vs : List Value) (us : List Value) {m : Act} (a : Keeps E m) → Keeps E
    (if_lengths vs us m)
if_lengths_keeps vs us a = search keeping

pub if_same_keeps : {E : Evolution} {m : Act} (a : Keeps E m) (v : Value) → Keeps E (if_same m v)
if_same_keeps a v = search keeping

mutual
  pub same_keeps : {E : Evolution} (u v : Value) → Keeps E (same u v)
  same_keeps nil v = yes_or_no_keeps _
  same_keeps (truth bit) v = yes_or_no_keeps _
  same_keeps (int whole) v = yes_or_no_keeps _
  same_keeps (text bytes) v = yes_or_no_keeps _
  same_keeps (symbol name) v = yes_or_no_keeps _
  same_keeps (module_at id) v = yes_or_no_keeps _
  same_keeps (object_at id) v = yes_or_no_keeps _
  same_keeps (array us) nil = yes_or_no_keeps _
  same_keeps (array us) (truth bit) = yes_or_no_keeps _
  same_keeps (array us) (int whole) = yes_or_no_keeps _
  same_keeps (array us) (text bytes) = yes_or_no_keeps _
  same_keeps (array us) (symbol name) = yes_or_no_keeps _
  same_keeps (array us) (module_at id) = yes_or_no_keeps _
  same_keeps (array us) (object_at id) = yes_or_no_keeps _
  same_keeps (array us) (array vs) = if_keeps _ (same_items_keeps us vs) (gives_keeps _)

  pub same_items_keeps : {E : Evolution} (us vs : Values) → Keeps E (same_items us vs)
  same_items_keeps no_values vs = yes_or_no_keeps _
  same_items_keeps (value_then u us) no_values = yes_or_no_keeps _
  same_items_keeps (value_then u us) (value_then v vs) =
      on_keeps (paid_keeps 1 (same_keeps u v)) (λ w. if_same_keeps (same_items_keeps us vs) w)

pub among_keeps : {E : Evolution} (v : Value) (vs : List Value) → Keeps E (among v vs)
among_keeps v [] = search keeping
among_keeps {E} v (u ∷ us) =
    let later : (v : Value) → Keeps E (among v us) = λ v. among_keeps v us in
    search (keeping, same_keeps, later)

-- ---- texts of values

pub unless_long_keeps : {E : Evolution} {k : Text → Act} (b : (y : Text) → Keeps E (k y)) (t : Text) → Keeps E
    (unless_long k t)
unless_long_keeps b t = search (keeping, too_long_keeps)

pub text_or_built_in_keeps : {E : Evolution} (v : Value) {k : Text → Act} (b : (y : Text) → Keeps E (k y))
    (other : Value) → Keeps E (text_or_built_in v k other)
text_or_built_in_keeps v b (text t) = search keeping
text_or_built_in_keeps v b nil = search (keeping, unless_long_keeps)
text_or_built_in_keeps v b (truth bit) = search (keeping, unless_long_keeps)
text_or_built_in_keeps v b (int whole) = search (keeping, unless_long_keeps)
text_or_built_in_keeps v b (symbol name) = search (keeping, unless_long_keeps)
text_or_built_in_keeps v b (array items) = search (keeping, unless_long_keeps)
text_or_built_in_keeps v b (module_at id) = search (keeping, unless_long_keeps)
text_or_built_in_keeps v b (object_at id) = search (keeping, unless_long_keeps)

pub text_of_holder_keeps : {E : Evolution} {call : Call} (c : CallKeeps E call) (v : Value) {k : Text → Act}
    (b : (y : Text) → Keeps E (k y)) (h : Holder) → Keeps E (text_of_holder call v k h)
text_of_holder_keeps c v b no_holder = search (keeping, text_or_built_in_keeps)
text_of_holder_keeps c v b (module_holder id) = search (keeping, text_or_built_in_keeps)
text_of_holder_keeps c v b (object_holder id) = search (keeping, text_or_built_in_keeps)

pub with_text_keeps : {E : Evolution} {call : Call} (c : CallKeeps E call) (v : Value) {k : Text → Act}
    (b : (y : Text) → Keeps E (k y)) → Keeps E (with_text call v k)
with_text_keeps c v b = search (keeping, text_of_holder_keeps)

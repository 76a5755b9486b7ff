-- What rows of methods read of values, which a renaming leaves.
use Rattle.std.specs.Prelude.{◌≡◌, Bool, List, [], ◌∷◌}
use Rattle.std.proofs.Common.{refl, ap}
use Rattle.zw_def_world.specs.Argument.{Kind, integers, strings, symbols, arrays, modules, any}
use Rattle.zw_def_world.specs.Value.{Value, Values, nil, truth, int, text, symbol, array, module_at, object_at, no_values, value_then, is_true, integer_in, text_in, items_in, items_of}
use Rattle.zw_def_world.specs.Site.{is_of, first, second}
use Rattle.zw_def_world.specs.Equality.{is_same}
use Rattle.zw_fresh.specs.Renaming.{Names, ren, ren_all}
use Rattle.zw_fresh.specs.Alike.{Setting}
use Rattle.zw_fresh.proofs.FaultLaws.{ren_list}

-- ---- what values are

pub truth_same : (f : Names) (v : Value) → is_true (ren f v) ≡ is_true v
truth_same f nil = refl
truth_same f (truth b) = refl
truth_same f (int z) = refl
truth_same f (text t) = refl
truth_same f (symbol t) = refl
truth_same f (array vs) = refl
truth_same f (module_at i) = refl
truth_same f (object_at i) = refl

pub integer_same : (f : Names) (v : Value) → integer_in (ren f v) ≡ integer_in v
integer_same f nil = refl
integer_same f (truth b) = refl
integer_same f (int z) = refl
integer_same f (text t) = refl
integer_same f (symbol t) = refl
integer_same f (array vs) = refl
integer_same f (module_at i) = refl
integer_same f (object_at i) = refl

pub text_same : (f : Names) (v : Value) → text_in (ren f v) ≡ text_in v
text_same f nil = refl
text_same f (truth b) = refl
text_same f (int z) = refl
text_same f (text t) = refl
text_same f (symbol t) = refl
text_same f (array vs) = refl
text_same f (module_at i) = refl
text_same f (object_at i) = refl

pub items_of_same : (f : Names) (vs : Values) → items_of (ren_all f vs) ≡ ren_list f (items_of vs)
items_of_same f no_values = refl
items_of_same f (value_then v vs) = ap (λ l. ren f v ∷ l) (items_of_same f vs)

pub items_same : (f : Names) (v : Value) → items_in (ren f v) ≡ ren_list f (items_in v)
items_same f nil = refl
items_same f (truth b) = refl
items_same f (int z) = refl
items_same f (text t) = refl
items_same f (symbol t) = refl
items_same f (array vs) = items_of_same f vs
items_same f (module_at i) = refl
items_same f (object_at i) = refl

pub first_same : (f : Names) (vs : List Value) → first (ren_list f vs) ≡ ren f (first vs)
first_same f [] = refl
first_same f (v ∷ vs) = refl

pub second_same : (f : Names) (vs : List Value) → second (ren_list f vs) ≡ ren f (second vs)
second_same f [] = refl
second_same f (v ∷ []) = refl
second_same f (v ∷ u ∷ vs) = refl

pub is_of_same : (f : Names) (kind : Kind) (v : Value) → is_of kind (ren f v) ≡ is_of kind v
is_of_same f integers nil = refl
is_of_same f integers (truth b) = refl
is_of_same f integers (int z) = refl
is_of_same f integers (text t) = refl
is_of_same f integers (symbol t) = refl
is_of_same f integers (array vs) = refl
is_of_same f integers (module_at i) = refl
is_of_same f integers (object_at i) = refl
is_of_same f strings nil = refl
is_of_same f strings (truth b) = refl
is_of_same f strings (int z) = refl
is_of_same f strings (text t) = refl
is_of_same f strings (symbol t) = refl
is_of_same f strings (array vs) = refl
is_of_same f strings (module_at i) = refl
is_of_same f strings (object_at i) = refl
is_of_same f symbols nil = refl
is_of_same f symbols (truth b) = refl
is_of_same f symbols (int z) = refl
is_of_same f symbols (text t) = refl
is_of_same f symbols (symbol t) = refl
is_of_same f symbols (array vs) = refl
is_of_same f symbols (module_at i) = refl
is_of_same f symbols (object_at i) = refl
is_of_same f arrays nil = refl
is_of_same f arrays (truth b) = refl
is_of_same f arrays (int z) = refl
is_of_same f arrays (text t) = refl
is_of_same f arrays (symbol t) = refl
is_of_same f arrays (array vs) = refl
is_of_same f arrays (module_at i) = refl
is_of_same f arrays (object_at i) = refl
is_of_same f modules nil = refl
is_of_same f modules (truth b) = refl
is_of_same f modules (int z) = refl
is_of_same f modules (text t) = refl
is_of_same f modules (symbol t) = refl
is_of_same f modules (array vs) = refl
is_of_same f modules (module_at i) = refl
is_of_same f modules (object_at i) = refl
is_of_same f any v = refl

pub is_same_same : {calm : Bool} (S : Setting calm) (u v : Value) → is_same (ren S.lift u) (ren S.lift v) ≡ is_same u v
is_same_same S nil nil = refl
is_same_same S (truth a) (truth b) = refl
is_same_same S (int a) (int b) = refl
is_same_same S (text a) (text b) = refl
is_same_same S (symbol a) (symbol b) = refl
is_same_same S (module_at i) (module_at j) = S.apart i j
is_same_same S (object_at i) (object_at j) = S.objects_apart i j
is_same_same S _ _ = refl

-- The built-in `==`, in which each comparison of two items costs a step (ISO/IEC 30170, 15.3.1.3.1).
use Rattle.std.specs.Prelude.{Bool, true, false, ◌==◌, List, [], ◌∷◌, length, if◌then◌else◌}
use Rattle.std.specs.Ordering.{int_eq}
use Rattle.std.specs.Str.{bytes_eq}
use Rattle.zw_def_world.specs.Id.{id_eq}
use Rattle.zw_def_world.specs.Value.{Value, Values, nil, truth, int, text, symbol, array, module_at, object_at, no_values, value_then, items_of, is_true}
use Rattle.zw_def_world.specs.MethodLine.{bool_eq}
use Rattle.zw_def_world.specs.Site.{yes_or_no}
use Rattle.zw_def_world.specs.Act.{Act, gives, ◌>>=◌, paid}

abbrev pub if_lengths : List Value → List Value → Act → Act
if_lengths vs us act = if length vs == length us then act else gives (truth false)

abbrev pub if_same : Act → Value → Act
if_same act v = if is_true v then act else gives (truth false)

-- values that are not both arrays
abbrev pub is_same : Value → Value → Bool
is_same nil nil = true
is_same (truth a) (truth b) = bool_eq a b
is_same (int y) (int z) = int_eq y z
is_same (text s) (text t) = bytes_eq s t
is_same (symbol s) (symbol t) = bytes_eq s t
is_same (module_at i) (module_at j) = id_eq i j
is_same (object_at i) (object_at j) = id_eq i j
is_same u v = false

-- arrays by their sizes and then their items, objects and modules by identity, others by content
abbrev mutual
  pub same : Value → Value → Act
  same (array us) (array vs) = if_lengths (items_of us) (items_of vs) (same_items us vs)
  same u v = yes_or_no (is_same u v)

  pub same_items : Values → Values → Act
  same_items no_values vs = yes_or_no true
  same_items (value_then u us) no_values = yes_or_no true
  same_items (value_then u us) (value_then v vs) = paid 1 (same u v) >>= if_same (same_items us vs)

-- whether a value is among the items
abbrev pub among : Value → List Value → Act
among v [] = gives (truth false)
among v (u ∷ us) =
    paid 1 (same u v) >>= (λ found.
    let later = among v us in
    if is_true found then gives (truth true) else later)

-- What the methods of Array do (ISO/IEC 30170, 15.2.12).
use Rattle.std.specs.Prelude.{ℕ, suc, ℤ, pos, negsuc, ◌+◌, ◌-◌, ◌+ℤ◌, Bool, true, false, nat_lt, ◌==◌, List, [], ◌∷◌, ◌++◌, length, get_or, reverse, take, drop, filter, Option, Some, if◌then◌else◌}
use Rattle.std.specs.Option.{option_map}
use Rattle.zw_def.specs.Text.{Text}
use Rattle.zw_def_world.specs.Row.{ArrayRow, array_plus, array_minus, array_at, array_size, array_is_empty, array_first, array_last, array_includes, array_index, array_reverse, array_join, array_take, array_drop, array_compact, array_uniq, array_sum}
use Rattle.zw_def_world.specs.Argument.{integers}
use Rattle.zw_def_world.specs.Missing.{bind}
use Rattle.zw_def_world.specs.Value.{Value, nil, int, is_true, integer_in, items_in, text_in}
use Rattle.zw_def_world.specs.World.{World}
use Rattle.zw_def_world.specs.Inspect.{built_in}
use Rattle.zw_def_world.specs.Making.{makes_array, makes_integer, makes_text}
use Rattle.zw_def_world.specs.Fault.{wrong_kind}
use Rattle.zw_def_world.specs.Site.{Site, is_of, first, yes_or_no}
use Rattle.zw_def_world.specs.Equality.{same, among}
use Rattle.zw_def_world.specs.IntegerRows.{counted}
use Rattle.zw_def_world.specs.Act.{Act, gives, ◌>>=◌, reading, paid}

abbrev pub last_value : Value → List Value → Value
last_value v [] = v
last_value v (u ∷ us) = last_value u us

abbrev pub item_at : ℤ → List Value → Value
item_at (pos n) vs = get_or vs n nil
item_at (negsuc n) vs = if nat_lt n (length vs) then get_or vs (length vs - suc n) nil else nil

abbrev pub joined_by : World → Text → List Value → Option Text
joined_by w separator [] = Some []
joined_by w separator (v ∷ vs) =
    let later = joined_by w separator vs in
    bind (built_in w v) (λ t. option_map (λ more. separator ++ t ++ more) later)

abbrev pub join_texts : World → Text → List Value → Option Text
join_texts w separator [] = Some []
join_texts w separator (v ∷ vs) = bind (built_in w v) (λ t. option_map (λ more. t ++ more) (joined_by w separator vs))

abbrev pub sum_of : ℤ → List Value → ℤ
sum_of z [] = z
sum_of z (v ∷ vs) = sum_of (z +ℤ integer_in v) vs

abbrev pub integers_tested : List Value → Act → Act
integers_tested [] act = act
integers_tested (v ∷ vs) act =
    let later = integers_tested vs act in
    if is_of integers v then later else wrong_kind v "Integer"

-- one that is kept unless it is found
abbrev pub kept_unless : Value → List Value → Value → List Value
kept_unless v kept found = if is_true found then kept else kept ++ v ∷ []

abbrev pub without_items : List Value → List Value → List Value → Act
without_items others kept [] = makes_array kept
without_items others kept (v ∷ vs) =
    among v others >>= (λ found. without_items others (kept_unless v kept found) vs)

abbrev pub uniques : List Value → List Value → Act
uniques kept [] = makes_array kept
uniques kept (v ∷ vs) = among v kept >>= (λ found. uniques (kept_unless v kept found) vs)

abbrev pub index_from : ℕ → Value → List Value → Act
index_from n v [] = gives nil
index_from n v (u ∷ us) =
    paid 1 (same u v) >>= (λ found.
    let later = index_from (n + 1) v us in
    if is_true found then gives (int (pos n)) else later)

abbrev pub is_some_value : Value → Bool
is_some_value nil = false
is_some_value v = true

-- ---- the methods

abbrev pub array_act : Site → ArrayRow → Value → List Value → Act
array_act s array_plus r vs = makes_array (items_in r ++ items_in (first vs))
array_act s array_minus r vs = without_items (items_in (first vs)) [] (items_in r)
array_act s array_at r vs = gives (item_at (integer_in (first vs)) (items_in r))
array_act s array_size r vs = gives (int (pos (length (items_in r))))
array_act s array_is_empty r vs = yes_or_no (length (items_in r) == 0)
array_act s array_first r vs = gives (first (items_in r))
array_act s array_last r vs = gives (last_value nil (items_in r))
array_act s array_includes r vs = among (first vs) (items_in r)
array_act s array_index r vs = index_from 0 (first vs) (items_in r)
array_act s array_reverse r vs = makes_array (reverse (items_in r))
array_act s array_join r vs = reading (λ w. join_texts w (text_in (first vs)) (items_in r)) makes_text
array_act s array_take r vs = counted (λ n. makes_array (take n (items_in r))) (integer_in (first vs))
array_act s array_drop r vs = counted (λ n. makes_array (drop n (items_in r))) (integer_in (first vs))
array_act s array_compact r vs = makes_array (filter is_some_value (items_in r))
array_act s array_uniq r vs = uniques [] (items_in r)
array_act s array_sum r vs = integers_tested (items_in r) (makes_integer (sum_of (pos 0) (items_in r)))

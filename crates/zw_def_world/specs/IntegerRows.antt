-- What the methods of Integer and NilClass do (ISO/IEC 30170, 15.2.8 and 15.2.4).
use Rattle.std.specs.Prelude.{ℕ, suc, ℤ, pos, negsuc, ◌/◌, Bool, not, ◌&&◌, ◌+ℤ◌, ◌-ℤ◌, ◌*ℤ◌, neg_ℤ, int_lt, int_le, List, [], ◌∷◌, codes, if◌then◌else◌}
use Rattle.std.specs.Ordering.{int_eq}
use Rattle.zw_def_world.specs.Row.{IntegerRow, NilRow, nil_to_i, nil_to_a, integer_plus, integer_minus, integer_times, integer_over, integer_rest, integer_negated, integer_less, integer_less_or_same, integer_greater, integer_greater_or_same, integer_compared, integer_abs, integer_is_zero, integer_is_positive, integer_is_negative, integer_is_even, integer_is_odd, integer_succ, integer_pred, integer_to_i, integer_divmod, integer_between, integer_clamp}
use Rattle.zw_def_world.specs.CoreClass.{ArgumentError, ZeroDivisionError}
use Rattle.zw_def_world.specs.Value.{Value, nil, int, integer_in}
use Rattle.zw_def_world.specs.Making.{fails, makes_array, makes_integer}
use Rattle.zw_def_world.specs.Site.{Site, first, second, yes_or_no}
use Rattle.zw_def_world.specs.Act.{Act, gives, ◌>>=◌}

abbrev pub over_positive : ℤ → ℕ → ℤ
over_positive (pos a) b = pos (a / b)
over_positive (negsuc a) b = negsuc (a / b)

-- rounds down
abbrev pub over : ℤ → ℤ → ℤ
over a (pos b) = over_positive a b
over a (negsuc b) = over_positive (neg_ℤ a) (suc b)

abbrev pub rest : ℤ → ℤ → ℤ
rest a b = a -ℤ b *ℤ over a b

abbrev pub if_divides : ℤ → Act → Act
if_divides b act = if int_eq b (pos 0) then fails ZeroDivisionError (codes "divided by 0") else act

abbrev pub compared : ℤ → Value → Value
compared a (int b) = int (if int_lt a b then negsuc 0 else if int_eq a b then pos 0 else pos 1)
compared a v = nil

abbrev pub is_even : ℤ → Bool
is_even z = int_eq (rest z (pos 2)) (pos 0)

abbrev pub abs : ℤ → ℤ
abs (pos n) = pos n
abs (negsuc n) = pos (suc n)

abbrev pub makes_quotients : ℤ → ℤ → Act
makes_quotients a b = makes_integer (over a b) >>= (λ q. makes_array (q ∷ int (rest a b) ∷ []))

abbrev pub counted : (ℕ → Act) → ℤ → Act
counted k (pos n) = k n
counted k (negsuc n) = fails ArgumentError (codes "argument must be non-negative")

abbrev pub clamped : ℤ → ℤ → ℤ → Act
clamped z low high =
    if int_lt high low then fails ArgumentError (codes "min argument must be less than or equal to max argument")
    else gives (int (if int_lt z low then low else if int_lt high z then high else z))

-- ---- the methods

abbrev pub integer_act : Site → IntegerRow → Value → List Value → Act
integer_act s integer_plus r vs = makes_integer (integer_in r +ℤ integer_in (first vs))
integer_act s integer_minus r vs = makes_integer (integer_in r -ℤ integer_in (first vs))
integer_act s integer_times r vs = makes_integer (integer_in r *ℤ integer_in (first vs))
integer_act s integer_over r vs =
    if_divides (integer_in (first vs)) (makes_integer (over (integer_in r) (integer_in (first vs))))
integer_act s integer_rest r vs =
    if_divides (integer_in (first vs)) (gives (int (rest (integer_in r) (integer_in (first vs)))))
integer_act s integer_negated r vs = makes_integer (neg_ℤ (integer_in r))
integer_act s integer_less r vs = yes_or_no (int_lt (integer_in r) (integer_in (first vs)))
integer_act s integer_less_or_same r vs = yes_or_no (int_le (integer_in r) (integer_in (first vs)))
integer_act s integer_greater r vs = yes_or_no (int_lt (integer_in (first vs)) (integer_in r))
integer_act s integer_greater_or_same r vs = yes_or_no (int_le (integer_in (first vs)) (integer_in r))
integer_act s integer_compared r vs = gives (compared (integer_in r) (first vs))
integer_act s integer_abs r vs = makes_integer (abs (integer_in r))
integer_act s integer_is_zero r vs = yes_or_no (int_eq (integer_in r) (pos 0))
integer_act s integer_is_positive r vs = yes_or_no (int_lt (pos 0) (integer_in r))
integer_act s integer_is_negative r vs = yes_or_no (int_lt (integer_in r) (pos 0))
integer_act s integer_is_even r vs = yes_or_no (is_even (integer_in r))
integer_act s integer_is_odd r vs = yes_or_no (not (is_even (integer_in r)))
integer_act s integer_succ r vs = makes_integer (integer_in r +ℤ pos 1)
integer_act s integer_pred r vs = makes_integer (integer_in r -ℤ pos 1)
integer_act s integer_to_i r vs = gives r
integer_act s integer_divmod r vs =
    if_divides (integer_in (first vs)) (makes_quotients (integer_in r) (integer_in (first vs)))
integer_act s integer_between r vs =
    yes_or_no (int_le (integer_in (first vs)) (integer_in r) && int_le (integer_in r) (integer_in (second vs)))
integer_act s integer_clamp r vs = clamped (integer_in r) (integer_in (first vs)) (integer_in (second vs))

abbrev pub nil_act : Site → NilRow → Value → List Value → Act
nil_act s nil_to_i r vs = gives (int (pos 0))
nil_act s nil_to_a r vs = makes_array []

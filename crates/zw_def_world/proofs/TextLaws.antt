-- What holds of each change, holds of the methods of Integer, String, Symbol, Array and NilClass.
use Rattle.std.specs.Prelude.{ℕ, ℤ, pos, negsuc, List, Option, Some, None, [], ◌∷◌}
use Rattle.zw_def.specs.Text.{Text}
use Rattle.zw_def_world.specs.Act.{Act}
use Rattle.zw_def_world.specs.ArrayRows.{integers_tested, without_items, uniques, index_from, array_act}
use Rattle.zw_def_world.specs.IntegerRows.{if_divides, makes_quotients, counted, clamped, integer_act, nil_act}
use Rattle.zw_def_world.specs.Row.{IntegerRow, integer_plus, integer_minus, integer_times, integer_over, integer_rest, integer_negated, integer_less, integer_less_or_same, integer_greater, integer_greater_or_same, integer_compared, integer_abs, integer_is_zero, integer_is_positive, integer_is_negative, integer_is_even, integer_is_odd, integer_succ, integer_pred, integer_to_i, integer_divmod, integer_between, integer_clamp, NilRow, nil_to_i, nil_to_a, StringRow, string_plus, string_times, string_less, string_less_or_same, string_greater, string_greater_or_same, string_compared, string_size, string_bytesize, string_is_empty, string_upcase, string_downcase, string_capitalize, string_reverse, string_includes, string_starts_with, string_ends_with, string_at, string_to_i, string_to_sym, string_strip, string_split, string_chars, string_ljust, string_rjust, string_delete_prefix, string_delete_suffix, SymbolRow, symbol_to_sym, symbol_size, symbol_compared, ArrayRow, array_plus, array_minus, array_at, array_size, array_is_empty, array_first, array_last, array_includes, array_index, array_reverse, array_join, array_take, array_drop, array_compact, array_uniq, array_sum}
use Rattle.zw_def_world.specs.Site.{Site}
use Rattle.zw_def_world.specs.StringRows.{times, character_at, characters_at, part_at, makes_pieces, splits, unless_too_long, justified_left, justified_right, string_act, symbol_act}
use Rattle.zw_def_world.specs.Value.{Value}
use Rattle.zw_def_world.proofs.EvolutionLaws.{Evolution, Keeps, keeping, gives_keeps, if_keeps}
use Rattle.zw_def_world.proofs.FaultLaws.{fails_keeps, makes_integer_keeps, makes_array_keeps, too_long_keeps, makes_text_keeps, wrong_kind_keeps}
use Rattle.zw_def_world.proofs.RowLaws.{SiteKeeps, among_keeps, same_keeps}

-- ---- Integer and NilClass

pub if_divides_keeps : {E : Evolution} (b : ℤ) {m : Act} (a : Keeps E m) → Keeps E (if_divides b m)
if_divides_keeps b a = search (keeping, fails_keeps)

pub makes_quotients_keeps : {E : Evolution} (a : ℤ) (b : ℤ) → Keeps E (makes_quotients a b)
makes_quotients_keeps a b = search (keeping, makes_integer_keeps, makes_array_keeps)

pub counted_keeps : {E : Evolution} {k : ℕ → Act} (b : (y : ℕ) → Keeps E (k y)) (z : ℤ) → Keeps E (counted k z)
counted_keeps b (pos n) = search keeping
counted_keeps b (negsuc n) = search (keeping, fails_keeps)

pub clamped_keeps : {E : Evolution} (z : ℤ) (low : ℤ) (high : ℤ) → Keeps E (clamped z low high)
clamped_keeps z low high = search (keeping, fails_keeps)

pub integer_act_keeps : {E : Evolution} (s : Site) (of_s : SiteKeeps E s) (z : IntegerRow) (r : Value)
    (vs : List Value) → Keeps E (integer_act s z r vs)
integer_act_keeps s of_s integer_plus r vs = search (keeping, makes_integer_keeps)
integer_act_keeps s of_s integer_minus r vs = search (keeping, makes_integer_keeps)
integer_act_keeps s of_s integer_times r vs = search (keeping, makes_integer_keeps)
integer_act_keeps s of_s integer_over r vs = search (keeping, if_divides_keeps, makes_integer_keeps)
integer_act_keeps s of_s integer_rest r vs = search (keeping, if_divides_keeps)
integer_act_keeps s of_s integer_negated r vs = search (keeping, makes_integer_keeps)
integer_act_keeps s of_s integer_less r vs = search keeping
integer_act_keeps s of_s integer_less_or_same r vs = search keeping
integer_act_keeps s of_s integer_greater r vs = search keeping
integer_act_keeps s of_s integer_greater_or_same r vs = search keeping
integer_act_keeps s of_s integer_compared r vs = search keeping
integer_act_keeps s of_s integer_abs r vs = search (keeping, makes_integer_keeps)
integer_act_keeps s of_s integer_is_zero r vs = search keeping
integer_act_keeps s of_s integer_is_positive r vs = search keeping
integer_act_keeps s of_s integer_is_negative r vs = search keeping
integer_act_keeps s of_s integer_is_even r vs = search keeping
integer_act_keeps s of_s integer_is_odd r vs = search keeping
integer_act_keeps s of_s integer_succ r vs = search (keeping, makes_integer_keeps)
integer_act_keeps s of_s integer_pred r vs = search (keeping, makes_integer_keeps)
integer_act_keeps s of_s integer_to_i r vs = search keeping
integer_act_keeps s of_s integer_divmod r vs = search (keeping, if_divides_keeps, makes_quotients_keeps)
integer_act_keeps s of_s integer_between r vs = search keeping
integer_act_keeps s of_s integer_clamp r vs = search (keeping, clamped_keeps)

pub nil_act_keeps : {E : Evolution} (s : Site) (of_s : SiteKeeps E s) (z : NilRow) (r : Value) (vs : List Value)
    → Keeps E (nil_act s z r vs)
nil_act_keeps s of_s nil_to_i r vs = search keeping
nil_act_keeps s of_s nil_to_a r vs = search (keeping, makes_array_keeps)

-- ---- String and Symbol

pub times_keeps : {E : Evolution} (z : ℤ) (t : Text) → Keeps E (times z t)
times_keeps (pos n) t = search (keeping, too_long_keeps, makes_text_keeps)
times_keeps (negsuc n) t = search (keeping, fails_keeps)

pub character_at_keeps : {E : Evolution} (z : Option ℕ) (cs : List ℕ) → Keeps E (character_at z cs)
character_at_keeps None cs = search keeping
character_at_keeps (Some n) cs = search (keeping, makes_text_keeps)

pub characters_at_keeps : {E : Evolution} (z : Option ℕ) (count : ℤ) (cs : List ℕ) → Keeps E
    (characters_at z count cs)
characters_at_keeps None (pos n) cs = search keeping
characters_at_keeps None (negsuc n) cs = search keeping
characters_at_keeps (Some n) (negsuc count) cs = search keeping
characters_at_keeps (Some n) (pos count) cs = search (keeping, makes_text_keeps)

pub part_at_keeps : {E : Evolution} (cs : List ℕ) (vs : List Value) → Keeps E (part_at cs vs)
part_at_keeps cs [] = gives_keeps _
part_at_keeps cs (i ∷ []) = character_at_keeps _ cs
part_at_keeps cs (i ∷ count ∷ more) = characters_at_keeps _ _ cs

pub makes_pieces_keeps : {E : Evolution} (made : List Value) (z : List Text) → Keeps E (makes_pieces made z)
makes_pieces_keeps made [] = search (keeping, makes_array_keeps)
makes_pieces_keeps {E} made (t ∷ ts) =
    let later : (made : List Value) → Keeps E (makes_pieces made ts) = λ made. makes_pieces_keeps made ts in
    search (keeping, makes_text_keeps, later)

pub splits_keeps : {E : Evolution} (t : Text) (separator : Text) → Keeps E (splits t separator)
splits_keeps t separator = search (keeping, fails_keeps, makes_pieces_keeps)

pub unless_too_long_keeps : {E : Evolution} (n : ℕ) {m : Act} (a : Keeps E m) → Keeps E (unless_too_long n m)
unless_too_long_keeps n a = search (keeping, too_long_keeps)

pub justified_left_keeps : {E : Evolution} (n : ℕ) (t : Text) → Keeps E (justified_left n t)
justified_left_keeps n t = search (keeping, unless_too_long_keeps, makes_text_keeps)

pub justified_right_keeps : {E : Evolution} (n : ℕ) (t : Text) → Keeps E (justified_right n t)
justified_right_keeps n t = search (keeping, unless_too_long_keeps, makes_text_keeps)

pub string_act_keeps : {E : Evolution} (s : Site) (of_s : SiteKeeps E s) (z : StringRow) (r : Value)
    (vs : List Value) → Keeps E (string_act s z r vs)
string_act_keeps s of_s string_plus r vs = search (keeping, makes_text_keeps)
string_act_keeps s of_s string_times r vs = search (keeping, times_keeps)
string_act_keeps s of_s string_less r vs = search keeping
string_act_keeps s of_s string_less_or_same r vs = search keeping
string_act_keeps s of_s string_greater r vs = search keeping
string_act_keeps s of_s string_greater_or_same r vs = search keeping
string_act_keeps s of_s string_compared r vs = search keeping
string_act_keeps s of_s string_size r vs = search keeping
string_act_keeps s of_s string_bytesize r vs = search keeping
string_act_keeps s of_s string_is_empty r vs = search keeping
string_act_keeps s of_s string_upcase r vs = search (keeping, makes_text_keeps)
string_act_keeps s of_s string_downcase r vs = search (keeping, makes_text_keeps)
string_act_keeps s of_s string_capitalize r vs = search (keeping, makes_text_keeps)
string_act_keeps s of_s string_reverse r vs = search (keeping, makes_text_keeps)
string_act_keeps s of_s string_includes r vs = search keeping
string_act_keeps s of_s string_starts_with r vs = search keeping
string_act_keeps s of_s string_ends_with r vs = search keeping
string_act_keeps s of_s string_at r vs = search (keeping, part_at_keeps)
string_act_keeps s of_s string_to_i r vs = search (keeping, makes_integer_keeps)
string_act_keeps s of_s string_to_sym r vs = search keeping
string_act_keeps s of_s string_strip r vs = search (keeping, makes_text_keeps)
string_act_keeps s of_s string_split r vs = search (keeping, splits_keeps)
string_act_keeps s of_s string_chars r vs = search (keeping, makes_pieces_keeps)
string_act_keeps s of_s string_ljust r vs = search (keeping, justified_left_keeps)
string_act_keeps s of_s string_rjust r vs = search (keeping, justified_right_keeps)
string_act_keeps s of_s string_delete_prefix r vs = search (keeping, makes_text_keeps)
string_act_keeps s of_s string_delete_suffix r vs = search (keeping, makes_text_keeps)

pub symbol_act_keeps : {E : Evolution} (s : Site) (of_s : SiteKeeps E s) (z : SymbolRow) (r : Value)
    (vs : List Value) → Keeps E (symbol_act s z r vs)
symbol_act_keeps s of_s symbol_to_sym r vs = search keeping
symbol_act_keeps s of_s symbol_size r vs = search keeping
symbol_act_keeps s of_s symbol_compared r vs = search keeping

-- ---- Array

pub integers_tested_keeps : {E : Evolution} (vs : List Value) {m : Act} (a : Keeps E m) → Keeps E
    (integers_tested vs m)
integers_tested_keeps [] a = a
integers_tested_keeps (v ∷ vs) a = if_keeps _ (integers_tested_keeps vs a) (wrong_kind_keeps v "Integer")

pub without_items_keeps : {E : Evolution} (others : List Value) (kept : List Value) (vs : List Value) → Keeps E
    (without_items others kept vs)
without_items_keeps others kept [] = search (keeping, makes_array_keeps)
without_items_keeps {E} others kept (v ∷ vs) =
    let later : (others : List Value) (kept : List Value) → Keeps E (without_items others kept vs) =
    λ others kept. without_items_keeps others kept vs in
    search (keeping, among_keeps, later)

pub uniques_keeps : {E : Evolution} (kept : List Value) (vs : List Value) → Keeps E (uniques kept vs)
uniques_keeps kept [] = search (keeping, makes_array_keeps)
uniques_keeps {E} kept (v ∷ vs) =
    let later : (kept : List Value) → Keeps E (uniques kept vs) = λ kept. uniques_keeps kept vs in
    search (keeping, among_keeps, later)

pub index_from_keeps : {E : Evolution} (n : ℕ) (v : Value) (vs : List Value) → Keeps E (index_from n v vs)
index_from_keeps n v [] = search keeping
index_from_keeps {E} n v (u ∷ us) =
    let later : (n : ℕ) (v : Value) → Keeps E (index_from n v us) = λ n v. index_from_keeps n v us in
    search (keeping, same_keeps, later)

pub array_act_keeps : {E : Evolution} (s : Site) (of_s : SiteKeeps E s) (z : ArrayRow) (r : Value)
    (vs : List Value) → Keeps E (array_act s z r vs)
array_act_keeps s of_s array_plus r vs = search (keeping, makes_array_keeps)
array_act_keeps s of_s array_minus r vs = search (keeping, without_items_keeps)
array_act_keeps s of_s array_at r vs = search keeping
array_act_keeps s of_s array_size r vs = search keeping
array_act_keeps s of_s array_is_empty r vs = search keeping
array_act_keeps s of_s array_first r vs = search keeping
array_act_keeps s of_s array_last r vs = search keeping
array_act_keeps s of_s array_includes r vs = search (keeping, among_keeps)
array_act_keeps s of_s array_index r vs = search (keeping, index_from_keeps)
array_act_keeps s of_s array_reverse r vs = search (keeping, makes_array_keeps)
array_act_keeps s of_s array_join r vs = search (keeping, makes_text_keeps)
array_act_keeps s of_s array_take r vs = search (keeping, counted_keeps, makes_array_keeps)
array_act_keeps s of_s array_drop r vs = search (keeping, counted_keeps, makes_array_keeps)
array_act_keeps s of_s array_compact r vs = search (keeping, makes_array_keeps)
array_act_keeps s of_s array_uniq r vs = search (keeping, uniques_keeps)
array_act_keeps s of_s array_sum r vs = search (keeping, integers_tested_keeps, makes_integer_keeps)

-- The methods of Integer, NilClass, String and Symbol keep points alike.
use Rattle.std.specs.Prelude.{◌≡◌, ℕ, suc, ℤ, pos, negsuc, ◌*◌, ◌+◌, ◌==◌, Bool, not, ◌&&◌, nat_lt, nat_le, List, [], ◌∷◌, ◌++◌, codes, length, map, reverse, take, drop, ◌+ℤ◌, ◌-ℤ◌, ◌*ℤ◌, neg_ℤ, int_lt, int_le, Option, Some, None, if◌then◌else◌}
use Rattle.std.specs.List.{concat}
use Rattle.std.specs.Char.{encode_utf8}
use Rattle.std.specs.Ordering.{int_eq}
use Rattle.std.specs.Str.{chars}
use Rattle.std.proofs.Common.{refl, sym, ap, ◌∙◌, subst}
use Rattle.std.proofs.lemmas.List.{map-append}
use Rattle.zw_def.specs.Text.{Text}
use Rattle.zw_def.specs.Constant.{raised as raised_letter, lowered, capitalized}
use Rattle.zw_def_world.specs.Row.{IntegerRow, integer_plus, integer_minus, integer_times, integer_over, integer_rest, integer_negated, integer_less, integer_less_or_same, integer_greater, integer_greater_or_same, integer_compared, integer_abs, integer_is_zero, integer_is_positive, integer_is_negative, integer_is_even, integer_is_odd, integer_succ, integer_pred, integer_to_i, integer_divmod, integer_between, integer_clamp, NilRow, nil_to_i, nil_to_a, StringRow, string_plus, string_times, string_less, string_less_or_same, string_greater, string_greater_or_same, string_compared, string_size, string_bytesize, string_is_empty, string_upcase, string_downcase, string_capitalize, string_reverse, string_includes, string_starts_with, string_ends_with, string_at, string_to_i, string_to_sym, string_strip, string_split, string_chars, string_ljust, string_rjust, string_delete_prefix, string_delete_suffix, SymbolRow, symbol_to_sym, symbol_size, symbol_compared}
use Rattle.zw_def_world.specs.Value.{Value, nil, truth, int, text, symbol, array, module_at, object_at, integer_in, text_in}
use Rattle.zw_def_world.specs.Making.{makes_integer, makes_text, max_text}
use Rattle.zw_def_world.specs.Site.{Site, first, second, yes_or_no}
use Rattle.zw_def_world.specs.IntegerRows.{over, rest, if_divides, compared, is_even, abs, makes_quotients, clamped, integer_act, nil_act}
use Rattle.zw_def_world.specs.StringRows.{repeated, times, text_compared, name_compared, precedes, begins_with, holds, ends_with, place_in, character_at, characters_at, part_at, number_of, stripped, cut, is_empty, without_empty_end, makes_pieces, splits, padding, justified_left, justified_right, without_prefix, without_suffix, of_characters, string_act, symbol_act}
use Rattle.zw_def_world.specs.Act.{Act, gives}
use Rattle.zw_def_world.proofs.FaultLaws.{makes_array_keeps}
use Rattle.zw_def_world.proofs.TextLaws.{makes_pieces_keeps}
use Rattle.zw_fresh.specs.Renaming.{Names, ren}
use Rattle.zw_fresh.specs.Alike.{Setting}
use Rattle.zw_fresh.proofs.ActLaws.{Alike, gives_alike, on_alike, if_alike}
use Rattle.zw_fresh.proofs.FaultLaws.{ren_list, fails_alike, too_long_alike, makes_text_alike, makes_integer_alike, makes_array_alike}
use Rattle.zw_fresh.proofs.ValueLaws.{integer_same, text_same, first_same, second_same}
use Rattle.zw_fresh.proofs.SiteLaws.{yes_or_no_alike}

-- ---- what rows read of their arguments

compared_same : (f : Names) (z : ℤ) (v : Value) → compared z (ren f v) ≡ ren f (compared z v)
compared_same f z nil = refl
compared_same f z (truth b) = refl
compared_same f z (int y) = refl
compared_same f z (text t) = refl
compared_same f z (symbol t) = refl
compared_same f z (array vs) = refl
compared_same f z (module_at i) = refl
compared_same f z (object_at i) = refl

text_compared_same : (f : Names) (s : Text) (v : Value) → text_compared s (ren f v) ≡ ren f (text_compared s v)
text_compared_same f s nil = refl
text_compared_same f s (truth b) = refl
text_compared_same f s (int y) = refl
text_compared_same f s (text t) = refl
text_compared_same f s (symbol t) = refl
text_compared_same f s (array vs) = refl
text_compared_same f s (module_at i) = refl
text_compared_same f s (object_at i) = refl

name_compared_same : (f : Names) (s : Text) (v : Value) → name_compared s (ren f v) ≡ ren f (name_compared s v)
name_compared_same f s nil = refl
name_compared_same f s (truth b) = refl
name_compared_same f s (int y) = refl
name_compared_same f s (text t) = refl
name_compared_same f s (symbol t) = refl
name_compared_same f s (array vs) = refl
name_compared_same f s (module_at i) = refl
name_compared_same f s (object_at i) = refl

module _ {calm : Bool} {S : Setting calm} {old : Text → Bool} where
  -- a row that reads the receiver's number and those of two arguments
  by_integers : (F : ℤ → ℤ → ℤ → Act) → ((a b c : ℤ) → Alike S old (F a b c) (F a b c)) → (r : Value) (vs : List Value)
      → Alike S old (F (integer_in r) (integer_in (first vs)) (integer_in (second vs)))
      (F (integer_in (ren S.lift r)) (integer_in (first (ren_list S.lift vs))) (integer_in (second (ren_list S.lift vs))))
  by_integers F h r vs = subst (λ z. Alike S old (F (integer_in r) (integer_in (first vs)) (integer_in (second vs))) z)
      (λ k. F (sym (integer_same S.lift r) k) (sym (one (first vs) (first (ren_list S.lift vs)) (first_same S.lift vs)) k)
      (sym (one (second vs) (second (ren_list S.lift vs)) (second_same S.lift vs)) k))
      (h (integer_in r) (integer_in (first vs)) (integer_in (second vs)))
    where
      one : (v u : Value) → u ≡ ren S.lift v → integer_in u ≡ integer_in v
      one v u e = ap integer_in e ∙ integer_same S.lift v

  -- one that reads the receiver's text, and an argument's text and number
  by_texts : (F : Text → Text → ℤ → Act) → ((s t : Text) (z : ℤ) → Alike S old (F s t z) (F s t z)) → (r : Value)
      (vs : List Value) → Alike S old (F (text_in r) (text_in (first vs)) (integer_in (first vs)))
      (F (text_in (ren S.lift r)) (text_in (first (ren_list S.lift vs))) (integer_in (first (ren_list S.lift vs))))
  by_texts F h r vs = subst (λ z. Alike S old (F (text_in r) (text_in (first vs)) (integer_in (first vs))) z)
      (λ k. F (sym (text_same S.lift r) k) (sym (ap text_in (first_same S.lift vs) ∙ text_same S.lift (first vs)) k)
      (sym (ap integer_in (first_same S.lift vs) ∙ integer_same S.lift (first vs)) k))
      (h (text_in r) (text_in (first vs)) (integer_in (first vs)))

  -- ---- Integer

  if_divides_alike : (z : ℤ) {m m' : Act} → Alike S old m m' → Alike S old (if_divides z m) (if_divides z m')
  if_divides_alike z a = if_alike (int_eq z (pos 0)) (fails_alike 23 refl (codes "divided by 0")) a

  quotients_alike : (a b : ℤ) → Alike S old (makes_quotients a b) (makes_quotients a b)
  quotients_alike a b = on_alike (makes_integer_alike (over a b)) (λ q. makes_array_alike (q ∷ int (rest a b) ∷ []))
      (λ q. makes_array_keeps (q ∷ int (rest a b) ∷ []))

  clamped_alike : (a b c : ℤ) → Alike S old (clamped a b c) (clamped a b c)
  clamped_alike a b c = if_alike (int_lt c b)
      (fails_alike 17 refl (codes "min argument must be less than or equal to max argument")) (gives_alike (int (if int_lt a b then b else if int_lt c a then c else a)))

  pub integer_alike : (s : Site) (row : IntegerRow) (r : Value) (vs : List Value)
      → Alike S old (integer_act s row r vs) (integer_act s row (ren S.lift r) (ren_list S.lift vs))
  integer_alike s integer_plus r vs = by_integers (λ a b c. makes_integer (a +ℤ b)) (λ a b c. makes_integer_alike (a +ℤ b)) r vs
  integer_alike s integer_minus r vs = by_integers (λ a b c. makes_integer (a -ℤ b)) (λ a b c. makes_integer_alike (a -ℤ b)) r vs
  integer_alike s integer_times r vs = by_integers (λ a b c. makes_integer (a *ℤ b)) (λ a b c. makes_integer_alike (a *ℤ b)) r vs
  integer_alike s integer_over r vs = by_integers (λ a b c. if_divides b (makes_integer (over a b)))
      (λ a b c. if_divides_alike b (makes_integer_alike (over a b))) r vs
  integer_alike s integer_rest r vs = by_integers (λ a b c. if_divides b (gives (int (rest a b))))
      (λ a b c. if_divides_alike b (gives_alike (int (rest a b)))) r vs
  integer_alike s integer_negated r vs = by_integers (λ a b c. makes_integer (neg_ℤ a)) (λ a b c. makes_integer_alike (neg_ℤ a)) r vs
  integer_alike s integer_less r vs = by_integers (λ a b c. yes_or_no (int_lt a b)) (λ a b c. yes_or_no_alike (int_lt a b)) r vs
  integer_alike s integer_less_or_same r vs = by_integers (λ a b c. yes_or_no (int_le a b)) (λ a b c. yes_or_no_alike (int_le a b)) r vs
  integer_alike s integer_greater r vs = by_integers (λ a b c. yes_or_no (int_lt b a)) (λ a b c. yes_or_no_alike (int_lt b a)) r vs
  integer_alike s integer_greater_or_same r vs = by_integers (λ a b c. yes_or_no (int_le b a)) (λ a b c. yes_or_no_alike (int_le b a)) r vs
  integer_alike s integer_compared r vs =
      subst (λ v. Alike S old (gives (compared (integer_in r) (first vs))) (gives v))
      (sym ((λ k. compared (integer_same S.lift r k) (first_same S.lift vs k)) ∙ compared_same S.lift (integer_in r) (first vs)))
      (gives_alike (compared (integer_in r) (first vs)))
  integer_alike s integer_abs r vs = by_integers (λ a b c. makes_integer (abs a)) (λ a b c. makes_integer_alike (abs a)) r vs
  integer_alike s integer_is_zero r vs = by_integers (λ a b c. yes_or_no (int_eq a (pos 0))) (λ a b c. yes_or_no_alike (int_eq a (pos 0))) r vs
  integer_alike s integer_is_positive r vs = by_integers (λ a b c. yes_or_no (int_lt (pos 0) a)) (λ a b c. yes_or_no_alike (int_lt (pos 0) a)) r vs
  integer_alike s integer_is_negative r vs = by_integers (λ a b c. yes_or_no (int_lt a (pos 0))) (λ a b c. yes_or_no_alike (int_lt a (pos 0))) r vs
  integer_alike s integer_is_even r vs = by_integers (λ a b c. yes_or_no (is_even a)) (λ a b c. yes_or_no_alike (is_even a)) r vs
  integer_alike s integer_is_odd r vs = by_integers (λ a b c. yes_or_no (not (is_even a))) (λ a b c. yes_or_no_alike (not (is_even a))) r vs
  integer_alike s integer_succ r vs = by_integers (λ a b c. makes_integer (a +ℤ pos 1)) (λ a b c. makes_integer_alike (a +ℤ pos 1)) r vs
  integer_alike s integer_pred r vs = by_integers (λ a b c. makes_integer (a -ℤ pos 1)) (λ a b c. makes_integer_alike (a -ℤ pos 1)) r vs
  integer_alike s integer_to_i r vs = gives_alike r
  integer_alike s integer_divmod r vs = by_integers (λ a b c. if_divides b (makes_quotients a b))
      (λ a b c. if_divides_alike b (quotients_alike a b)) r vs
  integer_alike s integer_between r vs = by_integers (λ a b c. yes_or_no (int_le b a && int_le a c))
      (λ a b c. yes_or_no_alike (int_le b a && int_le a c)) r vs
  integer_alike s integer_clamp r vs = by_integers clamped clamped_alike r vs

  pub nil_alike : (s : Site) (row : NilRow) (r : Value) (vs : List Value)
      → Alike S old (nil_act s row r vs) (nil_act s row (ren S.lift r) (ren_list S.lift vs))
  nil_alike s nil_to_i r vs = gives_alike (int (pos 0))
  nil_alike s nil_to_a r vs = makes_array_alike []

  -- ---- String and Symbol

  times_alike : (z : ℤ) (t : Text) → Alike S old (times z t) (times z t)
  times_alike (pos n) t = if_alike (nat_lt max_text (n * length t)) too_long_alike (makes_text_alike (repeated n t))
  times_alike (negsuc n) t = fails_alike 17 refl (codes "argument must be non-negative")

  character_alike : (o : Option ℕ) (cs : List ℕ) → Alike S old (character_at o cs) (character_at o cs)
  character_alike None cs = gives_alike nil
  character_alike (Some n) cs = if_alike (nat_lt n (length cs)) (makes_text_alike (of_characters (take 1 (drop n cs)))) (gives_alike nil)

  characters_alike : (o : Option ℕ) (z : ℤ) (cs : List ℕ) → Alike S old (characters_at o z cs) (characters_at o z cs)
  characters_alike None (pos m) cs = gives_alike nil
  characters_alike None (negsuc m) cs = gives_alike nil
  characters_alike (Some n) (negsuc m) cs = gives_alike nil
  characters_alike (Some n) (pos m) cs = if_alike (nat_le n (length cs)) (makes_text_alike (of_characters (take m (drop n cs)))) (gives_alike nil)

  part_alike : (cs : List ℕ) (vs : List Value) → Alike S old (part_at cs vs) (part_at cs (ren_list S.lift vs))
  part_alike cs [] = gives_alike nil
  part_alike cs (i ∷ []) = subst (λ z. Alike S old (part_at cs (i ∷ [])) (character_at (place_in z (length cs)) cs))
      (sym (integer_same S.lift i)) (character_alike (place_in (integer_in i) (length cs)) cs)
  part_alike cs (i ∷ c ∷ more) =
      subst (λ z. Alike S old (part_at cs (i ∷ c ∷ more)) (characters_at (place_in z (length cs)) (integer_in (ren S.lift c)) cs))
      (sym (integer_same S.lift i))
      (subst (λ z. Alike S old (part_at cs (i ∷ c ∷ more)) (characters_at (place_in (integer_in i) (length cs)) z cs))
      (sym (integer_same S.lift c)) (characters_alike (place_in (integer_in i) (length cs)) (integer_in c) cs))

  pieces_alike : (made : List Value) (ts : List Text) → Alike S old (makes_pieces made ts) (makes_pieces (ren_list S.lift made) ts)
  pieces_alike made [] = makes_array_alike made
  pieces_alike made (t ∷ ts) = on_alike (makes_text_alike t)
      (λ v. subst (λ l. Alike S old (makes_pieces (made ++ v ∷ []) ts) (makes_pieces l ts))
      (map-append (ren S.lift) made (v ∷ [])) (pieces_alike (made ++ v ∷ []) ts))
      (λ v. makes_pieces_keeps (ren_list S.lift made ++ v ∷ []) ts)

  splits_alike : (t separator : Text) → Alike S old (splits t separator) (splits t separator)
  splits_alike t separator = if_alike (is_empty separator) (fails_alike 17 refl (codes "empty separator")) (pieces_alike [] (without_empty_end (cut (suc (length t)) separator [] t)))

  left_alike : (n : ℕ) (t : Text) → Alike S old (justified_left n t) (justified_left n t)
  left_alike n t = if_alike (nat_lt max_text (length t + n)) too_long_alike (makes_text_alike (t ++ repeated n (codes " ")))

  right_alike : (n : ℕ) (t : Text) → Alike S old (justified_right n t) (justified_right n t)
  right_alike n t = if_alike (nat_lt max_text (length t + n)) too_long_alike (makes_text_alike (repeated n (codes " ") ++ t))

  pub string_alike : (s : Site) (row : StringRow) (r : Value) (vs : List Value)
      → Alike S old (string_act s row r vs) (string_act s row (ren S.lift r) (ren_list S.lift vs))
  string_alike s string_plus r vs = by_texts (λ t u z. makes_text (t ++ u)) (λ t u z. makes_text_alike (t ++ u)) r vs
  string_alike s string_times r vs = by_texts (λ t u z. times z t) (λ t u z. times_alike z t) r vs
  string_alike s string_less r vs = by_texts (λ t u z. yes_or_no (precedes t u)) (λ t u z. yes_or_no_alike (precedes t u)) r vs
  string_alike s string_less_or_same r vs = by_texts (λ t u z. yes_or_no (not (precedes u t))) (λ t u z. yes_or_no_alike (not (precedes u t))) r vs
  string_alike s string_greater r vs = by_texts (λ t u z. yes_or_no (precedes u t)) (λ t u z. yes_or_no_alike (precedes u t)) r vs
  string_alike s string_greater_or_same r vs = by_texts (λ t u z. yes_or_no (not (precedes t u))) (λ t u z. yes_or_no_alike (not (precedes t u))) r vs
  string_alike s string_compared r vs =
      subst (λ v. Alike S old (gives (text_compared (text_in r) (first vs))) (gives v))
      (sym ((λ k. text_compared (text_same S.lift r k) (first_same S.lift vs k)) ∙ text_compared_same S.lift (text_in r) (first vs)))
      (gives_alike (text_compared (text_in r) (first vs)))
  string_alike s string_size r vs = by_texts (λ t u z. gives (int (pos (length (chars t))))) (λ t u z. gives_alike (int (pos (length (chars t))))) r vs
  string_alike s string_bytesize r vs = by_texts (λ t u z. gives (int (pos (length t)))) (λ t u z. gives_alike (int (pos (length t)))) r vs
  string_alike s string_is_empty r vs = by_texts (λ t u z. yes_or_no (length t == 0)) (λ t u z. yes_or_no_alike (length t == 0)) r vs
  string_alike s string_upcase r vs = by_texts (λ t u z. makes_text (map raised_letter t)) (λ t u z. makes_text_alike (map raised_letter t)) r vs
  string_alike s string_downcase r vs = by_texts (λ t u z. makes_text (map lowered t)) (λ t u z. makes_text_alike (map lowered t)) r vs
  string_alike s string_capitalize r vs = by_texts (λ t u z. makes_text (capitalized t)) (λ t u z. makes_text_alike (capitalized t)) r vs
  string_alike s string_reverse r vs = by_texts (λ t u z. makes_text (concat (map encode_utf8 (reverse (chars t)))))
      (λ t u z. makes_text_alike (concat (map encode_utf8 (reverse (chars t))))) r vs
  string_alike s string_includes r vs = by_texts (λ t u z. yes_or_no (holds u t)) (λ t u z. yes_or_no_alike (holds u t)) r vs
  string_alike s string_starts_with r vs = by_texts (λ t u z. yes_or_no (begins_with u t)) (λ t u z. yes_or_no_alike (begins_with u t)) r vs
  string_alike s string_ends_with r vs = by_texts (λ t u z. yes_or_no (ends_with u t)) (λ t u z. yes_or_no_alike (ends_with u t)) r vs
  string_alike s string_at r vs = subst (λ t. Alike S old (part_at (chars (text_in r)) vs) (part_at (chars t) (ren_list S.lift vs)))
      (sym (text_same S.lift r)) (part_alike (chars (text_in r)) vs)
  string_alike s string_to_i r vs = by_texts (λ t u z. makes_integer (number_of t)) (λ t u z. makes_integer_alike (number_of t)) r vs
  string_alike s string_to_sym r vs = by_texts (λ t u z. gives (symbol t)) (λ t u z. gives_alike (symbol t)) r vs
  string_alike s string_strip r vs = by_texts (λ t u z. makes_text (stripped t)) (λ t u z. makes_text_alike (stripped t)) r vs
  string_alike s string_split r vs = by_texts (λ t u z. splits t u) (λ t u z. splits_alike t u) r vs
  string_alike s string_chars r vs = by_texts (λ t u z. makes_pieces [] (map encode_utf8 (chars t)))
      (λ t u z. pieces_alike [] (map encode_utf8 (chars t))) r vs
  string_alike s string_ljust r vs = by_texts (λ t u z. justified_left (padding z t) t) (λ t u z. left_alike (padding z t) t) r vs
  string_alike s string_rjust r vs = by_texts (λ t u z. justified_right (padding z t) t) (λ t u z. right_alike (padding z t) t) r vs
  string_alike s string_delete_prefix r vs = by_texts (λ t u z. makes_text (without_prefix u t)) (λ t u z. makes_text_alike (without_prefix u t)) r vs
  string_alike s string_delete_suffix r vs = by_texts (λ t u z. makes_text (without_suffix u t)) (λ t u z. makes_text_alike (without_suffix u t)) r vs

  pub symbol_alike : (s : Site) (row : SymbolRow) (r : Value) (vs : List Value)
      → Alike S old (symbol_act s row r vs) (symbol_act s row (ren S.lift r) (ren_list S.lift vs))
  symbol_alike s symbol_to_sym r vs = gives_alike r
  symbol_alike s symbol_size r vs = by_texts (λ t u z. gives (int (pos (length (chars t))))) (λ t u z. gives_alike (int (pos (length (chars t))))) r vs
  symbol_alike s symbol_compared r vs =
      subst (λ v. Alike S old (gives (name_compared (text_in r) (first vs))) (gives v))
      (sym ((λ k. name_compared (text_same S.lift r k) (first_same S.lift vs k)) ∙ name_compared_same S.lift (text_in r) (first vs)))
      (gives_alike (name_compared (text_in r) (first vs)))

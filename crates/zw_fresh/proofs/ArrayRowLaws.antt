-- The methods of Array keep points alike.
use Rattle.std.specs.Prelude.{◌≡◌, ℕ, zero, suc, ℤ, pos, negsuc, ◌+◌, ◌-◌, ◌+ℤ◌, ◌==◌, Bool, true, false, nat_lt, List, [], ◌∷◌, ◌++◌, codes, length, get_or, reverse, take, drop, filter, if◌then◌else◌}
use Rattle.std.proofs.Common.{refl, sym, ap, ◌∙◌, subst}
use Rattle.std.proofs.lemmas.List.{map-append, length-map, take-map, drop-map}
use Rattle.zw_lemmas.proofs.ListLemmas.{reverse-map}
use Rattle.zw_def.specs.Text.{Text}
use Rattle.zw_def_world.specs.Row.{ArrayRow, array_plus, array_minus, array_at, array_size, array_is_empty, array_first, array_last, array_includes, array_index, array_reverse, array_join, array_take, array_drop, array_compact, array_uniq, array_sum}
use Rattle.zw_def_world.specs.Argument.{integers}
use Rattle.zw_def_world.specs.Value.{Value, nil, truth, int, text, symbol, array, module_at, object_at, is_true, integer_in, items_in, text_in}
use Rattle.zw_def_world.specs.World.{World}
use Rattle.zw_def_world.specs.Making.{makes_array, makes_integer, makes_text}
use Rattle.zw_def_world.specs.Site.{Site, first, yes_or_no}
use Rattle.zw_def_world.specs.Equality.{among}
use Rattle.zw_def_world.specs.IntegerRows.{counted}
use Rattle.zw_def_world.specs.ArrayRows.{last_value, item_at, joined_by, join_texts, sum_of, integers_tested, kept_unless, without_items, uniques, index_from, is_some_value, array_act}
use Rattle.zw_def_world.specs.Act.{Act, gives, reading}
use Rattle.zw_def_world.proofs.EvolutionLaws.{if_keeps, gives_keeps}
use Rattle.zw_def_world.proofs.FaultLaws.{makes_text_keeps}
use Rattle.zw_def_world.proofs.TextLaws.{without_items_keeps, uniques_keeps, index_from_keeps}
use Rattle.zw_fresh.specs.Renaming.{Names, ren}
use Rattle.zw_fresh.specs.Alike.{Setting, Found, Worlds}
use Rattle.zw_fresh.proofs.ActLaws.{Alike, gives_alike, on_alike, if_same_alike, reading_alike, paid_alike}
use Rattle.zw_fresh.proofs.FoundLaws.{some_found, found_bind, found_map}
use Rattle.zw_fresh.proofs.TextLaws.{as_it_is, built_in_found}
use Rattle.zw_fresh.proofs.FaultLaws.{ren_list, fails_alike, wrong_kind_alike, makes_text_alike, makes_integer_alike, makes_array_alike}
use Rattle.zw_fresh.proofs.ValueLaws.{integer_same, text_same, items_same, first_same, truth_same, is_of_same}
use Rattle.zw_fresh.proofs.SiteLaws.{yes_or_no_alike, same_alike, among_alike}

-- ---- lists of values

item_same : (f : Names) (vs : List Value) (n : ℕ) → get_or (ren_list f vs) n nil ≡ ren f (get_or vs n nil)
item_same f [] n = refl
item_same f (v ∷ vs) zero = refl
item_same f (v ∷ vs) (suc n) = item_same f vs n

item_at_same : (f : Names) (z : ℤ) (vs : List Value) → item_at z (ren_list f vs) ≡ ren f (item_at z vs)
item_at_same f (pos n) vs = item_same f vs n
item_at_same f (negsuc n) vs =
    (λ k. if nat_lt n (length-map vs (ren f) k) then get_or (ren_list f vs) (length-map vs (ren f) k - suc n) nil else nil)
    ∙ one (nat_lt n (length vs)) (item_same f vs (length vs - suc n))
  where
    one : (b : Bool) → get_or (ren_list f vs) (length vs - suc n) nil ≡ ren f (get_or vs (length vs - suc n) nil)
        → (if b then get_or (ren_list f vs) (length vs - suc n) nil else nil)
        ≡ ren f (if b then get_or vs (length vs - suc n) nil else nil)
    one true e = e
    one false e = refl

last_same : (f : Names) (v : Value) (vs : List Value) → last_value (ren f v) (ren_list f vs) ≡ ren f (last_value v vs)
last_same f v [] = refl
last_same f v (u ∷ us) = last_same f u us

sum_same : (f : Names) (z : ℤ) (vs : List Value) → sum_of z (ren_list f vs) ≡ sum_of z vs
sum_same f z [] = refl
sum_same f z (v ∷ vs) = ap (λ y. sum_of (z +ℤ y) (ren_list f vs)) (integer_same f v) ∙ sum_same f (z +ℤ integer_in v) vs

is_value_same : (f : Names) (v : Value) → is_some_value (ren f v) ≡ is_some_value v
is_value_same f nil = refl
is_value_same f (truth b) = refl
is_value_same f (int z) = refl
is_value_same f (text t) = refl
is_value_same f (symbol t) = refl
is_value_same f (array vs) = refl
is_value_same f (module_at i) = refl
is_value_same f (object_at i) = refl

compact_same : (f : Names) (vs : List Value) → filter is_some_value (ren_list f vs) ≡ ren_list f (filter is_some_value vs)
compact_same f [] = refl
compact_same f (v ∷ vs) =
    (λ k. if is_value_same f v k then ren f v ∷ compact_same f vs k else compact_same f vs k) ∙ one (is_some_value v)
  where
    one : (b : Bool) → (if b then ren f v ∷ ren_list f (filter is_some_value vs) else ren_list f (filter is_some_value vs))
        ≡ ren_list f (if b then v ∷ filter is_some_value vs else filter is_some_value vs)
    one true = refl
    one false = refl

kept_same : (f : Names) (v : Value) (kept : List Value) (found : Value)
    → kept_unless (ren f v) (ren_list f kept) (ren f found) ≡ ren_list f (kept_unless v kept found)
kept_same f v kept found =
    (λ k. if truth_same f found k then ren_list f kept else sym (map-append (ren f) kept (v ∷ [])) k) ∙ one (is_true found)
  where
    one : (b : Bool) → (if b then ren_list f kept else ren_list f (kept ++ v ∷ [])) ≡ ren_list f (if b then kept else kept ++ v ∷ [])
    one true = refl
    one false = refl

-- ---- join

module _ {calm : Bool} {S : Setting calm} {w w' : World} (W : Worlds calm S w w') where
  joined_by_found : (t : Text) (vs : List Value) → Found calm as_it_is (joined_by w t vs) (joined_by w' t (ren_list S.lift vs))
  joined_by_found t [] = some_found [] refl
  joined_by_found t (v ∷ vs) =
      found_bind _ _ (built_in_found W v) (λ u. found_map _ _ (joined_by_found t vs) (λ more. refl))

  join_found : (t : Text) (vs : List Value) → Found calm as_it_is (join_texts w t vs) (join_texts w' t (ren_list S.lift vs))
  join_found t [] = some_found [] refl
  join_found t (v ∷ vs) = found_bind _ _ (built_in_found W v) (λ u. found_map _ _ (joined_by_found t vs) (λ more. refl))

-- ---- acts

module _ {calm : Bool} {S : Setting calm} {old : Text → Bool} where
  -- a row that reads the receiver's items, and an argument
  by_items : (F : List Value → Value → Act)
      → ((us : List Value) (v : Value) → Alike S old (F us v) (F (ren_list S.lift us) (ren S.lift v)))
      → (r : Value) (vs : List Value)
      → Alike S old (F (items_in r) (first vs)) (F (items_in (ren S.lift r)) (first (ren_list S.lift vs)))
  by_items F h r vs = subst (λ act. Alike S old (F (items_in r) (first vs)) act)
      (λ k. F (sym (items_same S.lift r) k) (sym (first_same S.lift vs) k)) (h (items_in r) (first vs))

  gives_as : (u v : Value) → u ≡ ren S.lift v → Alike S old (gives v) (gives u)
  gives_as u v e = subst (λ z. Alike S old (gives v) (gives z)) (sym e) (gives_alike v)

  makes_as : (us vs : List Value) → us ≡ ren_list S.lift vs → Alike S old (makes_array vs) (makes_array us)
  makes_as us vs e = subst (λ z. Alike S old (makes_array vs) (makes_array z)) (sym e) (makes_array_alike vs)

  without_alike : (others kept vs : List Value) → Alike S old (without_items others kept vs)
      (without_items (ren_list S.lift others) (ren_list S.lift kept) (ren_list S.lift vs))
  without_alike others kept [] = makes_array_alike kept
  without_alike others kept (v ∷ vs) = on_alike (among_alike v others)
      (λ found. subst (λ l. Alike S old (without_items others (kept_unless v kept found) vs)
      (without_items (ren_list S.lift others) l (ren_list S.lift vs)))
      (sym (kept_same S.lift v kept found)) (without_alike others (kept_unless v kept found) vs))
      (λ found. without_items_keeps (ren_list S.lift others) (kept_unless (ren S.lift v) (ren_list S.lift kept) found) (ren_list S.lift vs))

  uniques_alike : (kept vs : List Value)
      → Alike S old (uniques kept vs) (uniques (ren_list S.lift kept) (ren_list S.lift vs))
  uniques_alike kept [] = makes_array_alike kept
  uniques_alike kept (v ∷ vs) = on_alike (among_alike v kept)
      (λ found. subst (λ l. Alike S old (uniques (kept_unless v kept found) vs) (uniques l (ren_list S.lift vs)))
      (sym (kept_same S.lift v kept found)) (uniques_alike (kept_unless v kept found) vs))
      (λ found. uniques_keeps (kept_unless (ren S.lift v) (ren_list S.lift kept) found) (ren_list S.lift vs))

  index_alike : (n : ℕ) (v : Value) (us : List Value)
      → Alike S old (index_from n v us) (index_from n (ren S.lift v) (ren_list S.lift us))
  index_alike n v [] = gives_alike nil
  index_alike n v (u ∷ us) = on_alike (paid_alike 1 (same_alike u v))
      (λ found. if_same_alike (truth_same S.lift found) (gives_alike (int (pos n))) (index_alike (n + 1) v us))
      (λ found. if_keeps (is_true found) (gives_keeps (int (pos n))) (index_from_keeps (n + 1) (ren S.lift v) (ren_list S.lift us)))

  integers_alike : (vs : List Value) {m m' : Act} → Alike S old m m'
      → Alike S old (integers_tested vs m) (integers_tested (ren_list S.lift vs) m')
  integers_alike [] a = a
  integers_alike (v ∷ vs) a = if_same_alike (is_of_same S.lift integers v) (integers_alike vs a) (wrong_kind_alike v "Integer")

  counted_alike : {k k' : ℕ → Act} → ((n : ℕ) → Alike S old (k n) (k' n)) → (z : ℤ)
      → Alike S old (counted k z) (counted k' z)
  counted_alike b (pos n) = b n
  counted_alike b (negsuc n) = fails_alike 17 refl (codes "argument must be non-negative")

  -- where an argument's number is read
  by_number : (F F' : ℤ → Act) → ((z : ℤ) → Alike S old (F z) (F' z)) → (v : Value)
      → Alike S old (F (integer_in v)) (F' (integer_in (ren S.lift v)))
  by_number F F' h v = subst (λ z. Alike S old (F (integer_in v)) (F' z)) (sym (integer_same S.lift v)) (h (integer_in v))

  pub array_alike : (s : Site) (row : ArrayRow) (r : Value) (vs : List Value)
      → Alike S old (array_act s row r vs) (array_act s row (ren S.lift r) (ren_list S.lift vs))
  array_alike s array_plus r vs = by_items (λ us v. makes_array (us ++ items_in v)) (λ us v.
      makes_as (ren_list S.lift us ++ items_in (ren S.lift v)) (us ++ items_in v)
      (ap (λ l. ren_list S.lift us ++ l) (items_same S.lift v) ∙ sym (map-append (ren S.lift) us (items_in v)))) r vs
  array_alike s array_minus r vs = by_items (λ us v. without_items (items_in v) [] us) (λ us v.
      subst (λ l. Alike S old (without_items (items_in v) [] us) (without_items l [] (ren_list S.lift us)))
      (sym (items_same S.lift v)) (without_alike (items_in v) [] us)) r vs
  array_alike s array_at r vs = by_items (λ us v. gives (item_at (integer_in v) us)) (λ us v.
      by_number (λ z. gives (item_at z us)) (λ z. gives (item_at z (ren_list S.lift us)))
      (λ z. gives_as (item_at z (ren_list S.lift us)) (item_at z us) (item_at_same S.lift z us)) v) r vs
  array_alike s array_size r vs = by_items (λ us v. gives (int (pos (length us)))) (λ us v.
      gives_as (int (pos (length (ren_list S.lift us)))) (int (pos (length us))) (ap (λ n. int (pos n)) (length-map us (ren S.lift)))) r vs
  array_alike s array_is_empty r vs = by_items (λ us v. yes_or_no (length us == 0)) (λ us v.
      subst (λ n. Alike S old (yes_or_no (length us == 0)) (yes_or_no (n == 0))) (sym (length-map us (ren S.lift)))
      (yes_or_no_alike (length us == 0))) r vs
  array_alike s array_first r vs = by_items (λ us v. gives (first us)) (λ us v.
      gives_as (first (ren_list S.lift us)) (first us) (first_same S.lift us)) r vs
  array_alike s array_last r vs = by_items (λ us v. gives (last_value nil us)) (λ us v.
      gives_as (last_value nil (ren_list S.lift us)) (last_value nil us) (last_same S.lift nil us)) r vs
  array_alike s array_includes r vs = by_items (λ us v. among v us) (λ us v. among_alike v us) r vs
  array_alike s array_index r vs = by_items (λ us v. index_from 0 v us) (λ us v. index_alike 0 v us) r vs
  array_alike s array_reverse r vs = by_items (λ us v. makes_array (reverse us)) (λ us v.
      makes_as (reverse (ren_list S.lift us)) (reverse us) (reverse-map (ren S.lift) us)) r vs
  array_alike s array_join r vs = by_items (λ us v. reading (λ w. join_texts w (text_in v) us) makes_text) (λ us v.
      subst (λ t. Alike S old (reading (λ w. join_texts w (text_in v) us) makes_text)
      (reading (λ w. join_texts w t (ren_list S.lift us)) makes_text)) (sym (text_same S.lift v))
      (reading_alike (λ w w' W. join_found W (text_in v) us) makes_text_alike makes_text_keeps)) r vs
  array_alike s array_take r vs = by_items (λ us v. counted (λ n. makes_array (take n us)) (integer_in v)) (λ us v.
      by_number (counted (λ n. makes_array (take n us))) (counted (λ n. makes_array (take n (ren_list S.lift us))))
      (counted_alike (λ n. makes_as (take n (ren_list S.lift us)) (take n us) (take-map (ren S.lift) n us))) v) r vs
  array_alike s array_drop r vs = by_items (λ us v. counted (λ n. makes_array (drop n us)) (integer_in v)) (λ us v.
      by_number (counted (λ n. makes_array (drop n us))) (counted (λ n. makes_array (drop n (ren_list S.lift us))))
      (counted_alike (λ n. makes_as (drop n (ren_list S.lift us)) (drop n us) (drop-map (ren S.lift) n us))) v) r vs
  array_alike s array_compact r vs = by_items (λ us v. makes_array (filter is_some_value us)) (λ us v.
      makes_as (filter is_some_value (ren_list S.lift us)) (filter is_some_value us) (compact_same S.lift us)) r vs
  array_alike s array_uniq r vs = by_items (λ us v. uniques [] us) (λ us v. uniques_alike [] us) r vs
  array_alike s array_sum r vs = by_items (λ us v. integers_tested us (makes_integer (sum_of (pos 0) us))) (λ us v.
      integers_alike us (subst (λ z. Alike S old (makes_integer (sum_of (pos 0) us)) (makes_integer z))
      (sym (sum_same S.lift (pos 0) us)) (makes_integer_alike (sum_of (pos 0) us)))) r vs

-- Constant paths in map order, as a map that is kept by texts.
use Rattle.std.proofs.Common.{◌≡◌, ℕ, ◌+◌, ◌<◌, cond, String, string_bytes, List, [], ◌∷◌, ◌++◌, map, length, take, get_or, refl, ap, sym, ◌∙◌, subst, arith, Some}
use Rattle.std.specs.List.{All, fold}
use Rattle.std.specs.Ordering.{nat_cmp, is_eq, is_lt, match_ordering}
use Rattle.std.specs.Cmp.Lexicographic.{slice_cmp, lists_ties, texts_ties}
use Rattle.std.specs.declared.cmp.Ordering.{Ordering}
use Rattle.std.specs.declared.cmp.Ordering.TheVariants.{Less, Equal, Greater}
use Rattle.std.specs.Global.{Vec, Global}
use Rattle.std.specs.BTreeMap.{insert_entry}
use Rattle.std.specs.List.{slice_get}
use Rattle.std.proofs.lemmas.List.{map-append, take_more, get_or-map, length-map}
use Rattle.std.proofs.lemmas.List.Elements.{All-head, All-tail, All-nil, All-cons}
use Rattle.zw_def.specs.Text.{Text}
use Rattle.zw_def.specs.ConstantPath.{ConstantPath}
use Rattle.zw_def.specs.Names.{AreNamed, text_of, texts_of}
use Rattle.zw_def.proofs.NameLemmas.{text_is}
use Rattle.zw_def.specs.Nesting.{same_names, map_cmp}
use Rattle.zw_def.specs.Map.{with_path, names_of}
use Rattle.zw_def.proofs.PathLemmas.{cmp-map, same_path-Decides}
use Rattle.zw_scan.specs.declared.found.Found.{Found}
use Rattle.zw_scan.specs.FoundSeen.{found_seen}
use Rattle.zw_map.specs.Order.{IsKeyed, AreKeyed, names_told, sorted_told}

abbrev pub text_key : Vec (String Global) → ConstantPath
text_key k = map string_bytes k.items

abbrev pub key_cmp : Vec (String Global) → Vec (String Global) → Ordering
key_cmp a b = slice_cmp (λ x y. slice_cmp nat_cmp (string_bytes x) (string_bytes y)) a.items b.items

cmp_told : (a b : Vec (String Global)) → key_cmp a b ≡ map_cmp (text_key a) (text_key b)
cmp_told a b = cmp-map string_bytes a.items b.items

same_told : (p q : ConstantPath) → same_names p q ≡ is_eq (map_cmp p q)
same_told = lists_ties (slice_cmp nat_cmp) texts_ties

module _ (names : List Text) where
  abbrev told : Vec (String Global) × List ℕ → ConstantPath
  told e = texts_of names e.1

  pub inserted : (es : List (Vec (String Global) × List ℕ)) (k : Vec (String Global)) (v : List ℕ) → AreKeyed names es → text_key k ≡ texts_of names v → sorted_told names (insert_entry key_cmp es k v) ≡ with_path (texts_of names v) (sorted_told names es)
  inserted [] k v keyed is = refl
  inserted (e ∷ es) k v keyed is = by (map_cmp (texts_of names v) (told e)) (same_told (texts_of names v) (told e)) cmp (inserted es k v (All-tail (IsKeyed names) e es keyed) is) where
    cmp : key_cmp k e.0 ≡ map_cmp (texts_of names v) (told e)
    cmp = cmp_told k e.0 ∙ (λ i. map_cmp (is i) ((All-head (IsKeyed names) e es keyed).texts i))

    by : (o : Ordering) → same_names (texts_of names v) (told e) ≡ is_eq o → key_cmp k e.0 ≡ o → sorted_told names (insert_entry key_cmp es k v) ≡ with_path (texts_of names v) (sorted_told names es)
        → sorted_told names (insert_entry key_cmp (e ∷ es) k v) ≡ cond (same_names (texts_of names v) (told e)) (told e ∷ sorted_told names es) (cond (is_lt o) (texts_of names v ∷ told e ∷ sorted_told names es) (told e ∷ with_path (texts_of names v) (sorted_told names es)))
    by Less tie at more = (λ i. sorted_told names (match_ordering (at i) ((k, v) ∷ e ∷ es) ((e.0, v) ∷ es) (e ∷ insert_entry key_cmp es k v))) ∙ ap (λ b. cond b (told e ∷ sorted_told names es) (texts_of names v ∷ told e ∷ sorted_told names es)) (sym tie)
    by Equal tie at more = (λ i. sorted_told names (match_ordering (at i) ((k, v) ∷ e ∷ es) ((e.0, v) ∷ es) (e ∷ insert_entry key_cmp es k v))) ∙ ap (λ p. p ∷ sorted_told names es) ((same_path-Decides (texts_of names v) (told e)).0 tie) ∙ ap (λ b. cond b (told e ∷ sorted_told names es) (told e ∷ with_path (texts_of names v) (sorted_told names es))) (sym tie)
    by Greater tie at more = (λ i. sorted_told names (match_ordering (at i) ((k, v) ∷ e ∷ es) ((e.0, v) ∷ es) (e ∷ insert_entry key_cmp es k v))) ∙ ap (λ ps. told e ∷ ps) more ∙ ap (λ b. cond b (told e ∷ sorted_told names es) (told e ∷ with_path (texts_of names v) (sorted_told names es))) (sym tie)

  pub inserted_keyed : (es : List (Vec (String Global) × List ℕ)) (k : Vec (String Global)) (v : List ℕ) → AreKeyed names es → text_key k ≡ texts_of names v → AreNamed names v → AreKeyed names (insert_entry key_cmp es k v)
  inserted_keyed [] k v keyed is named = All-cons (IsKeyed names) (k, v) [] (record { texts = is; named = named }) (All-nil (IsKeyed names))
  inserted_keyed (e ∷ es) k v keyed is named = by (key_cmp k e.0) refl (inserted_keyed es k v (All-tail (IsKeyed names) e es keyed) is named) where
    here : IsKeyed names e
    here = All-head (IsKeyed names) e es keyed

    rest : AreKeyed names es
    rest = All-tail (IsKeyed names) e es keyed

    same : key_cmp k e.0 ≡ Equal → text_key e.0 ≡ texts_of names v
    same h = sym ((same_path-Decides (text_key k) (text_key e.0)).0 (same_told (text_key k) (text_key e.0) ∙ ap is_eq (sym (cmp_told k e.0) ∙ h))) ∙ is

    by : (o : Ordering) → key_cmp k e.0 ≡ o → AreKeyed names (insert_entry key_cmp es k v) → AreKeyed names (match_ordering o ((k, v) ∷ e ∷ es) ((e.0, v) ∷ es) (e ∷ insert_entry key_cmp es k v))
    by Less h more = All-cons (IsKeyed names) (k, v) (e ∷ es) (record { texts = is; named = named }) (All-cons (IsKeyed names) e es here rest)
    by Equal h more = All-cons (IsKeyed names) (e.0, v) es (record { texts = same h; named = named }) rest
    by Greater h more = All-cons (IsKeyed names) e (insert_entry key_cmp es k v) here more

  pub names_found : (found : List Found) → names_told names found ≡ names_of (map (found_seen names) found)
  names_found [] = refl
  names_found (f ∷ found) = ap (λ ps. texts_of names f.names ∷ ps) (names_found found)

  pub told_named : (es : List (Vec (String Global) × List ℕ)) → AreKeyed names es → All (AreNamed names) (map (λ e. e.1) es)
  told_named [] keyed = All-nil (AreNamed names)
  told_named (e ∷ es) keyed = All-cons (AreNamed names) e.1 (map (λ e. e.1) es) (All-head (IsKeyed names) e es keyed).named (told_named es (All-tail (IsKeyed names) e es keyed))

  pub told_paths : (es : List (Vec (String Global) × List ℕ)) → map (texts_of names) (map (λ e. e.1) es) ≡ sorted_told names es
  told_paths [] = refl
  told_paths (e ∷ es) = ap (λ ps. told e ∷ ps) (told_paths es)

pub fold_append : {X Y : Type 0} (f : X → Y → X) (x : X) (ys zs : List Y) → fold f x (ys ++ zs) ≡ fold f (fold f x ys) zs
fold_append f x [] zs = refl
fold_append f x (y ∷ ys) zs = fold_append f (f x y) ys zs

-- two lists, one after the other, from nothing
pub folded : {X Y : Type 0} (f : List X → Y → List X) (start first last : List X) (ys zs : List Y) {ys' zs' : List Y} → start ≡ [] → first ≡ fold f start ys → last ≡ fold f first zs → ys ≡ ys' → zs ≡ zs' → last ≡ fold f [] (ys' ++ zs')
folded f start first last ys zs {ys' = ys'} {zs' = zs'} none one two e h =
    two ∙ (λ i. fold f ((one ∙ (λ j. fold f (none j) (e j))) i) (h i)) ∙ sym (fold_append f [] ys' zs')

pub fold_more : {A X Y : Type 0} (f : X → Y → X) (g : A → Y) (x : X) (xs : List A) (i : ℕ) (a : A) → i < length xs → a ≡ get_or xs i a → fold f x (map g (take (i + 1) xs)) ≡ f (fold f x (map g (take i xs))) (g a)
fold_more f g x xs i a lt at =
    ap (λ l. fold f x (map g l)) (take_more xs i a lt)
    ∙ ap (fold f x) (map-append g (take i xs) (get_or xs i a ∷ []))
    ∙ fold_append f x (map g (take i xs)) (g (get_or xs i a) ∷ [])
    ∙ ap (λ y. f (fold f x (map g (take i xs))) (g y)) (sym at)

-- ---- the texts of names

pub number_at : {A : Type 0} (names : List Text) (f : A → ℕ) (ns : List A) (path : List ℕ) → map f ns ≡ path → AreNamed names path → (i : ℕ) (d : A) → i < length ns → f (get_or ns i d) < length names
number_at names f ns path is named i d lt =
    subst (λ n. n < length names) (ap (λ p. get_or p i (f (get_or ns i d))) (sym is) ∙ get_or-map f ns i d (f (get_or ns i d)) lt) (named i (f (get_or ns i d)) (omega (arith, lt, length-map ns f, ap length is)))

pub texts_more : {A : Type 0} (names : List Text) (f : A → ℕ) (ns : List A) (path : List ℕ) → map f ns ≡ path → (i : ℕ) (d : A) → i < length ns → (texts : List (String Global)) (t : String Global) → map string_bytes texts ≡ texts_of names (take i path) → slice_get names (f (get_or ns i d)) ≡ Some (string_bytes t) → map string_bytes (texts ++ t ∷ []) ≡ texts_of names (take (i + 1) path)
texts_more names f ns path is i d lt texts t told at =
    map-append string_bytes texts (t ∷ [])
    ∙ (λ j. told j ++ sym (text_is names (f (get_or ns i d)) (string_bytes t) at) j ∷ [])
    ∙ ap (λ n. texts_of names (take i path) ++ text_of names n ∷ []) (sym (ap (λ p. get_or p i (f (get_or ns i d))) (sym is) ∙ get_or-map f ns i d (f (get_or ns i d)) lt))
    ∙ sym (map-append (λ n. text_of names n) (take i path) (get_or path i (f (get_or ns i d)) ∷ []))
    ∙ ap (texts_of names) (sym (take_more path i (f (get_or ns i d)) (omega (arith, lt, length-map ns f, ap length is))))

-- Names by the constant path in which they stand, edit by edit.
use Rattle.std.proofs.Common.{◌≡◌, ℕ, ◌+◌, ◌<◌, Bool, true, false, ◌&&◌, cond, nat_eq, String, string_bytes, List, [], ◌∷◌, ◌++◌, map, filter_map, length, take, get_or, slice_get, Option, Some, None, Result, Ok, Err, OnOk, refl, ap, sym, ◌∙◌, subst, arith, length-append}
use Rattle.std.specs.List.{All, fold, cons_option}
use Rattle.std.specs.Option.{option_map_or}
use Rattle.std.specs.Str.{bytes_eq}
use Rattle.std.specs.Ordering.{nat_cmp, is_eq, is_lt, match_ordering}
use Rattle.std.specs.Cmp.Lexicographic.{slice_cmp, texts_ties, nat_list_eq_equiv}
use Rattle.std.specs.declared.cmp.Ordering.{Ordering}
use Rattle.std.specs.declared.cmp.Ordering.TheVariants.{Less, Equal, Greater}
use Rattle.std.specs.Global.{Vec, Global}
use Rattle.std.specs.Map.{lookup, remove_entry}
use Rattle.std.specs.BTreeMap.{insert_entry}
use Rattle.std.proofs.lemmas.List.{map-append, take_more}
use Rattle.std.proofs.lemmas.List.Elements.{All-head, All-tail, All-nil, All-cons}
use Rattle.std.proofs.lemmas.Option.{get_or_from_slice_get, slice_get_within}
use Rattle.zw_lemmas.proofs.PlaceLemmas.{slice_get-last}
use Rattle.zw_lemmas.proofs.TextLemmas.{same_text}
use Rattle.zw_def.specs.Text.{Text}
use Rattle.zw_def.specs.ConstantPath.{ConstantPath}
use Rattle.zw_def.specs.Names.{AreNamed, IsDistinct, OnlyGrows, text_of, texts_of}
use Rattle.zw_def.proofs.NameLemmas.{text_as, text_is, text_grown, is_there, AreNamed-grown}
use Rattle.zw_names.specs.declared.names.Name.{Name}
use Rattle.zw_scan.specs.Table.{same_numbers}
use Rattle.zw_scan.specs.Children.{name_below, with_text, below_more}
use Rattle.zw_scan.specs.NameTable.{IsEntry, entry_told, with_entry}
use Rattle.zw_scan.proofs.TableLemmas.{same_numbers-true, key_cmp, is_key_of, lookup-insert, lookup-remove}

-- ---- what is kept, where h tells it

module _ {V Z : Type 0} (h : V → Z) (none : Z) where
  abbrev pub told_at : List ℕ → List (Vec ℕ × V) → Z
  told_at q es = option_map_or h (lookup (is_key_of q) es) none

  pub told_others : (es es' : List (Vec ℕ × V)) (p q : List ℕ) → es' ≡ remove_entry (λ (k : Vec ℕ). same_numbers p k.items) es → same_numbers q p ≡ false → told_at q es' ≡ told_at q es
  told_others es es' p q is other = ap (told_at q) is ∙ ap (λ o. option_map_or h o none) (lookup-remove q es p other)

  pub told_added : (old es es' : List (Vec ℕ × V)) (p q : List ℕ) (k : Vec ℕ) (v : V) (g : Z → Z) → es' ≡ insert_entry key_cmp es k v → k.items ≡ p → h v ≡ g (told_at p old) → ((r : List ℕ) → same_numbers r p ≡ false → told_at r es ≡ told_at r old) → told_at q es' ≡ cond (same_numbers q p) (g (told_at q old)) (told_at q old)
  told_added old es es' p q k v g is key value others =
      ap (told_at q) is ∙ ap (λ o. option_map_or h o none) (lookup-insert q es k v ∙ ap (λ l. cond (same_numbers q l) (Some v) (lookup (is_key_of q) es)) key) ∙ by (same_numbers q p) refl where
        by : (b : Bool) → same_numbers q p ≡ b → option_map_or h (cond b (Some v) (lookup (is_key_of q) es)) none ≡ cond b (g (told_at q old)) (told_at q old)
        by true e = value ∙ ap (λ l. g (told_at l old)) (sym (same_numbers-true q p e))
        by false e = others q e

-- ---- names in byte order

abbrev pub text_cmp : String Global → String Global → Ordering
text_cmp a b = slice_cmp nat_cmp (string_bytes a) (string_bytes b)

pub entry_inserted : (es : List (String Global × Name)) (k : String Global) (n : Name) → map entry_told (insert_entry text_cmp es k n) ≡ with_entry (string_bytes k) n.0 (map entry_told es)
entry_inserted [] k n = refl
entry_inserted (e ∷ es) k n = by (text_cmp k e.0) (entry_inserted es k n) where
  by : (o : Ordering) → map entry_told (insert_entry text_cmp es k n) ≡ with_entry (string_bytes k) n.0 (map entry_told es) → map entry_told (match_ordering o ((k, n) ∷ e ∷ es) ((e.0, n) ∷ es) (e ∷ insert_entry text_cmp es k n)) ≡ match_ordering o ((string_bytes k, n.0) ∷ entry_told e ∷ map entry_told es) ((string_bytes e.0, n.0) ∷ map entry_told es) (entry_told e ∷ with_entry (string_bytes k) n.0 (map entry_told es))
  by Less more = refl
  by Equal more = refl
  by Greater more = ap (λ l. entry_told e ∷ l) more

pub texts_with : (t : Text) (n : ℕ) (es : List (Text × ℕ)) → map (λ e. e.0) (with_entry t n es) ≡ with_text t (map (λ e. e.0) es)
texts_with t n [] = refl
texts_with t n (e ∷ es) = by (slice_cmp nat_cmp t e.0) (texts_ties t e.0) (texts_with t n es) where
  by : (o : Ordering) → bytes_eq t e.0 ≡ is_eq o → map (λ (x : Text × ℕ). x.0) (with_entry t n es) ≡ with_text t (map (λ (x : Text × ℕ). x.0) es) → map (λ (x : Text × ℕ). x.0) (match_ordering o ((t, n) ∷ e ∷ es) ((e.0, n) ∷ es) (e ∷ with_entry t n es)) ≡ cond (bytes_eq t e.0) (e.0 ∷ map (λ (x : Text × ℕ). x.0) es) (cond (is_lt o) (t ∷ e.0 ∷ map (λ (x : Text × ℕ). x.0) es) (e.0 ∷ with_text t (map (λ (x : Text × ℕ). x.0) es)))
  by Less tie more = ap (λ b. cond b (e.0 ∷ map (λ (x : Text × ℕ). x.0) es) (t ∷ e.0 ∷ map (λ (x : Text × ℕ). x.0) es)) (sym tie)
  by Equal tie more = ap (λ b. cond b (e.0 ∷ map (λ (x : Text × ℕ). x.0) es) (e.0 ∷ with_text t (map (λ (x : Text × ℕ). x.0) es))) (sym tie)
  by Greater tie more = ap (λ l. e.0 ∷ l) more ∙ ap (λ b. cond b (e.0 ∷ map (λ (x : Text × ℕ). x.0) es) (e.0 ∷ with_text t (map (λ (x : Text × ℕ). x.0) es))) (sym tie)

pub entries_with : (names : List Text) (t : Text) (n : ℕ) (es : List (Text × ℕ)) → slice_get names n ≡ Some t → All (IsEntry names) es → All (IsEntry names) (with_entry t n es)
entries_with names t n [] at all = All-cons (IsEntry names) (t, n) [] at (All-nil (IsEntry names))
entries_with names t n (e ∷ es) at all = by (slice_cmp nat_cmp t e.0) (texts_ties t e.0) (entries_with names t n es at (All-tail (IsEntry names) e es all)) where
  by : (o : Ordering) → bytes_eq t e.0 ≡ is_eq o → All (IsEntry names) (with_entry t n es) → All (IsEntry names) (match_ordering o ((t, n) ∷ e ∷ es) ((e.0, n) ∷ es) (e ∷ with_entry t n es))
  by Less tie more = All-cons (IsEntry names) (t, n) (e ∷ es) at all
  by Equal tie more = All-cons (IsEntry names) (e.0, n) es (at ∙ ap Some (same_text t e.0 tie)) (All-tail (IsEntry names) e es all)
  by Greater tie more = All-cons (IsEntry names) e (with_entry t n es) (All-head (IsEntry names) e es all) more

-- ---- children by numbers

module _ (names : List Text) (distinct : IsDistinct names) where
  number_same : (n m : ℕ) → n < length names → m < length names → bytes_eq (text_of names n) (text_of names m) ≡ nat_eq m n
  number_same n m ln lm = text_as names m n distinct lm ln

  pub below_told : (q parent : List ℕ) (last : ℕ) → AreNamed names q → AreNamed names (parent ++ last ∷ []) → name_below (texts_of names q) (texts_of names (parent ++ last ∷ [])) ≡ cond (bytes_eq parent q) (Some (text_of names last)) None
  below_told [] [] last nq np = refl
  below_told [] (m ∷ []) last nq np = refl
  below_told [] (m ∷ o ∷ parent) last nq np = refl
  below_told (n ∷ q) [] last nq np = single (bytes_eq (text_of names n) (text_of names last)) (texts_of names q) where
    single : (b : Bool) (p : ConstantPath) → cond b (name_below p []) None ≡ None
    single true [] = refl
    single true (x ∷ p) = refl
    single false p = refl
  below_told (n ∷ q) (m ∷ parent) last nq np =
      let same = number_same n m (All-head (λ k. k < length names) n q nq) (All-head (λ k. k < length names) m (parent ++ last ∷ []) np) in
      ap (λ b. cond b (name_below (texts_of names q) (texts_of names (parent ++ last ∷ []))) None) same
      ∙ by (nat_eq m n) (below_told q parent last (All-tail (λ k. k < length names) n q nq) (All-tail (λ k. k < length names) m (parent ++ last ∷ []) np)) where
        by : (b : Bool) → name_below (texts_of names q) (texts_of names (parent ++ last ∷ [])) ≡ cond (bytes_eq parent q) (Some (text_of names last)) None → cond b (name_below (texts_of names q) (texts_of names (parent ++ last ∷ []))) None ≡ cond (b && bytes_eq parent q) (Some (text_of names last)) None
        by true more = more
        by false more = refl

pub below_none : (p : ConstantPath) → name_below p [] ≡ None
below_none [] = refl
below_none (n ∷ p) = refl

-- ---- one path after the other

pub fold_append : {X Y : Type 0} (f : X → Y → X) (x : X) (ys zs : List Y) → fold f x (ys ++ zs) ≡ fold f (fold f x ys) zs
fold_append f x [] zs = refl
fold_append f x (y ∷ ys) zs = fold_append f (f x y) ys zs

pub fold_more : {A X Y : Type 0} (f : X → Y → X) (g : A → Y) (x : X) (xs : List A) (i : ℕ) (a : A) → i < length xs → a ≡ get_or xs i a → fold f x (map g (take (i + 1) xs)) ≡ f (fold f x (map g (take i xs))) (g a)
fold_more f g x xs i a lt at =
    ap (λ l. fold f x (map g l)) (take_more xs i a lt)
    ∙ ap (fold f x) (map-append g (take i xs) (get_or xs i a ∷ []))
    ∙ fold_append f x (map g (take i xs)) (g (get_or xs i a) ∷ [])
    ∙ ap (λ y. f (fold f x (map g (take i xs))) (g y)) (sym at)

pub below_folded : (p : ConstantPath) (names : List Text) (qs : List ConstantPath) → fold (below_more p) names qs ≡ fold (λ sorted n. with_text n sorted) names (filter_map (name_below p) qs)
below_folded p names [] = refl
below_folded p names (q ∷ qs) = by (name_below p q) (λ ns. below_folded p ns qs) where
  by : (o : Option Text) → ((ns : List Text) → fold (below_more p) ns qs ≡ fold (λ sorted n. with_text n sorted) ns (filter_map (name_below p) qs)) → fold (below_more p) (option_map_or (λ n. with_text n names) o names) qs ≡ fold (λ sorted n. with_text n sorted) names (cons_option o (filter_map (name_below p) qs))
  by None more = more names
  by (Some n) more = more (with_text n names)

-- ---- a path is kept

pub on_ok : {X E : Type 0} {P Q : Type 0} (r : Result X E) → OnOk r P → (P → Q) → OnOk r Q
on_ok (Ok x) p f = f p
on_ok (Err e) p f = tt

module _ (names : List Text) (parent : List ℕ) (last : ℕ) (path : List ℕ) (is : path ≡ parent ++ last ∷ []) (named : AreNamed names path) where
  whole : AreNamed names (parent ++ last ∷ [])
  whole = subst (AreNamed names) is named

  last_named : last < length names
  last_named = subst (λ n. n < length names) (get_or_from_slice_get (parent ++ last ∷ []) (length parent) last 0 (slice_get-last parent last)) (whole (length parent) 0 (omega (arith, length-append parent (last ∷ []))))

  pub path_added : (later : List Text) → OnlyGrows names later → IsDistinct later → (q : List ℕ) → AreNamed later q → (old new : List (Text × ℕ)) → new ≡ cond (same_numbers q parent) (with_entry (text_of names last) last old) old → map (λ e. e.0) new ≡ below_more (texts_of later q) (map (λ e. e.0) old) (texts_of later path)
  path_added later grows distinct q nq old new added =
      ap (map (λ e. e.0)) added
      ∙ by (same_numbers q parent)
      ∙ sym (ap (λ o. option_map_or (λ n. with_text n (map (λ e. e.0) old)) o (map (λ e. e.0) old)) (ap (λ p. name_below (texts_of later q) (texts_of later p)) is ∙ below_told later distinct q parent last nq (AreNamed-grown names later (parent ++ last ∷ []) grows whole) ∙ (λ i. cond (tie i) (Some (text_grown names later last grows last_named i)) None))) where
        tie : bytes_eq parent q ≡ same_numbers q parent
        tie = nat_list_eq_equiv.symm parent q ∙ texts_ties q parent

        by : (b : Bool) → map (λ (e : Text × ℕ). e.0) (cond b (with_entry (text_of names last) last old) old) ≡ option_map_or (λ n. with_text n (map (λ (e : Text × ℕ). e.0) old)) (cond b (Some (text_of names last)) None) (map (λ (e : Text × ℕ). e.0) old)
        by true = texts_with (text_of names last) last old
        by false = refl

  pub path_entries : (q : List ℕ) (old new : List (Text × ℕ)) → new ≡ cond (same_numbers q parent) (with_entry (text_of names last) last old) old → All (IsEntry names) old → All (IsEntry names) new
  path_entries q old new added all = subst (All (IsEntry names)) (sym added) (by (same_numbers q parent)) where
    by : (b : Bool) → All (IsEntry names) (cond b (with_entry (text_of names last) last old) old)
    by true = entries_with names (text_of names last) last old (is_there names last last_named) all
    by false = all

pub numbers_told : (es : List (String Global × Name)) → map (λ (n : Name). n.0) (map (λ e. e.1) es) ≡ map (λ e. e.1) (map entry_told es)
numbers_told [] = refl
numbers_told (e ∷ es) = ap (λ l. e.1.0 ∷ l) (numbers_told es)

-- the texts of the numbers that are kept
pub entry_texts : (names : List Text) (es : List (Text × ℕ)) → All (IsEntry names) es → map (text_of names) (map (λ e. e.1) es) ≡ map (λ e. e.0) es
entry_texts names [] all = refl
entry_texts names (e ∷ es) all = λ i. text_is names e.1 e.0 (All-head (IsEntry names) e es all) i ∷ entry_texts names es (All-tail (IsEntry names) e es all) i

pub entries_named : (names : List Text) (es : List (Text × ℕ)) → All (IsEntry names) es → AreNamed names (map (λ e. e.1) es)
entries_named names [] all = All-nil (λ n. n < length names)
entries_named names (e ∷ es) all = All-cons (λ n. n < length names) e.1 (map (λ x. x.1) es) (slice_get_within names e.1 e.0 (All-head (IsEntry names) e es all)) (entries_named names es (All-tail (IsEntry names) e es all))

module _ {A : Type 0} (names : List Text) (f : A → ℕ) where
  pub named_all : (xs : List A) → AreNamed names (map f xs) → All (λ x. f x < length names) xs
  named_all [] named = All-nil (λ x. f x < length names)
  named_all (x ∷ xs) named = All-cons (λ y. f y < length names) x xs (All-head (λ n. n < length names) (f x) (map f xs) named) (named_all xs (All-tail (λ n. n < length names) (f x) (map f xs) named))

  pub named_from : (xs : List A) (numbers : List ℕ) → map f xs ≡ numbers → AreNamed names numbers → All (λ x. f x < length names) xs
  named_from xs numbers is named = named_all xs (subst (AreNamed names) (sym is) named)

  pub texts_from : (xs : List A) → map (λ x. text_of names (f x)) xs ≡ map (text_of names) (map f xs)
  texts_from [] = refl
  texts_from (x ∷ xs) = ap (λ l. text_of names (f x) ∷ l) (texts_from xs)

-- ---- rows, one by one

pub rows_more : {A B C : Type 0} (seen : A → C) (told : B → C) (rows more : List A) (row : A) (xs : List B) (i : ℕ) (d : B) → more ≡ rows ++ row ∷ [] → seen row ≡ told (get_or xs i d) → map seen rows ≡ map told (take i xs) → i < length xs → map seen more ≡ map told (take (i + 1) xs)
rows_more seen told rows more row xs i d pushed is before lt =
    ap (map seen) pushed ∙ map-append seen rows (row ∷ [])
    ∙ (λ j. before j ++ is j ∷ [])
    ∙ sym (ap (map told) (take_more xs i d lt) ∙ map-append told (take i xs) (get_or xs i d ∷ []))

pub rows_whole : {B T C : Type 0} (g : T → C) (f : B → T) (xs : List B) → map (λ x. g (f x)) xs ≡ map g (map f xs)
rows_whole g f [] = refl
rows_whole g f (x ∷ xs) = ap (λ l. g (f x) ∷ l) (rows_whole g f xs)

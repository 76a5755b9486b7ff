-- Look-ups in rows of keys that rise.
use Rattle.std.proofs.Common.{◌≡◌, ℕ, zero, suc, ◌<◌, Bool, true, false, List, [], ◌∷◌, length, get_or, Option, Some, None, slice_get, refl, sym, ap, ◌∙◌, arith, cond, map, is_some, ◌||◌, ◌⊎◌, inl, inr, ◌≤◌, add-one, subst}
use Rattle.std.specs.List.{zip, list_any}
use Rattle.std.specs.Map.{lookup, keys_of}
use Rattle.std.specs.Str.{bytes_eq}
use Rattle.std.proofs.lemmas.Slice.Eq.{bytes_eq-Decides}
use Rattle.zw_lemmas.proofs.TextLemmas.{bytes_eq-other}
use Rattle.zw_def.specs.Text.{Text}
use Rattle.zw_table.specs.Words.{is_before, rises}
use Rattle.std.specs.Borrow.{Bor}
use Rattle.std.specs.Ordering.{nat_cmp, is_eq, is_lt, ordering_index}
use Rattle.std.specs.Cmp.Lexicographic.{slice_cmp, texts_ties, nat_list_cmp_total}
use Rattle.std.specs.declared.cmp.Ordering.TheVariants.{Less, Equal, Greater}
use Rattle.std.specs.Option.{option_map}
use Rattle.std.specs.List.Sorted.{IsNonDecreasingBy, IsPartitionPoint, IsSortedBy}
use Rattle.std.proofs.lemmas.Cmp.{tied_itself}
use Rattle.std.proofs.lemmas.Option.{slice_get-map, slice_get_cases, slice_get_past, same_Some}
use Rattle.std.proofs.lemmas.List.{length-map}
use Rattle.std.proofs.Math.ListN.{get_or-map}
use Rattle.std.proofs.lemmas.List.Sorted.{searchable_from_sorted}
use Rattle.std.proofs.lemmas.Bool.{cases_lt}
use Rattle.zw_table.proofs.RisingLemmas.{is_before-self, is_before-back, rises-head, rises-tail, rises_after-each, rises-next}

module _ {V : Type 0} where
  -- the row with a key is the one that a look-up finds
  pub lookup-found : (ks : List Text) (vs : List V) (key : Text) (k : ℕ) → rises ks ≡ true → length ks ≡ length vs → slice_get ks k ≡ Some key → lookup (bytes_eq key) (zip ks vs) ≡ slice_get vs k
  lookup-found [] vs key k e len at = cc
  lookup-found (a ∷ ks) [] key k e len at = absurd (omega arith)
  lookup-found (a ∷ ks) (v ∷ vs) key zero e len at =
      let same : a ≡ key = cc at in
      let yes = (bytes_eq-Decides key a).1 (sym same) in
      ap (λ b. cond b (Some v) (lookup (bytes_eq key) (zip ks vs))) yes
  lookup-found (a ∷ ks) (v ∷ vs) key (suc k) e len at =
      let before = rises_after-each a ks k key (rises-head a ks e) at in
      let no = bytes_eq-other key a (λ same. is_before-self key (ap (λ x. is_before x key) same ∙ before)) in
      ap (λ b. cond b (Some v) (lookup (bytes_eq key) (zip ks vs))) no ∙ lookup-found ks vs key k (rises-tail a ks e) (omega arith) at

  pub lookup-missed : (ks : List Text) (vs : List V) (key : Text) → ((k : ℕ) → slice_get ks k ≡ Some key → ⊥) → lookup (bytes_eq key) (zip ks vs) ≡ None
  lookup-missed [] vs key never = refl
  lookup-missed (a ∷ ks) [] key never = refl
  lookup-missed (a ∷ ks) (v ∷ vs) key never =
      let no = bytes_eq-other key a (λ same. never 0 (ap Some (sym same))) in
      ap (λ b. cond b (Some v) (lookup (bytes_eq key) (zip ks vs))) no ∙ lookup-missed ks vs key (λ k at. never (suc k) at)

pub cmp_same : (a b : Text) → slice_cmp nat_cmp a b ≡ Equal → a ≡ b
cmp_same a b e = (bytes_eq-Decides a b).0 (texts_ties a b ∙ ap is_eq e)

cmp_self : (a : Text) → slice_cmp nat_cmp a a ≡ Equal
cmp_self a = tied_itself nat_list_cmp_total a

text_at : (ks : List (Bor Text)) (k : ℕ) (x : Bor Text) → slice_get ks k ≡ Some x → slice_get (map (λ (b : Bor Text). b.now) ks) k ≡ Some x.now
text_at ks k x e = slice_get-map (λ (b : Bor Text). b.now) ks k ∙ ap (option_map (λ (b : Bor Text). b.now)) e

module _ {V : Type 0} where
  -- what a binary search that found a key gives
  pub found : (ks : List (Bor Text)) (vs : List V) (key : Text) (row : ℕ) → rises (map (λ k. k.now) ks) ≡ true → length ks ≡ length vs → row < length ks → ((d : Bor Text) → slice_cmp nat_cmp (get_or ks row d).now key ≡ Equal) → slice_get vs row ≡ lookup (bytes_eq key) (zip (map (λ k. k.now) ks) vs)
  found ks vs key row up len lt at = by (slice_get_cases ks row).1
    where
      by : ((x : Bor Text) × (row < length ks) × (slice_get ks row ≡ Some x) × (get_or ks row x ≡ x)) ⊎ ((length ks ≤ row) × (slice_get ks row ≡ None)) → slice_get vs row ≡ lookup (bytes_eq key) (zip (map (λ k. k.now) ks) vs)
      by (inl p) =
          let e : (get_or ks row p.0).now ≡ key = cmp_same _ key (at p.0) in
          let same : p.0.now ≡ key = ap (λ (b : Bor Text). b.now) (sym p.3) ∙ e in
          let there = text_at ks row p.0 p.2 ∙ ap Some same in
          sym (lookup-found (map (λ k. k.now) ks) vs key row up (length-map ks (λ (b : Bor Text). b.now) ∙ len) there)
      by (inr q) = absurd (omega (arith, q.0, lt))

  -- what one that found none gives
  pub missed : (ks : List (Bor Text)) (vs : List V) (key : Text) (i : ℕ) → rises (map (λ k. k.now) ks) ≡ true → (IsNonDecreasingBy (λ (y : Bor Text). ordering_index (slice_cmp nat_cmp y.now key)) ks → IsPartitionPoint (λ (y : Bor Text). slice_cmp nat_cmp y.now key ≡ Less) (λ (y : Bor Text). slice_cmp nat_cmp y.now key ≡ Greater) ks i) → None ≡ lookup (bytes_eq key) (zip (map (λ k. k.now) ks) vs)
  missed ks vs key i up parts = sym (lookup-missed (map (λ k. k.now) ks) vs key never)
    where
      ordered : IsSortedBy (λ (a b : Bor Text). is_lt (slice_cmp nat_cmp a.now b.now)) ks
      ordered k d low lt =
          let now : Bor Text → Text = λ b. b.now in
          let len = length-map ks now in
          let next : suc k < length (map now ks) = omega (arith, lt, len) in
          let before = rises-next (map now ks) k d.now up next in
          let at : get_or (map now ks) k d.now ≡ (get_or ks k d).now = get_or-map now ks k d in
          let at' : get_or (map now ks) (suc k) d.now ≡ (get_or ks (suc k) d).now = get_or-map now ks (suc k) d in
          let e : is_lt (slice_cmp nat_cmp (get_or (map now ks) (suc k) d.now) (get_or (map now ks) k d.now)) ≡ false = is_before-back (get_or (map now ks) k d.now) (get_or (map now ks) (suc k) d.now) before in
          let f : is_lt (slice_cmp nat_cmp (get_or ks (suc k) d).now (get_or ks k d).now) ≡ false = ap is_lt (ap (slice_cmp nat_cmp (get_or ks (suc k) d).now) (sym at) ∙ ap (λ t. slice_cmp nat_cmp t (get_or (map now ks) k d.now)) (sym at')) ∙ e in
          rw add-one f

      split : IsPartitionPoint (λ (y : Bor Text). slice_cmp nat_cmp y.now key ≡ Less) (λ (y : Bor Text). slice_cmp nat_cmp y.now key ≡ Greater) ks i
      split = parts (searchable_from_sorted nat_list_cmp_total (λ (b : Bor Text). b.now) ks key ordered)

      never : (k : ℕ) → slice_get (map (λ k. k.now) ks) k ≡ Some key → ⊥
      never k at = by (slice_get_cases ks k).1
        where
          by : ((x : Bor Text) × (k < length ks) × (slice_get ks k ≡ Some x) × (get_or ks k x ≡ x)) ⊎ ((length ks ≤ k) × (slice_get ks k ≡ None)) → ⊥
          by (inl p) =
              let z : Some p.0.now ≡ Some key = sym (text_at ks k p.0 p.2) ∙ at in
              let same : (get_or ks k p.0).now ≡ key = ap (λ (b : Bor Text). b.now) p.3 ∙ same_Some _ _ z in
              let tied : slice_cmp nat_cmp (get_or ks k p.0).now key ≡ Equal = ap (λ t. slice_cmp nat_cmp t key) same ∙ cmp_self key in
              side p.0 (cases_lt k i) p.1 tied
            where
              side : (x : Bor Text) → (k < i) ⊎ (i ≤ k) → k < length ks → slice_cmp nat_cmp (get_or ks k x).now key ≡ Equal → ⊥
              side x (inl l) lt e = let less = split.0 k x (omega arith) l in cc (less, e)
              side x (inr l) lt e = let more = split.1 k x l lt in cc (more, e)
          by (inr q) = let z : None ≡ Some key = sym (slice_get_past (map (λ (b : Bor Text). b.now) ks) k (omega (arith, q.0, length-map ks (λ (b : Bor Text). b.now)))) ∙ at in cc

  -- the same of a slice with the keys, and of the rows that a table has
  pub found_in : (s ks : List (Bor Text)) (vs : List V) (rows : List (Text × V)) (key : Text) (row : ℕ) → s ≡ ks → zip (map (λ k. k.now) ks) vs ≡ rows → rises (map (λ k. k.now) ks) ≡ true → length ks ≡ length vs → row < length s → ((d : Bor Text) → slice_cmp nat_cmp (get_or s row d).now key ≡ Equal) → slice_get vs row ≡ lookup (bytes_eq key) rows
  found_in s ks vs rows key row e v up len lt at =
      found ks vs key row up len (subst (λ (xs : List (Bor Text)). row < length xs) e lt) (λ d. subst (λ (xs : List (Bor Text)). slice_cmp nat_cmp (get_or xs row d).now key ≡ Equal) e (at d)) ∙ ap (lookup (bytes_eq key)) v

  pub missed_in : (s ks : List (Bor Text)) (vs : List V) (rows : List (Text × V)) (key : Text) (i : ℕ) → s ≡ ks → zip (map (λ k. k.now) ks) vs ≡ rows → rises (map (λ k. k.now) ks) ≡ true → (IsNonDecreasingBy (λ (y : Bor Text). ordering_index (slice_cmp nat_cmp y.now key)) s → IsPartitionPoint (λ (y : Bor Text). slice_cmp nat_cmp y.now key ≡ Less) (λ (y : Bor Text). slice_cmp nat_cmp y.now key ≡ Greater) s i) → None ≡ lookup (bytes_eq key) rows
  missed_in s ks vs rows key i e v up parts =
      missed ks vs key i up (subst (λ (xs : List (Bor Text)). IsNonDecreasingBy (λ (y : Bor Text). ordering_index (slice_cmp nat_cmp y.now key)) xs → IsPartitionPoint (λ (y : Bor Text). slice_cmp nat_cmp y.now key ≡ Less) (λ (y : Bor Text). slice_cmp nat_cmp y.now key ≡ Greater) xs i) e parts) ∙ ap (lookup (bytes_eq key)) v

-- ---- whether a row has a key

looked : {V : Type 0} (test : Text → Bool) (rows : List (Text × V)) → is_some (lookup test rows) ≡ list_any test (keys_of rows)
looked test [] = refl
looked test (row ∷ rows) = by (test row.0) (looked test rows) where
  by : (b : Bool) → is_some (lookup test rows) ≡ list_any test (keys_of rows) → is_some (cond b (Some row.1) (lookup test rows)) ≡ (b || list_any test (keys_of rows))
  by true rest = refl
  by false rest = rest

some_lent : {V : Type 0} (o : Option (Bor V)) → is_some (option_map (λ x. x.now) o) ≡ is_some o
some_lent None = refl
some_lent (Some x) = refl

pub has_row : {V : Type 0} (test : Text → Bool) (rows : List (Text × V)) (o : Option (Bor V)) → option_map (λ x. x.now) o ≡ lookup test rows → is_some o ≡ list_any test (keys_of rows)
has_row test rows o e = sym (some_lent o) ∙ ap is_some e ∙ looked test rows

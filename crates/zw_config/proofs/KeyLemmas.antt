-- Keys that ascend: the first of them that is not known is the least one.
use Rattle.std.proofs.Common.{◌≡◌, Bool, true, false, not, cond, List, [], ◌∷◌, map, filter, Option, Some, None, IfSome, String, Global, string_bytes, Less, nat_cmp, subst, refl, ap, sym, ◌∙◌, Bor}
use Rattle.std.proofs.lemmas.Cmp.{nat_list_cmp_total}
use Rattle.std.specs.Cmp.Lexicographic.{slice_cmp}
use Rattle.std.specs.List.{AllByRecursion, list_any}
use Rattle.std.specs.List.Sorted.{IsStrictlySortedBy}
use Rattle.std.specs.Map.{keys_of}
use Rattle.std.specs.Option.{option_map_or}
use Rattle.std.specs.Ordering.{is_lt, ordering_reverse}
use Rattle.std.specs.Str.{bytes_eq}
use Rattle.std.specs.String.{string_cmp}
use Rattle.toml.proofs.Views.{Entry}
use Rattle.toml.specs.View.{members_view}
use Rattle.zw_lemmas.proofs.AnyLemmas.{list_any-map}
use Rattle.zw_def.specs.Text.{Text, is_among}
use Rattle.zw_def_config.specs.Key.{is_less, lesser, least, unknown_keys}
use Rattle.zw_def_config.specs.Key as spec

abbrev pub Key : Type 0
Key = String Global

abbrev pub texts : List Key → List Text
texts keys = map string_bytes keys

-- the keys of the members are those of the entries
pub keys_seen : (es : List Entry) → spec.keys_of (members_view es) ≡ texts (keys_of es)
keys_seen [] = refl
keys_seen (e ∷ es) = ap (λ ks. string_bytes e.0 ∷ ks) (keys_seen es)

-- ---- the least of texts that ascend

abbrev pub IsBelow : Text → Text → Type 0
IsBelow k l = slice_cmp nat_cmp k l ≡ Less

abbrev pub IsBelowAll : Text → List Text → Type 0
IsBelowAll k ks = AllByRecursion (IsBelow k) ks

abbrev pick : Text → Option Text → Text
pick k o = option_map_or (lesser k) o k

pick_below : (k l : Text) (o : Option Text) → IsBelow k l → IfSome o (IsBelow k) → IsBelow k (pick l o)
pick_below k l None h more = h
pick_below k l (Some m) h more = by (is_less m l)
  where
    by : (b : Bool) → IsBelow k (cond b m l)
    by true = more
    by false = h

below_least : (k : Text) (ks : List Text) → IsBelowAll k ks → IfSome (least ks) (IsBelow k)
below_least k [] h = tt
below_least k (l ∷ ks) h = pick_below k l (least ks) h.0 (below_least k ks h.1)

pick_self : (k : Text) (o : Option Text) → IfSome o (IsBelow k) → pick k o ≡ k
pick_self k None h = refl
pick_self k (Some m) h =
    let above = nat_list_cmp_total.antisymm m k ∙ ap ordering_reverse h in
    ap (λ o. cond (is_lt o) m k) above

least_first : (k : Text) (ks : List Text) → IsBelowAll k ks → least (k ∷ ks) ≡ Some k
least_first k ks h = ap Some (pick_self k (least ks) (below_least k ks h))

kept_below : (b : Bool) (k l : Text) (ls : List Text) → IsBelow k l → IsBelowAll k ls → IsBelowAll k (cond b (l ∷ ls) ls)
kept_below true k l ls h more = (h, more)
kept_below false k l ls h more = more

below_filtered : (p : Text → Bool) (k : Text) (ks : List Text) → IsBelowAll k ks → IsBelowAll k (filter p ks)
below_filtered p k [] h = tt
below_filtered p k (l ∷ ks) h = kept_below (p l) k l (filter p ks) h.0 (below_filtered p k ks h.1)

pub below_texts : (k : Key) (ks : List Key) → AllByRecursion (λ l. string_cmp k l ≡ Less) ks → IsBelowAll (string_bytes k) (texts ks)
below_texts k [] h = tt
below_texts k (l ∷ ks) h = (h.0, below_texts k ks h.1)

-- ---- the keys that are left

-- those that are not known
abbrev pub others : List Text → List Key → List Text
others known keys = filter (λ key. not (is_among known key)) (texts keys)

module _ (known : List Text) (left rest : List Key) (k : Key) (at : left ≡ k ∷ rest) (sorted : IsStrictlySortedBy string_cmp left) where
  pub first_is_least : is_among known (string_bytes k) ≡ false → least (others known left) ≡ Some (string_bytes k)
  unfolding IsStrictlySortedBy
  first_is_least other =
      let front : IsStrictlySortedBy string_cmp (k ∷ rest) = subst (λ ks. IsStrictlySortedBy string_cmp ks) at sorted in
      ap (λ ks. least (others known ks)) at
      ∙ ap (λ b. least (cond (not b) (string_bytes k ∷ others known rest) (others known rest))) other
      ∙ least_first (string_bytes k) (others known rest) (below_filtered _ (string_bytes k) (texts rest) (below_texts k rest front.0))

  pub first_is_passed : is_among known (string_bytes k) ≡ true → least (others known left) ≡ least (others known rest)
  first_is_passed same =
      ap (λ ks. least (others known ks)) at
      ∙ ap (λ b. least (cond (not b) (string_bytes k ∷ others known rest) (others known rest))) same

  pub rest_is_sorted : IsStrictlySortedBy string_cmp rest
  unfolding IsStrictlySortedBy
  rest_is_sorted =
      let front : IsStrictlySortedBy string_cmp (k ∷ rest) = subst (λ ks. IsStrictlySortedBy string_cmp ks) at sorted in
      front.1

-- ---- the words that are known

pub words_known : (words : List (Bor Text)) (key : Text) → list_any (λ k. bytes_eq key k.now) words ≡ is_among (map (λ k. k.now) words) key
words_known words key = sym (list_any-map (λ k. k.now) (bytes_eq key) words)

pub least_seen : (known : List Text) (es : List Entry) → least (unknown_keys known (members_view es)) ≡ least (others known (keys_of es))
least_seen known es = ap (λ ks. least (filter (λ key. not (is_among known key)) ks)) (keys_seen es)

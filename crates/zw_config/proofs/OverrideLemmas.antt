-- Overrides that are read in the order of their keys, which ascend: no base is met twice.
use Rattle.std.proofs.Common.{◌≡◌, cond, List, [], ◌∷◌, ◌++◌, map, Ok, Err, subst, refl, ap, sym, ◌∙◌, true≢false, append_assoc}
use Rattle.std.proofs.lemmas.List.{map-append}
use Rattle.std.proofs.lemmas.Cmp.{nat_list_cmp_total}
use Rattle.std.specs.Cmp.{tied_itself}
use Rattle.std.specs.List.Sorted.{IsStrictlySortedBy}
use Rattle.std.specs.Map.{keys_of}
use Rattle.std.specs.Ordering.{is_lt}
use Rattle.std.specs.String.{string_cmp}
use Rattle.std.proofs.Common.{string_bytes}
use Rattle.toml.proofs.Views.{Entry}
use Rattle.toml.specs.View.{view, members_view}
use Rattle.zw_lemmas.proofs.TextLemmas.{bytes_eq-other}
use Rattle.zw_def.specs.Text.{Text}
use Rattle.zw_def.specs.Inflector.{Overrides}
use Rattle.zw_inflect.specs.Overrides.{with_override}
use Rattle.zw_def_config.specs.Fault.{Fault, Reading, ◌>>=◌}
use Rattle.zw_def_config.specs.Inflection.{constant_name_in, overrides_after}
use Rattle.zw_config.proofs.KeyLemmas.{Key, texts, IsBelow, IsBelowAll, below_texts}

abbrev pub bases : Overrides → List Text
bases os = map (λ o. o.0) os

-- each text is below those after it
abbrev pub Ascend : List Text → Type 0
Ascend [] = Unit {0}
Ascend (t ∷ ts) = IsBelowAll t ts × Ascend ts

pub ascend_texts : (ks : List Key) → IsStrictlySortedBy string_cmp ks → Ascend (texts ks)
unfolding IsStrictlySortedBy
ascend_texts [] h = tt
ascend_texts (k ∷ ks) h = (below_texts k ks h.0, ascend_texts ks h.1)

below_middle : (t : Text) (front : List Text) (k : Text) (rest : List Text) → IsBelowAll t (front ++ k ∷ rest) → IsBelow t k
below_middle t [] k rest h = h.0
below_middle t (x ∷ front) k rest h = below_middle t front k rest h.1

differ : (t k : Text) → IsBelow t k → k ≡ t → ⊥
differ t k below same =
    let itself : IsBelow t t = subst (λ x. IsBelow t x) same below in
    absurd (true≢false (sym (ap is_lt itself) ∙ ap is_lt (tied_itself nat_list_cmp_total t)))

-- a base that is above all those before goes last
pub override_last : (os : Overrides) (k name : Text) (rest : List Text) → Ascend (bases os ++ k ∷ rest) → with_override os k name ≡ os ++ (k, name) ∷ []
override_last [] k name rest h = refl
override_last (o ∷ os) k name rest h =
    ap (λ b. cond b ((o.0, name) ∷ os) (o ∷ with_override os k name)) (bytes_eq-other k o.0 (differ o.0 k (below_middle o.0 (bases os) k rest h.0)))
    ∙ ap (λ more. o ∷ more) (override_last os k name rest h.1)

-- ---- an entry more

module _ (before : Overrides) (left rest : List Entry) (e : Entry) (at : left ≡ e ∷ rest) where
  module _ (whole : Reading Overrides) (so : overrides_after before (members_view left) ≡ whole) where
    split : (constant_name_in (view e.1) >>= λ name. overrides_after (before ++ (string_bytes e.0, name) ∷ []) (members_view rest)) ≡ whole
    split = sym (ap (λ es. overrides_after before (members_view es)) at) ∙ so

    pub override_read : (name : Text) → constant_name_in (view e.1) ≡ Ok name → overrides_after (before ++ (string_bytes e.0, name) ∷ []) (members_view rest) ≡ whole
    override_read name is = sym (ap (λ r. r >>= λ name. overrides_after (before ++ (string_bytes e.0, name) ∷ []) (members_view rest)) is) ∙ split

    pub override_refused : (fault : Fault) → constant_name_in (view e.1) ≡ Err fault → whole ≡ Err fault
    override_refused fault is = sym split ∙ ap (λ r. r >>= λ name. overrides_after (before ++ (string_bytes e.0, name) ∷ []) (members_view rest)) is

  module _ (all : List Key) (keys : (bases before ++ texts (keys_of left)) ≡ texts all) (sorted : IsStrictlySortedBy string_cmp all) where
    front : (bases before ++ string_bytes e.0 ∷ texts (keys_of rest)) ≡ texts all
    front = ap (λ es. bases before ++ texts (keys_of es)) (sym at) ∙ keys

    pub override_added : (name : Text) → with_override before (string_bytes e.0) name ≡ before ++ (string_bytes e.0, name) ∷ []
    override_added name = override_last before (string_bytes e.0) name (texts (keys_of rest)) (subst Ascend (sym front) (ascend_texts all sorted))

    pub keys_added : (name : Text) → (bases (before ++ (string_bytes e.0, name) ∷ []) ++ texts (keys_of rest)) ≡ texts all
    keys_added name =
        ap (λ bs. bs ++ texts (keys_of rest)) (map-append (λ o. o.0) before ((string_bytes e.0, name) ∷ []))
        ∙ append_assoc (bases before) (string_bytes e.0 ∷ []) (texts (keys_of rest))
        ∙ front

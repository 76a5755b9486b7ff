-- Names that have numbers: their texts stay as they are while the list of names grows, and each text has one number.
use Rattle.std.proofs.Common.{◌≡◌, ℕ, suc, ◌+◌, ◌<◌, ◌≤◌, ◌⊎◌, inl, inr, Bool, true, false, List, [], ◌∷◌, ◌++◌, length, get_or, slice_get, Some, nat_eq, nat_lt, refl, ap, sym, ◌∙◌, arith, append_assoc, append-nil, unwrap_or, if◌then◌else◌, true≢false, take, drop, take-append-drop, length-take-le, lt-ltb, le-ltb}
use Rattle.std.specs.List.{list_any}
use Rattle.std.specs.Str.{bytes_eq}
use Rattle.std.proofs.lemmas.Bool.{cases_lt, false_from_ne_true}
use Rattle.std.proofs.lemmas.List.{get_or_append_left, length-append, map-append, take_more}
use Rattle.std.proofs.lemmas.List.Folds.{list_any-from_Any, Any-from_list_any}
use Rattle.std.proofs.lemmas.Option.{slice_get_within, slice_get_read, get_or_from_slice_get, slice_get-get_or}
use Rattle.std.proofs.lemmas.Slice.Eq.{bytes_eq-Decides}
use Rattle.zw_lemmas.proofs.PlaceLemmas.{slice_get-front, slice_get-last, slice_get-pushed}
use Rattle.zw_lemmas.proofs.TextLemmas.{same_text, bytes_eq-self}
use Rattle.zw_def.specs.Text.{Text, is_among}
use Rattle.zw_def.specs.Names.{IsDistinct, OnlyGrows, with_name, AreNamed, text_of, texts_of}

pub OnlyGrows-same : (names : List Text) → OnlyGrows names names
OnlyGrows-same names = ([], sym (append-nil names))

pub OnlyGrows-trans : (a b c : List Text) → OnlyGrows a b → OnlyGrows b c → OnlyGrows a c
OnlyGrows-trans a b c f g = (f.0 ++ g.0, g.1 ∙ ap (λ xs. xs ++ g.0) f.1 ∙ append_assoc a f.0 g.0)

-- a name stays as it is
pub name_stays : (old new : List Text) (n : ℕ) (text : Text) → OnlyGrows old new → slice_get old n ≡ Some text → slice_get new n ≡ Some text
name_stays old new n text g at = ap (λ names. slice_get names n) g.1 ∙ slice_get-front old g.0 n text at

pub AreNamed-grown : (old new : List Text) (numbers : List ℕ) → OnlyGrows old new → AreNamed old numbers → AreNamed new numbers
AreNamed-grown old new numbers g named k d lt =
    let at = named k d lt in
    let len = ap (λ (xs : List Text). length xs) g.1 ∙ length-append old g.0 in
    omega (arith, at, len)

-- the texts of numbers stay as they are
pub texts_of-grown : (old new : List Text) (numbers : List ℕ) → OnlyGrows old new → AreNamed old numbers → texts_of new numbers ≡ texts_of old numbers
texts_of-grown old new [] g named = refl
texts_of-grown old new (n ∷ numbers) g named =
    let lt : n < length old = named 0 n (omega arith) in
    let here : slice_get old n ≡ Some (get_or old n []) = slice_get-get_or old n [] lt in
    let there = name_stays old new n (get_or old n []) g here in
    let rest : texts_of new numbers ≡ texts_of old numbers = texts_of-grown old new numbers g (λ k d l. named (suc k) d (omega arith)) in
    ap (λ o. unwrap_or o [] ∷ texts_of new numbers) (there ∙ sym here) ∙ ap (λ ts. unwrap_or (slice_get old n) [] ∷ ts) rest

-- one number more
pub texts_of-pushed : (names : List Text) (numbers : List ℕ) (n : ℕ) (text : Text) → slice_get names n ≡ Some text → texts_of names (numbers ++ n ∷ []) ≡ texts_of names numbers ++ text ∷ []
texts_of-pushed names numbers n text at =
    map-append (λ m. unwrap_or (slice_get names m) []) numbers (n ∷ []) ∙ ap (λ o. texts_of names numbers ++ unwrap_or o [] ∷ []) at

pub AreNamed-pushed : (names : List Text) (numbers : List ℕ) (n : ℕ) (text : Text) → slice_get names n ≡ Some text → AreNamed names numbers → AreNamed names (numbers ++ n ∷ [])
AreNamed-pushed names numbers n text at named k d lt = by (cases_lt k (length numbers))
  where
    by : (k < length numbers) ⊎ (length numbers ≤ k) → get_or (numbers ++ n ∷ []) k d < length names
    by (inl l) = rw (get_or_append_left numbers (n ∷ []) d k l) (named k d l)
    by (inr g) =
        let last : k ≡ length numbers = omega (arith, g, lt, length-append numbers (n ∷ [])) in
        let e : get_or (numbers ++ n ∷ []) k d ≡ n = ap (λ i. get_or (numbers ++ n ∷ []) i d) last ∙ get_or_from_slice_get (numbers ++ n ∷ []) (length numbers) n d (slice_get-last numbers n) in
        rw e (slice_get_within names n text at)

-- ---- the text of a number

pub text_is : (names : List Text) (n : ℕ) (text : Text) → slice_get names n ≡ Some text → text_of names n ≡ text
text_is names n text at = ap (λ o. unwrap_or o []) at

pub is_there : (names : List Text) (n : ℕ) → n < length names → slice_get names n ≡ Some (text_of names n)
is_there names n lt = let at = slice_get-get_or names n [] lt in at ∙ ap Some (sym (text_is names n _ at))

pub number_grown : (old new : List Text) (n : ℕ) → OnlyGrows old new → n < length old → n < length new
number_grown old new n grows lt = omega (arith, lt, ap (λ (xs : List Text). length xs) grows.1 ∙ length-append old grows.0)

pub text_grown : (old new : List Text) (n : ℕ) → OnlyGrows old new → n < length old → text_of new n ≡ text_of old n
text_grown old new n grows lt = text_is new n (text_of old n) (name_stays old new n (text_of old n) grows (is_there old n lt))

pub text_later : (old new : List Text) (n : ℕ) (text : Text) → OnlyGrows old new → slice_get old n ≡ Some text → text_of new n ≡ text
text_later old new n text grows at = text_is new n text (name_stays old new n text grows at)

-- ---- each text at one place

pub none_at : (names : List Text) (text : Text) → list_any (bytes_eq text) names ≡ false → (n : ℕ) → slice_get names n ≡ Some text → ⊥
none_at names text none n at = absurd (true≢false (sym (list_any-from_Any (bytes_eq text) names (n, text, slice_get_within names n text at, get_or_from_slice_get names n text text at, (bytes_eq-Decides text text).1 refl)) ∙ none))

pub IsDistinct-pushed : (names : List Text) (text : Text) → IsDistinct names → list_any (bytes_eq text) names ≡ false → IsDistinct (names ++ text ∷ [])
IsDistinct-pushed names text apart none m n x em en = at (slice_get-pushed names text m x em) (slice_get-pushed names text n x en)
  where
    at : (slice_get names m ≡ Some x) ⊎ ((m ≡ length names) × (x ≡ text)) → (slice_get names n ≡ Some x) ⊎ ((n ≡ length names) × (x ≡ text)) → m ≡ n
    at (inl p) (inl q) = apart m n x p q
    at (inl p) (inr q) = absurd (none_at names text none m (p ∙ ap Some q.1))
    at (inr p) (inl q) = absurd (none_at names text none n (q ∙ ap Some p.1))
    at (inr p) (inr q) = p.0 ∙ sym q.0

pub with_name-there : (names : List Text) (text : Text) → list_any (bytes_eq text) names ≡ true → with_name names text ≡ names
with_name-there names text e = ap (λ b. if b then names else names ++ text ∷ []) e

pub with_name-new : (names : List Text) (text : Text) → list_any (bytes_eq text) names ≡ false → with_name names text ≡ names ++ text ∷ []
with_name-new names text e = ap (λ b. if b then names else names ++ text ∷ []) e

pub copied_more : (names : List Text) (i : ℕ) (text : Text) → IsDistinct names → slice_get names i ≡ Some text → with_name (take i names) text ≡ take (i + 1) names
copied_more names i text apart at =
    with_name-new (take i names) text (false_from_ne_true _ there) ∙ sym (take_more names i [] lt ∙ ap (λ t. take i names ++ t ∷ []) (get_or_from_slice_get names i text [] at))
  where
    lt : i < length names
    lt = slice_get_within names i text at

    len : length (take i names) ≡ i
    len = length-take-le i names (omega (arith, lt))

    there : list_any (bytes_eq text) (take i names) ≡ true → ⊥
    there e =
        let a = Any-from_list_any (bytes_eq text) (take i names) e in
        let same : text ≡ a.1 = (bytes_eq-Decides text a.1).0 a.4 in
        let front : slice_get (take i names) a.0 ≡ Some a.1 = slice_get_read (take i names) (length (take i names)) a.0 a.1 refl a.2 (sym a.3) in
        let whole : slice_get names a.0 ≡ Some a.1 = ap (λ ts. slice_get ts a.0) (sym (take-append-drop i names)) ∙ slice_get-front (take i names) (drop i names) a.0 a.1 front in
        let k : a.0 ≡ i = apart a.0 i text (whole ∙ ap Some (sym same)) at in
        absurd (omega (arith, k, len, a.2))

-- a name has a text just where it is the text's name
pub named_as : (names : List Text) (n m : ℕ) (text : Text) → IsDistinct names → slice_get names n ≡ Some text → m < length names → bytes_eq (text_of names m) text ≡ nat_eq n m
named_as names n m text distinct at lt = by (bytes_eq (text_of names m) text) refl where
  by : (b : Bool) → bytes_eq (text_of names m) text ≡ b → b ≡ nat_eq n m
  by true is =
      let same : n ≡ m = distinct n m text at (is_there names m lt ∙ ap Some (same_text (text_of names m) text is)) in
      grind (arith, same)
  by false is =
      let other : n ≡ m → ⊥ = λ same. (let bad : true ≡ false = sym (ap (λ t. bytes_eq t text) (text_is names m text (ap (slice_get names) (sym same) ∙ at)) ∙ bytes_eq-self text) ∙ is in cc) in
      grind (arith, other)

-- no name has a text that is not among them
pub named_not : (names : List Text) (m : ℕ) (text : Text) → list_any (bytes_eq text) names ≡ false → m < length names → bytes_eq (text_of names m) text ≡ false
named_not names m text none lt = false_from_ne_true _ (λ is. none_at names text none m (is_there names m lt ∙ ap Some (same_text (text_of names m) text is)))

-- two names have the same text just where they are the same
pub text_as : (names : List Text) (n m : ℕ) → IsDistinct names → n < length names → m < length names → bytes_eq (text_of names m) (text_of names n) ≡ nat_eq n m
text_as names n m distinct within lt = named_as names n m (text_of names n) distinct (is_there names n within) lt

pub front_has : (front names : List Text) (m : ℕ) → IsDistinct names → OnlyGrows front names → m < length names → is_among front (text_of names m) ≡ nat_lt m (length front)
front_has front names m distinct grows lt = by (cases_lt m (length front)) (is_among front (text_of names m)) refl where
  by : (m < length front) ⊎ (length front ≤ m) → (b : Bool) → is_among front (text_of names m) ≡ b → b ≡ nat_lt m (length front)
  by (inl l) true is = sym (lt-ltb m (length front) l)
  by (inl l) false is = absurd (none_at front (text_of names m) is m (is_there front m l ∙ ap Some (sym (text_grown front names m grows l))))
  by (inr g) true is =
      let a = Any-from_list_any (bytes_eq (text_of names m)) front is in
      let at : slice_get front a.0 ≡ Some a.1 = slice_get_read front (length front) a.0 a.1 refl a.2 (sym a.3) in
      let same : a.0 ≡ m = distinct a.0 m (text_of names m) (name_stays front names a.0 (text_of names m) grows (at ∙ ap Some (sym (same_text (text_of names m) a.1 a.4)))) (is_there names m lt) in
      absurd (omega (arith, same, g, a.2))
  by (inr g) false is = sym (le-ltb m (length front) g)

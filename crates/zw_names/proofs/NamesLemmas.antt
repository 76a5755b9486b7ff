-- The names of a table: the texts of its set, in their order.
use Rattle.std.proofs.Common.{◌≡◌, ℕ, ◌<◌, Bool, false, List, [], ◌∷◌, ◌++◌, map, length, get_or, slice_get, Option, Some, refl, ap, sym, ◌∙◌, if◌then◌else◌, Global, String, position, is_some}
use Rattle.std.specs.List.{list_any}
use Rattle.std.specs.Str.{bytes_eq}
use Rattle.std.proofs.lemmas.Slice.Eq.{bytes_eq-Decides}
use Rattle.std.proofs.lemmas.Option.{slice_get-map, slice_get_read, slice_get-get_or}
use Rattle.std.proofs.lemmas.List.{length-map, map-append}
use Rattle.std.specs.String.{string_bytes, string_eq}
use Rattle.std.specs.Option.{option_map}
use Rattle.std.proofs.lemmas.List.Quantifiers.{position-Some}
use Rattle.indexmap.specs.IndexSet.{insert_key}
use Rattle.zw_lemmas.proofs.AnyLemmas.{list_any-map}
use Rattle.zw_lemmas.proofs.OptionLemmas.{is_some-none}
use Rattle.zw_lemmas.proofs.PlaceLemmas.{slice_get-last}
use Rattle.zw_def.specs.Text.{Text}

-- the place of a text is that of its name
pub named_at : (text : Text) (ss : List (String Global)) (n : ℕ) → position (λ k. bytes_eq text (string_bytes k)) ss ≡ Some n → slice_get (map string_bytes ss) n ≡ Some text
named_at text [] n e = cc
named_at text (s ∷ ss) n e =
    let p = position-Some (λ k. bytes_eq text (string_bytes k)) (s ∷ ss) n s e in
    let same : text ≡ string_bytes (get_or (s ∷ ss) n s) = (bytes_eq-Decides text _).0 p.1 in
    slice_get-map string_bytes (s ∷ ss) n ∙ ap (option_map string_bytes) (slice_get-get_or (s ∷ ss) n s p.0) ∙ ap Some (sym same)

-- whether a text is among the names, as the set tells it
pub is_named : (ss : List (String Global)) (names : List Text) (text : Text) (b : Bool) → map string_bytes ss ≡ names → b ≡ list_any (λ k. bytes_eq text (string_bytes k)) ss → list_any (bytes_eq text) names ≡ b
is_named ss names text b e f = ap (list_any (bytes_eq text)) (sym e) ∙ list_any-map string_bytes (bytes_eq text) ss ∙ sym f

pub texts_pushed : (ss more : List (String Global)) (s : String Global) (names : List Text) (text : Text) → map string_bytes ss ≡ names → more ≡ ss ++ s ∷ [] → string_bytes s ≡ text → map string_bytes more ≡ names ++ text ∷ []
texts_pushed ss more s names text e n b = ap (map string_bytes) n ∙ map-append string_bytes ss (s ∷ []) ∙ ap (λ xs. xs ++ string_bytes s ∷ []) e ∙ ap (λ x. names ++ x ∷ []) b

-- a new text goes to the end of the set
pub keys_pushed : (ss more : List (String Global)) (s : String Global) (text : Text) → string_bytes s ≡ text → list_any (λ k. bytes_eq text (string_bytes k)) ss ≡ false → more ≡ insert_key string_eq ss s → more ≡ ss ++ s ∷ []
keys_pushed ss more s text e none m =
    let f : list_any (string_eq s) ss ≡ false = ap (λ t. list_any (λ (k : String Global). bytes_eq t (string_bytes k)) ss) e ∙ none in
    m ∙ ap (λ b. if b then ss else ss ++ s ∷ []) f

pub interned : (ss more : List (String Global)) (s : String Global) (names : List Text) (text : Text) (o : Option ℕ) → map string_bytes ss ≡ names → string_bytes s ≡ text → is_some o ≡ list_any (λ k. bytes_eq text (string_bytes k)) ss → ((n : ℕ) → o ≡ Some n → ⊥) → more ≡ insert_key string_eq ss s → (map string_bytes more ≡ names ++ text ∷ []) × (list_any (bytes_eq text) names ≡ false)
interned ss more s names text o e b f no_number m =
    let none : list_any (λ (k : String Global). bytes_eq text (string_bytes k)) ss ≡ false = sym f ∙ is_some-none o no_number in
    (texts_pushed ss more s names text e (keys_pushed ss more s text b none m) b, is_named ss names text false e (sym none))

pub number_of_new : (ss more : List (String Global)) (names : List Text) (text : Text) (n : ℕ) → map string_bytes ss ≡ names → map string_bytes more ≡ names ++ text ∷ [] → n ≡ length ss → slice_get (map string_bytes more) n ≡ Some text
number_of_new ss more names text n e m l =
    let len : n ≡ length names = l ∙ sym (length-map ss (string_bytes {Z = Global})) ∙ ap (λ (xs : List Text). length xs) e in
    ap (λ ts. slice_get ts n) m ∙ ap (slice_get (names ++ text ∷ [])) len ∙ slice_get-last names text

pub text_at : (ss items : List (String Global)) (names : List Text) (i : ℕ) (s : String Global) (text : Text) → items ≡ ss → map string_bytes ss ≡ names → i < length items → s ≡ get_or items i s → text ≡ string_bytes s → slice_get names i ≡ Some text
text_at ss items names i s text e v lt at b =
    ap (λ ts. slice_get ts i) (sym (ap (map string_bytes) e ∙ v)) ∙ slice_get-map string_bytes items i ∙ ap (option_map string_bytes) (slice_get_read items (length items) i s refl lt at) ∙ ap Some (sym b)

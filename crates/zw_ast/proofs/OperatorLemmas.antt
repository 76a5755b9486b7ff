-- The names of the operators among the names of a table.
use Rattle.std.proofs.Common.{◌≡◌, ℕ, zero, suc, slice_get, Some, ◌+◌, ◌<◌, ◌&&◌, ◌||◌, Bool, true, false, List, [], ◌∷◌, ◌++◌, map, take, length, get_or, Bor, refl, ap, sym, ◌∙◌, subst, rules, arith}
use Rattle.std.specs.List.{list_all, list_any}
use Rattle.std.specs.Str.{bytes_eq}
use Rattle.std.proofs.lemmas.List.{map-append, take_more}
use Rattle.zw_lemmas.proofs.TextLemmas.{same_text, bytes_eq-self}
use Rattle.zw_def.specs.Text.{Text, is_among}
use Rattle.zw_def.specs.Names.{OnlyGrows}
use Rattle.zw_ast.specs.Operator.{are_spelled}

pub both_hold : (a b : Bool) → (a && b) ≡ true → (a ≡ true) × (b ≡ true)
both_hold true b e = (refl, e)
both_hold false b e = cc

pub spelled_there : (names texts : List Text) (text : Text) → are_spelled names texts ≡ true → is_among texts text ≡ true → list_any (bytes_eq text) names ≡ true
spelled_there names [] text all there = cc
spelled_there names (t ∷ ts) text all there =
    let both = both_hold (is_among names t) (are_spelled names ts) all in
    at_first (bytes_eq text t) refl there both (spelled_there names ts text both.1)
  where
    at_first : (b : Bool) → bytes_eq text t ≡ b → (b || is_among ts text) ≡ true → (is_among names t ≡ true) × (are_spelled names ts ≡ true)
        → (is_among ts text ≡ true → list_any (bytes_eq text) names ≡ true) → list_any (bytes_eq text) names ≡ true
    at_first true e more both later = subst (λ x. list_any (bytes_eq x) names ≡ true) (sym (same_text text t e)) both.0
    at_first false e more both later = later more

pub or_true : (a b : Bool) → b ≡ true → (a || b) ≡ true
or_true true b f = refl
or_true false b f = f

pub or_more : (a b c : Bool) → (b ≡ true → c ≡ true) → (a || b) ≡ true → (a || c) ≡ true
or_more true b c f e = refl
or_more false b c f e = f e

pub among_more : (names more : List Text) (text : Text) → is_among names text ≡ true → is_among (names ++ more) text ≡ true
among_more [] more text e = cc
among_more (n ∷ ns) more text e = or_more (bytes_eq text n) (is_among ns text) (is_among (ns ++ more) text) (among_more ns more text) e

pub spelled_more : (names more texts : List Text) → are_spelled names texts ≡ true → are_spelled (names ++ more) texts ≡ true
spelled_more names more [] e = refl
spelled_more names more (t ∷ ts) e =
    let both = both_hold (is_among names t) (are_spelled names ts) e in
    rw (among_more names more t both.0, spelled_more names more ts both.1) refl

pub spelled_pushed : (names texts : List Text) (text : Text) → are_spelled names texts ≡ true → is_among names text ≡ true → are_spelled names (texts ++ text ∷ []) ≡ true
spelled_pushed names [] text e there = rw there refl
spelled_pushed names (t ∷ ts) text e there =
    let both = both_hold (is_among names t) (are_spelled names ts) e in
    rw (both.0, spelled_pushed names ts text both.1 there) refl

pub among_at : (names : List Text) (n : ℕ) (text : Text) → slice_get names n ≡ Some text → is_among names text ≡ true
among_at [] n text e = cc
among_at (t ∷ ts) zero text e = let d : t ≡ text = search (rules, e) in rw d (rw (bytes_eq-self text) refl)
among_at (t ∷ ts) (suc n) text e = or_true (bytes_eq text t) (is_among ts text) (among_at ts n text e)

abbrev pub texts_behind : List (Bor Text) → List Text
texts_behind texts = map (λ text. text.now) texts

-- one text more is spelled
pub spelled_next : (old new : List Text) (texts : List (Bor Text)) (i n : ℕ) (d : Bor Text) → OnlyGrows old new → i < length texts
    → slice_get new n ≡ Some ((get_or texts i d).now) → are_spelled old (texts_behind (take i texts)) ≡ true
    → are_spelled new (texts_behind (take (i + 1) texts)) ≡ true
spelled_next old new texts i n d grows lt at e =
    let number : Bor Text → Text = λ text. text.now in
    let front : texts_behind (take (i + 1) texts) ≡ texts_behind (take i texts) ++ (get_or texts i d).now ∷ [] =
    ap texts_behind (take_more texts i d lt) ∙ map-append number (take i texts) (get_or texts i d ∷ []) in
    let before : are_spelled new (texts_behind (take i texts)) ≡ true =
    ap (λ names. are_spelled names (texts_behind (take i texts))) grows.1 ∙ spelled_more old grows.0 (texts_behind (take i texts)) e in
    ap (are_spelled new) front ∙ spelled_pushed new (texts_behind (take i texts)) _ before (among_at new n _ at)

-- A variable is known by its name's number where it is known by its text.
use Rattle.std.proofs.Common.{◌≡◌, ◌≤◌, ◌<◌, ℕ, suc, ◌||◌, Bool, true, false, nat_eq, List, [], ◌∷◌, length, slice_get, Some, refl, ap, sym, ◌∙◌, arith, rules}
use Rattle.std.specs.List.{list_any}
use Rattle.std.specs.Str.{bytes_eq}
use Rattle.std.proofs.lemmas.Option.{slice_get-get_or, unwrap_or-slice_get}
use Rattle.zw_lemmas.proofs.TextLemmas.{same_text, bytes_eq-self}
use Rattle.zw_def.specs.Text.{Text}
use Rattle.zw_def.specs.Names.{IsDistinct, text_of, texts_of}
use Rattle.zw_ast.specs.Named.{greatest}

pub same_answer : (a b : Bool) → (a ≡ true → b ≡ true) → (b ≡ true → a ≡ true) → a ≡ b
same_answer true b f g = sym (f refl)
same_answer false true f g = g refl
same_answer false false f g = refl

pub text_at : (names : List Text) (n : ℕ) → n < length names → slice_get names n ≡ Some (text_of names n)
text_at names n lt = slice_get-get_or names n [] lt ∙ ap Some (sym (unwrap_or-slice_get names n []))

pub same_name : (names : List Text) (m n : ℕ) → IsDistinct names → m < length names → n < length names
    → nat_eq m n ≡ bytes_eq (text_of names m) (text_of names n)
same_name names m n distinct lm ln =
    same_answer (nat_eq m n) (bytes_eq (text_of names m) (text_of names n))
    (λ e. (let d : m ≡ n = search (rules, e) in ap (λ k. bytes_eq (text_of names m) (text_of names k)) (sym d) ∙ bytes_eq-self (text_of names m)))
    (λ e. (let t = same_text (text_of names m) (text_of names n) e in
    let d = distinct m n (text_of names n) (text_at names m lm ∙ ap Some t) (text_at names n ln) in
    search (rules, d)))

pub known_by_text : (names : List Text) (n : ℕ) (known : List ℕ) → IsDistinct names → n < length names → greatest suc known ≤ length names
    → list_any (nat_eq n) known ≡ list_any (bytes_eq (text_of names n)) (texts_of names known)
known_by_text names n [] distinct ln all = refl
known_by_text names n (k ∷ ks) distinct ln all =
    ap (λ b. b || list_any (nat_eq n) ks) (same_name names n k distinct ln (omega (arith, all)))
    ∙ ap (λ b. bytes_eq (text_of names n) (text_of names k) || b) (known_by_text names n ks distinct ln (omega (arith, all)))

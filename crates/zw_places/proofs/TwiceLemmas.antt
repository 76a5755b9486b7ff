-- Names that stand twice, by their numbers and by their texts.
use Rattle.std.proofs.Common.{◌≡◌, ◌≤◌, ◌<◌, ℕ, ◌||◌, not, Bool, true, false, nat_eq, List, [], ◌∷◌, ◌++◌, length, slice_get, map, Some, refl, ap, sym, ◌∙◌, arith, rules}
use Rattle.std.specs.List.{list_any}
use Rattle.std.specs.Str.{bytes_eq}
use Rattle.std.proofs.lemmas.Option.{slice_get-get_or, unwrap_or-slice_get}
use Rattle.zw_lemmas.proofs.TextLemmas.{same_text, bytes_eq-self}
use Rattle.zw_lemmas.proofs.AnyLemmas.{list_any-or}
use Rattle.zw_def.specs.Text.{Text}
use Rattle.zw_def.specs.Names.{IsDistinct, text_of}
use Rattle.zw_def_syntax.specs.Places.{has_repeat}
use Rattle.zw_names.specs.declared.names.Name.{Name}
use Rattle.zw_ast.specs.Named.{greatest, after}
use Rattle.zw_ast.specs.Node.{name_seen}
use Rattle.zw_places.specs.Twice.{numbers_of, has_twice}

-- ---- numbers stand for texts

same_answer : (a b : Bool) → (a ≡ true → b ≡ true) → (b ≡ true → a ≡ true) → a ≡ b
same_answer true b f g = sym (f refl)
same_answer false true f g = g refl
same_answer false false f g = refl

text_at : (names : List Text) (n : ℕ) → n < length names → slice_get names n ≡ Some (text_of names n)
text_at names n lt = slice_get-get_or names n [] lt ∙ ap Some (sym (unwrap_or-slice_get names n []))

same_name : (names : List Text) (m n : ℕ) → IsDistinct names → m < length names → n < length names
    → nat_eq m n ≡ bytes_eq (text_of names m) (text_of names n)
same_name names m n distinct lm ln =
    same_answer (nat_eq m n) (bytes_eq (text_of names m) (text_of names n))
    (λ e. (let d : m ≡ n = search (rules, e) in ap (λ k. bytes_eq (text_of names m) (text_of names k)) (sym d) ∙ bytes_eq-self (text_of names m)))
    (λ e. (let t = same_text (text_of names m) (text_of names n) e in
    let d = distinct m n (text_of names n) (text_at names m lm ∙ ap Some t) (text_at names n ln) in
    search (rules, d)))

stands_among : (names : List Text) (x : Name) (xs : List Name) → IsDistinct names → x.0 < length names → greatest after xs ≤ length names
    → list_any (nat_eq x.0) (numbers_of xs) ≡ list_any (bytes_eq (name_seen names x)) (map (name_seen names) xs)
stands_among names x [] distinct lx all = refl
stands_among names x (y ∷ ys) distinct lx all =
    ap (λ b. b || list_any (nat_eq x.0) (numbers_of ys)) (same_name names x.0 y.0 distinct lx (omega (arith, all)))
    ∙ ap (λ b. bytes_eq (name_seen names x) (name_seen names y) || b) (stands_among names x ys distinct lx (omega (arith, all)))

pub repeat_told : (names : List Text) (xs : List Name) → IsDistinct names → greatest after xs ≤ length names
    → has_twice (numbers_of xs) ≡ has_repeat (map (name_seen names) xs)
repeat_told names [] distinct all = refl
repeat_told names (x ∷ xs) distinct all =
    ap (λ b. b || has_twice (numbers_of xs)) (stands_among names x xs distinct (omega (arith, all)) (omega (arith, all)))
    ∙ ap (λ b. list_any (bytes_eq (name_seen names x)) (map (name_seen names) xs) || b) (repeat_told names xs distinct (omega (arith, all)))

-- ---- one name after another, with those that were met

-- one of these was met before, or stands among them twice
abbrev pub meets : List ℕ → List ℕ → Bool
meets met ns = list_any (λ n. list_any (nat_eq n) met) ns || has_twice ns

or_true : (a : Bool) → (a || true) ≡ true
or_true true = refl
or_true false = refl

or_moved : (a b c d : Bool) → ((a || b) || (c || d)) ≡ (a || ((b || c) || d))
or_moved true b c d = refl
or_moved false true c d = refl
or_moved false false c d = refl

pub meets_none : (ns : List ℕ) → meets [] ns ≡ has_twice ns
meets_none ns = ap (λ b. b || has_twice ns) (nowhere ns)
  where
    nowhere : (ns : List ℕ) → list_any (λ n. list_any (nat_eq n) []) ns ≡ false
    nowhere [] = refl
    nowhere (n ∷ ns) = nowhere ns

pub meets_first : (met : List ℕ) (n : ℕ) (ns : List ℕ) → list_any (nat_eq n) met ≡ true → meets met (n ∷ ns) ≡ true
meets_first met n ns e = rw e refl

nat_eq_turned : (m n : ℕ) → nat_eq m n ≡ nat_eq n m
nat_eq_turned m n = same_answer (nat_eq m n) (nat_eq n m) (λ e. (let d : m ≡ n = search (rules, e) in search (rules, sym d))) (λ e. (let d : n ≡ m = search (rules, e) in search (rules, sym d)))

any_pushed : (t : ℕ → Bool) (xs : List ℕ) (x : ℕ) → list_any t (xs ++ x ∷ []) ≡ (list_any t xs || t x)
any_pushed t [] x = last (t x)
  where
    last : (b : Bool) → (b || false) ≡ b
    last true = refl
    last false = refl
any_pushed t (y ∷ ys) x = ap (λ b. t y || b) (any_pushed t ys x) ∙ or_in (t y) (list_any t ys) (t x)
  where
    or_in : (a b c : Bool) → (a || (b || c)) ≡ ((a || b) || c)
    or_in true b c = refl
    or_in false b c = refl

any_same : (s t : ℕ → Bool) → ((n : ℕ) → s n ≡ t n) → (ns : List ℕ) → list_any s ns ≡ list_any t ns
any_same s t same [] = refl
any_same s t same (n ∷ ns) = ap (λ b. b || list_any s ns) (same n) ∙ ap (λ b. t n || b) (any_same s t same ns)

pub meets_next : (met : List ℕ) (n : ℕ) (ns : List ℕ) → list_any (nat_eq n) met ≡ false → meets met (n ∷ ns) ≡ meets (met ++ n ∷ []) ns
meets_next met n ns e =
    or_moved (list_any (nat_eq n) met) (list_any (λ m. list_any (nat_eq m) met) ns) (list_any (nat_eq n) ns) (has_twice ns)
    ∙ ap (λ b. b || ((list_any (λ m. list_any (nat_eq m) met) ns || list_any (nat_eq n) ns) || has_twice ns)) e
    ∙ ap (λ b. b || has_twice ns)
    (ap (λ b. list_any (λ m. list_any (nat_eq m) met) ns || b) (any_same (nat_eq n) (λ m. nat_eq m n) (λ m. nat_eq_turned n m) ns)
    ∙ sym (list_any-or (λ m. list_any (nat_eq m) met) (λ m. nat_eq m n) ns)
    ∙ any_same (λ m. list_any (nat_eq m) met || nat_eq m n) (λ m. list_any (nat_eq m) (met ++ n ∷ [])) (λ m. sym (any_pushed (nat_eq m) met n)) ns)

pub was_new : (r there : Bool) → r ≡ not there → r ≡ true → there ≡ false
was_new r true e f = cc
was_new r false e f = refl

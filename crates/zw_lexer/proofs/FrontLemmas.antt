-- Fronts of lists whose elements pass.
use Rattle.std.proofs.Common.{take-add, ◌≡◌, ℕ, suc, ◌+◌, ◌≤◌, ltb, arith, Bool, true, false, not, cond, List, [], ◌∷◌, length, take, Some, None, refl, ap, sym, ◌∙◌, ◌++◌, drop, if◌then◌else◌, ◌&&◌, IsTrue, position}
use Rattle.std.proofs.Math.Path.{fun_ext}
use Rattle.std.specs.Option.{unwrap_or}
use Rattle.std.specs.List.{take_while, prefix_len, list_all}
use Rattle.std.proofs.lemmas.Bool.{ltb-false}
use Rattle.std.proofs.lemmas.List.{length-append}
use Rattle.unicode_ident.specs.Ident.{is_xid_continue}
use Rattle.zw_def.specs.Text.{is_upper}
use Rattle.zw_def_syntax.specs.Character.{first_is, is_name_start}
use Rattle.zw_def_syntax.specs.Word.{name, mark, setter, word, name_and, symbol_name, is_mark, is_equals, is_after_equals}
use Rattle.std.proofs.lemmas.List.Folds.{length-prefix_len}
use Rattle.std.proofs.lemmas.List.Sums.{prefix_len-le-length}

not_not : (b : Bool) → not (not b) ≡ b
not_not true = refl
not_not false = refl

found_or_end : (place n : ℕ) → place ≤ n → unwrap_or (cond (ltb place n) (Some place) None) n ≡ place
found_or_end place n few = at (ltb place n) refl where
  at : (b : Bool) → ltb place n ≡ b → unwrap_or (cond b (Some place) None) n ≡ place
  at true e = refl
  at false e = omega (arith, ltb-false place n e)

-- the place of the first that does not pass, or the end
pub front_found : (p : ℕ → Bool) (xs : List ℕ) → unwrap_or (position (λ c. not (p c)) xs) (length xs) ≡ length (take_while p xs)
front_found p xs =
    found_or_end _ _ (prefix_len-le-length (λ c. not (not (p c))) xs)
    ∙ ap (λ q. prefix_len q xs) (fun_ext (λ c. not_not (p c)))
    ∙ sym (length-prefix_len p xs)

-- ---- what stands at the front of some characters

abbrev pub IsFront : List ℕ → List ℕ → Type 0
IsFront xs cs = take (length xs) cs ≡ xs

take_while_front : (p : ℕ → Bool) (cs : List ℕ) → IsFront (take_while p cs) cs
take_while_front p cs = ap (λ n. take n cs) (length-prefix_len p cs)

front_of_none : (cs : List ℕ) → IsFront [] cs
front_of_none cs = refl

front_after : (xs ys cs : List ℕ) → IsFront xs cs → IsFront ys (drop (length xs) cs) → IsFront (xs ++ ys) cs
front_after xs ys cs a b =
    ap (λ n. take n cs) (length-append xs ys) ∙ take-add (length xs) (length ys) cs ∙ ap (λ f. f ++ take (length ys) (drop (length xs) cs)) a ∙ ap (λ g. xs ++ g) b

name_front : (cs : List ℕ) → IsFront (name cs) cs
name_front [] = refl
name_front (c ∷ cs) = at (is_name_start c) where
  at : (b : Bool) → IsFront (if b then c ∷ take_while is_xid_continue cs else []) (c ∷ cs)
  at true = ap (λ l. c ∷ l) (take_while_front is_xid_continue cs)
  at false = refl

mark_front : (cs : List ℕ) → IsFront (mark cs) cs
mark_front [] = refl
mark_front (c ∷ cs) = at (is_mark c && not (first_is is_equals cs)) where
  at : (b : Bool) → IsFront (if b then c ∷ [] else []) (c ∷ cs)
  at true = refl
  at false = refl

setter_front : (cs : List ℕ) → IsFront (setter cs) cs
setter_front [] = refl
setter_front (c ∷ cs) = at (is_equals c && not (first_is is_after_equals cs)) where
  at : (b : Bool) → IsFront (if b then c ∷ [] else []) (c ∷ cs)
  at true = refl
  at false = refl

pub word_front : (cs : List ℕ) → IsFront (word cs) cs
word_front cs = at (first_is is_upper cs) where
  at : (b : Bool) → IsFront (if b then name cs else name_and mark cs) cs
  at true = name_front cs
  at false = front_after (name cs) (mark (drop (length (name cs)) cs)) cs (name_front cs) (mark_front (drop (length (name cs)) cs))

pub symbol_front : (cs : List ℕ) → IsFront (symbol_name cs) cs
symbol_front cs = front_after (word cs) (setter (drop (length (word cs)) cs)) cs (word_front cs) (setter_front (drop (length (word cs)) cs))

-- the elements of a front pass
pub front_passes : (p : ℕ → Bool) (cs : List ℕ) → list_all p (take (prefix_len p cs) cs) ≡ true
front_passes p [] = refl
front_passes p (c ∷ cs) = at (p c) refl (front_passes p cs) where
  at : (b : Bool) → p c ≡ b → list_all p (take (prefix_len p cs) cs) ≡ true → list_all p (take (cond b (1 + prefix_len p cs) 0) (c ∷ cs)) ≡ true
  at true e rest =
      let one : 1 + prefix_len p cs ≡ suc (prefix_len p cs) = omega arith in
      ap (λ n. list_all p (take n (c ∷ cs))) one ∙ ap (λ b. b && list_all p (take (prefix_len p cs) cs)) e ∙ rest
  at false e rest = refl

pub front_all : (p : ℕ → Bool) (cs : List ℕ) (n : ℕ) → n ≡ length (take_while p cs) → IsTrue (list_all p (take n cs))
front_all p cs n e = ap (λ m. list_all p (take m cs)) (e ∙ length-prefix_len p cs) ∙ front_passes p cs

-- The pieces of a text, and a text of pieces.
use Rattle.std.proofs.Common.{◌≡◌, ◌≢◌, ℕ, ◌<◌, ◌+◌, zero, suc, Bool, true, false, cond, eqb, eq-eqb, eqb-true, List, [], ◌∷◌, ◌++◌, length, get_or, take, refl, ap, sym, ◌∙◌, arith, append_assoc, add-one}
use Rattle.std.specs.List.{All, onto_first}
use Rattle.std.proofs.lemmas.Bool.{false_from_ne_true}
use Rattle.std.proofs.lemmas.Grind.{get_or_default_zero}
use Rattle.std.proofs.lemmas.List.Splits.{slice_split_none, slice_split_at}
use Rattle.zw_def.specs.Text.{Text, pieces, joined}
use Rattle.zw_def.specs.Path.{Path}

onto_nonempty : (b : ℕ) (parts : List Text) → 0 < length (onto_first b parts)
onto_nonempty b [] = omega arith
onto_nonempty b (part ∷ parts) = omega arith

pub pieces_nonempty : (c : ℕ) (text : Text) → 0 < length (pieces c text)
pieces_nonempty c [] = omega arith
pieces_nonempty c (b ∷ bs) = either (eqb b c) where
  either : (e : Bool) → 0 < length (cond e ([] ∷ pieces c bs) (onto_first b (pieces c bs)))
  either true = omega arith
  either false = onto_nonempty b (pieces c bs)

absent : (c : ℕ) (bs : Text) → ((i : ℕ) → i < length bs → get_or bs i 0 ≢ c) → All (λ x. eqb x c ≡ false) bs
absent c bs none k d lt =
    false_from_ne_true (eqb (get_or bs k d) c) (λ e. none k lt (sym (get_or_default_zero bs k d lt) ∙ eqb-true (get_or bs k d) c e))

-- a text without the separator is the one piece
pub pieces-none : (c : ℕ) (bs : Text) → ((i : ℕ) → i < length bs → get_or bs i 0 ≢ c) → pieces c bs ≡ bs ∷ []
pieces-none c bs none = slice_split_none (λ b. eqb b c) bs (absent c bs none)

-- the first piece ends at the first separator
pub pieces-first : (c : ℕ) (bs xs ys : Text) → (bs ≡ xs ++ c ∷ ys) × ((i : ℕ) → i < length xs → get_or xs i 0 ≢ c) → pieces c bs ≡ xs ∷ pieces c ys
pieces-first c bs xs ys h = ap (pieces c) h.0 ∙ slice_split_at (λ b. eqb b c) xs c ys (absent c xs h.1) (eq-eqb c c refl)

joined_after : (c n : ℕ) (path : Path) (x : Text) → suc n < length path → x ≡ get_or path (suc n) x → joined c (take (suc (suc n)) path) ≡ joined c (take (suc n) path) ++ c ∷ x
joined_after c n [] x h e = absurd (omega arith)
joined_after c n (p ∷ []) x h e = absurd (omega arith)
joined_after c zero (p ∷ q ∷ more) x h e = ap (λ t. p ++ c ∷ t) (sym e)
joined_after c (suc n) (p ∷ q ∷ more) x h e = ap (λ t. p ++ c ∷ t) (joined_after c n (q ∷ more) x (omega arith) e) ∙ sym (append_assoc p (c ∷ joined c (take (suc n) (q ∷ more))) (c ∷ x))

-- the front of a path, with one more component
pub joined_more : (c n : ℕ) (path : Path) (x : Text) → n + 1 < length path → x ≡ get_or path (n + 1) x → joined c (take (n + 1 + 1) path) ≡ joined c (take (n + 1) path) ++ c ∷ x
joined_more c n path x = rw (add-one n, add-one (suc n)) (joined_after c n path x)

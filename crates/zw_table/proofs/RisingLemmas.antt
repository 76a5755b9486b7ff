-- Texts that rise strictly.
use Rattle.std.proofs.Common.{◌≡◌, ℕ, zero, suc, ◌<◌, Bool, true, false, ◌&&◌, List, [], ◌∷◌, length, get_or, Some, slice_get, refl, sym, ap, ◌∙◌, arith}
use Rattle.std.specs.List.{list_all}
use Rattle.std.specs.Ordering.{is_lt, ordering_reverse}
use Rattle.std.specs.Cmp.Lexicographic.{nat_list_cmp_total}
use Rattle.std.specs.declared.cmp.Ordering.{Ordering}
use Rattle.std.specs.declared.cmp.Ordering.TheVariants.{Less, Equal, Greater}
use Rattle.std.proofs.lemmas.Bool.{and_parts}
use Rattle.zw_def.specs.Text.{Text}
use Rattle.zw_table.specs.Words.{is_before, rises, is_nonempty}

-- the texts rise strictly, and the first stands after `last`
abbrev pub rises_after : Text → List Text → Bool
rises_after last [] = true
rises_after last (a ∷ more) = is_before last a && rises_after a more

lt_is : (o : Ordering) → is_lt o ≡ true → o ≡ Less
lt_is Less e = refl
lt_is Equal e = cc
lt_is Greater e = cc

pub is_before-trans : (a b c : Text) → is_before a b ≡ true → is_before b c ≡ true → is_before a c ≡ true
is_before-trans a b c p q = ap is_lt (nat_list_cmp_total.trans a b c (lt_is _ p) (lt_is _ q))

pub is_before-back : (a b : Text) → is_before a b ≡ true → is_before b a ≡ false
is_before-back a b p = ap is_lt (nat_list_cmp_total.antisymm b a ∙ ap ordering_reverse (lt_is _ p))

pub is_before-self : (a : Text) → is_before a a ≡ true → ⊥
is_before-self a p = let q = is_before-back a a p in cc (p, q)

pub rises-head : (a : Text) (more : List Text) → rises (a ∷ more) ≡ true → rises_after a more ≡ true
rises-head a [] e = refl
rises-head a (b ∷ more) e =
    let f = rises-head b more ((and_parts (is_before a b) _ e).1) in
    let g = (and_parts (is_before a b) _ e).0 in
    grind arith

pub rises-tail : (a : Text) (more : List Text) → rises (a ∷ more) ≡ true → rises more ≡ true
rises-tail a [] e = refl
rises-tail a (b ∷ more) e = (and_parts (is_before a b) _ e).1

-- the first stands before each of the others
pub rises_after-each : (a : Text) (more : List Text) (k : ℕ) (b : Text) → rises_after a more ≡ true → slice_get more k ≡ Some b → is_before a b ≡ true
rises_after-each a [] k b e at = cc
rises_after-each a (c ∷ more) zero b e at = let same : Some c ≡ Some b = at in let s : c ≡ b = cc in ap (is_before a) (sym s) ∙ (and_parts (is_before a c) _ e).0
rises_after-each a (c ∷ more) (suc k) b e at =
    is_before-trans a c b ((and_parts (is_before a c) _ e).0) (rises_after-each c more k b ((and_parts (is_before a c) _ e).1) at)

-- neighbors
pub rises-next : (ts : List Text) (k : ℕ) (d : Text) → rises ts ≡ true → suc k < length ts → is_before (get_or ts k d) (get_or ts (suc k) d) ≡ true
rises-next [] k d e lt = absurd (omega arith)
rises-next (a ∷ []) k d e lt = absurd (omega arith)
rises-next (a ∷ b ∷ more) zero d e lt = (and_parts (is_before a b) _ e).0
rises-next (a ∷ b ∷ more) (suc k) d e lt = rises-next (b ∷ more) k d ((and_parts (is_before a b) _ e).1) (omega arith)

not_before_empty : (a : Text) → is_before a [] ≡ false
not_before_empty [] = refl
not_before_empty (b ∷ a) = refl

nonempty_after : (a b : Text) → is_before a b ≡ true → is_nonempty b ≡ true
nonempty_after a [] e = let f = not_before_empty a in cc (e, f)
nonempty_after a (c ∷ b) e = refl

three : (x p q r : Bool) (m : Bool) → (x ≡ true → m ≡ true) → (p ≡ (q && r)) → (x && p) ≡ ((m && q) && (x && r))
three true p q r m h e = let g = h refl in grind arith
three false p q r true h e = grind arith
three false p q r false h e = refl

rises_after-all : (a : Text) (more : List Text) → rises_after a more ≡ (list_all is_nonempty more && rises (a ∷ more))
rises_after-all a [] = refl
rises_after-all a (b ∷ more) = three (is_before a b) (rises_after b more) (list_all is_nonempty more) (rises (b ∷ more)) (is_nonempty b) (nonempty_after a b) (rises_after-all b more)

-- after the empty text stands what is not empty
pub rises_after-empty : (ts : List Text) → rises_after [] ts ≡ (list_all is_nonempty ts && rises ts)
rises_after-empty [] = refl
rises_after-empty ([] ∷ more) = refl
rises_after-empty ((b ∷ bs) ∷ more) = rises_after-all (b ∷ bs) more

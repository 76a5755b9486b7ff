-- When a text tells the keys of a table.
use Rattle.std.proofs.Common.{◌≡◌, ℕ, ◌==◌, Bool, true, false, ◌&&◌, List, [], ◌∷◌, ◌++◌, length, refl, sym, ap, ◌∙◌, IsTrue, append-nil, append_assoc, eq-eqb, eqb-true, not, map, Option, Some, None}
use Rattle.std.proofs.lemmas.List.{map-append, length-map}
use Rattle.std.specs.Borrow.{Bor}
use Rattle.std.specs.List.{list_all}
use Rattle.std.specs.Ordering.{nat_cmp, is_le, is_lt, ordering_reverse}
use Rattle.std.specs.declared.cmp.Ordering.{Ordering}
use Rattle.std.specs.declared.cmp.Ordering.TheVariants.{Less, Equal, Greater}
use Rattle.std.specs.Cmp.Lexicographic.{slice_cmp, nat_list_cmp_total}
use Rattle.std.proofs.lemmas.Bool.{and_parts}
use Rattle.zw_def.specs.Text.{Text}
use Rattle.zw_table.specs.Words.{words, is_before, rises, is_nonempty, tells_keys}
use Rattle.zw_table.specs.Left.{words_left}
use Rattle.zw_table.proofs.RisingLemmas.{rises_after, rises_after-empty}

all_three : (a b c : Bool) → (a && b && c) ≡ true → (a ≡ true) × ((b && c) ≡ true)
all_three true true true e = (refl, refl)
all_three true true false e = cc
all_three true false c e = cc
all_three false b c e = cc

of_three : (a b c : Bool) → a ≡ true → (b && c) ≡ true → (a && b && c) ≡ true
of_three true true true e f = refl
of_three true true false e f = cc
of_three true false c e f = cc
of_three false b c e f = cc

-- it has that many words, and they rise from the empty text on
pub parts_of_keys : (n : ℕ) (t : Text) → IsTrue (tells_keys n t) → (length (words t) ≡ n) × (rises_after [] (words t) ≡ true)
parts_of_keys n t h =
    let p = all_three (length (words t) == n) (list_all is_nonempty (words t)) (rises (words t)) h in
    (eqb-true (length (words t)) n p.0, rises_after-empty (words t) ∙ p.1)

pub keys_by_parts : (n : ℕ) (t : Text) → length (words t) ≡ n → rises_after [] (words t) ≡ true → IsTrue (tells_keys n t)
keys_by_parts n t e r =
    of_three (length (words t) == n) (list_all is_nonempty (words t)) (rises (words t)) (eq-eqb (length (words t)) n e) (sym (rises_after-empty (words t)) ∙ r)

-- a word that does not stand after the last one
pub out_of_order : (n : ℕ) (t last word : Text) (more : List Text) → rises_after [] (words t) ≡ rises_after last (word ∷ more) → is_before last word ≡ false → (false ≡ true → IsTrue (tells_keys n t)) × (IsTrue (tells_keys n t) → false ≡ true)
out_of_order n t last word more e before =
    (λ f. cc f, λ h. sym (e ∙ ap (λ b. b && rises_after word more) before) ∙ (parts_of_keys n t h).1)

-- all words are read, and there are that many
pub all_read : (n : ℕ) (t last : Text) (ks left : List Text) → left ≡ [] → words t ≡ ks ++ left → rises_after [] (words t) ≡ rises_after last left → length ks ≡ n → IsTrue (tells_keys n t)
all_read n t last ks left none e r len =
    keys_by_parts n t (ap (λ (xs : List Text). length xs) (e ∙ ap (λ xs. ks ++ xs) none ∙ append-nil ks) ∙ len) (r ∙ ap (rises_after last) none)

turned : (o : Ordering) → is_lt (ordering_reverse o) ≡ not (is_le o)
turned Less = refl
turned Equal = refl
turned Greater = refl

pub before_by_le : (last word : Text) (r : Bool) → r ≡ is_le (slice_cmp nat_cmp word last) → is_before last word ≡ not r
before_by_le last word r e = ap is_lt (nat_list_cmp_total.antisymm last word) ∙ turned (slice_cmp nat_cmp word last) ∙ ap not (sym e)

-- one word more is read
pub read_more : (ks more_ks : List (Bor Text)) (word : Bor Text) (all left more : List Text) → all ≡ map (λ k. k.now) ks ++ left → left ≡ word.now ∷ more → more_ks ≡ ks ++ word ∷ [] → all ≡ map (λ k. k.now) more_ks ++ more
read_more ks more_ks word all left more e l m =
    let now : Bor Text → Text = λ k. k.now in
    let f : map now more_ks ≡ map now ks ++ word.now ∷ [] = ap (map now) m ∙ map-append now ks (word ∷ []) in
    e ∙ ap (λ xs. map now ks ++ xs) l ∙ sym (ap (λ xs. xs ++ more) f ∙ append_assoc (map now ks) (word.now ∷ []) more)

pub none_left : (left : Option (Bor Text)) → ((x : Bor Text) → left ≡ Some x → ⊥) → words_left left ≡ []
none_left None h = refl
none_left (Some x) h = absurd (h x refl)

-- the keys that were read rise, and there are as many as values
pub keys_rise : {V : Type 0} (n : ℕ) (t : Text) (ks : List (Bor Text)) (vs : List V) → IsTrue (tells_keys n t) → map (λ k. k.now) ks ≡ words t → length vs ≡ n → IsTrue (rises (map (λ k. k.now) ks)) × (length ks ≡ length vs)
keys_rise n t ks vs h e len =
    let p = parts_of_keys n t h in
    let all = sym (rises_after-empty (words t)) ∙ p.1 in
    (ap rises e ∙ (and_parts (list_all is_nonempty (words t)) (rises (words t)) all).1, sym (length-map ks (λ (k : Bor Text). k.now)) ∙ ap (λ (xs : List Text). length xs) e ∙ p.0 ∙ sym len)

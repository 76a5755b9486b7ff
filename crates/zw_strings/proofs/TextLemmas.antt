-- Texts at the begin, at the end and within other ones, and texts that are repeated.
use Rattle.std.proofs.Common.{◌≡◌, ◌≤◌, ◌+◌, ◌-◌, ℕ, zero, suc, Bool, true, false, [], ◌∷◌, ◌++◌, length, take, drop, cond, Some, None, MatchBool, nat_le, refl, sym, ap, subst, ◌∙◌, append_assoc, add-one, arith}
use Rattle.std.specs.Option.{option_map_or}
use Rattle.std.specs.Str.{bytes_eq}
use Rattle.std.specs.Str.Pattern.{FindsText, HasMatch, LacksTextAt}
use Rattle.std.proofs.lemmas.Bool.{le-leb, and_from, and_parts, false_from_ne_true}
use Rattle.std.proofs.lemmas.List.{append-nil, take-append-drop, length-take-le}
use Rattle.std.proofs.Math.Seq.{take-append_seam, drop-append_seam}
use Rattle.zw_lemmas.proofs.TextLemmas.{same_text, bytes_eq-self, bytes_eq-other}
use Rattle.zw_def.specs.Text.{Text}
use Rattle.zw_def_world.specs.StringRows.{begins_with, ends_with, holds, repeated, without_prefix, without_suffix}

-- ---- at the begin

pub front-is : (n r s : Text) → s ≡ n ++ r → bytes_eq (take (length n) s) n ≡ true
front-is n r s e = ap (λ t. bytes_eq (take (length n) t) n) e ∙ ap (λ t. bytes_eq t n) (take-append_seam n r) ∙ bytes_eq-self n

pub front-other : (n s : Text) → ((rest : Text) → s ≡ n ++ rest → ⊥) → bytes_eq (take (length n) s) n ≡ false
front-other n s lacks =
    bytes_eq-other (take (length n) s) n (λ same. lacks (drop (length n) s) (sym (take-append-drop (length n) s) ∙ ap (λ t. t ++ drop (length n) s) same))

begins-true : (n r s : Text) → s ≡ n ++ r → begins_with n s ≡ true
begins-true n r s e = ap (λ b. option_map_or (λ (later : Text). true) (cond b (Some (drop (length n) s)) None) false) (front-is n r s e)

begins-false : (n s : Text) → ((rest : Text) → s ≡ n ++ rest → ⊥) → begins_with n s ≡ false
begins-false n s lacks = ap (λ b. option_map_or (λ (later : Text). true) (cond b (Some (drop (length n) s)) None) false) (front-other n s lacks)

pub prefix-off : (n s x : Text) (k : ℕ) → k ≡ length n → s ≡ n ++ drop k s → x ≡ drop k s → x ≡ without_prefix n s
prefix-off n s x k len e is =
    is ∙ ap (λ m. drop m s) len
    ∙ sym (ap (λ b. option_map_or (λ (rest : Text). rest) (cond b (Some (drop (length n) s)) None) s) (front-is n (drop k s) s e))

pub no-prefix : (n s : Text) → ((rest : Text) → s ≡ n ++ rest → ⊥) → s ≡ without_prefix n s
no-prefix n s lacks = sym (ap (λ b. option_map_or (λ (rest : Text). rest) (cond b (Some (drop (length n) s)) None) s) (front-other n s lacks))

-- ---- at the end

pub suffix-off : (n s x : Text) (k : ℕ) → k ≡ length n → s ≡ take (length s - k) s ++ n → x ≡ take (length s - k) s → length x + k ≡ length s → x ≡ without_suffix n s
suffix-off n s x k len e is fits =
    let m = length s - length n in
    let within : length n ≤ length s = omega arith in
    let few : m ≤ length s = omega arith in
    let parts : s ≡ take m s ++ n = subst (λ j. s ≡ take (length s - j) s ++ n) len e in
    let back : drop m s ≡ n =
    ap (drop m) parts ∙ ap (λ j. drop j (take m s ++ n)) (sym (length-take-le m s few)) ∙ drop-append_seam (take m s) n in
    let ends : ends_with n s ≡ true = and_from (nat_le (length n) (length s)) (bytes_eq (drop m s) n) (le-leb (length n) (length s) within) (ap (λ t. bytes_eq t n) back ∙ bytes_eq-self n) in
    is ∙ ap (λ j. take (length s - j) s) len ∙ sym (ap (λ b. cond b (take m s) s) ends)

pub no-suffix : (n s : Text) → ((front : Text) → s ≡ front ++ n → ⊥) → s ≡ without_suffix n s
no-suffix n s lacks =
    let m = length s - length n in
    let other : ends_with n s ≡ false = false_from_ne_true (ends_with n s) (λ ends.
    let parts = and_parts (nat_le (length n) (length s)) (bytes_eq (drop m s) n) ends in
    lacks (take m s) (sym (take-append-drop m s) ∙ ap (λ t. take m s ++ t) (same_text (drop m s) n parts.1))) in
    sym (ap (λ b. cond b (take m s) s) other)

-- ---- within

either : (b : Bool) → cond b true true ≡ true
either true = refl
either false = refl

holds-true : (n r : Text) (i : ℕ) (s : Text) → drop i s ≡ n ++ r → holds n s ≡ true
holds-true n r zero [] e = begins-true n r [] e
holds-true n r zero (b ∷ bs) e = ap (λ t. cond t true (holds n bs)) (begins-true n r (b ∷ bs) e)
holds-true n r (suc i) [] e = begins-true n r [] e
holds-true n r (suc i) (b ∷ bs) e = ap (λ t. cond (begins_with n (b ∷ bs)) true t) (holds-true n r i bs e) ∙ either (begins_with n (b ∷ bs))

holds-false : (n s : Text) → ((i : ℕ) → i ≤ length s → LacksTextAt n s i) → holds n s ≡ false
holds-false n [] lacks = begins-false n [] (lacks 0 (omega arith))
holds-false n (b ∷ bs) lacks =
    ap (λ t. cond t true (holds n bs)) (begins-false n (b ∷ bs) (lacks 0 (omega arith)))
    ∙ holds-false n bs (λ i le rest. lacks (suc i) (omega (arith, le)) rest)

pub holds-is : (r : Bool) (n s : Text) → MatchBool r (HasMatch (FindsText n) s) (FindsText n s None) → r ≡ holds n s
holds-is true n s found = sym (holds-true n (drop found.1 s) found.0 s found.2.1.split)
holds-is false n s lacks = sym (holds-false n s lacks)

-- ---- repeated

turned : (n : ℕ) (t : Text) → repeated n t ++ t ≡ t ++ repeated n t
turned zero t = sym (append-nil t)
turned (suc n) t = append_assoc t (repeated n t) t ∙ ap (λ u. t ++ u) (turned n t)

pub repeated_more : (n : ℕ) (t made : Text) → made ≡ repeated n t → made ++ t ≡ repeated (n + 1) t
repeated_more n t made e = ap (λ u. u ++ t) e ∙ turned n t ∙ ap (λ m. repeated m t) (sym (add-one n))

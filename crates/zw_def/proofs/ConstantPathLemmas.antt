-- The text of a constant path: its parts, the first of them taken off, and its names one by one.
use Rattle.std.proofs.Common.{◌≡◌, ℕ, zero, suc, ◌<◌, ◌≤◌, false, ◌&&◌, [], ◌∷◌, ◌++◌, length, take, drop, refl, sym, ap, ◌∙◌, arith, eqb, eqb-true, if◌then◌else◌, codes, List, append_assoc}
use Rattle.std.specs.List.{onto_first}
use Rattle.std.specs.Str.Pattern.{LacksTextAt, FindsText, SplitsAroundMatch}
use Rattle.std.proofs.lemmas.Bool.{and_parts, false_from_ne_true}
use Rattle.zw_def.specs.Text.{Text}
use Rattle.zw_def.specs.ConstantPath.{parts_of, scoped}

-- no `::` stands at the front
no_cut : (b c : ℕ) (more : Text) → LacksTextAt (codes "::") (b ∷ c ∷ more) 0 → (eqb b 58 && eqb c 58) ≡ false
no_cut b c more lacks = false_from_ne_true _ (λ e.
    let p = and_parts (eqb b 58) (eqb c 58) e in
    let x : b ≡ 58 = eqb-true b 58 p.0 in
    let y : c ≡ 58 = eqb-true c 58 p.1 in
    lacks more (cc (x, y)))

-- a text without `::` is the one part
pub parts_of-none : (text : Text) → ((i : ℕ) → i ≤ length text → LacksTextAt (codes "::") text i) → parts_of text ≡ text ∷ []
parts_of-none [] lacks = refl
parts_of-none (b ∷ []) lacks = refl
parts_of-none (b ∷ c ∷ more) lacks =
    let first = no_cut b c more (lacks 0 (omega arith)) in
    let rest : parts_of (c ∷ more) ≡ (c ∷ more) ∷ [] = parts_of-none (c ∷ more) (λ i le. lacks (suc i) (omega arith)) in
    ap (λ t. if t then [] ∷ parts_of more else onto_first b (parts_of (c ∷ more))) first ∙ ap (onto_first b) rest

-- the first part ends at the first `::`
pub parts_of-first : (text rest : Text) (i : ℕ) → ((k : ℕ) → k < i → LacksTextAt (codes "::") text k) → drop i text ≡ codes "::" ++ rest → parts_of text ≡ take i text ∷ parts_of rest
parts_of-first text rest zero lacks at = ap parts_of at
parts_of-first [] rest (suc i) lacks at = cc
parts_of-first (b ∷ []) rest (suc zero) lacks at = cc
parts_of-first (b ∷ []) rest (suc (suc i)) lacks at = cc
parts_of-first (b ∷ c ∷ more) rest (suc i) lacks at =
    let first = no_cut b c more (lacks 0 (omega arith)) in
    let tail : parts_of (c ∷ more) ≡ take i (c ∷ more) ∷ parts_of rest = parts_of-first (c ∷ more) rest i (λ k lt. lacks (suc k) (omega arith)) at in
    ap (λ t. if t then [] ∷ parts_of more else onto_first b (parts_of (c ∷ more))) first ∙ ap (onto_first b) tail

-- where `split_once` cuts
pub parts_of-cut : (text part rest : Text) → SplitsAroundMatch (FindsText (codes "::")) text part rest → parts_of text ≡ part ∷ parts_of rest
parts_of-cut text part rest h =
    parts_of-first text (drop h.1 text) h.0 h.2.0 h.2.1.split ∙ ap (λ p. p ∷ parts_of (drop h.1 text)) (sym h.3) ∙ ap (λ r. part ∷ parts_of r) (sym h.4)

pub scoped-pushed : (name : Text) (names : List Text) (last : Text) → scoped name (names ++ last ∷ []) ≡ (scoped name names ++ codes "::") ++ last
scoped-pushed name [] last = refl
scoped-pushed name (next ∷ more) last =
    let rest : scoped next (more ++ last ∷ []) ≡ (scoped next more ++ codes "::") ++ last = scoped-pushed next more last in
    ap (λ t. (name ++ codes "::") ++ t) rest ∙ sym (ap (λ t. t ++ last) (append_assoc (name ++ codes "::") (scoped next more) (codes "::")) ∙ append_assoc (name ++ codes "::") (scoped next more ++ codes "::") last)

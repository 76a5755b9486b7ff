-- Which paths are those of Ruby files, by the last component and by all of them.
use Rattle.std.proofs.Common.{◌≡◌, ℕ, ◌<◌, ◌+◌, ◌-◌, eqb, leb, codes, drop, map, zero, suc, Bool, true, false, not, ◌&&◌, ◌||◌, List, [], ◌∷◌, length, get_or, refl, ap, sym, ◌∙◌, arith}
use Rattle.std.specs.List.{list_any, ends_with}
use Rattle.std.specs.Str.{bytes_eq}
use Rattle.std.proofs.lemmas.Bool.{leb-false}
use Rattle.std.proofs.lemmas.Bool.Decides.{same_from_decides}
use Rattle.std.proofs.lemmas.Slice.Eq.{bytes_eq-Decides}
use Rattle.std.proofs.lemmas.List.{length-map, length-drop, get_or-map}
use Rattle.zw_lemmas.proofs.AnyLemmas.{list_any-map}
use Rattle.zw_def.specs.Text.{Text}
use Rattle.zw_def.specs.Path.{Path}
use Rattle.zw_def.specs.Tree.{begins_with_dot, ends_in_rb, is_ruby_path}

one : (e d : Bool) → (e && not (d || false)) ≡ (e && not d)
one e true = refl
one e false = refl

turned : (e d more : Bool) → (e && not (d || more)) ≡ (not d && (e && not more))
turned true true more = refl
turned true false more = refl
turned false true more = refl
turned false false more = refl

-- by the component at the last index
pub ruby_by_last : (path : Path) (n : ℕ) (d : Text) → n + 1 ≡ length path → (ends_in_rb (get_or path n d) && not (list_any begins_with_dot path)) ≡ is_ruby_path path
ruby_by_last [] n d h = absurd (omega arith)
ruby_by_last (p ∷ []) zero d h = one (ends_in_rb p) (begins_with_dot p)
ruby_by_last (p ∷ []) (suc n) d h = absurd (omega arith)
ruby_by_last (p ∷ q ∷ more) zero d h = absurd (omega arith)
ruby_by_last (p ∷ q ∷ more) (suc n) d h =
    turned (ends_in_rb (get_or (q ∷ more) n d)) (begins_with_dot p) (list_any begins_with_dot (q ∷ more))
    ∙ ap (λ b. not (begins_with_dot p) && b) (ruby_by_last (q ∷ more) n d (omega arith))

-- the same over what tells the components
pub ruby_by_told : {A : Type 0} (f : A → Text) (all : List A) (path : Path) (x : A) → map f all ≡ path → 0 < length path → x ≡ get_or all (length all - 1) x → (ends_in_rb (f x) && not (list_any (λ y. begins_with_dot (f y)) all)) ≡ is_ruby_path path
ruby_by_told f all path x texts some e =
    let n = length-map all f in
    let last : f x ≡ get_or path (length all - 1) (f x) = ap f e ∙ sym (get_or-map f all (length all - 1) x (f x) (omega (arith, ap length texts))) ∙ ap (λ p. get_or p (length all - 1) (f x)) texts in
    (λ i. ends_in_rb (last i) && not ((sym (list_any-map f begins_with_dot all) ∙ ap (list_any begins_with_dot) texts) i))
    ∙ ruby_by_last path (length all - 1) (f x) (omega (arith, ap length texts))

-- the library's test of a text's end
pub ends_same : (text : Text) → ends_with eqb text (codes ".rb") ≡ ends_in_rb text
ends_same text = at (leb 3 (length text)) refl where
  at : (long : Bool) → leb 3 (length text) ≡ long → bytes_eq (codes ".rb") (drop (length text - 3) text) ≡ (long && bytes_eq (drop (length text - 3) text) (codes ".rb"))
  at true e =
      let turned_too = bytes_eq-Decides (drop (length text - 3) text) (codes ".rb") in
      same_from_decides _ _ (bytes_eq-Decides (codes ".rb") (drop (length text - 3) text)) (λ h. sym (turned_too.0 h), λ h. turned_too.1 (sym h))
  at false e =
      same_from_decides {P = ⊥} _ _ (λ h. omega (arith, leb-false 3 (length text) e, ap length ((bytes_eq-Decides (codes ".rb") (drop (length text - 3) text)).0 h), length-drop (length text - 3) text), λ h. absurd h) (λ h. cc, λ h. absurd h)

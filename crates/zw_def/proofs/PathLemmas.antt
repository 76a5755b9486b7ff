-- Paths compared through the texts of their components.
use Rattle.std.proofs.Common.{◌≡◌, ◌<◌, ◌≤◌, false, ◌&&◌, List, [], ◌∷◌, length, take, map, refl, ap, sym, ◌∙◌, arith}
use Rattle.std.specs.Ordering.{nat_cmp, ordering_then}
use Rattle.std.specs.Str.{bytes_eq}
use Rattle.std.specs.Cmp.Lexicographic.{slice_cmp, pointwise, nat_list_eq_equiv}
use Rattle.std.specs.Bool.{Decides}
use Rattle.std.proofs.lemmas.Bool.{and_right}
use Rattle.std.proofs.lemmas.List.{take-map, length-map}
use Rattle.std.proofs.lemmas.Slice.Eq.{slice_eq-Decides, bytes_eq-Decides}
use Rattle.zw_def.specs.Text.{Text}
use Rattle.zw_def.specs.Path.{Path, same_path, is_below, path_cmp}

module _ {A : Type 0} (f : A → Text) where
  pub same-map : (xs ys : List A) → pointwise (λ x y. bytes_eq (f x) (f y)) xs ys ≡ same_path (map f xs) (map f ys)
  same-map [] [] = refl
  same-map [] (y ∷ ys) = refl
  same-map (x ∷ xs) [] = refl
  same-map (x ∷ xs) (y ∷ ys) = ap (λ b. bytes_eq (f x) (f y) && b) (same-map xs ys)

  pub cmp-map : (xs ys : List A) → slice_cmp (λ x y. slice_cmp nat_cmp (f x) (f y)) xs ys ≡ path_cmp (map f xs) (map f ys)
  cmp-map [] [] = refl
  cmp-map [] (y ∷ ys) = refl
  cmp-map (x ∷ xs) [] = refl
  cmp-map (x ∷ xs) (y ∷ ys) = ap (ordering_then (slice_cmp nat_cmp (f x) (f y))) (cmp-map xs ys)

-- a longer path stands below a directory that it begins with
below_longer : (d p : Path) → length d < length p → same_path d (take (length d) p) ≡ is_below p d
below_longer [] [] h = absurd (omega arith)
below_longer [] (x ∷ p) h = refl
below_longer (y ∷ d) [] h = absurd (omega arith)
below_longer (y ∷ d) (x ∷ p) h = λ i. nat_list_eq_equiv.symm y x i && below_longer d p (omega arith) i

below_shorter : (d p : Path) → length p ≤ length d → is_below p d ≡ false
below_shorter d [] h = refl
below_shorter [] (x ∷ p) h = absurd (omega arith)
below_shorter (y ∷ d) (x ∷ p) h = and_right (bytes_eq x y) (is_below p d) (below_shorter d p (omega arith))

module _ {A : Type 0} (f : A → Text) (ds ps : List A) (d p : Path) (directory : map f ds ≡ d) (path : map f ps ≡ p) where
  pub below-longer : length ds < length ps → pointwise (λ x y. bytes_eq (f x) (f y)) ds (take (length ds) ps) ≡ is_below p d
  below-longer h =
      same-map f ds (take (length ds) ps) ∙ ap (same_path (map f ds)) (sym (take-map f (length ds) ps))
      ∙ ap (λ n. same_path (map f ds) (take n (map f ps))) (sym (length-map ds f))
      ∙ below_longer (map f ds) (map f ps) (omega (arith, length-map ds f, length-map ps f))
      ∙ (λ i. is_below (path i) (directory i))

  pub below-shorter : length ps ≤ length ds → is_below p d ≡ false
  below-shorter h = sym (λ i. is_below (path i) (directory i)) ∙ below_shorter (map f ds) (map f ps) (omega (arith, length-map ds f, length-map ps f))

-- `==` of paths decides that they are equal
pub same_path-Decides : (p q : Path) → Decides (same_path p q) (p ≡ q)
same_path-Decides p q = slice_eq-Decides bytes_eq-Decides p q (same_path p q) refl

-- Names in byte order, and paths by their first names.
use Rattle.std.proofs.Common.{◌≡◌, true, false, ◌&&◌, ◌∷◌, refl, ap, ◌∙◌}
use Rattle.std.specs.Cmp.Lexicographic.{nat_list_cmp_total, texts_ties}
use Rattle.std.specs.Ordering.{is_lt, is_eq, ordering_then, ordering_reverse}
use Rattle.std.specs.Str.{bytes_eq}
use Rattle.std.specs.declared.cmp.Ordering.{Ordering}
use Rattle.std.specs.declared.cmp.Ordering.TheVariants.{Less, Equal, Greater}
use Rattle.std.proofs.lemmas.Slice.Eq.{bytes_eq-Decides}
use Rattle.zw_def.specs.Text.{Text}
use Rattle.zw_def.specs.Path.{Path, same_path, is_below, path_cmp, precedes}
use Rattle.zw_tree.specs.Sound.{text_cmp}

pub cmp-same : (c : Text) → text_cmp c c ≡ Equal
cmp-same c = by (text_cmp c c) (nat_list_cmp_total.antisymm c c) where
  by : (o : Ordering) → o ≡ ordering_reverse o → o ≡ Equal
  by Less e = cc
  by Equal e = refl
  by Greater e = cc

pub cmp-back : (a b : Text) → text_cmp a b ≡ Less → text_cmp b a ≡ Greater
cmp-back a b e = nat_list_cmp_total.antisymm b a ∙ ap ordering_reverse e

pub eq-same : (c : Text) → bytes_eq c c ≡ true
eq-same c = (bytes_eq-Decides c c).1 refl

pub eq-before : (a b : Text) → text_cmp a b ≡ Less → bytes_eq a b ≡ false
eq-before a b e = texts_ties a b ∙ ap is_eq e

pub eq-after : (a b : Text) → text_cmp b a ≡ Less → bytes_eq a b ≡ false
eq-after a b e = texts_ties a b ∙ ap is_eq (cmp-back b a e)

pub equal-is : (a b : Text) → text_cmp a b ≡ Equal → a ≡ b
equal-is a b e = (bytes_eq-Decides a b).0 (texts_ties a b ∙ ap is_eq e)

pub precedes-below : (c : Text) (p q : Path) → precedes (c ∷ p) (c ∷ q) ≡ precedes p q
precedes-below c p q = ap (λ o. is_lt (ordering_then o (path_cmp p q))) (cmp-same c)

pub precedes-before : (a b : Text) (p q : Path) → text_cmp a b ≡ Less → precedes (a ∷ p) (b ∷ q) ≡ true
precedes-before a b p q e = ap (λ o. is_lt (ordering_then o (path_cmp p q))) e

pub precedes-after : (a b : Text) (p q : Path) → text_cmp b a ≡ Less → precedes (a ∷ p) (b ∷ q) ≡ false
precedes-after a b p q e = ap (λ o. is_lt (ordering_then o (path_cmp p q))) (cmp-back b a e)

pub same-below : (c : Text) (p q : Path) → same_path (c ∷ p) (c ∷ q) ≡ same_path p q
same-below c p q = ap (λ b. b && same_path p q) (eq-same c)

pub same-other : (a b : Text) (p q : Path) → bytes_eq a b ≡ false → same_path (a ∷ p) (b ∷ q) ≡ false
same-other a b p q e = ap (λ b. b && same_path p q) e

pub below-below : (c : Text) (p q : Path) → is_below (c ∷ p) (c ∷ q) ≡ is_below p q
below-below c p q = ap (λ b. b && is_below p q) (eq-same c)

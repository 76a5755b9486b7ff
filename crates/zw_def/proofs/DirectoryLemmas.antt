-- The directories above a path are its proper fronts.
use Rattle.std.proofs.Common.{◌≡◌, Bool, true, false, ◌&&◌, ◌||◌, List, [], ◌∷◌, length, take, map, refl, sym, ◌∙◌, add-one}
use Rattle.std.specs.Cmp.Lexicographic.{nat_list_eq_equiv}
use Rattle.std.specs.List.{list_any, range_with_len}
use Rattle.std.specs.Str.{bytes_eq}
use Rattle.zw_lemmas.proofs.AnyLemmas.{list_any-or, list_any-and, list_any-turned, list_any-shifted}
use Rattle.zw_def.specs.Text.{Text}
use Rattle.std.proofs.lemmas.List.{take-map, length-map}
use Rattle.zw_def.specs.Path.{Path, same_path, is_below}
use Rattle.zw_def.specs.Tree.{File, Tree, is_in_the_way}

-- the path stands below another exactly where that is one of its proper fronts
pub below_by_fronts : (p d : Path) → list_any (λ n. same_path d (take n p)) (range_with_len 0 (length p)) ≡ is_below p d
below_by_fronts [] d = refl
below_by_fronts (p ∷ ps) [] = refl
below_by_fronts (p ∷ ps) (d ∷ ds) =
    list_any-shifted (λ n. same_path (d ∷ ds) (take n (p ∷ ps))) 0 (length ps)
    ∙ (λ i. list_any (λ k. same_path (d ∷ ds) (take (add-one k i) (p ∷ ps))) (range_with_len 0 (length ps)))
    ∙ list_any-and (bytes_eq d p) (λ k. same_path ds (take k ps)) (range_with_len 0 (length ps))
    ∙ (λ i. nat_list_eq_equiv.symm d p i && below_by_fronts ps ds i)

-- the same of the files of a tree, where f tells the code's components
pub told_fronts : {A : Type 0} (f : A → Text) (components : List A) (path : Path) → map f components ≡ path → (tree : Tree) → list_any (λ n. list_any (λ (file : File). same_path file.path (map f (take n components))) tree) (range_with_len 0 (length components)) ≡ list_any (λ (file : File). is_below path file.path) tree
told_fronts f components path told tree =
    (λ i. list_any (λ n. list_any (λ (file : File). same_path file.path (sym (take-map f n components) i)) tree) (range_with_len 0 (sym (length-map components f) i)))
    ∙ (λ i. list_any (λ n. list_any (λ (file : File). same_path file.path (take n (told i))) tree) (range_with_len 0 (length (told i))))
    ∙ list_any-turned (λ n (file : File). same_path file.path (take n path)) (range_with_len 0 (length path)) tree
    ∙ (λ i. list_any (λ (file : File). below_by_fronts path file.path i) tree)

-- what is in the way is at the path or below it, or the path stands below it
pub in_the_way_parts : (tree : Tree) (path : Path) → is_in_the_way tree path ≡ (list_any (λ f. same_path f.path path || is_below f.path path) tree || list_any (λ f. is_below path f.path) tree)
in_the_way_parts tree path = (λ i. list_any (λ (f : File). grouped (same_path f.path path) (is_below f.path path) (is_below path f.path) i) tree) ∙ list_any-or (λ f. same_path f.path path || is_below f.path path) (λ f. is_below path f.path) tree where
  grouped : (a b c : Bool) → (a || b || c) ≡ ((a || b) || c)
  grouped true b c = refl
  grouped false b c = refl

-- The version file of a gem, from its end on.
use Rattle.std.proofs.Common.{◌≡◌, Bool, true, false, ◌&&◌, nat_eq, ◌<◌, ℕ, suc, List, [], ◌∷◌, ◌++◌, map, length, codes, refl, ap, sym, ◌∙◌, arith, String, Global, string_bytes}
use Rattle.std.proofs.lemmas.List.{map-append, length-map}
use Rattle.std.specs.Str.{bytes_eq}
use Rattle.std.specs.String.{string_eq}
use Rattle.std.specs.Cmp.Lexicographic.{pointwise}
use Rattle.zw_def.specs.Text.{Text}
use Rattle.zw_def.specs.Path.{Path, same_path}
use Rattle.zw_def.specs.Base.{without_rb}
use Rattle.zw_def.specs.Inflector.{version_file}
use Rattle.zw_inflect.specs.Gem.{is_gem_directory}

and-true : (a : Bool) → (a && true) ≡ a
and-true true = refl
and-true false = refl

and-false : (a : Bool) → (a && false) ≡ false
and-false true = refl
and-false false = refl

and-turned : (a b c : Bool) → (a && (b && c)) ≡ (b && (a && c))
and-turned true b c = refl
and-turned false true c = refl
and-turned false false c = refl

pub is_gem_directory-last : (above others : Path) (file name : Text) → is_gem_directory (above ++ file ∷ []) (others ++ name ∷ []) ≡ (bytes_eq name (without_rb file) && same_path others above)
is_gem_directory-last [] [] file name = sym (and-true _)
is_gem_directory-last [] (d ∷ []) file name = sym (and-false _)
is_gem_directory-last [] (d ∷ e ∷ more) file name = sym (and-false _)
is_gem_directory-last (m ∷ []) [] file name = and-false (bytes_eq name m) ∙ sym (and-false _)
is_gem_directory-last (m ∷ n ∷ more) [] file name = and-false (bytes_eq name m) ∙ sym (and-false _)
is_gem_directory-last (m ∷ []) (d ∷ ds) file name =
    ap (λ b. bytes_eq d m && b) (is_gem_directory-last [] ds file name) ∙ and-turned (bytes_eq d m) _ _
is_gem_directory-last (m ∷ n ∷ more) (d ∷ ds) file name =
    ap (λ b. bytes_eq d m && b) (is_gem_directory-last (n ∷ more) ds file name) ∙ and-turned (bytes_eq d m) _ _

-- only the directories stand before the file
pub version_file-last : (main directory : Path) (file : Text) → same_path (directory ++ file ∷ []) (version_file main) ≡ (bytes_eq file (codes "version.rb") && is_gem_directory main directory)
version_file-last [] [] file = sym (and-false _)
version_file-last [] (d ∷ ds) file = sym (and-false _)
version_file-last (name ∷ []) [] file = and-false (bytes_eq file (without_rb name)) ∙ sym (and-false _)
version_file-last (name ∷ []) (d ∷ []) file =
    ap (λ b. bytes_eq d (without_rb name) && b) (and-true (bytes_eq file (codes "version.rb")))
    ∙ swapped (bytes_eq d (without_rb name)) (bytes_eq file (codes "version.rb"))
  where
    swapped : (a b : Bool) → (a && b) ≡ (b && a)
    swapped true b = sym (and-true b)
    swapped false b = sym (and-false b)
version_file-last (name ∷ []) (d ∷ e ∷ []) file =
    ap (λ b. bytes_eq d (without_rb name) && b) (and-false (bytes_eq e (codes "version.rb"))) ∙ and-false (bytes_eq d (without_rb name)) ∙ sym (and-false _)
version_file-last (name ∷ []) (d ∷ e ∷ f ∷ more) file =
    ap (λ b. bytes_eq d (without_rb name) && b) (and-false (bytes_eq e (codes "version.rb"))) ∙ and-false (bytes_eq d (without_rb name)) ∙ sym (and-false _)
version_file-last (m ∷ n ∷ []) [] file = and-false (bytes_eq file m) ∙ sym (and-false _)
version_file-last (m ∷ n ∷ o ∷ more) [] file = and-false (bytes_eq file m) ∙ sym (and-false _)
version_file-last (m ∷ n ∷ more) (d ∷ ds) file =
    ap (λ b. bytes_eq d m && b) (version_file-last (n ∷ more) ds file) ∙ and-turned (bytes_eq d m) _ _

is_gem_directory-none : (main : Path) → is_gem_directory main [] ≡ false
is_gem_directory-none [] = refl
is_gem_directory-none (m ∷ []) = refl
is_gem_directory-none (m ∷ n ∷ more) = refl

-- ---- paths of the code

abbrev texts : List (String Global) → Path
texts names = map string_bytes names

pub no_gem_directory : (main directory : List (String Global)) → length directory ≡ 0 → is_gem_directory (texts main) (texts directory) ≡ false
no_gem_directory main [] none = is_gem_directory-none (texts main)
no_gem_directory main (d ∷ ds) none = absurd (omega (arith, none))

pointwise-texts : (xs ys : List (String Global)) → same_path (texts xs) (texts ys) ≡ pointwise string_eq xs ys
pointwise-texts [] [] = refl
pointwise-texts [] (y ∷ ys) = refl
pointwise-texts (x ∷ xs) [] = refl
pointwise-texts (x ∷ xs) (y ∷ ys) = ap (λ b. bytes_eq (string_bytes x) (string_bytes y) && b) (pointwise-texts xs ys)

pub gem_directory_by_last : (main directory above others : List (String Global)) (file name : String Global) → main ≡ above ++ file ∷ [] → directory ≡ others ++ name ∷ []
    → is_gem_directory (texts main) (texts directory) ≡ (bytes_eq (string_bytes name) (without_rb (string_bytes file)) && pointwise string_eq others above)
gem_directory_by_last main directory above others file name m d =
    (λ i. is_gem_directory ((ap texts m ∙ map-append string_bytes above (file ∷ [])) i) ((ap texts d ∙ map-append string_bytes others (name ∷ [])) i))
    ∙ is_gem_directory-last (texts above) (texts others) (string_bytes file) (string_bytes name)
    ∙ ap (λ b. bytes_eq (string_bytes name) (without_rb (string_bytes file)) && b) (pointwise-texts others above)

version_file-none : (main : Path) → 0 < length main → same_path [] (version_file main) ≡ false
version_file-none [] some = absurd (omega (arith, some))
version_file-none (m ∷ []) some = refl
version_file-none (m ∷ n ∷ more) some = refl

pub no_version_file : (main path : List (String Global)) → length path ≡ 0 → same_path (texts path) (version_file (texts main)) ≡ nat_eq (length main) 0
no_version_file [] [] none = refl
no_version_file (m ∷ more) [] none =
    version_file-none (texts (m ∷ more)) (omega (arith, length-map more string_bytes))
    ∙ sym (other (length more))
  where
    other : (n : ℕ) → nat_eq (suc n) 0 ≡ false
    other n = grind arith
no_version_file main (d ∷ ds) none = absurd (omega (arith, none))

pub version_file_by_last : (main path directory : List (String Global)) (file : String Global) → path ≡ directory ++ file ∷ []
    → same_path (texts path) (version_file (texts main)) ≡ (bytes_eq (string_bytes file) (codes "version.rb") && is_gem_directory (texts main) (texts directory))
version_file_by_last main path directory file p =
    ap (λ q. same_path q (version_file (texts main))) (ap texts p ∙ map-append string_bytes directory (file ∷ []))
    ∙ version_file-last (texts main) (texts directory) (string_bytes file)

-- Rows of files, one by one.
use Rattle.std.proofs.Common.{◌≡◌, ℕ, ◌+◌, ◌<◌, Bool, true, false, not, ◌&&◌, is_some, refl, cond, List, [], ◌∷◌, ◌++◌, map, filter_map, length, take, get_or, Option, Some, None, IfSome, Result, Ok, Err, IfOk, option_map, subst, ap, sym, ◌∙◌}
use Rattle.std.specs.List.{All, cons_option, filter}
use Rattle.std.proofs.lemmas.List.{map-append, take_more}
use Rattle.std.proofs.lemmas.Simd.{map-map}
use Rattle.std.proofs.lemmas.List.Elements.{filter_map-append, All-append, All-nil, All-cons}
use Rattle.zw_def.specs.Text.{Text}
use Rattle.zw_def.specs.Names.{AreNamed, OnlyGrows}
use Rattle.zw_def.proofs.NameLemmas.{AreNamed-grown}
use Rattle.zw_layout.specs.declared.expected.WrongName.{WrongName}
use Rattle.zw_scan.specs.declared.claim.Claim.{Claim}
use Rattle.zw_scan.specs.ClaimSeen.{IsNamed}
use Rattle.zw_def.specs.Path.{Path}
use Rattle.zw_def.specs.Layout.{Layout, Root, root_of, is_ignored, is_collapsed}
use Rattle.zw_def.specs.Visible.{is_visible}
use Rattle.zw_def.specs.Expected.{Expected, expected_path, expected_of_file, directory_path}
use Rattle.zw_scan.specs.ClaimTold.{ClaimTold, told_with, told_at, file_told, files_told, directory_told}

pub file_hidden : (layout : Layout) (path : Path) → is_visible layout path ≡ false → file_told layout path ≡ None
file_hidden layout path is = ap (λ b. cond b (option_map (told_with path) (expected_path layout path)) None) is

pub file_shown : (layout : Layout) (path : Path) (expected : Option Expected) → is_visible layout path ≡ true → expected_path layout path ≡ expected → file_told layout path ≡ option_map (told_with path) expected
file_shown layout path expected is told = λ i. cond (is i) (option_map (told_with path) (told i)) None

-- ---- the paths of the rows are those that are visible

pub told_paths : (layout : Layout) (paths : List Path) → map (λ f. f.path) (files_told layout paths) ≡ filter (is_visible layout) paths
told_paths layout [] = refl
told_paths layout (p ∷ ps) = by (root_of layout p) (is_ignored layout p) (told_paths layout ps) where
  by : (root : Option Root) (ignored : Bool) → map (λ f. f.path) (files_told layout ps) ≡ filter (is_visible layout) ps
      → map (λ f. f.path) (cons_option (cond (is_some root && not ignored) (option_map (told_with p) (option_map (λ r. expected_of_file layout r p) root)) None) (files_told layout ps)) ≡ cond (is_some root && not ignored) (p ∷ filter (is_visible layout) ps) (filter (is_visible layout) ps)
  by None ignored more = more
  by (Some r) true more = more
  by (Some r) false more = ap (λ l. p ∷ l) more

pub seen_paths : {X : Type 0} (path : X → Path) (seen : X → ClaimTold) (files : List X) (layout : Layout) (paths : List Path) → ((x : X) → (seen x).path ≡ path x) → map seen files ≡ files_told layout paths → map path files ≡ filter (is_visible layout) paths
seen_paths path seen files layout paths same told =
    (λ i. map (λ x. sym (same x) i) files) ∙ sym (map-map (λ (f : ClaimTold). f.path) seen files) ∙ ap (map (λ f. f.path)) told ∙ told_paths layout paths

-- ---- a filter in a loop

pub filter_map_more : {X Y : Type 0} (f : X → Option Y) (xs : List X) (i : ℕ) (x : X) → i < length xs → x ≡ get_or xs i x → filter_map f (take (i + 1) xs) ≡ filter_map f (take i xs) ++ cons_option (f x) []
filter_map_more f xs i x lt at =
    ap (filter_map f) (take_more xs i x lt)
    ∙ filter_map-append f (take i xs) (get_or xs i x ∷ [])
    ∙ ap (λ y. filter_map f (take i xs) ++ cons_option (f y) []) (sym at)

pub map_some : {X Y : Type 0} (g : X → Y) (xs : List X) (o : Option X) → map g (xs ++ cons_option o []) ≡ map g xs ++ cons_option (option_map g o) []
map_some g xs None = map-append g xs []
map_some g xs (Some x) = map-append g xs (x ∷ [])

-- ---- names that are made later

named_later : (old new : List Text) → OnlyGrows old new → (r : Result (List ℕ) WrongName) → IfOk r (AreNamed old) → IfOk r (AreNamed new)
named_later old new grows (Ok p) is = AreNamed-grown old new p grows is
named_later old new grows (Err wrong) is = tt

pub all_later : (old new : List Text) → OnlyGrows old new → (files : List Claim) → All (IsNamed old) files → All (IsNamed new) files
all_later old new grows files all k file lt = named_later old new grows _ (all k file lt)

pub all_some : (old new : List Text) → OnlyGrows old new → (files : List Claim) (file : Option Claim) → All (IsNamed old) files → IfSome file (IsNamed new) → All (IsNamed new) (files ++ cons_option file [])
all_some old new grows files None all is = All-append (IsNamed new) files [] (all_later old new grows files all) (All-nil (IsNamed new))
all_some old new grows files (Some file) all is = All-append (IsNamed new) files (file ∷ []) (all_later old new grows files all) (All-cons (IsNamed new) file [] is (All-nil (IsNamed new)))

-- ---- directories

pub directory_hidden : (layout : Layout) (d : Path) → is_collapsed layout d ≡ true → directory_told layout d ≡ None
directory_hidden layout d is = ap (λ b. cond b None (told_at (directory_path layout) d)) is

pub directory_shown : (layout : Layout) (d : Path) (expected : Option Expected) → is_collapsed layout d ≡ false → directory_path layout d ≡ expected → directory_told layout d ≡ option_map (told_with d) expected
directory_shown layout d expected is told = λ i. cond (is i) None (option_map (told_with d) (told i))

-- one more of what is told
pub filter_map_told : {A X Y : Type 0} (f : X → Option Y) (g : A → X) (xs : List A) (i : ℕ) (x : A) → i < length xs → x ≡ get_or xs i x → filter_map f (map g (take (i + 1) xs)) ≡ filter_map f (map g (take i xs)) ++ cons_option (f (g x)) []
filter_map_told f g xs i x lt at =
    ap (λ l. filter_map f (map g l)) (take_more xs i x lt)
    ∙ ap (filter_map f) (map-append g (take i xs) (get_or xs i x ∷ []))
    ∙ filter_map-append f (map g (take i xs)) (g (get_or xs i x) ∷ [])
    ∙ ap (λ y. filter_map f (map g (take i xs)) ++ cons_option (f (g y)) []) (sym at)

-- all that is told, with one more that may be told
pub all_with : {X : Type 0} (P : X → Type 0) (xs : List X) (o : Option X) → All P xs → IfSome o P → All P (xs ++ cons_option o [])
all_with P xs None all is = All-append P xs [] all (All-nil P)
all_with P xs (Some x) all is = All-append P xs (x ∷ []) all (All-cons P x [] is (All-nil P))

pub item_of : {X : Type 0} (P : X → Type 0) (xs : List X) (i : ℕ) (x : X) → All P xs → i < length xs → x ≡ get_or xs i x → P x
item_of P xs i x all lt is = subst P (sym is) (all i x lt)

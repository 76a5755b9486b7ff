-- Rows that are made of what visible files are expected to define.
use Rattle.std.proofs.Common.{◌≡◌, ℕ, ◌+◌, ◌<◌, Bool, true, false, not, cond, List, [], ◌∷◌, ◌++◌, map, filter_map, length, take, get_or, Option, Some, None, IfSome, is_some, refl, ap, sym, ◌∙◌, subst}
use Rattle.std.specs.List.{All, cons_option, filter}
use Rattle.std.specs.Option.{option_map, option_map_or, option_and_then}
use Rattle.std.proofs.lemmas.List.{map-append, take_more}
use Rattle.std.proofs.lemmas.List.Elements.{filter_map-append, All-append, All-nil, All-cons}
use Rattle.zw_def.specs.Path.{Path}
use Rattle.zw_def.specs.Layout.{Layout}
use Rattle.zw_def.specs.ConstantPath.{ConstantPath}
use Rattle.zw_def.specs.Visible.{is_visible}
use Rattle.zw_def.specs.Expected.{Expected, expected_path}
use Rattle.zw_def.specs.Map.{Boot, Expecting, Key, is_kept_out, kind_of, paths_of}
use Rattle.zw_def.specs.Shadow.{unless_winner}
use Rattle.zw_scan.specs.ClaimTold.{ClaimTold, told_with, files_told}
use Rattle.zw_map.specs.KeySeen.{kind_told}
use Rattle.zw_map.specs.ShadowSeen.{after_winner}

-- what is made of each visible file and what it is expected to define
pub by_claims : {Z : Type 0} (layout : Layout) (h : Path → Expected → Option Z) (keys : List Path) → filter_map (λ (c : ClaimTold). h c.path c.expected) (files_told layout keys) ≡ filter_map (λ p. option_and_then (h p) (expected_path layout p)) (filter (is_visible layout) keys)
by_claims layout h [] = refl
by_claims {Z = Z} layout h (p ∷ keys) = by (is_visible layout p) (expected_path layout p) refl (by_claims layout h keys) where
  by : (v : Bool) (e : Option Expected) → expected_path layout p ≡ e → filter_map (λ (c : ClaimTold). h c.path c.expected) (files_told layout keys) ≡ filter_map (λ q. option_and_then (h q) (expected_path layout q)) (filter (is_visible layout) keys)
      → filter_map (λ (c : ClaimTold). h c.path c.expected) (cons_option (cond v (option_map (told_with p) (expected_path layout p)) None) (files_told layout keys)) ≡ filter_map (λ q. option_and_then (h q) (expected_path layout q)) (cond v (p ∷ filter (is_visible layout) keys) (filter (is_visible layout) keys))
  by false e told more = more
  by true None told more = ap (λ o. filter_map (λ (c : ClaimTold). h c.path c.expected) (cons_option (option_map (told_with p) o) (files_told layout keys))) told ∙ more ∙ ap (λ o. cons_option (option_and_then (h p) o) (filter_map (λ q. option_and_then (h q) (expected_path layout q)) (filter (is_visible layout) keys))) (sym told)
  by true (Some e) told more = ap (λ o. filter_map (λ (c : ClaimTold). h c.path c.expected) (cons_option (option_map (told_with p) o) (files_told layout keys))) told ∙ ap (cons_option (h p e)) more ∙ ap (λ o. cons_option (option_and_then (h p) o) (filter_map (λ q. option_and_then (h q) (expected_path layout q)) (filter (is_visible layout) keys))) (sym told)

-- ---- rows, one by one

pub filter_map_told : {A X Y : Type 0} (f : X → Option Y) (g : A → X) (xs : List A) (i : ℕ) (x : A) → i < length xs → x ≡ get_or xs i x → filter_map f (map g (take (i + 1) xs)) ≡ filter_map f (map g (take i xs)) ++ cons_option (f (g x)) []
filter_map_told f g xs i x lt at =
    ap (λ l. filter_map f (map g l)) (take_more xs i x lt)
    ∙ ap (filter_map f) (map-append g (take i xs) (get_or xs i x ∷ []))
    ∙ filter_map-append f (map g (take i xs)) (g (get_or xs i x) ∷ [])
    ∙ ap (λ y. filter_map f (map g (take i xs)) ++ cons_option (f (g y)) []) (sym at)

pub map_some : {X Y : Type 0} (g : X → Y) (xs : List X) (o : Option X) → map g (xs ++ cons_option o []) ≡ map g xs ++ cons_option (option_map g o) []
map_some g xs None = map-append g xs []
map_some g xs (Some x) = map-append g xs (x ∷ [])

pub all_with : {X : Type 0} (P : X → Type 0) (xs : List X) (o : Option X) → All P xs → IfSome o P → All P (xs ++ cons_option o [])
all_with P xs None all is = All-append P xs [] all (All-nil P)
all_with P xs (Some x) all is = All-append P xs (x ∷ []) all (All-cons P x [] is (All-nil P))

pub item_of : {X : Type 0} (P : X → Type 0) (xs : List X) (i : ℕ) (x : X) → All P xs → i < length xs → x ≡ get_or xs i x → P x
item_of P xs i x all lt is = subst P (sym is) (all i x lt)

-- ---- keys and shadows

pub kind_is : (es : List Expecting) → kind_told (paths_of es) ≡ kind_of es
kind_is [] = refl
kind_is (e ∷ es) = refl

pub winner_is : (path : Path) (es : List Expecting) → after_winner path (paths_of es) ≡ unless_winner path es
winner_is path [] = refl
winner_is path (e ∷ es) = refl

pub kept_is : {A B : Type 0} (f : A → B) (o : Option A) (r : Option B) (b : Bool) → option_map f o ≡ r → is_some o ≡ b → option_map_or (λ x. true) r false ≡ b
kept_is f None r b is same = ap (λ x. option_map_or (λ y. true) x false) (sym is) ∙ same
kept_is f (Some a) r b is same = ap (λ x. option_map_or (λ y. true) x false) (sym is) ∙ same

pub kept_rows : (boot : Boot) (key : ConstantPath → Key) (ps : List ConstantPath) → filter_map (λ p. cond (is_kept_out boot p) None (Some (key p))) ps ≡ map key (filter (λ p. not (is_kept_out boot p)) ps)
kept_rows boot key [] = refl
kept_rows boot key (p ∷ ps) = by (is_kept_out boot p) (kept_rows boot key ps) where
  by : (b : Bool) → filter_map (λ q. cond (is_kept_out boot q) None (Some (key q))) ps ≡ map key (filter (λ q. not (is_kept_out boot q)) ps) → cons_option (cond b None (Some (key p))) (filter_map (λ q. cond (is_kept_out boot q) None (Some (key q))) ps) ≡ map key (cond (not b) (p ∷ filter (λ q. not (is_kept_out boot q)) ps) (filter (λ q. not (is_kept_out boot q)) ps))
  by true more = more
  by false more = ap (λ l. key p ∷ l) more

-- The deepest root of the code's is seen as the definition's.
use Rattle.std.proofs.Common.{◌≡◌, ◌<◌, Bool, true, false, ◌&&◌, cond, nat_lt, List, [], ◌∷◌, map, length, take, Option, Some, None, option_map, is_some, IfSome, refl, ap, ◌∙◌, arith}
use Rattle.std.specs.List.{fold, All, Contains}
use Rattle.std.specs.Option.{option_map_or}
use Rattle.std.proofs.lemmas.List.Elements.{All-contains_itself, All-head, All-tail}
use Rattle.std.specs.Str.{bytes_eq}
use Rattle.std.proofs.lemmas.Bool.{and_parts}
use Rattle.std.proofs.lemmas.Slice.Eq.{bytes_eq-Decides}
use Rattle.zw_def.specs.Text.{Text}
use Rattle.zw_def.specs.Path.{Path, is_below}
use Rattle.zw_def.specs.Layout as defined
use Rattle.zw_inflect.specs.declared.layout.Root.{Root}
use Rattle.zw_inflect.specs.Layout.{root_seen}
use Rattle.zw_layout.specs.Deepest.{deeper, deepest}

deeper_seen : (names : List Text) (path : Path) (best : Option Root) (root : Root) → option_map (root_seen names) (deeper path best root) ≡ defined.deeper_root path (option_map (root_seen names) best) (root_seen names root)
deeper_seen names path None root = by (is_below path root.path && true) where
  by : (b : Bool) → option_map (root_seen names) (cond b (Some root) None) ≡ cond b (Some (root_seen names root)) None
  by true = refl
  by false = refl
deeper_seen names path (Some other) root = by (is_below path root.path && nat_lt (length other.path) (length root.path)) where
  by : (b : Bool) → option_map (root_seen names) (cond b (Some root) (Some other)) ≡ cond b (Some (root_seen names root)) (Some (root_seen names other))
  by true = refl
  by false = refl

fold_seen : (names : List Text) (path : Path) (best : Option Root) (roots : List Root) → option_map (root_seen names) (fold (deeper path) best roots) ≡ fold (defined.deeper_root path) (option_map (root_seen names) best) (map (root_seen names) roots)
fold_seen names path best [] = refl
fold_seen names path best (r ∷ rs) =
    fold_seen names path (deeper path best r) rs ∙ ap (λ b. fold (defined.deeper_root path) b (map (root_seen names) rs)) (deeper_seen names path best r)

pub deepest_seen : (names : List Text) (path : Path) (roots : List Root) → option_map (root_seen names) (deepest path roots) ≡ fold (defined.deeper_root path) None (map (root_seen names) roots)
deepest_seen names path roots = fold_seen names path None roots

-- it is one of them
fold_among : (P : Root → Type 0) (path : Path) (best : Option Root) (roots : List Root) → IfSome best P → All P roots → IfSome (fold (deeper path) best roots) P
fold_among P path best [] has all = has
fold_among P path best (r ∷ rs) has all = fold_among P path (deeper path best r) rs (by (is_below path r.path && option_map_or (λ other. nat_lt (length other.path) (length r.path)) best true)) (All-tail P r rs all) where
  by : (b : Bool) → IfSome (cond b (Some r) best) P
  by true = All-head P r rs all
  by false = has

pub deepest_among : (path : Path) (roots : List Root) → IfSome (deepest path roots) (Contains roots)
deepest_among path roots = fold_among (Contains roots) path None roots (tt) (All-contains_itself roots)

-- and the path stands below it
fold_below : (path : Path) (best : Option Root) (roots : List Root) → IfSome best (λ r. is_below path r.path ≡ true) → IfSome (fold (deeper path) best roots) (λ r. is_below path r.path ≡ true)
fold_below path best [] has = has
fold_below path best (r ∷ rs) has = fold_below path (deeper path best r) rs (by (is_below path r.path) (option_map_or (λ other. nat_lt (length other.path) (length r.path)) best true) refl) where
  by : (b d : Bool) → is_below path r.path ≡ b → IfSome (cond (b && d) (Some r) best) (λ s. is_below path s.path ≡ true)
  by true true is = is
  by true false is = has
  by false d is = has

pub deepest_below : (path : Path) (roots : List Root) → IfSome (deepest path roots) (λ r. is_below path r.path ≡ true)
deepest_below path roots = fold_below path None roots tt

pub below_front : (path directory : Path) → is_below path directory ≡ true → (length directory < length path) × (take (length directory) path ≡ directory)
below_front [] directory is = cc
below_front (p ∷ ps) [] is = (omega arith, refl)
below_front (p ∷ ps) (d ∷ ds) is =
    let parts = and_parts (bytes_eq p d) (is_below ps ds) is in
    let more = below_front ps ds parts.1 in
    (omega (arith, more.0), λ i. (bytes_eq-Decides p d).0 parts.0 i ∷ more.1 i)

pub is_some_seen : {A B C : Type 0} (f : B → C) (g : A → B) (o : Option A) → is_some (option_map f (option_map g o)) ≡ is_some o
is_some_seen f g None = refl
is_some_seen f g (Some x) = refl

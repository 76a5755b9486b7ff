-- The fronts of a pattern along a path.
use Rattle.std.proofs.Common.{◌≡◌, ℕ, zero, suc, ◌+◌, ◌-◌, ◌<◌, ◌≤◌, Bool, true, false, ◌&&◌, ◌||◌, cond, List, [], ◌∷◌, ◌++◌, map, length, take, get_or, refl, ap, sym, ◌∙◌, arith}
use Rattle.std.specs.List.{list_any}
use Rattle.std.proofs.lemmas.List.Folds.{list_any-append}
use Rattle.std.proofs.lemmas.List.{map-append, length-map, get_or-map, take_all, take_more}
use Rattle.zw_def.specs.Text.{Text}
use Rattle.zw_def.specs.Path.{Path}
use Rattle.zw_def.specs.Pattern.{is_double_star, matches_part, matches}
use Rattle.zw_def.specs.Nesting.{beginnings}
use Rattle.zw_def.specs.Layout.{some_matches, some_covers}
use Rattle.zw_layout.specs.Progress.{fronts_of, progress_of, whole_front, some_whole}
use Rattle.zw_layout.proofs.LastLemmas.{cut_last, cut_last_none}
use Rattle.zw_layout.proofs.NestingLemmas.{beginnings_more, length-beginnings, beginning-at, any_hit}

-- one symbol more
pub fronts_more : (pattern : Path) (symbol : Text) (path : Path) → fronts_of (pattern ++ symbol ∷ []) path ≡ fronts_of pattern path ++ matches (pattern ++ symbol ∷ []) path ∷ []
fronts_more pattern symbol path =
    ap (λ bs. matches [] path ∷ map (λ front. matches front path) bs) (beginnings_more pattern symbol)
    ∙ ap (λ bs. matches [] path ∷ bs) (map-append (λ front. matches front path) (beginnings pattern) ((pattern ++ symbol ∷ []) ∷ []))

pub length-fronts : (pattern path : Path) → length (fronts_of pattern path) ≡ length pattern + 1
length-fronts pattern path = omega (arith, length-map (beginnings pattern) (λ front. matches front path), length-beginnings pattern)

pub front-at : (pattern path : Path) (i : ℕ) (d : Bool) → i ≤ length pattern → get_or (fronts_of pattern path) i d ≡ matches (take i pattern) path
front-at [] path zero d le = refl
front-at (p ∷ ps) path zero d le = refl
front-at pattern path (suc i) d le =
    get_or-map (λ front. matches front path) (beginnings pattern) i [] d (omega (arith, length-beginnings pattern)) ∙ ap (λ front. matches front path) (beginning-at pattern i (suc i) [] (omega arith) refl)

-- the last is the whole pattern
pub whole-is : (pattern path : Path) → whole_front (fronts_of pattern path) ≡ matches pattern path
whole-is pattern path =
    let n : length (fronts_of pattern path) - 1 ≡ length pattern = omega (arith, length-fronts pattern path) in
    ap (λ k. get_or (fronts_of pattern path) k false) n ∙ front-at pattern path (length pattern) false (omega arith) ∙ ap (λ front. matches front path) (take_all (length pattern) pattern (omega arith))

pub some_whole-is : (patterns : List Path) (path : Path) → some_whole (progress_of patterns path) ≡ some_matches patterns path
some_whole-is [] path = refl
some_whole-is (p ∷ ps) path = λ i. whole-is p path i || some_whole-is ps path i

-- ---- a symbol more in a loop

pub none_step : (pattern : Path) (symbol : Text) (fronts : List Bool) (old new : Bool) → fronts ≡ fronts_of pattern [] → old ≡ matches pattern [] → new ≡ (is_double_star symbol && old) → (fronts ++ new ∷ [] ≡ fronts_of (pattern ++ symbol ∷ []) []) × (new ≡ matches (pattern ++ symbol ∷ []) [])
none_step pattern symbol fronts old new so is next =
    let here = next ∙ ap (λ b. is_double_star symbol && b) is ∙ sym (cut_last_none is_double_star matches_part pattern symbol) in
    ((λ i. so i ++ here i ∷ []) ∙ sym (fronts_more pattern symbol []), here)

pub next_step : (pattern : Path) (symbol : Text) (path : Path) (component : Text) (fronts : List Bool) (old new shorter same : Bool) (longer further : Path) (after : List Bool)
    → longer ≡ pattern ++ symbol ∷ [] → further ≡ path ++ component ∷ [] → after ≡ fronts ++ new ∷ []
    → fronts ≡ fronts_of pattern further → old ≡ matches pattern further → shorter ≡ matches pattern path → same ≡ matches longer path
    → new ≡ cond (is_double_star symbol) (old || same) (shorter && matches_part symbol component)
    → (after ≡ fronts_of longer further) × (new ≡ matches longer further)
next_step pattern symbol path component fronts old new shorter same longer further after more on pushed so is short alike next =
    let here = next ∙ (λ i. cond (is_double_star symbol) ((is ∙ ap (matches pattern) on) i || (alike ∙ ap (λ p. matches p path) more) i) (short i && matches_part symbol component)) ∙ sym (cut_last is_double_star matches_part pattern symbol path component) ∙ (λ i. matches (sym more i) (sym on i)) in
    (pushed ∙ (λ i. so i ++ (here ∙ ap (λ p. matches p further) more) i ∷ []) ∙ sym (fronts_more pattern symbol further) ∙ ap (λ p. fronts_of p further) (sym more), here)

-- ---- the patterns in a loop

-- the fronts of one of the patterns
pub progress-at : (patterns : List Path) (path : Path) (progress : List (List Bool)) (i : ℕ) (pattern : Path) (fronts : List Bool) → progress ≡ progress_of patterns path → i < length patterns → pattern ≡ get_or patterns i pattern → fronts ≡ get_or progress i fronts → fronts ≡ fronts_of pattern path
progress-at patterns path progress i pattern fronts so lt is at =
    at ∙ ap (λ p. get_or p i fronts) so ∙ get_or-map (λ p. fronts_of p path) patterns i pattern fronts lt ∙ ap (λ p. fronts_of p path) (sym is)

-- ---- the beginnings of a path in a loop

pub covers_hit : (patterns : List Path) (path : Path) (i : ℕ) → i < length path → some_matches patterns (take (i + 1) path) ≡ true → some_covers patterns path ≡ true
covers_hit patterns path i lt is =
    any_hit (some_matches patterns) (beginnings path) i (take (i + 1) path) (omega (arith, length-beginnings path)) (sym (beginning-at path i (i + 1) (take (i + 1) path) lt (omega arith))) is

pub covers_past : (patterns : List Path) (path : Path) (i : ℕ) → i < length path → some_matches patterns (take (i + 1) path) ≡ false → some_covers patterns (take i path) ≡ false → some_covers patterns (take (i + 1) path) ≡ false
covers_past patterns path i lt is before =
    let more = take_more path i [] lt in
    ap (some_covers patterns) more
    ∙ ap (list_any (some_matches patterns)) (beginnings_more (take i path) (get_or path i []))
    ∙ list_any-append (some_matches patterns) (beginnings (take i path)) ((take i path ++ get_or path i [] ∷ []) ∷ [])
    ∙ (λ j. before j || ((ap (some_matches patterns) (sym more) ∙ is) j || false))
